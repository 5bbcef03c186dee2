-- What a space that shows a chain holds.
use Rattle.std.specs.Prelude.{◌≡◌, ℕ}
use Rattle.std.specs.Borrow.{MutBor}
use Rattle.save_bytes.specs.State.{State}
use Rattle.chain_nodes.specs.declared.info.ChainInfo.{ChainInfo}
use Rattle.chain_space.specs.declared.behind.ChainSpace.{ChainSpace}
use Rattle.chain_space.specs.ShownLaws.{with_blocks}

-- what a contract sees of it
abbrev pub seen : {S : Type 0} → (S → State) → ChainSpace S → State
seen states space = with_blocks space.shown (states space.base.now)

-- the space holds these
pub record IsSpaceOver {S : Type 0} (space : ChainSpace S) (base : MutBor S) (info : ChainInfo)
    (first blocks : ℕ) : Type 0 where
  pub same_base : space.base.ghost_name ≡ base.ghost_name
  pub base_now : space.base.now ≡ base.now
  pub same_info : space.shown.info ≡ info
  pub same_first : space.shown.first ≡ first
  pub same_blocks : space.shown.blocks ≡ blocks

-- What a space holds behind which some of its blocks lie once more.
use Rattle.std.specs.Prelude.{◌≡◌}
use Rattle.std.specs.Borrow.{MutBor}
use Rattle.save_bytes.specs.State.{State}
use Rattle.chain_space.specs.declared.laid.BlocksSpace.{BlocksSpace}
use Rattle.chain_space.specs.Laid.{Extra, extra_of, laid_state}

-- the blocks that it shows
abbrev pub extra_in : {S : Type 0} → BlocksSpace S → Extra
extra_in space = extra_of space.region_at space.block space.blocks.now

-- what a contract sees of it
abbrev pub laid : {S : Type 0} → (S → State) → BlocksSpace S → State
laid states space = laid_state (extra_in space) (states space.base.now)

-- the space holds these
pub record IsBlocksOver {S : Type 0} (space : BlocksSpace S) (base : MutBor S) (extra : Extra) : Type 0 where
  pub same_base : space.base.ghost_name ≡ base.ghost_name
  pub base_now : space.base.now ≡ base.now
  pub same_extra : extra_in space ≡ extra

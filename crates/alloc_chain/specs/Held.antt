-- What a chain holds.
use Rattle.std.specs.Prelude.{◌≡◌, ℕ}
use Rattle.std.specs.Borrow.{MutBor}
use Rattle.save_bytes.specs.Cells.{Cell}
use Rattle.save_bytes.specs.State.{State}
use Rattle.chain_nodes.specs.declared.info.ChainInfo.{ChainInfo}
use Rattle.alloc_chain.specs.declared.chain.Chain.{Chain}
use Rattle.chain_nodes.specs.Table.{table_in}

-- what a contract sees of the space below a chain, and the table in it
abbrev pub below : {S : Type 0} → (S → State) → Chain S → State
below states chain = states chain.base.now

abbrev pub table_of : {S : Type 0} → (S → State) → Chain S → ℕ → ℕ → Cell
table_of states chain = table_in (states chain.base.now).cells chain.info

-- the chain holds these
pub record IsChainOver {S : Type 0} (chain : Chain S) (base : MutBor S) (info : ChainInfo) : Type 0 where
  pub same_base : chain.base.ghost_name ≡ base.ghost_name
  pub base_now : chain.base.now ≡ base.now
  pub same_info : chain.info ≡ info

-- the same reference and fields; what lies behind the reference may have changed
pub record SameChain {S : Type 0} (old new : Chain S) : Type 0 where
  pub same_base : new.base.ghost_name ≡ old.base.ghost_name
  pub same_info : new.info ≡ old.info

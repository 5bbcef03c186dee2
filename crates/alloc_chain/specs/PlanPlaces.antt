-- Where a place lies in the chain that a swap would take.
use Rattle.std.specs.Prelude.{◌≡◌, ℕ, ◌+◌, min, true, false, List, length, Option, Some, None}
use Rattle.save_bytes.specs.Cells.{Cell}
use Rattle.save_bytes.specs.State.{State}
use Rattle.chain_nodes.specs.declared.info.ChainInfo.{ChainInfo}
use Rattle.chain_nodes.specs.declared.fault.ChainFault.{ChainFault}
use Rattle.chain_nodes.specs.declared.node.Lead.TheVariants.{Opens, OpensFree}
use Rattle.chain_nodes.specs.Table.{table_in, word_v, index_of}
use Rattle.chain_nodes.specs.Faults.{FaultsOnly}
use Rattle.chain_nodes.specs.Runs.{IsListPlace, IsAtEnd}
use Rattle.alloc_chain.specs.declared.plan_places.PlanCursor.{PlanCursor}
use Rattle.alloc_chain.specs.PlanRuns.{IsOptLinked, HasPlanPosition, IsPlanBroken, IsPlanNeeded}

-- how many blocks of the chain lie before a place
abbrev pub plan_passed : PlanCursor → ℕ
plan_passed cursor = min (cursor.before + cursor.list.passed) cursor.wanted

-- the first entry of an old chain, or 0 for none
abbrev pub old_first : Option ℕ → ℕ
old_first None = 0
old_first (Some first) = first

-- an old chain, which may be missing, has so many entries
abbrev pub HasOptLength : (ℕ → ℕ → Cell) → ℕ → Option ℕ → ℕ → Type 0
HasOptLength table count old n = (list : List ℕ) × IsOptLinked table count old list × (n ≡ length list)

-- a place is one of the old chain, or one of the free list, before which the whole old chain lies
pub data IsPlanPlace (table : ℕ → ℕ → Cell) (count : ℕ) (old : Option ℕ) (cursor : PlanCursor) : Type 0 where
  InOld : cursor.free ≡ false → cursor.list.opens ≡ Opens → cursor.list.first ≡ old_first old → cursor.before ≡ 0
      → IsListPlace table count cursor.list → IsPlanPlace table count old cursor
  InFree : cursor.free ≡ true → cursor.list.opens ≡ OpensFree → cursor.list.first ≡ index_of (word_v table 0)
      → HasOptLength table count old cursor.before → IsListPlace table count cursor.list
      → IsPlanPlace table count old cursor

-- a place of the old chain behind all of it
pub record IsBehindOld (cursor : PlanCursor) : Type 0 where
  pub in_old : cursor.free ≡ false
  pub at_end : IsAtEnd cursor.list

-- Which fault comes when the run behind a place of a plan is looked for. A list is named as broken only where the place
-- is one of the old chain and the free list, and a block lies behind it.
abbrev pub StepFaultsOnly : State → ChainInfo → PlanCursor → Option ChainFault → Type 0
StepFaultsOnly s info cursor fault =
    FaultsOnly s info (λ e. (old : Option ℕ) → IsPlanPlace (table_in s.cells info) info.count old cursor
    → HasPlanPosition (table_in s.cells info) info.count old (plan_passed cursor)
    → IsPlanBroken (table_in s.cells info) info.count old e)
    (λ e. (old : Option ℕ) → IsPlanPlace (table_in s.cells info) info.count old cursor
    → IsPlanNeeded (table_in s.cells info) info.count old e) fault

-- Where the runs lie of a chain that a swap would take, and which entries are needed to find them.
use Rattle.std.specs.Prelude.{◌≡◌, ℕ, ◌+◌, ◌<◌, List, [], length, Option, Some, None, IfSome}
use Rattle.save_bytes.specs.Cells.{Cell}
use Rattle.save_bytes.specs.State.{State}
use Rattle.chain_nodes.specs.declared.info.ChainInfo.{ChainInfo}
use Rattle.chain_nodes.specs.declared.fault.ChainFault.{ChainFault}
use Rattle.chain_nodes.specs.declared.node.Lead.TheVariants.{Opens, OpensFree}
use Rattle.chain_nodes.specs.Table.{table_in, word_v, index_of, IsEntry}
use Rattle.chain_nodes.specs.Chains.{IsLinkedBy}
use Rattle.chain_nodes.specs.Faults.{FailsAt, IsBroken, IsFreeBroken, IsFreeNeeded, FaultsOnly}

-- the entries of an old chain, which may be missing, are this list, in which a number may stand twice
abbrev pub IsOptLinked : (ℕ → ℕ → Cell) → ℕ → Option ℕ → List ℕ → Type 0
IsOptLinked table count None list = list ≡ []
IsOptLinked table count (Some first) list = IsLinkedBy table count Opens first list

-- a position lies in an old chain, which may be missing, and the free list behind it
abbrev pub HasPlanPosition : (ℕ → ℕ → Cell) → ℕ → Option ℕ → ℕ → Type 0
HasPlanPosition table count old pos =
    (mine free : List ℕ) → IsOptLinked table count old mine
    → IsLinkedBy table count OpensFree (index_of (word_v table 0)) free → pos < length mine + length free

-- the old chain, if there is one, or the free list is broken at this entry
pub data IsPlanBroken (table : ℕ → ℕ → Cell) (count : ℕ) (old : Option ℕ) (entry : ℕ) : Type 0 where
  InOld : (first : ℕ) → old ≡ Some first → IsBroken table count Opens first entry → IsPlanBroken table count old entry
  InFree : IsFreeBroken table count entry → IsPlanBroken table count old entry

-- the words of this entry are needed for the old chain, if there is one, or for the free list
pub data IsPlanNeeded (table : ℕ → ℕ → Cell) (count : ℕ) (old : Option ℕ) (entry : ℕ) : Type 0 where
  ForOld : (first : ℕ) → old ≡ Some first → FailsAt table count Opens first entry → IsPlanNeeded table count old entry
  ForFree : IsFreeNeeded table count entry → IsPlanNeeded table count old entry

-- Which fault comes when a run of a plan is looked for. A list is named as broken only where the old chain, if there is
-- one, begins with an entry, and the position lies in the lists.
abbrev pub PlanFaultsOnly : State → ChainInfo → Option ℕ → ℕ → Option ChainFault → Type 0
PlanFaultsOnly s info old pos fault =
    FaultsOnly s info (λ e. IfSome old (IsEntry info.count) → HasPlanPosition (table_in s.cells info) info.count old pos
    → IsPlanBroken (table_in s.cells info) info.count old e) (IsPlanNeeded (table_in s.cells info) info.count old) fault

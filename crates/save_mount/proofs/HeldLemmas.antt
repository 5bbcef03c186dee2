-- Lists that were walked, as the lists of a filesystem.
use Rattle.std.proofs.Common.{◌≡◌, ℕ, ◌≤◌, IsTrue, List, None, Option, subst}
use Rattle.save_bytes.specs.Cells.{Cell}
use Rattle.save_bytes.specs.State.{State}
use Rattle.save_bytes.specs.Stays.{Stays}
use Rattle.chain_nodes.specs.declared.info.ChainInfo.{ChainInfo}
use Rattle.chain_nodes.specs.declared.fault.ChainFault.{ChainFault}
use Rattle.chain_nodes.specs.declared.node.Lead.TheVariants.{Opens, OpensFree}
use Rattle.chain_nodes.specs.Table.{table_in, word_v, index_of, HasWords, HasAllocationTable}
use Rattle.chain_nodes.specs.Chains.{IsChain, IsFreeList, IsLinkedBy}
use Rattle.chain_nodes.specs.Faults.{FailsAt, IsFreeNeeded, FaultsOnly}
use Rattle.chain_nodes.specs.Faults.IsFreeNeeded.{Listed}
use Rattle.chain_nodes.proofs.TableLemmas.{table_stays}
use Rattle.chain_nodes.proofs.FaultLemmas.{FaultsOnly-later}
use Rattle.held_lists.specs.declared.set.EntrySet.{EntrySet}
use Rattle.held_lists.specs.Walks.{IsHeldList, IsListFault}
use Rattle.save_mount.specs.Held.{IsFreeFault}
use Rattle.save_mount.specs.Held.IsFreeFault.{InFree}

pub free_list : (table : ℕ → ℕ → Cell) (count first : ℕ) (before held : EntrySet) (list : List ℕ) → HasWords table 0
    → first ≡ index_of (word_v table 0) → IsHeldList table count OpensFree first before held list
    → IsFreeList table count list
free_list table count first before held list read is h = record {
  read = read;
  linked = subst (λ (f : ℕ). IsLinkedBy table count OpensFree f list) is h.linked;
  once = h.takes.once;
}

pub chain_list : (table : ℕ → ℕ → Cell) (count first : ℕ) (before held : EntrySet) (list : List ℕ) → 1 ≤ first
    → IsHeldList table count Opens first before held list → IsChain table count first list
chain_list table count first before held list some h = record {
  some = some;
  linked = h.linked;
  once = h.takes.once;
}

module _ {s t : State} {info : ChainInfo} (has_table : HasAllocationTable s.shape info) (stays : Stays s t None) where
  -- a list that was walked in a later state
  pub held_later : (P : (ℕ → ℕ → Cell) → Type 0) → IsTrue s.told → P (table_in t.cells info) → P (table_in s.cells info)
  held_later P told h = subst (λ (c : ℕ → ℕ → Cell). P c) (table_stays s t info has_table stays told) h

  pub free_faults_later : (first : ℕ) (before : EntrySet) (fault : Option ChainFault)
      → (IsTrue s.told → first ≡ index_of (word_v (table_in s.cells info) 0))
      → FaultsOnly t info (IsListFault (table_in t.cells info) info.count OpensFree first before)
      (FailsAt (table_in t.cells info) info.count OpensFree first) fault
      → FaultsOnly s info (IsFreeFault (table_in s.cells info) info.count before)
      (IsFreeNeeded (table_in s.cells info) info.count) fault
  free_faults_later first before fault is faults =
      FaultsOnly-later s t info fault has_table stays
      (λ told e broken. InFree (subst
      (λ (f : ℕ). IsListFault (table_in s.cells info) info.count OpensFree f before e) (is told)
      (held_later (λ c. IsListFault c info.count OpensFree first before e) told broken)))
      (λ told e fails. Listed (subst
      (λ (f : ℕ). FailsAt (table_in s.cells info) info.count OpensFree f e) (is told)
      (held_later (λ c. FailsAt c info.count OpensFree first e) told fails)))
      faults

-- Runs in two lists, one behind the other, and in a front of a list.
use Rattle.std.proofs.Common.{◌≡◌, ℕ, ◌+◌, ◌-◌, ◌^◌, ◌<◌, ◌≤◌, List, ◌++◌, length, sym, ◌∙◌}
use Rattle.std.proofs.Common.{subst, arith, IsTrue, Result, Ok, Err, None, length-append}
use Rattle.std.proofs.lemmas.List.{get_or_append_left, get_or-append-add}
use Rattle.save_bytes.specs.Cells.{Cell}
use Rattle.save_bytes.specs.State.{State}
use Rattle.save_bytes.specs.Stays.{Stays}
use Rattle.save_bytes.specs.declared.space.Bad.TheVariants.{Disk, Damaged}
use Rattle.chain_nodes.specs.declared.info.ChainInfo.{ChainInfo}
use Rattle.chain_nodes.specs.declared.info.Run.{Run}
use Rattle.chain_nodes.specs.declared.fault.ChainFault.{ChainFault}
use Rattle.chain_nodes.specs.declared.fault.ChainFault.TheVariants.{Broken, Short}
use Rattle.chain_nodes.specs.declared.fault.ChainFault.TheVariants.{Bad as Refused}
use Rattle.chain_nodes.specs.declared.node.Lead.{Lead}
use Rattle.chain_nodes.specs.Table.{table_in, index_of, word_v, HasAllocationTable}
use Rattle.chain_nodes.specs.Chains.{IsLinkedBy}
use Rattle.chain_nodes.specs.Runs.{HasPosition, DoneUnlessDisk, IsRunIn}
use Rattle.chain_nodes.proofs.TableLemmas.{table_stays}
use Rattle.chain_nodes.proofs.ExactLemmas.{same_list}

-- what is given has another property too
pub done_map : {A : Type 0} (P Q : A → Type 0) (result : Result A ChainFault) → ((given : A) → P given → Q given)
    → DoneUnlessDisk result P → DoneUnlessDisk result Q
done_map P Q (Ok given) f h = f given h
done_map P Q (Err (Refused Disk)) f h = tt
done_map P Q (Err (Refused (Damaged part level block))) f h = h
done_map P Q (Err (Broken entry)) f h = h
done_map P Q (Err (Short need have)) f h = h

-- a list that the table fixes has its positions
pub has_position : (table : ℕ → ℕ → Cell) (count : ℕ) → count < 2 ^ 31 → (lead : Lead) (first : ℕ) (list : List ℕ)
    (pos : ℕ) → IsLinkedBy table count lead first list → pos < length list → HasPosition table count lead first pos
has_position table count few lead first list pos linked less = λ other there.
    subst (λ (l : List ℕ). pos < length l) (sym (same_list table count few lead first list linked other there)) less

-- what a later call says of the free list
pub free_later : (s t : State) (info : ChainInfo) (first : ℕ) → HasAllocationTable s.shape info → Stays s t None
    → IsTrue s.told → first ≡ index_of (word_v (table_in s.cells info) 0) → (Q : (ℕ → ℕ → Cell) → ℕ → Type 0)
    → Q (table_in t.cells info) first → Q (table_in s.cells info) (index_of (word_v (table_in s.cells info) 0))
free_later s t info first table stays told is Q h =
    subst (λ (f : ℕ). Q (table_in s.cells info) f) is
    (subst (λ (c : ℕ → ℕ → Cell). Q c first) (table_stays s t info table stays told) h)

-- a run in the first of two lists
pub run_left : (one other : List ℕ) (pos : ℕ) (run : Run) → IsRunIn one pos run → IsRunIn (one ++ other) pos run
run_left one other pos run h = record {
  inside = omega (arith, length-append one other, h.inside);
  blocks = λ k within. get_or_append_left one other 0 (pos + k) (omega (arith, h.inside, within)) ∙ h.blocks k within;
}

-- in the second
pub run_right : (one other : List ℕ) (pos : ℕ) (run : Run) → length one ≤ pos → IsRunIn other (pos - length one) run
    → IsRunIn (one ++ other) pos run
run_right one other pos run behind h = record {
  inside = omega (arith, length-append one other, h.inside, behind);
  blocks = λ k within.
      (let place : pos + k ≡ length one + (pos - length one + k) = omega (arith, behind) in
      rw place (get_or-append-add one other (pos - length one + k) 0 ∙ h.blocks k within));
}

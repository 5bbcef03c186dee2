-- The words of the table, read in a space.
use Rattle.std.proofs.Common.{◌≡◌, ℕ, ◌+◌, ◌-◌, ◌*◌, ◌<◌, ◌≤◌, min, IsTrue, sym, ap, arith, ⊎_elim}
use Rattle.std.proofs.Common.{List, length, take, drop, ◌∙◌, add-zero}
use Rattle.std.proofs.lemmas.Bool.{cases_lt}
use Rattle.save_bytes.specs.Fields.{number_at}
use Rattle.save_bytes.specs.Cells.{Cell, IsByte, AreBytesAt}
use Rattle.save_bytes.specs.CellNumbers.{bytes_in, number_in}
use Rattle.save_bytes.specs.State.{State}
use Rattle.save_bytes.specs.Answers.{IsFirstFault}
use Rattle.save_bytes.specs.Stays.{Stays}
use Rattle.save_bytes.proofs.CellLemmas.{bytes_in-same, bytes_in-is, bytes_in-part}
use Rattle.save_bytes.proofs.FieldLemmas.{number_at-drop, number_at-take}
use Rattle.std.proofs.Common.{None}
use Rattle.chain_nodes.specs.declared.info.ChainInfo.{ChainInfo}
use Rattle.chain_nodes.specs.Table.{table_in, word_u, word_v, HasWords, HasFault, HasAllocationTable}

-- numbers in cells that are the same
pub number_in-same : (n : ℕ) (f g : ℕ → Cell) (i j : ℕ) → ((k : ℕ) → k < n → f (i + k) ≡ g (j + k))
    → number_in n f i ≡ number_in n g j
number_in-same n f g i j same = ap (λ l. number_at n l 0) (bytes_in-same f g i j n same)

-- a cell of an entry
pub table_cell : (cells : ℕ → Cell) (info : ChainInfo) (entry k : ℕ) → entry ≤ info.count → k < 8
    → table_in cells info entry k ≡ cells (info.table_at + 8 * entry + k)
unfolding table_in
table_cell cells info entry k inside small =
    let place : info.table_at + 8 * min entry info.count + min k 7 ≡ info.table_at + 8 * entry + k = omega arith in
    ap cells place

-- the cell behind which no entry lies
pub table_same : (old new : ℕ → Cell) (info : ChainInfo) (size : ℕ) → info.table_at + 8 * (info.count + 1) ≤ size
    → ((x : ℕ) → x < size → new x ≡ old x) → table_in new info ≡ table_in old info
unfolding table_in
table_same old new info size fits same = λ i. λ entry k. same (info.table_at + 8 * min entry info.count + min k 7)
    (omega arith) i

-- a table stays where the cells do
pub table_stays : (s t : State) (info : ChainInfo) → HasAllocationTable s.shape info → Stays s t None → IsTrue s.told
    → table_in t.cells info ≡ table_in s.cells info
table_stays s t info table stays told = table_same s.cells t.cells info s.shape.size table.table (stays.cells told)

module _ (cells : ℕ → Cell) (info : ChainInfo) (entry at : ℕ) (inside : entry ≤ info.count)
    (place : at ≡ info.table_at + 8 * entry) where
  pub word_u-is : number_in 4 cells at ≡ word_u (table_in cells info) entry
  word_u-is = number_in-same 4 cells (table_in cells info entry) at 0 (λ k h.
      (let there : at + k ≡ info.table_at + 8 * entry + k = omega arith in
      let none : 0 + k ≡ k = omega arith in
      rw (there, none) (sym (table_cell cells info entry k inside (omega arith)))))

  pub word_v-is : number_in 4 cells (at + 4) ≡ word_v (table_in cells info) entry
  word_v-is = number_in-same 4 cells (table_in cells info entry) (at + 4) 4 (λ k h.
      (let there : at + 4 + k ≡ info.table_at + 8 * entry + (4 + k) = omega arith in
      rw there (sym (table_cell cells info entry (4 + k) inside (omega arith)))))

  -- bytes in both words
  pub has_words : ((k : ℕ) → k < 4 → IsByte (cells (at + k))) → ((k : ℕ) → k < 4 → IsByte (cells (at + 4 + k)))
      → HasWords (table_in cells info) entry
  has_words first second k h =
      ⊎_elim
      (λ (low : k < 4).
      let there : info.table_at + 8 * entry + k ≡ at + k = omega arith in
      rw (table_cell cells info entry k inside h, there) (first k low))
      (λ (high : 4 ≤ k).
      let there : info.table_at + 8 * entry + k ≡ at + 4 + (k - 4) = omega arith in
      rw (table_cell cells info entry k inside h, there) (second (k - 4) (omega arith)))
      (cases_lt k 4)

  -- and in the whole entry
  pub has_bytes : ((k : ℕ) → k < 8 → IsByte (cells (at + k))) → HasWords (table_in cells info) entry
  has_bytes bytes k h =
      let there : info.table_at + 8 * entry + k ≡ at + k = omega arith in
      rw (table_cell cells info entry k inside h, there) (bytes k h)

  -- a damaged byte in it
  pub fault_in : (part level block : ℕ) → IsFirstFault cells at 8 part level block
      → HasFault (table_in cells info) entry part level block
  fault_in part level block first =
      let small : first.k < 8 = omega (arith, first.within) in
      let there : info.table_at + 8 * entry + first.k ≡ at + first.k = omega arith in
      (first.k, small, rw (table_cell cells info entry first.k inside small, there) first.fault)

  -- the words in the bytes that were read
  module _ (words : List ℕ) (long : length words ≡ 8) (are : AreBytesAt cells at words) where
    word_at : (k : ℕ) → k + 4 ≤ 8 → number_at 4 words k ≡ number_in 4 cells (at + k)
    word_at k fits =
        sym (number_at-drop 4 words k)
        ∙ sym (number_at-take 4 4 (drop k words) 0 (omega arith))
        ∙ ap (λ (l : List ℕ). number_at 4 (take 4 (drop k l)) 0)
        (sym (bytes_in-is cells at words are) ∙ ap (bytes_in cells at) long)
        ∙ ap (λ (l : List ℕ). number_at 4 l 0) (bytes_in-part cells at 8 k 4 fits)

    pub word_u-read : number_at 4 words 0 ≡ word_u (table_in cells info) entry
    word_u-read = word_at 0 (omega arith) ∙ ap (number_in 4 cells) (add-zero at) ∙ word_u-is

    pub word_v-read : number_at 4 words 4 ≡ word_v (table_in cells info) entry
    word_v-read = word_at 4 (omega arith) ∙ word_v-is

-- What the header and the information say, and the first condition that fails.
use Rattle.std.proofs.Common.{◌≡◌, ℕ, ◌+◌, ◌-◌, ◌<◌, ◌≤◌, subst, Bool, true, false, ◌||◌, nat_lt, List, [], ◌∷◌, ◌++◌, length}
use Rattle.std.proofs.Common.{Option, Some, None, IfSome, IsTrue, refl, sym, ◌∙◌, ap, arith}
use Rattle.std.proofs.lemmas.Option.{none-some}
use Rattle.save_bytes.specs.Cells.{Cell, IsByte, Blames}
use Rattle.save_bytes.specs.State.{State}
use Rattle.save_bytes.specs.Stays.{Stays}
use Rattle.save_bytes.specs.Answers.{IsFirstFault}
use Rattle.save_bytes.specs.CellNumbers.{value_of, number_in}
use Rattle.container_header.specs.Conditions.{first_failing}
use Rattle.entry_tables.specs.declared.table.EntryKind.{EntryKind}
use Rattle.entry_tables.specs.declared.table.EntryKind.TheVariants.{Dir, File}
use Rattle.entry_tables.specs.Tables.{Tables}
use Rattle.tree_model.specs.declared.kind.TreeKind.{TreeKind}
use Rattle.tree_rules.specs.declared.information.Information.{Information}
use Rattle.tree_rules.specs.Information.{header_len, information_len, front_len, buckets_field, table_field, table_fields}
use Rattle.tree_rules.specs.Information.{information_at, information_in}
use Rattle.tree_rules.specs.Layout.{passes_end, place_faults, table_faults, layout_fault}
use Rattle.tree_rules.proofs.SoftLemmas.{number_between}

-- the information rests on its own cells
module _ (cells new : ℕ → Cell) (at : ℕ) (same : (k : ℕ) → k < information_len → new (at + k) ≡ cells (at + k)) where
  field_same : (n k : ℕ) → k + n ≤ information_len → number_in n new (at + k) ≡ number_in n cells (at + k)
  field_same n k fits = number_between n cells new (at + k) (λ y low high.
      (let place : at + (y - at) ≡ y = omega (arith, low) in
      ap value_of (subst (λ (x : ℕ). new x ≡ cells x) place (same (y - at) (omega (arith, low, high, fits))))))

  fields_same : (table : EntryKind) → table_fields new at table ≡ table_fields cells at table
  fields_same table = λ i. record {
    buckets_at = field_same 8 (buckets_field table) (omega (arith, buckets_fit table)) i;
    buckets = (ap (number_in 4 new) (behind (buckets_field table) 8)
        ∙ field_same 4 (buckets_field table + 8) (omega (arith, buckets_fit table))
        ∙ ap (number_in 4 cells) (sym (behind (buckets_field table) 8))) i;
    table_at = field_same 8 (table_field table) (omega (arith, table_fits table)) i;
    first = field_same 4 (table_field table) (omega (arith, table_fits table)) i;
    blocks = (ap (number_in 4 new) (behind (table_field table) 4)
        ∙ field_same 4 (table_field table + 4) (omega (arith, table_fits table))
        ∙ ap (number_in 4 cells) (sym (behind (table_field table) 4))) i;
  } where
    behind : (field n : ℕ) → at + field + n ≡ at + (field + n)
    behind field n = omega arith

    buckets_fit : (table : EntryKind) → buckets_field table + 12 ≤ 0x68
    buckets_fit Dir = omega arith
    buckets_fit File = omega arith

    table_fits : (table : EntryKind) → table_field table + 8 ≤ 0x68
    table_fits Dir = omega arith
    table_fits File = omega arith

  pub information_same : information_at new at ≡ information_at cells at
  unfolding information_at
  information_same = λ i. record {
    at = at;
    block = field_same 4 4 (omega arith) i;
    dirs = fields_same Dir i;
    files = fields_same File i;
    chain_at = field_same 8 0x28 (omega arith) i;
    count = field_same 4 0x30 (omega arith) i;
    region_at = field_same 8 0x38 (omega arith) i;
  }

-- the first test of two lists that fails
failing_first : (n c : ℕ) (xs ys : List Bool) → first_failing n xs ≡ Some c → first_failing n (xs ++ ys) ≡ Some c
failing_first n c [] ys fails = absurd (none-some c fails)
failing_first n c (true ∷ xs) ys fails = fails
failing_first n c (false ∷ xs) ys fails = failing_first (n + 1) c xs ys fails

failing_later : (n : ℕ) (xs ys : List Bool) → first_failing n xs ≡ None
    → first_failing n (xs ++ ys) ≡ first_failing (n + length xs) ys
failing_later n [] ys none =
    let same : n ≡ n + length {A = Bool} [] = omega arith in
    ap (λ (m : ℕ). first_failing m ys) same
failing_later n (true ∷ xs) ys none = absurd (none-some n (sym none))
failing_later n (false ∷ xs) ys none =
    let same : n + 1 + length xs ≡ n + length (false ∷ xs) = omega arith in
    failing_later (n + 1) xs ys none ∙ ap (λ (m : ℕ). first_failing m ys) same

module _ (kind : TreeKind) (split : Option ℕ) (size : ℕ) (info : Information) (t : Tables) where
  -- the information does not lie where it may
  pub misplaced : (nat_lt info.at header_len || passes_end (front_len split size) info.at information_len) ≡ true
      → layout_fault kind split size info t ≡ Some 1
  unfolding place_faults
  misplaced fails = rw fails refl

  pub place_fails : (c : ℕ) → first_failing 1 (place_faults kind split size info) ≡ Some c
      → layout_fault kind split size info t ≡ Some c
  place_fails c = failing_first 1 c (place_faults kind split size info) (table_faults kind split size info t)

  five : length (place_faults kind split size info) ≡ 5
  unfolding place_faults
  five = refl

  -- no condition fails before the tables
  pub table_decides : first_failing 1 (place_faults kind split size info) ≡ None
      → layout_fault kind split size info t ≡ first_failing 6 (table_faults kind split size info t)
  table_decides none =
      failing_later 1 (place_faults kind split size info) (table_faults kind split size info t) none
      ∙ ap (λ (n : ℕ). first_failing (1 + n) (table_faults kind split size info t)) five

-- the information lies where the header says
pub information_place : (cells : ℕ → Cell) → (information_in cells).at ≡ number_in 8 cells 8
unfolding information_in information_at
information_place cells = refl

pub information_is : (cells : ℕ → Cell) (at : ℕ) → at ≡ number_in 8 cells 8 → information_at cells at ≡ information_in cells
unfolding information_in
information_is cells at is = ap (information_at cells) is

-- what was read of the information in a later state
module _ (s t : State) (stays : Stays s t None) (told : IsTrue s.told) (at : ℕ) (place : at ≡ number_in 8 s.cells 8)
    (inside : at + information_len ≤ s.shape.size) where
  pub information_later : (info : Information) → info ≡ information_at t.cells at → info ≡ information_in s.cells
  information_later info is =
      is ∙ information_same s.cells t.cells at (λ k less. stays.cells told (at + k) (omega (arith, inside, less)))
      ∙ information_is s.cells at place

  pub bytes_later : ((k : ℕ) → k < information_len → IsByte (t.cells (at + k)))
      → (k : ℕ) → k < information_len → IsByte (s.cells (number_in 8 s.cells 8 + k))
  bytes_later bytes k less =
      let here : IsByte (s.cells (at + k)) =
      subst IsByte (stays.cells told (at + k) (omega (arith, inside, less))) (bytes k less) in
      subst (λ (n : ℕ). IsByte (s.cells (n + k))) place here

  pub fault_later : (part level block : ℕ) → IsFirstFault t.cells at information_len part level block
      → IsFirstFault s.cells (number_in 8 s.cells 8) information_len part level block
  fault_later part level block f =
      let moved : (k : ℕ) → k < information_len → t.cells (at + k) ≡ s.cells (number_in 8 s.cells 8 + k) = λ k less.
      stays.cells told (at + k) (omega (arith, inside, less)) ∙ ap (λ (n : ℕ). s.cells (n + k)) place in
      record {
        k = f.k;
        within = f.within;
        fault = subst (λ (cell : Cell). Blames cell part level block) (moved f.k f.within) f.fault;
        before = λ j less. subst IsByte (moved j (omega (arith, less, f.within))) (f.before j less);
      }

-- the first part ends in the store
pub front_small : (split : Option ℕ) (size : ℕ) → IfSome split (λ n. n ≤ size) → front_len split size ≤ size
front_small None size h = omega arith
front_small (Some n) size h = h

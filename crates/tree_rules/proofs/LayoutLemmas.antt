-- No condition on where a filesystem lies fails exactly where it is as it should be.
use Rattle.std.proofs.Common.{◌≡◌, ℕ, ◌+◌, ◌*◌, ◌^◌, ◌≤◌, Bool, true, false, not, ◌==◌}
use Rattle.std.proofs.Common.{◌++◌, Option, None, refl, ap, arith, zero, suc, ◌-◌, ⊎_elim, ◌∙◌, get_or}
use Rattle.std.proofs.lemmas.Bool.{or_cases, ltb-false, le-ltb, leb-false, lt-leb, eqb-true, eq-eqb, or_parts, or_from}
use Rattle.std.specs.List.{list_any, range_with_len}
use Rattle.std.proofs.lemmas.List.Folds.{list_any_at}
use Rattle.std.proofs.lemmas.List.FromFn.{get_or-range_with_len}
use Rattle.save_bytes.specs.Extents.{is_outside}
use Rattle.container_header.proofs.Soundness.{none_from, none_to}
use Rattle.entry_tables.specs.declared.table.EntryKind.{EntryKind}
use Rattle.entry_tables.specs.declared.table.EntryKind.TheVariants.{Dir, File}
use Rattle.entry_tables.specs.Kinds.{least_freed}
use Rattle.entry_tables.specs.Tables.{Table, Tables}
use Rattle.tree_model.specs.declared.kind.TreeKind.{TreeKind}
use Rattle.tree_rules.specs.declared.information.Information.{Information}
use Rattle.tree_rules.specs.Information.{front_len}
use Rattle.tree_rules.specs.declared.information.TableAt.{TableAt}
use Rattle.tree_rules.specs.declared.information.TableAt.TheVariants.{Plainly, InChain}
use Rattle.tree_rules.specs.declared.information.Places.{Places}
use Rattle.tree_rules.specs.Places.{places_of}
use Rattle.std.proofs.Common.{List, [], ◌∷◌}
use Rattle.container_header.specs.Conditions.{first_failing}
use Rattle.tree_rules.specs.Layout.{of_either, is_block_size, passes_end, is_misplaced, is_too_long}
use Rattle.tree_rules.specs.Layout.{is_bad_most, place_faults, table_faults, layout_fault}
use Rattle.tree_rules.specs.Sound.{LiesBetween, IsTablePlace, HasTableRoom, least_most, largest_most, HasPlaces}
use Rattle.tree_rules.specs.Sound.{HasLayout}
use Rattle.tree_rules.specs.Places.{table_lies}
use Rattle.tree_rules.specs.Information.{fields_on}

between_from : (low high n : ℕ) → is_outside low high n ≡ false → LiesBetween low high n
between_from low high n h =
    let both = or_parts _ _ h in
    record { least = ltb-false n low both.0; most = ltb-false high n both.1 }

between_to : (low high n : ℕ) → LiesBetween low high n → is_outside low high n ≡ false
between_to low high n h = or_from _ _ (le-ltb n low h.least) (le-ltb high n h.most)

either_from : (test : EntryKind → Bool) → of_either test ≡ false → (table : EntryKind) → test table ≡ false
either_from test h Dir = let both = or_parts _ _ h in both.0
either_from test h File = let both = or_parts _ _ h in both.1

either_to : (test : EntryKind → Bool) → ((table : EntryKind) → test table ≡ false) → of_either test ≡ false
either_to test h = or_from _ _ (h Dir) (h File)

record IsPower (n : ℕ) : Type 0 where
  log : ℕ
  between : LiesBetween 9 16 log
  is : n ≡ 2 ^ log

-- the numbers from a on, one of which is the power
power_among : (n a count : ℕ) → list_any (λ log. n == 2 ^ log) (range_with_len a count) ≡ true → 9 ≤ a → a + count ≤ 17
    → IsPower n
power_among n a zero h from up_to = cc
power_among n a (suc count) h from up_to =
    ⊎_elim
    (λ (here : (n == 2 ^ a) ≡ true). record {
      log = a;
      between = record { least = from; most = omega (arith, up_to) };
      is = eqb-true n (2 ^ a) here;
    })
    (λ (later : list_any (λ log. n == 2 ^ log) (range_with_len (a + 1) count) ≡ true).
    power_among n (a + 1) count later (omega (arith, from)) (omega (arith, up_to)))
    (or_cases _ _ h)

power_from : (n : ℕ) → is_block_size n ≡ true → IsPower n
power_from n h = power_among n 9 8 h (omega arith) (omega arith)

power_to : (n log : ℕ) → LiesBetween 9 16 log → n ≡ 2 ^ log → is_block_size n ≡ true
power_to n log between is =
    let there : get_or (range_with_len 9 8) (log - 9) 0 ≡ log =
    get_or-range_with_len 9 8 (log - 9) 0 (omega (arith, between.least, between.most)) ∙ omega (arith, between.least) in
    list_any_at (λ log. n == 2 ^ log) (range_with_len 9 8) (log - 9) 0 (omega (arith, between.least, between.most))
    (rw there (eq-eqb n (2 ^ log) is))

place_from : (front count : ℕ) (kind : EntryKind) (table : TableAt) → is_misplaced front count kind table ≡ false
    → IsTablePlace front count kind table
place_from front count kind (Plainly at) h = ltb-false _ _ h
place_from front count kind (InChain first blocks) h =
    let both = or_parts _ _ h in (leb-false count first both.0, between_from 1 count blocks both.1)

place_to : (front count : ℕ) (kind : EntryKind) (table : TableAt) → IsTablePlace front count kind table
    → is_misplaced front count kind table ≡ false
place_to front count kind (Plainly at) h = le-ltb _ _ h
place_to front count kind (InChain first blocks) h =
    or_from _ _ (lt-leb count first h.0) (between_to 1 count blocks h.1)

room_from : (front block : ℕ) (kind : EntryKind) (t : Table) (table : TableAt)
    → is_too_long front block kind t table ≡ false → HasTableRoom front block kind t table
room_from front block kind t (Plainly at) h = ltb-false _ _ h
room_from front block kind t (InChain first blocks) h = ltb-false _ _ h

room_to : (front block : ℕ) (kind : EntryKind) (t : Table) (table : TableAt) → HasTableRoom front block kind t table
    → is_too_long front block kind t table ≡ false
room_to front block kind t (Plainly at) h = le-ltb _ _ h
room_to front block kind t (InChain first blocks) h = le-ltb _ _ h

most_from : (kind : EntryKind) (most : ℕ) → is_bad_most kind most ≡ false
    → LiesBetween (least_most kind) (largest_most kind) most
most_from Dir most h = between_from 2 8194 most h
most_from File most h = between_from 1 8193 most h

most_to : (kind : EntryKind) (most : ℕ) → LiesBetween (least_most kind) (largest_most kind) most
    → is_bad_most kind most ≡ false
most_to Dir most h = between_to 2 8194 most h
most_to File most h = between_to 1 8193 most h

not_false : (b : Bool) → not b ≡ false → b ≡ true
not_false true e = refl
not_false false e = cc

-- no test of two lists fails
none_front : (n : ℕ) (xs ys : List Bool) → first_failing n (xs ++ ys) ≡ None → first_failing n xs ≡ None
none_front n [] ys none = refl
none_front n (true ∷ xs) ys none = none
none_front n (false ∷ xs) ys none = none_front (n + 1) xs ys none

module _ (kind : TreeKind) (split : Option ℕ) (size : ℕ) (info : Information) where
  pub places_from : first_failing 1 (place_faults kind split size info) ≡ None
      → HasPlaces kind split size info (places_of kind split info)
  unfolding place_faults
  places_from none =
      let front = front_len split size in
      let p = places_of kind split info in
      let h = none_from 1 (place_faults kind split size info) none in
      let one = or_parts _ _ h.0 in
      let power = power_from info.block (not_false _ h.1.0) in
      let five = h.1.1.1.1.0 in
      let inside = or_parts _ _ five in
      let chain = or_parts _ _ inside.1 in
      let region = or_parts _ _ chain.1 in
      record {
        behind_header = ltb-false _ _ one.0;
        information_inside = ltb-false _ _ one.1;
        log = power.log;
        log_between = power.between;
        block = power.is;
        buckets = λ table. between_from 1 32768 _
            (either_from (λ table. is_outside 1 32768 ((fields_on info table).buckets)) h.1.1.0 table);
        count = between_from 1 131072 _ h.1.1.1.0;
        buckets_inside = λ table. ltb-false _ _
            (either_from (λ table. passes_end front ((fields_on info table).buckets_at)
            (4 * (fields_on info table).buckets)) inside.0 table);
        chain_inside = ltb-false _ _ chain.0;
        region_inside = ltb-false _ _ region.0;
        tables_placed = λ table. place_from front info.count table (table_lies p table)
            (either_from (λ table. is_misplaced front info.count table (table_lies p table)) region.1 table);
      }

module _ (kind : TreeKind) (split : Option ℕ) (size : ℕ) (info : Information) (t : Tables) where
  pub layout_from : layout_fault kind split size info t ≡ None
      → HasLayout kind split size info (places_of kind split info) t
  unfolding place_faults table_faults
  layout_from none =
      let front = front_len split size in
      let p = places_of kind split info in
      let h = none_from 1 (place_faults kind split size info ++ table_faults kind split size info t) none in
      let rest = h.1.1.1.1.1 in
      record {
        places = places_from kind split size info
            (none_front 1 (place_faults kind split size info) (table_faults kind split size info t) none);
        most = λ table. most_from table _ (either_from (λ table. is_bad_most table (t.table table).most) rest.0 table);
        room = λ table. room_from front info.block table (t.table table) (table_lies p table)
            (either_from (λ table. is_too_long front info.block table (t.table table) (table_lies p table)) rest.1.0
            table);
        counts = λ table. between_from _ _ _ (either_from
            (λ table. is_outside (least_freed table) (t.table table).most (t.table table).count) rest.1.1.0 table);
        taken_apart = rest.1.1.1.0;
      }

  pub layout_to : HasLayout kind split size info (places_of kind split info) t
      → layout_fault kind split size info t ≡ None
  unfolding place_faults table_faults
  layout_to h =
      none_to 1 (place_faults kind split size info ++ table_faults kind split size info t) (
        or_from _ _ (le-ltb _ _ h.places.behind_header) (le-ltb _ _ h.places.information_inside),
        (
          ap not (power_to info.block h.places.log h.places.log_between h.places.block),
          (
            either_to (λ table. is_outside 1 32768 ((fields_on info table).buckets))
                (λ table. between_to 1 32768 _ (h.places.buckets table)),
            (
              between_to 1 131072 _ h.places.count,
              (
                or_from _ _
                    (either_to (λ table. passes_end front ((fields_on info table).buckets_at)
                    (4 * (fields_on info table).buckets))
                    (λ table. le-ltb _ _ (h.places.buckets_inside table)))
                    (or_from _ _ (le-ltb _ _ h.places.chain_inside) (or_from _ _ (le-ltb _ _ h.places.region_inside)
                    (either_to (λ table. is_misplaced front info.count table (table_lies p table))
                    (λ table. place_to front info.count table (table_lies p table) (h.places.tables_placed table))))),
                (
                  either_to (λ table. is_bad_most table (t.table table).most) (λ table. most_to table _ (h.most table)),
                  (
                    either_to (λ table. is_too_long front info.block table (t.table table) (table_lies p table))
                        (λ table. room_to front info.block table (t.table table) (table_lies p table) (h.room table)),
                    (
                      either_to (λ table. is_outside (least_freed table) (t.table table).most (t.table table).count)
                          (λ table. between_to _ _ _ (h.counts table)),
                      (h.taken_apart, tt),
                    ),
                  ),
                ),
              ),
            ),
          ),
        ),
      ) where
        front : ℕ
        front = front_len split size

        p : Places
        p = places_of kind split info

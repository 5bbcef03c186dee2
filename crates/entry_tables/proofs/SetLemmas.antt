-- What a put of one word makes of the tables.
use Rattle.std.proofs.Common.{◌≡◌, ◌≢◌, ◌⊎◌, ℕ, ◌+◌, ◌-◌, ◌*◌, ◌<◌, ◌≤◌, nat_lt, if◌then◌else◌}
use Rattle.std.proofs.Common.{IsTrue, Option, Some, None, refl, sym, ◌∙◌, ap, subst, arith, inl, inr, ⊎_elim}
use Rattle.std.proofs.lemmas.Bool.{cases_eq, lt-ltb, cond-true}
use Rattle.save_bytes.specs.declared.space.Bad.{Bad}
use Rattle.save_bytes.specs.Cells.{Cell, IsByte}
use Rattle.save_bytes.specs.CellNumbers.{number_in}
use Rattle.save_bytes.specs.State.{Shape, State, CanPut}
use Rattle.save_bytes.specs.Stays.{SameTwins, SameSpace}
use Rattle.save_bytes.specs.Refusals.{UnlessDisk, IfDone}
use Rattle.save_bytes.specs.Writes.{IsWithin}
use Rattle.save_bytes.specs.Within.{ChangesWithin}
use Rattle.entry_tables.specs.declared.table.EntryKind.{EntryKind}
use Rattle.entry_tables.specs.declared.table.EntryKind.TheVariants.{Dir, File}
use Rattle.entry_tables.specs.declared.table.TableInfo.{TableInfo}
use Rattle.entry_tables.specs.declared.word.Word.{Word}
use Rattle.entry_tables.specs.declared.word.Word.TheVariants.{Head, Link, Sibling, First, Count}
use Rattle.entry_tables.specs.Kinds.{least_freed, entry_size, link_offset, child_offset}
use Rattle.entry_tables.specs.Tables.{HasEntry, Tables, most_in, is_entry, entry_place, bucket_place, table_in}
use Rattle.entry_tables.specs.Tables.{info_of, tables_in}
use Rattle.entry_tables.specs.Layout.{HasCounts, HasEntryTables}
use Rattle.entry_tables.specs.Words.{with_at, HasWord, word_of, tables_with, with_fields, word_place, WordFits}
use Rattle.entry_tables.specs.Changes.{Area, EntriesOf, BucketsOf, IsAreaPlace, CanChangeTables, IsBounded, IsWordSet}
use Rattle.entry_tables.specs.Changes.{AreFieldsSet}
use Rattle.entry_tables.proofs.EntryLemmas.{link_last, entry_long, field_there, link_there, head_there}
use Rattle.entry_tables.proofs.ValueLemmas.{IsRunIn, place_below, entry_run, bucket_run, can_put_run, still_byte}
use Rattle.entry_tables.proofs.ValueLemmas.{same_spot, kind_same, bucket_same}
use Rattle.entry_tables.proofs.WordLemmas.{SameFields, fields_same, tables_same, with_at-reads, at_kind-reads, Misses}
use Rattle.entry_tables.proofs.WordLemmas.{child_inside, some_most, count_kept, most_kept, head_kept}
use Rattle.entry_tables.proofs.WordLemmas.{parent_kept, names_kept, sibling_kept, link_kept, first_kept, start_kept}
use Rattle.entry_tables.proofs.WordLemmas.{wide_kept}

link_late : (kind : EntryKind) → 0x24 ≤ link_offset kind
link_late Dir = omega arith
link_late File = omega arith

child_late : (kind : EntryKind) → 0x18 ≤ child_offset kind
child_late Dir = omega arith
child_late File = omega arith

child_apart : (kind other : EntryKind) → kind ≢ other
    → (child_offset other + 4 ≤ child_offset kind) ⊎ (child_offset kind + 4 ≤ child_offset other)
child_apart Dir Dir differs = absurd (differs refl)
child_apart Dir File differs = inr (omega arith)
child_apart File Dir differs = inl (omega arith)
child_apart File File differs = absurd (differs refl)

-- two parts of entries that do not meet
pub part_misses : (dirs files : TableInfo) (kind : EntryKind) (e off n : ℕ) → off + n ≤ entry_size kind
    → (other : EntryKind) (f offset m : ℕ) → offset + m ≤ entry_size other
    → (kind ≡ other → f ≡ e → (offset + m ≤ off) ⊎ (off + n ≤ offset))
    → Misses dirs files (EntriesOf kind) (entry_place kind (info_of dirs files kind) e + off) n other f offset m
part_misses dirs files kind e off n fits other f offset m inside apart same k less within =
    met kind fits (sym (kind_same kind other same)) within (apart (kind_same kind other same))
  where
    met : (kind : EntryKind) → off + n ≤ entry_size kind → other ≡ kind
        → IsWithin (entry_place kind (info_of dirs files kind) e + off) n
        (entry_place other (info_of dirs files other) f + offset + k)
        → (f ≡ e → (offset + m ≤ off) ⊎ (off + n ≤ offset)) → ⊥
    met kind fits is there apart = go
        (subst (λ (o : EntryKind). IsWithin (entry_place kind (info_of dirs files kind) e + off) n
        (entry_place o (info_of dirs files o) f + offset + k)) is there)
        (subst (λ (o : EntryKind). offset + m ≤ entry_size o) is inside)
      where
        go : IsWithin (entry_place kind (info_of dirs files kind) e + off) n
            (entry_place kind (info_of dirs files kind) f + offset + k) → offset + m ≤ entry_size kind → ⊥
        go here inside =
            let at = (info_of dirs files kind).table_at in
            let i = at + f * entry_size kind + offset + k - (at + e * entry_size kind + off) in
            let spot : at + e * entry_size kind + (off + i) ≡ at + f * entry_size kind + (offset + k) =
            omega (arith, here.0) in
            let both = same_spot kind at e f (off + i) (offset + k) (omega (arith, fits, here.0, here.1))
            (omega (arith, inside, less)) spot in
            ⊎_elim (λ (early : offset + m ≤ off). omega (arith, both.1, early, less))
            (λ (late : off + n ≤ offset). omega (arith, both.1, late, here.0, here.1)) (apart (sym both.0))

module _ (s : State) (dirs files : TableInfo) (tables : HasEntryTables s.shape dirs files)
    (can : CanChangeTables s dirs files) where
  -- n bytes of an entry were written, none of which are the most
  module _ (kind : EntryKind) (e off n : ℕ) (below : e < most_in s.cells (info_of dirs files kind))
      (fits : off + n ≤ entry_size kind) (later : e ≡ 0 → (8 ≤ off) ⊎ (off + n ≤ 4)) (new : ℕ → Cell)
      (soft : ChangesWithin s (IsWithin (entry_place kind (info_of dirs files kind) e + off) n) new) where
    -- a part of an entry is not met
    Far : EntryKind → ℕ → ℕ → ℕ → Type 0
    Far other f offset m = kind ≡ other → f ≡ e → (offset + m ≤ off) ⊎ (off + n ≤ offset)

    run : IsRunIn s.cells dirs files (EntriesOf kind) (entry_place kind (info_of dirs files kind) e + off) n
    run = entry_run s dirs files tables can kind e off n (entry_place kind
        (info_of dirs files kind) e + off) below fits refl

    missed : (other : EntryKind) (f offset m : ℕ) → offset + m ≤ entry_size other → Far other f offset m
        → Misses dirs files (EntriesOf kind) (entry_place kind (info_of dirs files kind) e + off) n other f offset m
    unfolding Far
    missed other f offset m inside far = part_misses dirs files kind e off n fits other f offset m inside far

    quiet : (other : EntryKind)
        → Misses dirs files (EntriesOf kind) (entry_place kind (info_of dirs files kind) e + off) n other 0 4 4
    unfolding Far
    quiet other = missed other 0 4 4 (omega (arith, entry_long other)) (λ same zero. later (sym zero))

    most_is : (other : EntryKind) → most_in new (info_of dirs files other) ≡ most_in s.cells (info_of dirs files other)
    most_is = most_kept s dirs files tables can (EntriesOf kind) (entry_place kind (info_of dirs files kind) e + off) n
        run new soft quiet

    -- what is known of a table whose fields are not met
    record Passes (other : EntryKind) : Type 0 where
      count : Far other 0 0 4
      parent : (f : ℕ) → Far other f 0 4
      name : (f : ℕ) → Far other f 4 16
      sibling : (f : ℕ) → Far other f 0x14 4
      link : (f : ℕ) → Far other f (link_offset other) 4

    module _ (other : EntryKind) where
      count_is : Far other 0 0 4 → (table_in new other (info_of dirs files other)).count
          ≡ (table_in s.cells other (info_of dirs files other)).count
      count_is far = count_kept s dirs files tables can (EntriesOf kind)
          (entry_place kind (info_of dirs files kind) e + off) n run new soft other
          (missed other 0 0 4 (omega (arith, entry_long other)) far)

      head_is : (b : ℕ) → (table_in new other (info_of dirs files other)).head b
          ≡ (table_in s.cells other (info_of dirs files other)).head b
      head_is b = head_kept s dirs files tables can (EntriesOf kind)
          (entry_place kind (info_of dirs files kind) e + off) n run new soft quiet other b (λ same. (cc))

      parent_is : (f : ℕ) → Far other f 0 4 → (table_in new other (info_of dirs files other)).parent f
          ≡ (table_in s.cells other (info_of dirs files other)).parent f
      parent_is f far = parent_kept s dirs files tables can (EntriesOf kind)
          (entry_place kind (info_of dirs files kind) e + off) n run new soft quiet other f
          (missed other f 0 4 (omega (arith, entry_long other)) far)

      name_is : (f : ℕ) → Far other f 4 16 → (table_in new other (info_of dirs files other)).name f
          ≡ (table_in s.cells other (info_of dirs files other)).name f
      name_is f far = names_kept s dirs files tables can (EntriesOf kind)
          (entry_place kind (info_of dirs files kind) e + off) n run new soft quiet other f
          (missed other f 4 16 (omega (arith, entry_long other)) far)

      sibling_is : (f : ℕ) → Far other f 0x14 4 → (table_in new other (info_of dirs files other)).sibling f
          ≡ (table_in s.cells other (info_of dirs files other)).sibling f
      sibling_is f far = sibling_kept s dirs files tables can (EntriesOf kind)
          (entry_place kind (info_of dirs files kind) e + off) n run new soft quiet other f
          (missed other f 0x14 4 (omega (arith, entry_long other)) far)

      link_is : (f : ℕ) → Far other f (link_offset other) 4 → (table_in new other (info_of dirs files other)).link f
          ≡ (table_in s.cells other (info_of dirs files other)).link f
      link_is f far = link_kept s dirs files tables can (EntriesOf kind)
          (entry_place kind (info_of dirs files kind) e + off) n run new soft quiet other f
          (missed other f (link_offset other) 4 (omega (arith, link_last other)) far)

      table_is : Passes other
          → table_in new other (info_of dirs files other) ≡ table_in s.cells other (info_of dirs files other)
      table_is passes = fields_same _ _ (record {
        count = count_is passes.count;
        most = most_is other;
        buckets = refl;
        head = head_is;
        parent = λ f. parent_is f (passes.parent f);
        name = λ f. name_is f (passes.name f);
        sibling = λ f. sibling_is f (passes.sibling f);
        link = λ f. link_is f (passes.link f);
      })

    -- the other table stays
    other_passes : (other : EntryKind) → kind ≢ other → Passes other
    unfolding Far
    other_passes other differs = record {
      count = λ same. absurd (differs same);
      parent = λ f same. absurd (differs same);
      name = λ f same. absurd (differs same);
      sibling = λ f same. absurd (differs same);
      link = λ f same. absurd (differs same);
    }

    -- and so does each field past the ones of tables
    first_is : (child : EntryKind) (dir : ℕ) → Far Dir dir (child_offset child) 4
        → (tables_in new dirs files).first child dir ≡ (tables_in s.cells dirs files).first child dir
    first_is child dir far = first_kept s dirs files tables can (EntriesOf kind)
        (entry_place kind (info_of dirs files kind) e + off) n run new soft quiet child dir
        (missed Dir dir (child_offset child) 4 (child_inside child) far)

    start_is : (f : ℕ) → Far File f 0x1C 4 → (tables_in new dirs files).start f ≡ (tables_in s.cells dirs files).start f
    start_is f far = start_kept s dirs files tables can (EntriesOf kind)
        (entry_place kind (info_of dirs files kind) e + off) n run new soft quiet f
        (missed File f 0x1C 4 (omega arith) far)

    wide_is : (f : ℕ) → Far File f 0x20 8 → (tables_in new dirs files).wide f ≡ (tables_in s.cells dirs files).wide f
    wide_is f far = wide_kept s dirs files tables can (EntriesOf kind)
        (entry_place kind (info_of dirs files kind) e + off) n run new soft quiet f
        (missed File f 0x20 8 (omega arith) far)

    -- a number that was written into a field of an entry
    field_put : {A : Type 0} (other : EntryKind) (f : ℕ) (read value none : A)
        → HasEntry (table_in s.cells other (info_of dirs files other)) f → read ≡ value
        → (if is_entry (most_in new (info_of dirs files other)) f then read else none) ≡ value
    field_put other f read value none has is =
        rw (most_is other) (field_there (table_in s.cells other (info_of dirs files other)) f read none has ∙ is)

child_early : (kind : EntryKind) → child_offset kind + 4 ≤ 0x20
child_early Dir = omega arith
child_early File = omega arith

module _ (s : State) (dirs files : TableInfo) (tables : HasEntryTables s.shape dirs files)
    (can : CanChangeTables s dirs files) (kind : EntryKind) (value : ℕ) (new : ℕ → Cell) where
  link_set : (e : ℕ) → e < most_in s.cells (info_of dirs files kind)
      → ChangesWithin s (IsWithin (word_place dirs files (Link kind e)) 4) new
      → number_in 4 new (word_place dirs files (Link kind e)) ≡ value
      → tables_in new dirs files ≡ tables_with (tables_in s.cells dirs files) (Link kind e) value
  unfolding Far
  link_set e below soft is = tables_same _ _
      (at_kind-reads (λ other t. table_in new other (info_of dirs files other) ≡ t) kind
      (record (table_in s.cells kind (info_of dirs files kind)) {
        link = with_at e value (table_in s.cells kind (info_of dirs files kind)).link;
      })
      (λ other. table_in s.cells other (info_of dirs files other)) mine
      (λ other differs. table_is s dirs files tables can kind e (link_offset kind) 4 below fits later new soft other
      (other_passes s dirs files tables can kind e (link_offset kind) 4 below fits later new soft other differs)))
      (λ child dir. first_is s dirs files tables can kind e (link_offset kind) 4 below fits later new soft child dir
      (λ same met. inl (omega (arith, child_early child, link_late kind))))
      (λ f. start_is s dirs files tables can kind e (link_offset kind) 4 below fits later new soft f
      (λ same met. inl (omega (arith, link_late kind))))
      (λ f. wide_is s dirs files tables can kind e (link_offset kind) 4 below fits later new soft f
      (λ same met. inl (subst (λ (k : EntryKind). 0x20 + 8 ≤ link_offset k) (sym same) (omega arith))))
    where
      fits : link_offset kind + 4 ≤ entry_size kind
      fits = omega (arith, link_last kind)

      later : e ≡ 0 → (8 ≤ link_offset kind) ⊎ (link_offset kind + 4 ≤ 4)
      later zero = inl (omega (arith, link_late kind))

      mine : table_in new kind (info_of dirs files kind) ≡ record (table_in s.cells kind (info_of dirs files kind)) {
        link = with_at e value (table_in s.cells kind (info_of dirs files kind)).link;
      }
      mine = fields_same _ _ (record {
        count = count_is s dirs files tables can kind e (link_offset kind) 4 below fits later new soft kind
            (λ same met. inl (omega (arith, link_late kind)));
        most = most_is s dirs files tables can kind e (link_offset kind) 4 below fits later new soft kind;
        buckets = refl;
        head = head_is s dirs files tables can kind e (link_offset kind) 4 below fits later new soft kind;
        parent = λ f. parent_is s dirs files tables can kind e (link_offset kind) 4 below fits later new soft kind f
            (λ same met. inl (omega (arith, link_late kind)));
        name = λ f. name_is s dirs files tables can kind e (link_offset kind) 4 below fits later new soft kind f
            (λ same met. inl (omega (arith, link_late kind)));
        sibling = λ f. sibling_is s dirs files tables can kind e (link_offset kind) 4 below fits later new soft kind f
            (λ same met. inl (omega (arith, link_late kind)));
        link = λ f. with_at-reads e f value (table_in s.cells kind (info_of dirs files kind)).link
            ((table_in new kind (info_of dirs files kind)).link f)
            (λ here. put f here)
            (λ differs. link_is s dirs files tables can kind e (link_offset kind) 4 below fits later new soft kind f
            (λ same met. absurd (differs met)));
      })
        where
          put : (f : ℕ) → f ≡ e → (table_in new kind (info_of dirs files kind)).link f ≡ value
          put f here = rw here
              (rw (most_is s dirs files tables can kind e (link_offset kind) 4 below fits later new soft kind)
              (cond-true (nat_lt e (most_in s.cells (info_of dirs files kind)))
              (number_in 4 new (entry_place kind (info_of dirs files kind) e + link_offset kind)) 0
              (lt-ltb e (most_in s.cells (info_of dirs files kind)) below) ∙ is))

  sibling_set : (e : ℕ) → HasEntry (table_in s.cells kind (info_of dirs files kind)) e
      → ChangesWithin s (IsWithin (word_place dirs files (Sibling kind e)) 4) new
      → number_in 4 new (word_place dirs files (Sibling kind e)) ≡ value
      → tables_in new dirs files ≡ tables_with (tables_in s.cells dirs files) (Sibling kind e) value
  unfolding Far
  sibling_set e has soft is = tables_same _ _
      (at_kind-reads (λ other t. table_in new other (info_of dirs files other) ≡ t) kind
      (record (table_in s.cells kind (info_of dirs files kind)) {
        sibling = with_at e value (table_in s.cells kind (info_of dirs files kind)).sibling;
      })
      (λ other. table_in s.cells other (info_of dirs files other)) mine
      (λ other differs. table_is s dirs files tables can kind e 0x14 4 below fits later new soft other
      (other_passes s dirs files tables can kind e 0x14 4 below fits later new soft other differs)))
      (λ child dir. first_is s dirs files tables can kind e 0x14 4 below fits later new soft child dir
      (λ same met. inr (omega (arith, child_late child))))
      (λ f. start_is s dirs files tables can kind e 0x14 4 below fits later new soft f (λ same met. inr (omega arith)))
      (λ f. wide_is s dirs files tables can kind e 0x14 4 below fits later new soft f (λ same met. inr (omega arith)))
    where
      below : e < most_in s.cells (info_of dirs files kind)
      below = has.below

      fits : 0x14 + 4 ≤ entry_size kind
      fits = omega (arith, entry_long kind)

      later : e ≡ 0 → (8 ≤ 0x14) ⊎ (0x14 + 4 ≤ 4)
      later zero = inl (omega arith)

      put : (f : ℕ) → f ≡ e → (table_in new kind (info_of dirs files kind)).sibling f ≡ value
      put f here = rw here (field_put s dirs files tables can kind e 0x14 4 below fits later new soft kind e
          (number_in 4 new (entry_place kind (info_of dirs files kind) e + 0x14)) value 0 has is)

      mine : table_in new kind (info_of dirs files kind) ≡ record (table_in s.cells kind (info_of dirs files kind)) {
        sibling = with_at e value (table_in s.cells kind (info_of dirs files kind)).sibling;
      }
      mine = fields_same _ _ (record {
        count = count_is s dirs files tables can kind e 0x14 4 below fits later new soft kind (λ same met. inl
            (omega arith));
        most = most_is s dirs files tables can kind e 0x14 4 below fits later new soft kind;
        buckets = refl;
        head = head_is s dirs files tables can kind e 0x14 4 below fits later new soft kind;
        parent = λ f. parent_is s dirs files tables can kind e 0x14 4 below fits later new soft kind f
            (λ same met. inl (omega arith));
        name = λ f. name_is s dirs files tables can kind e 0x14 4 below fits later new soft kind f (λ same met. inl
            (omega arith));
        sibling = λ f. with_at-reads e f value (table_in s.cells kind (info_of dirs files kind)).sibling
            ((table_in new kind (info_of dirs files kind)).sibling f) (λ here. put f here)
            (λ differs. sibling_is s dirs files tables can kind e 0x14 4 below fits later new soft kind f
            (λ same met. absurd (differs met)));
        link = λ f. link_is s dirs files tables can kind e 0x14 4 below fits later new soft kind f
            (λ same met. inr (omega (arith, link_late kind)));
      })

  first_set : (dir : ℕ) → HasEntry (table_in s.cells Dir dirs) dir
      → ChangesWithin s (IsWithin (word_place dirs files (First kind dir)) 4) new
      → number_in 4 new (word_place dirs files (First kind dir)) ≡ value
      → tables_in new dirs files ≡ tables_with (tables_in s.cells dirs files) (First kind dir) value
  unfolding Far
  first_set dir has soft is = tables_same _ _
      (λ other. table_is s dirs files tables can Dir dir (child_offset kind) 4 below fits later new soft other
      (passes other))
      (λ child. at_kind-reads (λ other f. (d : ℕ) → (tables_in new dirs files).first other d ≡ f d) kind
      (with_at dir value ((tables_in s.cells dirs files).first kind)) (tables_in s.cells dirs files).first
      (λ d. with_at-reads dir d value ((tables_in s.cells dirs files).first kind)
      ((tables_in new dirs files).first kind d) (λ here. put d here)
      (λ differs. first_is s dirs files tables can Dir dir (child_offset kind) 4 below fits later new soft kind d
      (λ same met. absurd (differs met))))
      (λ other differs d. first_is s dirs files tables can Dir dir
      (child_offset kind) 4 below fits later new soft other d
      (λ same met. child_apart kind other differs)) child)
      (λ f. start_is s dirs files tables can Dir dir (child_offset kind) 4 below fits later new soft f (λ same. (cc)))
      (λ f. wide_is s dirs files tables can Dir dir (child_offset kind) 4 below fits later new soft f (λ same. (cc)))
    where
      below : dir < most_in s.cells dirs
      below = has.below

      fits : child_offset kind + 4 ≤ entry_size Dir
      fits = child_inside kind

      later : dir ≡ 0 → (8 ≤ child_offset kind) ⊎ (child_offset kind + 4 ≤ 4)
      later zero = inl (omega (arith, child_late kind))

      put : (d : ℕ) → d ≡ dir → (tables_in new dirs files).first kind d ≡ value
      put d here = rw here (field_put s dirs files tables can Dir dir
          (child_offset kind) 4 below fits later new soft Dir dir
          (number_in 4 new (entry_place Dir dirs dir + child_offset kind)) value 0 has is)

      passes : (other : EntryKind) → Passes s dirs files tables can Dir dir
          (child_offset kind) 4 below fits later new soft other
      passes other = record {
        count = λ same met. inl (omega (arith, child_late kind));
        parent = λ f same met. inl (omega (arith, child_late kind));
        name = λ f same met. inl (omega (arith, child_late kind));
        sibling = λ f same met. inl (omega (arith, child_late kind));
        link = λ f same met. inr (omega (arith, child_early kind, link_late other));
      }

  count_set : ChangesWithin s (IsWithin (word_place dirs files (Count kind)) 4) new
      → number_in 4 new (word_place dirs files (Count kind)) ≡ value
      → tables_in new dirs files ≡ tables_with (tables_in s.cells dirs files) (Count kind) value
  unfolding Far
  count_set soft is = tables_same _ _
      (at_kind-reads (λ other t. table_in new other (info_of dirs files other) ≡ t) kind
      (record (table_in s.cells kind (info_of dirs files kind)) { count = value })
      (λ other. table_in s.cells other (info_of dirs files other)) mine
      (λ other differs. table_is s dirs files tables can kind 0 0 4 below fits later new there other
      (other_passes s dirs files tables can kind 0 0 4 below fits later new there other differs)))
      (λ child dir. first_is s dirs files tables can kind 0 0 4 below fits later new there child dir (λ same met. inr
      (omega (arith, child_late child))))
      (λ f. start_is s dirs files tables can kind 0 0 4 below fits later new there f (λ same met. inr (omega arith)))
      (λ f. wide_is s dirs files tables can kind 0 0 4 below fits later new there f (λ same met. inr (omega arith)))
    where
      place : (info_of dirs files kind).table_at ≡ entry_place kind (info_of dirs files kind) 0 + 0
      place = omega arith

      there : ChangesWithin s (IsWithin (entry_place kind (info_of dirs files kind) 0 + 0) 4) new
      there = subst (λ (at : ℕ). ChangesWithin s (IsWithin at 4) new) place soft

      below : 0 < most_in s.cells (info_of dirs files kind)
      below = some_most s dirs files tables can kind

      fits : 0 + 4 ≤ entry_size kind
      fits = omega (arith, entry_long kind)

      later : ◌≡◌ {A = ℕ} 0 0 → (8 ≤ 0) ⊎ (0 + 4 ≤ 4)
      later zero = inr (omega arith)

      mine : table_in new kind (info_of dirs files kind)
          ≡ record (table_in s.cells kind (info_of dirs files kind)) { count = value }
      mine = fields_same _ _ (record {
        count = is;
        most = most_is s dirs files tables can kind 0 0 4 below fits later new there kind;
        buckets = refl;
        head = head_is s dirs files tables can kind 0 0 4 below fits later new there kind;
        parent = λ f. ⊎_elim
            (λ (zero_is : f ≡ 0). rw zero_is refl)
            (λ (differs : f ≢ 0). parent_is s dirs files tables can kind 0 0 4 below fits later new there kind f
            (λ same met. absurd (differs met)))
            (cases_eq f 0);
        name = λ f. name_is s dirs files tables can kind 0 0 4 below fits later new there kind f (λ same met. inr
            (omega arith));
        sibling = λ f. sibling_is s dirs files tables can kind 0 0 4 below fits later new there kind f
            (λ same met. inr (omega arith));
        link = λ f. link_is s dirs files tables can kind 0 0 4 below fits later new there kind f (λ same met. inr
            (omega (arith, link_late kind)));
      })

  head_set : (bucket : ℕ) → bucket < (info_of dirs files kind).buckets
      → ChangesWithin s (IsWithin (word_place dirs files (Head kind bucket)) 4) new
      → number_in 4 new (word_place dirs files (Head kind bucket)) ≡ value
      → tables_in new dirs files ≡ tables_with (tables_in s.cells dirs files) (Head kind bucket) value
  head_set bucket below soft is = tables_same _ _
      (at_kind-reads (λ other t. table_in new other (info_of dirs files other) ≡ t) kind
      (record (table_in s.cells kind (info_of dirs files kind)) {
        head = with_at bucket value (table_in s.cells kind (info_of dirs files kind)).head;
      })
      (λ other. table_in s.cells other (info_of dirs files other))
      (fields_same _ _ (mine kind (with_at bucket value (table_in s.cells kind (info_of dirs files kind)).head)
      (λ b. with_at-reads bucket b value (table_in s.cells kind (info_of dirs files kind)).head
      ((table_in new kind (info_of dirs files kind)).head b) (λ here. put b here)
      (λ differs. head_kept s dirs files tables can (BucketsOf kind) (bucket_place
      (info_of dirs files kind) bucket) 4 run new soft quiet kind b (λ same k less met.
      differs (omega (arith, less, met.0, met.1)))))))
      (λ other differs. fields_same _ _ (mine other (table_in s.cells other (info_of dirs files other)).head
      (λ b. head_kept s dirs files tables can (BucketsOf kind) (bucket_place
      (info_of dirs files kind) bucket) 4 run new soft quiet other b
      (λ same. absurd (differs (bucket_same kind other same)))))))
      (λ child dir. first_kept s dirs files tables can (BucketsOf kind) (bucket_place
      (info_of dirs files kind) bucket) 4 run new soft quiet child dir (λ same. (cc)))
      (λ f. start_kept s dirs files tables can (BucketsOf kind) (bucket_place
      (info_of dirs files kind) bucket) 4 run new soft quiet f (λ same. (cc)))
      (λ f. wide_kept s dirs files tables can (BucketsOf kind) (bucket_place
      (info_of dirs files kind) bucket) 4 run new soft quiet f (λ same. (cc)))
    where
      run : IsRunIn s.cells dirs files (BucketsOf kind) (bucket_place (info_of dirs files kind) bucket) 4
      run = bucket_run s dirs files tables can kind bucket below

      quiet : (other : EntryKind)
          → Misses dirs files (BucketsOf kind) (bucket_place (info_of dirs files kind) bucket) 4 other 0 4 4
      quiet other same = cc

      put : (b : ℕ) → b ≡ bucket → (table_in new kind (info_of dirs files kind)).head b ≡ value
      put b here = rw here (cond-true (nat_lt bucket (info_of dirs files kind).buckets)
          (number_in 4 new (bucket_place (info_of dirs files kind) bucket)) 0
          (lt-ltb bucket (info_of dirs files kind).buckets below) ∙ is)

      mine : (other : EntryKind) (head : ℕ → ℕ)
          → ((b : ℕ) → (table_in new other (info_of dirs files other)).head b ≡ head b)
          → SameFields (table_in new other (info_of dirs files other))
          (record (table_in s.cells other (info_of dirs files other)) { head = head })
      mine other head heads = record {
        count = count_kept s dirs files tables can (BucketsOf kind) (bucket_place
            (info_of dirs files kind) bucket) 4 run new soft other (λ same. (cc));
        most = most_kept s dirs files tables can (BucketsOf kind) (bucket_place
            (info_of dirs files kind) bucket) 4 run new soft quiet other;
        buckets = refl;
        head = heads;
        parent = λ f. parent_kept s dirs files tables can (BucketsOf kind) (bucket_place
            (info_of dirs files kind) bucket) 4 run new soft quiet other f (λ same. (cc));
        name = λ f. names_kept s dirs files tables can (BucketsOf kind) (bucket_place
            (info_of dirs files kind) bucket) 4 run new soft quiet other f (λ same. (cc));
        sibling = λ f. sibling_kept s dirs files tables can (BucketsOf kind) (bucket_place
            (info_of dirs files kind) bucket) 4 run new soft quiet other f (λ same. (cc));
        link = λ f. link_kept s dirs files tables can (BucketsOf kind) (bucket_place
            (info_of dirs files kind) bucket) 4 run new soft quiet other f (λ same. (cc));
      }

-- one put of a word changes that word alone
pub word_set : (s : State) (dirs files : TableInfo) → HasEntryTables s.shape dirs files
    → CanChangeTables s dirs files → (value : ℕ) (new : ℕ → Cell) (word : Word)
    → HasWord (tables_in s.cells dirs files) word
    → ChangesWithin s (IsWithin (word_place dirs files word) 4) new
    → number_in 4 new (word_place dirs files word) ≡ value
    → tables_in new dirs files ≡ tables_with (tables_in s.cells dirs files) word value
word_set s dirs files tables can value new (Head kind bucket) has = head_set s dirs files tables can kind value new
    bucket has
word_set s dirs files tables can value new (Link kind e) has = link_set s dirs files tables can kind value new e has
word_set s dirs files tables can value new (Sibling kind e) has = sibling_set s dirs files tables can kind value new e
    has
word_set s dirs files tables can value new (First kind dir) has = first_set s dirs files tables can kind value new dir
    has
word_set s dirs files tables can value new (Count kind) has = count_set s dirs files tables can kind value new

-- and one of a file's fields changes these alone
pub fields_set : (s : State) (dirs files : TableInfo) (tables : HasEntryTables s.shape dirs files)
    (can : CanChangeTables s dirs files) (new : ℕ → Cell) (e start wide : ℕ) → HasEntry (table_in s.cells File files) e
    → ChangesWithin s (IsWithin (entry_place File files e + 0x1C) 12) new
    → number_in 4 new (entry_place File files e + 0x1C) ≡ start
    → number_in 8 new (entry_place File files e + 0x20) ≡ wide
    → tables_in new dirs files ≡ with_fields (tables_in s.cells dirs files) e start wide
unfolding Far
fields_set s dirs files tables can new e start wide has soft start_there wide_there = tables_same _ _
    (λ other. table_is s dirs files tables can File e 0x1C 12 below fits later new soft other (passes other))
    (λ child dir. first_is s dirs files tables can File e 0x1C 12 below fits later new soft child dir (λ same. (cc)))
    (λ f. with_at-reads e f start (tables_in s.cells dirs files).start ((tables_in new dirs files).start f)
    (λ here. put_start f here)
    (λ differs. start_is s dirs files tables can File e 0x1C 12 below fits later new soft f (λ same met. absurd
    (differs met))))
    (λ f. with_at-reads e f wide (tables_in s.cells dirs files).wide ((tables_in new dirs files).wide f)
    (λ here. put_wide f here)
    (λ differs. wide_is s dirs files tables can File e 0x1C 12 below fits later new soft f (λ same met. absurd
    (differs met))))
  where
    below : e < most_in s.cells files
    below = has.below

    fits : 0x1C + 12 ≤ entry_size File
    fits = omega arith

    later : e ≡ 0 → (8 ≤ 0x1C) ⊎ (0x1C + 12 ≤ 4)
    later zero = inl (omega arith)

    put_start : (f : ℕ) → f ≡ e → (tables_in new dirs files).start f ≡ start
    put_start f here = rw here (field_put s dirs files tables can File e 0x1C 12 below fits later new soft File e
        (number_in 4 new (entry_place File files e + 0x1C)) start 0 has start_there)

    put_wide : (f : ℕ) → f ≡ e → (tables_in new dirs files).wide f ≡ wide
    put_wide f here = rw here (field_put s dirs files tables can File e 0x1C 12 below fits later new soft File e
        (number_in 8 new (entry_place File files e + 0x20)) wide 0 has wide_there)

    passes : (other : EntryKind) → Passes s dirs files tables can File e 0x1C 12 below fits later new soft other
    passes other = record {
      count = λ same met. inl (omega arith);
      parent = λ f same met. inl (omega arith);
      name = λ f same met. inl (omega arith);
      sibling = λ f same met. inl (omega arith);
      link = λ f same met. inr (subst (λ (k : EntryKind). 0x28 ≤ link_offset k) same (omega arith));
    }

-- no word changes how many entries there can be
pub most_with : (t : Tables) (word : Word) (value : ℕ) (kind : EntryKind)
    → ((tables_with t word value).table kind).most ≡ (t.table kind).most
most_with t (Head Dir bucket) value Dir = refl
most_with t (Head Dir bucket) value File = refl
most_with t (Head File bucket) value Dir = refl
most_with t (Head File bucket) value File = refl
most_with t (Link Dir e) value Dir = refl
most_with t (Link Dir e) value File = refl
most_with t (Link File e) value Dir = refl
most_with t (Link File e) value File = refl
most_with t (Sibling Dir e) value Dir = refl
most_with t (Sibling Dir e) value File = refl
most_with t (Sibling File e) value Dir = refl
most_with t (Sibling File e) value File = refl
most_with t (First other dir) value kind = refl
most_with t (Count Dir) value Dir = refl
most_with t (Count Dir) value File = refl
most_with t (Count File) value Dir = refl
most_with t (Count File) value File = refl

-- nor how many buckets
pub buckets_with : (t : Tables) (word : Word) (value : ℕ) (kind : EntryKind)
    → ((tables_with t word value).table kind).buckets ≡ (t.table kind).buckets
buckets_with t (Head Dir bucket) value Dir = refl
buckets_with t (Head Dir bucket) value File = refl
buckets_with t (Head File bucket) value Dir = refl
buckets_with t (Head File bucket) value File = refl
buckets_with t (Link Dir e) value Dir = refl
buckets_with t (Link Dir e) value File = refl
buckets_with t (Link File e) value Dir = refl
buckets_with t (Link File e) value File = refl
buckets_with t (Sibling Dir e) value Dir = refl
buckets_with t (Sibling Dir e) value File = refl
buckets_with t (Sibling File e) value Dir = refl
buckets_with t (Sibling File e) value File = refl
buckets_with t (First other dir) value kind = refl
buckets_with t (Count Dir) value Dir = refl
buckets_with t (Count Dir) value File = refl
buckets_with t (Count File) value Dir = refl
buckets_with t (Count File) value File = refl

-- and a count lies between its bounds
count_with : (t : Tables) (word : Word) (value : ℕ) → IsBounded t word value → (kind : EntryKind)
    → least_freed kind ≤ (t.table kind).count → (t.table kind).count ≤ (t.table kind).most
    → (least_freed kind ≤ ((tables_with t word value).table kind).count)
    × (((tables_with t word value).table kind).count ≤ (t.table kind).most)
count_with t (Head Dir bucket) value bounded Dir least most = (least, most)
count_with t (Head Dir bucket) value bounded File least most = (least, most)
count_with t (Head File bucket) value bounded Dir least most = (least, most)
count_with t (Head File bucket) value bounded File least most = (least, most)
count_with t (Link Dir e) value bounded Dir least most = (least, most)
count_with t (Link Dir e) value bounded File least most = (least, most)
count_with t (Link File e) value bounded Dir least most = (least, most)
count_with t (Link File e) value bounded File least most = (least, most)
count_with t (Sibling Dir e) value bounded Dir least most = (least, most)
count_with t (Sibling Dir e) value bounded File least most = (least, most)
count_with t (Sibling File e) value bounded Dir least most = (least, most)
count_with t (Sibling File e) value bounded File least most = (least, most)
count_with t (First other dir) value bounded kind least most = (least, most)
count_with t (Count Dir) value bounded Dir least most = bounded
count_with t (Count Dir) value bounded File least most = (least, most)
count_with t (Count File) value bounded Dir least most = (least, most)
count_with t (Count File) value bounded File least most = bounded

-- a call that was done left the shape, the twins and what is told
pub record SameSpaceDone (s t : State) : Type 0 where
  pub shape : t.shape ≡ s.shape
  pub told : IsTrue t.told
  pub twins : SameTwins s t

-- a count is what it may be
pub record IsCounted (count : ℕ) (kind : EntryKind) (most : ℕ) : Type 0 where
  pub least : least_freed kind ≤ count
  pub ends : count ≤ most

module _ (s : State) (dirs files : TableInfo) (tables : HasEntryTables s.shape dirs files)
    (can : CanChangeTables s dirs files) where
  -- a word lies in an area
  pub word_run : (word : Word) → HasWord (tables_in s.cells dirs files) word
      → (area : Area) × IsRunIn s.cells dirs files area (word_place dirs files word) 4
  word_run (Head kind bucket) has = (BucketsOf kind, bucket_run s dirs files tables can kind bucket has)
  word_run (Link kind e) has = (
    EntriesOf kind,
    entry_run s dirs files tables can kind e (link_offset kind) 4 _ has (omega
        (arith, link_last kind)) refl,
  )
  word_run (Sibling kind e) has = (
    EntriesOf kind,
    entry_run s dirs files tables can kind e 0x14 4 _ has.below (omega
        (arith, entry_long kind)) refl,
  )
  word_run (First kind dir) has = (
    EntriesOf Dir,
    entry_run s dirs files tables can Dir dir (child_offset kind) 4 _ has.below
        (child_inside kind) refl,
  )
  word_run (Count kind) has = (
    EntriesOf kind,
    entry_run s dirs files tables can kind 0 0 4 _ (some_most s dirs files tables can kind)
        (omega (arith, entry_long kind)) (omega arith),
  )

  -- so it may be put
  pub word_can_put : (word : Word) → HasWord (tables_in s.cells dirs files) word
      → CanPut s (word_place dirs files word) 4
  word_can_put word has =
      let lies = word_run word has in
      can_put_run s dirs files tables can lies.0 (word_place dirs files word) 4 lies.1

  -- and its entry lies in the space
  pub word_fits : (word : Word) → HasWord (tables_in s.cells dirs files) word → WordFits s.shape.size dirs files word
  word_fits (Head kind bucket) has = has
  word_fits (Link kind e) has = (can.tells kind).entries (can.counts kind) e has
  word_fits (Sibling kind e) has = (can.tells kind).entries (can.counts kind) e has.below
  word_fits (First kind dir) has = (can.tells Dir).entries (can.counts Dir) dir has.below
  word_fits (Count kind) has = tt

  zero_place : (kind : EntryKind) (k : ℕ) → k < 8
      → IsAreaPlace s.cells dirs files (EntriesOf kind) ((info_of dirs files kind).table_at + k)
  zero_place kind k less = (
    0,
    some_most s dirs files tables can kind,
    record {
      from = omega arith;
      before = omega (arith, less, entry_long kind);
    },
  )

  fields_run : (e : ℕ) → HasEntry (table_in s.cells File files) e
      → IsRunIn s.cells dirs files (EntriesOf File) (entry_place File files e + 0x1C) 12
  fields_run e has = entry_run s dirs files tables can File e 0x1C 12 _ has.below (omega arith) refl

  pub fields_can_put : (e : ℕ) → HasEntry (table_in s.cells File files) e
      → CanPut s (entry_place File files e + 0x1C) 12
  fields_can_put e has =
      can_put_run s dirs files tables can (EntriesOf File) (entry_place File files e + 0x1C) 12 (fields_run e has)

  -- after bytes were put into an area, which left the mosts and the counts between their bounds
  module _ (t : State) (done : SameSpaceDone s t) (area : Area) (at n : ℕ) (run : IsRunIn s.cells dirs files area at n)
      (soft : ChangesWithin s (IsWithin at n) t.cells) (bytes : (k : ℕ) → k < n → IsByte (t.cells (at + k)))
      (most : (kind : EntryKind) → most_in t.cells (info_of dirs files kind)
      ≡ most_in s.cells (info_of dirs files kind))
      (counted : (kind : EntryKind) → IsCounted (table_in t.cells kind (info_of dirs files kind)).count kind
      (most_in s.cells (info_of dirs files kind))) where
    same_places : (other : Area) (x : ℕ) → IsAreaPlace t.cells dirs files other x
        → IsAreaPlace s.cells dirs files other x
    same_places (EntriesOf kind) x (e, below, within) = (e, omega (arith, below, most kind), within)
    same_places (BucketsOf kind) x within = within

    still_counts : (kind : EntryKind) → HasCounts t.cells (info_of dirs files kind)
    still_counts kind k less =
        still_byte s dirs files tables can area at n run t.cells soft bytes (EntriesOf kind)
        ((info_of dirs files kind).table_at + k) (zero_place kind k less) (can.counts kind k less)

    -- they may be changed as before
    pub still : CanChangeTables t dirs files
    still = record {
      tells = λ kind. record {
        told = done.told;
        entries = λ known e below. omega (
          arith,
          ap (λ (shape : Shape). shape.size) done.shape,
          (can.tells kind).entries (can.counts kind) e (omega (arith, below, most kind)),
        );
        least = λ known. (counted kind).least;
        most = λ known. omega (arith, (counted kind).ends, most kind);
      };
      counts = still_counts;
      apart = λ one other x y in_one in_other same.
          (let was_x = same_places one x in_one in let was_y = same_places other y in_other in
          can.apart one other x y was_x was_y
          (sym (done.twins.bottom x (place_below s dirs files tables can one x was_x)) ∙ same
          ∙ done.twins.bottom y (place_below s dirs files tables can other y was_y)));
      free = λ other x inside.
          (let was = same_places other x inside in
          done.twins.is_fixed x (place_below s dirs files tables can other x was) ∙ can.free other x was);
    }

  module _ (t : State) (word : Word) (value : ℕ) (has : HasWord (tables_in s.cells dirs files) word)
      (done : SameSpaceDone s t)
      (soft : ChangesWithin s (IsWithin (word_place dirs files word) 4) t.cells)
      (bytes : (k : ℕ) → k < 4 → IsByte (t.cells (word_place dirs files word + k)))
      (put : tables_in t.cells dirs files ≡ tables_with (tables_in s.cells dirs files) word value) where
    count_still : IsBounded (tables_in s.cells dirs files) word value → (kind : EntryKind)
        → IsCounted (table_in t.cells kind (info_of dirs files kind)).count kind
        (most_in s.cells (info_of dirs files kind))
    count_still bounded kind =
        let is = ap (λ (t : Tables). (t.table kind).count) put in
        let bounds = count_with (tables_in s.cells dirs files) word value bounded kind
        ((can.tells kind).least (can.counts kind)) ((can.tells kind).most (can.counts kind)) in
        record { least = omega (arith, is, bounds.0); ends = omega (arith, is, bounds.1) }

    word_is_set : IsWordSet s t dirs files word value
    word_is_set = record {
      tables = put;
      bytes = bytes;
      can = λ bounded.
          (let lies = word_run word has in
          still t done lies.0 (word_place dirs files word) 4 lies.1 soft bytes
          (λ kind. ap (λ (t : Tables). (t.table kind).most) put
          ∙ most_with (tables_in s.cells dirs files) word value kind)
          (count_still bounded));
    }

  -- so it is with a file's fields
  pub fields_are_set : (t : State) (e start wide : ℕ) → HasEntry (table_in s.cells File files) e → SameSpaceDone s t
      → ChangesWithin s (IsWithin (entry_place File files e + 0x1C) 12) t.cells
      → ((k : ℕ) → k < 12 → IsByte (t.cells (entry_place File files e + 0x1C + k)))
      → number_in 4 t.cells (entry_place File files e + 0x1C) ≡ start
      → number_in 8 t.cells (entry_place File files e + 0x20) ≡ wide → AreFieldsSet s t dirs files e start wide
  fields_are_set t e start wide has done soft bytes start_is wide_is =
      let put = fields_set s dirs files tables can t.cells e start wide has soft start_is wide_is in
      record {
        tables = put;
        can = still t done (EntriesOf File) (entry_place File files e + 0x1C) 12
            (fields_run e has) soft bytes (λ kind. ap (λ (t : Tables). (t.table kind).most) put)
            (λ kind. (let is = ap (λ (t : Tables). (t.table kind).count) put in record {
              least = omega (arith, is, (can.tells kind).least (can.counts kind));
              ends = omega (arith, is, (can.tells kind).most (can.counts kind));
            }));
      }

  -- a call that puts it
  pub word_done : (P : Type 0) (p : P) (t : State) (word : Word) (value : ℕ) (refusal : Option Bad)
      → HasWord (tables_in s.cells dirs files) word → SameSpace P s t refusal
      → IfDone refusal (number_in 4 t.cells (word_place dirs files word) ≡ value)
      → IfDone refusal ((k : ℕ) → k < 4 → IsByte (t.cells (word_place dirs files word + k)))
      → UnlessDisk refusal (ChangesWithin s (IsWithin (word_place dirs files word) 4) t.cells)
      → IfDone refusal (IsWordSet s t dirs files word value)
  word_done P p t word value None has space is bytes soft =
      word_is_set t word value has (record { shape = space.shape; told = space.told p; twins = space.twins p }) soft
      bytes
      (word_set s dirs files tables can value t.cells word has soft is)
  word_done P p t word value (Some bad) has space is bytes soft = tt

  pub fields_done : (P : Type 0) (p : P) (t : State) (e start wide : ℕ) (refusal : Option Bad)
      → HasEntry (table_in s.cells File files) e → SameSpace P s t refusal
      → IfDone refusal (number_in 4 t.cells (entry_place File files e + 0x1C) ≡ start)
      → IfDone refusal (number_in 8 t.cells (entry_place File files e + 0x1C + 4) ≡ wide)
      → IfDone refusal ((k : ℕ) → k < 12 → IsByte (t.cells (entry_place File files e + 0x1C + k)))
      → UnlessDisk refusal (ChangesWithin s (IsWithin (entry_place File files e + 0x1C) 12) t.cells)
      → IfDone refusal (AreFieldsSet s t dirs files e start wide)
  fields_done P p t e start wide None has space start_is wide_is bytes soft =
      let place : entry_place File files e + 0x1C + 4 ≡ entry_place File files e + 0x20 = omega arith in
      fields_are_set t e start wide has (record { shape = space.shape; told = space.told p; twins = space.twins p })
      soft
      bytes start_is (rw place at wide_is)
  fields_done P p t e start wide (Some bad) has space start_is wide_is bytes soft = tt

pub fields_outside : (s : State) (dirs files : TableInfo) (e len : ℕ) → len ≡ s.shape.size
    → len < entry_place File files e + entry_size File
    → ¬ (CanChangeTables s dirs files × HasEntry (table_in s.cells File files) e)
fields_outside s dirs files e len long outside (can, has) =
    omega (arith, long, outside, (can.tells File).entries (can.counts File) e has.below)

-- where its entry does not lie in the space, tables that may be changed have no such word
pub word_outside : (s : State) (dirs files : TableInfo) (word : Word) (len : ℕ) → HasEntryTables s.shape dirs files
    → len ≡ s.shape.size → ¬ WordFits len dirs files word
    → ¬ (CanChangeTables s dirs files × HasWord (tables_in s.cells dirs files) word)
word_outside s dirs files word len tables long outside (can, has) =
    outside (rw long (word_fits s dirs files tables can word has))

-- a word that was read is the one of the tables
pub word_read : (cells : ℕ → Cell) (dirs files : TableInfo) (word : Word) → HasWord (tables_in cells dirs files) word
    → number_in 4 cells (word_place dirs files word) ≡ word_of (tables_in cells dirs files) word
word_read cells dirs files (Head kind bucket) has = head_there cells kind (info_of dirs files kind) bucket has
word_read cells dirs files (Link kind e) has = link_there cells kind (info_of dirs files kind) e has
word_read cells dirs files (Sibling kind e) has =
    sym (field_there (table_in cells kind (info_of dirs files kind)) e
    (number_in 4 cells (entry_place kind (info_of dirs files kind) e + 0x14)) 0 has)
word_read cells dirs files (First kind dir) has =
    sym (field_there (table_in cells Dir dirs) dir (number_in 4 cells
    (entry_place Dir dirs dir + child_offset kind)) 0 has)
word_read cells dirs files (Count kind) has = refl

-- What one word more does to tables: that word alone is another.
use Rattle.std.proofs.Common.{◌≡◌, ◌≢◌, ℕ, ◌+◌, ◌<◌, ◌≤◌, nat_lt, Bool, true, false, if◌then◌else◌, []}
use Rattle.std.proofs.Common.{refl, sym, arith, ⊎_elim}
use Rattle.std.proofs.Math.Path.{fun_ext}
use Rattle.std.proofs.lemmas.Bool.{cases_eq, ltb-true, eq-eqb, ne_eqb, and_parts}
use Rattle.save_bytes.specs.Cells.{Cell}
use Rattle.save_bytes.specs.CellNumbers.{bytes_in, number_in}
use Rattle.save_bytes.specs.State.{State}
use Rattle.save_bytes.specs.Writes.{IsWithin}
use Rattle.save_bytes.specs.Within.{ChangesWithin}
use Rattle.entry_tables.specs.declared.table.EntryKind.{EntryKind}
use Rattle.entry_tables.specs.declared.table.EntryKind.TheVariants.{Dir, File}
use Rattle.entry_tables.specs.declared.table.TableInfo.{TableInfo}
use Rattle.entry_tables.specs.Kinds.{entry_size, link_offset, child_offset}
use Rattle.entry_tables.specs.Tables.{Table, Tables, most_in, is_entry, entry_place, bucket_place, table_in}
use Rattle.entry_tables.specs.Tables.{info_of, tables_in}
use Rattle.entry_tables.specs.Layout.{HasEntryTables}
use Rattle.entry_tables.specs.Words.{with_at, at_kind}
use Rattle.entry_tables.specs.Changes.{Area, EntriesOf, BucketsOf, CanChangeTables}
use Rattle.entry_tables.proofs.EntryLemmas.{link_last, entry_long, least_some}
use Rattle.entry_tables.proofs.ValueLemmas.{IsRunIn, entry_run, bucket_run, number_kept, bytes_kept}

-- two tables have the same fields
pub record SameFields (one other : Table) : Type 0 where
  pub count : one.count ≡ other.count
  pub most : one.most ≡ other.most
  pub buckets : one.buckets ≡ other.buckets
  pub head : (b : ℕ) → one.head b ≡ other.head b
  pub parent : (e : ℕ) → one.parent e ≡ other.parent e
  pub name : (e : ℕ) → one.name e ≡ other.name e
  pub sibling : (e : ℕ) → one.sibling e ≡ other.sibling e
  pub link : (e : ℕ) → one.link e ≡ other.link e

-- then they are the same
pub fields_same : (one other : Table) → SameFields one other → one ≡ other
fields_same one other same = λ i. record {
  count = same.count i;
  most = same.most i;
  buckets = same.buckets i;
  head = fun_ext same.head i;
  parent = fun_ext same.parent i;
  name = fun_ext same.name i;
  sibling = fun_ext same.sibling i;
  link = fun_ext same.link i;
}

pub tables_same : (one other : Tables) → ((kind : EntryKind) → one.table kind ≡ other.table kind)
    → ((kind : EntryKind) (dir : ℕ) → one.first kind dir ≡ other.first kind dir)
    → ((e : ℕ) → one.start e ≡ other.start e) → ((e : ℕ) → one.wide e ≡ other.wide e) → one ≡ other
tables_same one other table first start wide = λ i. record {
  table = fun_ext table i;
  first = fun_ext (λ kind. fun_ext (first kind)) i;
  start = fun_ext start i;
  wide = fun_ext wide i;
}

-- a value at one number, and the others
pub with_at-reads : {A : Type 0} (e x : ℕ) (value : A) (f : ℕ → A) (read : A) → (x ≡ e → read ≡ value)
    → (x ≢ e → read ≡ f x) → read ≡ with_at e value f x
with_at-reads e x value f read here there =
    ⊎_elim
    (λ (same : x ≡ e). rw (eq-eqb x e same) (here same))
    (λ (differs : x ≢ e). rw (ne_eqb x e differs) (there differs))
    (cases_eq x e)

-- a value at one kind, and the other
pub at_kind-reads : {A : Type 0} (P : EntryKind → A → Type 0) (kind : EntryKind) (value : A) (f : EntryKind → A)
    → P kind value → ((other : EntryKind) → kind ≢ other → P other (f other))
    → (other : EntryKind) → P other (at_kind kind value f other)
at_kind-reads P Dir value f here there Dir = here
at_kind-reads P Dir value f here there File = there File (λ same. cc)
at_kind-reads P File value f here there Dir = there Dir (λ same. cc)
at_kind-reads P File value f here there File = here

-- a field that is read where there is an entry
read_same : {A : Type 0} (here : Bool) (none new old : A) → (here ≡ true → new ≡ old)
    → (if here then new else none) ≡ (if here then old else none)
read_same true none new old same = same refl
read_same false none new old same = refl

pub child_inside : (kind : EntryKind) → child_offset kind + 4 ≤ entry_size Dir
child_inside Dir = omega arith
child_inside File = omega arith

-- a part of an entry is not among n places of an area that are written
abbrev pub Misses : TableInfo → TableInfo → Area → ℕ → ℕ → EntryKind → ℕ → ℕ → ℕ → Type 0
Misses dirs files area at n kind e offset m = area ≡ EntriesOf kind → (k : ℕ) → k < m
    → ¬ IsWithin at n (entry_place kind (info_of dirs files kind) e + offset + k)

-- nor is a bucket
abbrev pub HeadMisses : TableInfo → TableInfo → Area → ℕ → ℕ → EntryKind → ℕ → Type 0
HeadMisses dirs files area at n kind b = area ≡ BucketsOf kind → (k : ℕ) → k < 4
    → ¬ IsWithin at n (bucket_place (info_of dirs files kind) b + k)

module _ (s : State) (dirs files : TableInfo) (tables : HasEntryTables s.shape dirs files)
    (can : CanChangeTables s dirs files) where
  -- entry 0 is below the most
  pub some_most : (kind : EntryKind) → 0 < most_in s.cells (info_of dirs files kind)
  some_most kind = omega (
    arith,
    least_some kind,
    (can.tells kind).least (can.counts kind),
    (can.tells kind).most (can.counts kind),
  )

  entry_below : (kind : EntryKind) (e : ℕ) → is_entry (most_in s.cells (info_of dirs files kind)) e ≡ true
      → e < most_in s.cells (info_of dirs files kind)
  entry_below kind e here =
      ltb-true e (most_in s.cells (info_of dirs files kind))
      (and_parts (nat_lt 0 e) (nat_lt e (most_in s.cells (info_of dirs files kind))) here).1

  -- some places were written of an area: what is read elsewhere is as it was
  module _ (area : Area) (at n : ℕ) (run : IsRunIn s.cells dirs files area at n) (new : ℕ → Cell)
      (soft : ChangesWithin s (IsWithin at n) new) where
    part_kept : (kind : EntryKind) (e offset m place : ℕ) → e < most_in s.cells (info_of dirs files kind)
        → offset + m ≤ entry_size kind → place ≡ entry_place kind (info_of dirs files kind) e + offset
        → Misses dirs files area at n kind e offset m → number_in m new place ≡ number_in m s.cells place
    part_kept kind e offset m place below fits there misses =
        number_kept s dirs files tables can area at n run new soft (EntriesOf kind) place m
        (entry_run s dirs files tables can kind e offset m place below fits there) (rw (sym there) at misses)

    name_kept : (kind : EntryKind) (e : ℕ) → e < most_in s.cells (info_of dirs files kind)
        → Misses dirs files area at n kind e 4 16
        → bytes_in new (entry_place kind (info_of dirs files kind) e + 4) 16
        ≡ bytes_in s.cells (entry_place kind (info_of dirs files kind) e + 4) 16
    name_kept kind e below misses =
        bytes_kept s dirs files tables can area at n run new soft (EntriesOf kind)
        (entry_place kind (info_of dirs files kind) e + 4) 16
        (entry_run s dirs files tables can kind e 4 16 (entry_place kind (info_of dirs files kind) e + 4) below
        (omega (arith, entry_long kind)) refl) misses

    pub count_kept : (kind : EntryKind) → Misses dirs files area at n kind 0 0 4
        → (table_in new kind (info_of dirs files kind)).count ≡ (table_in s.cells kind (info_of dirs files kind)).count
    count_kept kind misses =
        part_kept kind 0 0 4 (info_of dirs files kind).table_at (some_most kind) (omega (arith, entry_long kind))
        (omega arith) misses

    module _ (quiet : (kind : EntryKind) → Misses dirs files area at n kind 0 4 4) where
      pub most_kept : (kind : EntryKind) → most_in new (info_of dirs files kind)
          ≡ most_in s.cells (info_of dirs files kind)
      most_kept kind =
          part_kept kind 0 4 4 ((info_of dirs files kind).table_at + 4) (some_most kind)
          (omega (arith, entry_long kind)) (omega arith) (quiet kind)

      -- a field that is read where there is an entry
      field_kept : {A : Type 0} (kind : EntryKind) (e : ℕ) (none new_value old_value : A)
          → (e < most_in s.cells (info_of dirs files kind) → new_value ≡ old_value)
          → (if is_entry (most_in new (info_of dirs files kind)) e then new_value else none)
          ≡ (if is_entry (most_in s.cells (info_of dirs files kind)) e then old_value else none)
      field_kept kind e none new_value old_value same =
          rw (most_kept kind)
          (read_same (is_entry (most_in s.cells (info_of dirs files kind)) e) none new_value old_value
          (λ here. same (entry_below kind e here)))

      pub head_kept : (kind : EntryKind) (b : ℕ) → HeadMisses dirs files area at n kind b
          → (table_in new kind (info_of dirs files kind)).head b
          ≡ (table_in s.cells kind (info_of dirs files kind)).head b
      head_kept kind b misses =
          read_same (nat_lt b (info_of dirs files kind).buckets) 0
          (number_in 4 new (bucket_place (info_of dirs files kind) b))
          (number_in 4 s.cells (bucket_place (info_of dirs files kind) b))
          (λ here. number_kept s dirs files tables can area at n run new soft (BucketsOf kind)
          (bucket_place (info_of dirs files kind) b) 4
          (bucket_run s dirs files tables can kind b (ltb-true b (info_of dirs files kind).buckets here)) misses)

      pub parent_kept : (kind : EntryKind) (e : ℕ) → Misses dirs files area at n kind e 0 4
          → (table_in new kind (info_of dirs files kind)).parent e
          ≡ (table_in s.cells kind (info_of dirs files kind)).parent e
      parent_kept kind e misses =
          field_kept kind e 0 (number_in 4 new (entry_place kind (info_of dirs files kind) e))
          (number_in 4 s.cells (entry_place kind (info_of dirs files kind) e))
          (λ below. part_kept kind e 0 4 (entry_place kind (info_of dirs files kind) e) below
          (omega (arith, entry_long kind)) (omega arith) misses)

      pub names_kept : (kind : EntryKind) (e : ℕ) → Misses dirs files area at n kind e 4 16
          → (table_in new kind (info_of dirs files kind)).name e
          ≡ (table_in s.cells kind (info_of dirs files kind)).name e
      names_kept kind e misses =
          field_kept kind e [] (bytes_in new (entry_place kind (info_of dirs files kind) e + 4) 16)
          (bytes_in s.cells (entry_place kind (info_of dirs files kind) e + 4) 16)
          (λ below. name_kept kind e below misses)

      pub sibling_kept : (kind : EntryKind) (e : ℕ) → Misses dirs files area at n kind e 0x14 4
          → (table_in new kind (info_of dirs files kind)).sibling e
          ≡ (table_in s.cells kind (info_of dirs files kind)).sibling e
      sibling_kept kind e misses =
          field_kept kind e 0 (number_in 4 new (entry_place kind (info_of dirs files kind) e + 0x14))
          (number_in 4 s.cells (entry_place kind (info_of dirs files kind) e + 0x14))
          (λ below. part_kept kind e 0x14 4 (entry_place kind (info_of dirs files kind) e + 0x14) below
          (omega (arith, entry_long kind)) refl misses)

      pub link_kept : (kind : EntryKind) (e : ℕ) → Misses dirs files area at n kind e (link_offset kind) 4
          → (table_in new kind (info_of dirs files kind)).link e
          ≡ (table_in s.cells kind (info_of dirs files kind)).link e
      link_kept kind e misses =
          rw (most_kept kind)
          (read_same (nat_lt e (most_in s.cells (info_of dirs files kind))) 0
          (number_in 4 new (entry_place kind (info_of dirs files kind) e + link_offset kind))
          (number_in 4 s.cells (entry_place kind (info_of dirs files kind) e + link_offset kind))
          (λ here. part_kept kind e (link_offset kind) 4 (entry_place kind
          (info_of dirs files kind) e + link_offset kind)
          (ltb-true e (most_in s.cells (info_of dirs files kind)) here) (omega (arith, link_last kind)) refl misses))

      pub first_kept : (kind : EntryKind) (dir : ℕ) → Misses dirs files area at n Dir dir (child_offset kind) 4
          → (tables_in new dirs files).first kind dir ≡ (tables_in s.cells dirs files).first kind dir
      first_kept kind dir misses =
          field_kept Dir dir 0 (number_in 4 new (entry_place Dir dirs dir + child_offset kind))
          (number_in 4 s.cells (entry_place Dir dirs dir + child_offset kind))
          (λ below. part_kept Dir dir (child_offset kind) 4 (entry_place Dir dirs dir + child_offset kind) below
          (child_inside kind) refl misses)

      pub start_kept : (e : ℕ) → Misses dirs files area at n File e 0x1C 4
          → (tables_in new dirs files).start e ≡ (tables_in s.cells dirs files).start e
      start_kept e misses =
          field_kept File e 0 (number_in 4 new (entry_place File files e + 0x1C))
          (number_in 4 s.cells (entry_place File files e + 0x1C))
          (λ below. part_kept File e 0x1C 4 (entry_place File files e + 0x1C) below (omega arith) refl misses)

      pub wide_kept : (e : ℕ) → Misses dirs files area at n File e 0x20 8
          → (tables_in new dirs files).wide e ≡ (tables_in s.cells dirs files).wide e
      wide_kept e misses =
          field_kept File e 0 (number_in 8 new (entry_place File files e + 0x20))
          (number_in 8 s.cells (entry_place File files e + 0x20))
          (λ below. part_kept File e 0x20 8 (entry_place File files e + 0x20) below (omega arith) refl misses)

-- Tables whose cells have softened are the same.
use Rattle.std.proofs.Common.{◌≡◌, ℕ, ◌+◌, ◌<◌, ◌≤◌, Bool, true, false, List, [], refl, ap}
use Rattle.std.proofs.Common.{subst, ◌∙◌, arith, nat_lt, if◌then◌else◌}
use Rattle.std.proofs.lemmas.Bool.{and_parts, ltb-true}
use Rattle.save_bytes.specs.Fields.{number_at}
use Rattle.save_bytes.specs.Cells.{Cell}
use Rattle.save_bytes.specs.CellNumbers.{value_of, bytes_in, number_in}
use Rattle.entry_tables.specs.declared.table.EntryKind.{EntryKind}
use Rattle.entry_tables.specs.declared.table.EntryKind.TheVariants.{Dir, File}
use Rattle.entry_tables.specs.declared.table.TableInfo.{TableInfo}
use Rattle.entry_tables.specs.Kinds.{entry_size, link_offset, child_offset}
use Rattle.entry_tables.specs.Tables.{entry_place, bucket_place, most_in, is_entry, table_in, tables_in}
use Rattle.entry_tables.specs.Tables.{info_of}
use Rattle.entry_tables.specs.Layout.{IsOfTable}
use Rattle.entry_tables.proofs.ValueLemmas.{bytes_in-values}
use Rattle.entry_tables.proofs.EntryLemmas.{entry_long, link_last}
use Rattle.entry_tables.specs.Layout.IsOfTable.{InZero, InEntry, InBucket}

-- cells with the same values, of a range
pub bytes_between : (cells new : ℕ → Cell) (at n : ℕ)
    → ((x : ℕ) → at ≤ x → x < at + n → value_of (new x) ≡ value_of (cells x)) → bytes_in new at n ≡ bytes_in cells at n
bytes_between cells new at n same =
    bytes_in-values new cells at n (λ k less. same (at + k) (omega arith) (omega (arith, less)))

pub number_between : (n : ℕ) (cells new : ℕ → Cell) (at : ℕ)
    → ((x : ℕ) → at ≤ x → x < at + n → value_of (new x) ≡ value_of (cells x))
    → number_in n new at ≡ number_in n cells at
number_between n cells new at same = ap (λ (l : List ℕ). number_at n l 0) (bytes_between cells new at n same)

-- where a test passes
if_same : {A : Type 0} (test : Bool) (x y none : A) → (test ≡ true → x ≡ y)
    → (if test then x else none) ≡ (if test then y else none)
if_same true x y none same = same refl
if_same false x y none same = refl

-- where the values of a table's cells are the same
module _ (kind : EntryKind) (info : TableInfo) (cells new : ℕ → Cell)
    (same : (x : ℕ) → IsOfTable kind info (table_in cells kind info) x → value_of (new x) ≡ value_of (cells x)) where
  zero_same : (n from : ℕ) → from + n ≤ 8 → number_in n new (info.table_at + from) ≡ number_in n cells
      (info.table_at + from)
  zero_same n from fits = number_between n cells new (info.table_at + from) (λ x low high.
      (same x (InZero (record
      { from = omega (arith, low); before = zero_long kind x (omega (arith, high, fits)) })))) where
        zero_long : (kind : EntryKind) (x : ℕ) → x < info.table_at + 8 → x < info.table_at + entry_size kind
        zero_long Dir x less = omega (arith, less)
        zero_long File x less = omega (arith, less)

  count_same : number_in 4 new info.table_at ≡ number_in 4 cells info.table_at
  count_same = subst (λ (at : ℕ). number_in 4 new at ≡ number_in 4 cells at) (add_zero info.table_at)
      (zero_same 4 0 (omega arith)) where
        add_zero : (n : ℕ) → n + 0 ≡ n
        add_zero n = omega arith

  most_same : most_in new info ≡ most_in cells info
  most_same = zero_same 4 4 (omega arith)

  head_same : (b : ℕ) → (table_in new kind info).head b ≡ (table_in cells kind info).head b
  head_same b = if_same (nat_lt b info.buckets) _ _ 0 (λ below.
      number_between 4 cells new (bucket_place info b) (λ x low high.
      same x (InBucket b (ltb-true _ _ below) (record { from = low; before = high }))))

  -- a field of an entry, n bytes from some place in it on
  field_same : (e from n : ℕ) → from + n ≤ entry_size kind → e < most_in cells info
      → (x : ℕ) → entry_place kind info e + from ≤ x → x < entry_place kind info e + from + n
      → value_of (new x) ≡ value_of (cells x)
  field_same e from n fits below x low high =
      same x (InEntry e below (record { from = omega (arith, low); before = omega (arith, high, fits) }))

  is_below : (e : ℕ) → is_entry (most_in cells info) e ≡ true → e < most_in cells info
  is_below e is = let both = and_parts _ _ is in ltb-true _ _ both.1

  field_is : {A : Type 0} (e : ℕ) (later before none : A) → (e < most_in cells info → later ≡ before)
      → (if is_entry (most_in new info) e then later else none) ≡
      (if is_entry (most_in cells info) e then before else none)
  field_is e later before none is =
      ap (λ (most : ℕ). if is_entry most e then later else none) most_same
      ∙ if_same (is_entry (most_in cells info) e) later before none (λ passes. is (is_below e passes))

  number_is : (n e from : ℕ) → from + n ≤ entry_size kind
      → (if is_entry (most_in new info) e then number_in n new (entry_place kind info e + from) else 0)
      ≡ (if is_entry (most_in cells info) e then number_in n cells (entry_place kind info e + from) else 0)
  number_is n e from fits = field_is e _ _ 0 (λ below. number_between n cells new (entry_place kind info e + from)
      (field_same e from n fits below))

  parent_same : (e : ℕ) → (table_in new kind info).parent e ≡ (table_in cells kind info).parent e
  parent_same e = field_is e _ _ 0 (λ below. number_between 4 cells new (entry_place kind info e) (λ x low high.
      field_same e 0 4 (omega (arith, entry_long kind)) below x (omega (arith, low)) (omega (arith, high))))

  name_same : (e : ℕ) → (table_in new kind info).name e ≡ (table_in cells kind info).name e
  name_same e = field_is e _ _ [] (λ below. bytes_between cells new (entry_place kind info e + 4) 16
      (field_same e 4 16 (omega (arith, entry_long kind)) below))

  link_same : (e : ℕ) → (table_in new kind info).link e ≡ (table_in cells kind info).link e
  link_same e =
      ap (λ (most : ℕ). if nat_lt e most then number_in 4 new
      (entry_place kind info e + link_offset kind) else 0) most_same
      ∙ if_same (nat_lt e (most_in cells info)) _ _ 0 (λ below.
      number_between 4 cells new (entry_place kind info e + link_offset kind)
      (field_same e (link_offset kind) 4 (omega (arith, link_last kind)) (ltb-true _ _ below)))

  pub table_same : table_in new kind info ≡ table_in cells kind info
  table_same = λ i. record {
    count = count_same i;
    most = most_same i;
    buckets = info.buckets;
    head = λ b. head_same b i;
    parent = λ e. parent_same e i;
    name = λ e. name_same e i;
    sibling = λ e. number_is 4 e 0x14 (omega (arith, entry_long kind)) i;
    link = λ e. link_same e i;
  }

module _ (dirs files : TableInfo) (cells new : ℕ → Cell)
    (same : (kind : EntryKind) (x : ℕ)
    → IsOfTable kind (info_of dirs files kind) (table_in cells kind (info_of dirs files kind)) x
    → value_of (new x) ≡ value_of (cells x)) where
  child_inside : (kind : EntryKind) → child_offset kind + 4 ≤ entry_size Dir
  child_inside Dir = omega arith
  child_inside File = omega arith

  -- both tables are the same
  pub tables_same : tables_in new dirs files ≡ tables_in cells dirs files
  tables_same = λ i. record {
    table = λ kind. table_same kind (info_of dirs files kind) cells new (same kind) i;
    first = λ kind d. number_is Dir dirs cells new (same Dir) 4 d (child_offset kind) (child_inside kind) i;
    start = λ e. number_is File files cells new (same File) 4 e 0x1C (omega arith) i;
    wide = λ e. number_is File files cells new (same File) 8 e 0x20 (omega arith) i;
  }

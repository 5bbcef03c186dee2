-- What a put of a whole entry makes of the tables.
use Rattle.std.proofs.Common.{◌≡◌, ◌≢◌, ℕ, ◌+◌, ◌^◌, ◌<◌, ◌≤◌, if◌then◌else◌, List, [], ◌++◌, length, replicate}
use Rattle.std.proofs.Common.{take, drop, Option, Some, None, refl, sym, ◌∙◌, ap, subst, arith, append_assoc}
use Rattle.std.proofs.Common.{length-append}
use Rattle.std.proofs.lemmas.List.{length-replicate}
use Rattle.byteorder.specs.Endian.{little_bytes}
use Rattle.save_bytes.specs.declared.space.Bad.{Bad}
use Rattle.save_bytes.specs.Fields.{number_at}
use Rattle.save_bytes.specs.Cells.{Cell, IsByte, AreBytesAt}
use Rattle.save_bytes.specs.CellNumbers.{bytes_in, number_in}
use Rattle.save_bytes.specs.State.{State, CanPut}
use Rattle.save_bytes.specs.Stays.{SameSpace}
use Rattle.save_bytes.specs.Refusals.{IfDone, UnlessDisk}
use Rattle.save_bytes.specs.Writes.{IsWithin}
use Rattle.save_bytes.specs.Within.{ChangesWithin}
use Rattle.entry_tables.specs.declared.table.EntryKind.{EntryKind}
use Rattle.entry_tables.specs.declared.table.EntryKind.TheVariants.{Dir, File}
use Rattle.entry_tables.specs.declared.table.TableInfo.{TableInfo}
use Rattle.entry_tables.specs.Kinds.{entry_size, link_offset, child_offset}
use Rattle.entry_tables.specs.Tables.{HasEntry, most_in, is_entry, entry_place, table_in, tables_in, info_of}
use Rattle.entry_tables.specs.Layout.{HasEntryTables}
use Rattle.entry_tables.specs.Changes.{EntriesOf, CanChangeTables}
use Rattle.entry_tables.proofs.ByteLemmas.{field_is, part_is}
use Rattle.entry_tables.proofs.EntryLemmas.{link_last, entry_long, field_there, link_there}
use Rattle.save_bytes.proofs.FieldLemmas.{number_at-append}
use Rattle.entry_tables.proofs.ValueLemmas.{IsRunIn, entry_run, can_put_run}
use Rattle.entry_tables.proofs.WordLemmas.{fields_same, tables_same, with_at-reads, at_kind-reads, Misses, child_inside}
use Rattle.entry_tables.proofs.WordLemmas.{count_kept, most_kept, head_kept, parent_kept, names_kept, sibling_kept}
use Rattle.entry_tables.proofs.WordLemmas.{link_kept, first_kept, start_kept, wide_kept}
use Rattle.entry_tables.proofs.SetLemmas.{part_misses, still}
use Rattle.entry_additions.specs.declared.entry.NewEntry.{NewEntry}
use Rattle.entry_additions.specs.declared.entry.NewPlace.{NewPlace}
use Rattle.entry_additions.specs.Added.{firsts_new, field_new, table_put, tables_put}
use Rattle.entry_additions.specs.Images.{written_entry}
use Rattle.entry_additions.specs.Puts.{IsEntryPut}
use Rattle.entry_additions.proofs.ImageLemmas.{number_last, zero_last, piece_within}

-- the numbers of a new entry fit their fields
pub record FitsEntry (new : NewEntry) (sibling link : ℕ) : Type 0 where
  pub parent : new.parent < 256 ^ 4
  pub name : length new.name.0 ≡ 16
  pub start : new.fields.start < 256 ^ 4
  pub wide : new.fields.wide < 256 ^ 8
  pub sibling_fits : sibling < 256 ^ 4
  pub link_fits : link < 256 ^ 4

-- the fields in the bytes of a new entry
pub record HasFields (kind : EntryKind) (new : NewEntry) (sibling link : ℕ) (bytes : List ℕ) : Type 0 where
  pub long : length bytes ≡ entry_size kind
  pub parent : number_at 4 bytes 0 ≡ new.parent
  pub name : take 16 (drop 4 bytes) ≡ new.name.0
  pub next : number_at 4 bytes 0x14 ≡ sibling
  pub first : kind ≡ Dir → (child : EntryKind) → number_at 4 bytes (child_offset child) ≡ 0
  pub start : kind ≡ File → number_at 4 bytes 0x1C ≡ new.fields.start
  pub wide : kind ≡ File → number_at 8 bytes 0x20 ≡ new.fields.wide
  pub last : number_at 4 bytes (link_offset kind) ≡ link

module _ (new : NewEntry) (sibling link : ℕ) (fits : FitsEntry new sibling link) where
  -- the list as it grows
  begun : length (little_bytes 4 new.parent ++ new.name.0) ≡ 20
  begun = omega (arith, length-append (little_bytes 4 new.parent) new.name.0, fits.name)

  head_long : length (little_bytes 4 new.parent ++ new.name.0 ++ little_bytes 4 sibling) ≡ 24
  head_long =
      omega (arith, length-append (little_bytes 4 new.parent ++ new.name.0) (little_bytes 4 sibling), begun)

  -- what its first fields are, whatever comes behind
  parent_first : (ys : List ℕ)
      → number_at 4 (little_bytes 4 new.parent ++ new.name.0 ++ little_bytes 4 sibling ++ ys) 0 ≡ new.parent
  parent_first ys =
      number_at-append 4 (little_bytes 4 new.parent ++ new.name.0 ++ little_bytes 4 sibling) ys 0
      (omega (arith, head_long))
      ∙ number_at-append 4 (little_bytes 4 new.parent ++ new.name.0) (little_bytes 4 sibling) 0 (omega (arith, begun))
      ∙ number_at-append 4 (little_bytes 4 new.parent) new.name.0 0 (omega arith)
      ∙ number_last 4 new.parent [] 0 refl fits.parent

  name_first : (ys : List ℕ)
      → take 16 (drop 4 (little_bytes 4 new.parent ++ new.name.0 ++ little_bytes 4 sibling ++ ys)) ≡ new.name.0
  name_first ys =
      ap (λ (l : List ℕ). take 16 (drop 4 l))
      (append_assoc (little_bytes 4 new.parent ++ new.name.0) (little_bytes 4 sibling) ys)
      ∙ piece_within (little_bytes 4 new.parent) new.name.0 (little_bytes 4 sibling ++ ys) 4 16 refl (sym fits.name)

  sibling_first : (ys : List ℕ)
      → number_at 4 (little_bytes 4 new.parent ++ new.name.0 ++ little_bytes 4 sibling ++ ys) 0x14 ≡ sibling
  sibling_first ys =
      number_at-append 4 (little_bytes 4 new.parent ++ new.name.0 ++ little_bytes 4 sibling) ys 0x14
      (omega (arith, head_long))
      ∙ number_last 4 sibling (little_bytes 4 new.parent ++ new.name.0) 0x14 (omega (arith, begun)) fits.sibling_fits

  -- a directory's
  zeros_long : length (little_bytes 4 new.parent ++ new.name.0 ++ little_bytes 4 sibling ++ replicate 12 0) ≡ 36
  zeros_long = omega (
    arith,
    head_long,
    length-replicate {A = ℕ} 12 0,
    length-append (little_bytes 4 new.parent ++ new.name.0 ++ little_bytes 4 sibling) (replicate 12 0),
  )

  dir_group : written_entry Dir new sibling link ≡ little_bytes 4 new.parent ++ new.name.0 ++ little_bytes 4 sibling
      ++ (replicate 12 0 ++ little_bytes 4 link)
  dir_group = append_assoc (little_bytes 4 new.parent ++ new.name.0 ++ little_bytes 4 sibling) (replicate 12 0)
      (little_bytes 4 link)

  no_entries : (child : EntryKind) → number_at 4 (written_entry Dir new sibling link) (child_offset child) ≡ 0
  no_entries Dir =
      number_at-append 4 (little_bytes 4 new.parent ++ new.name.0 ++ little_bytes 4 sibling ++ replicate 12 0)
      (little_bytes 4 link) 0x18 (omega (arith, zeros_long))
      ∙ zero_last 12 (little_bytes 4 new.parent ++ new.name.0 ++ little_bytes 4 sibling) 0x18 0
      (omega (arith, head_long)) (omega arith)
  no_entries File =
      number_at-append 4 (little_bytes 4 new.parent ++ new.name.0 ++ little_bytes 4 sibling ++ replicate 12 0)
      (little_bytes 4 link) 0x1C (omega (arith, zeros_long))
      ∙ zero_last 12 (little_bytes 4 new.parent ++ new.name.0 ++ little_bytes 4 sibling) 0x1C 4
      (omega (arith, head_long)) (omega arith)

  dir_fields : HasFields Dir new sibling link (written_entry Dir new sibling link)
  dir_fields = record {
    long = omega (
      arith,
      zeros_long,
      length-append
          (little_bytes 4 new.parent ++ new.name.0 ++ little_bytes 4 sibling ++ replicate 12 0) (little_bytes 4 link),
    );
    parent = ap (λ (l : List ℕ). number_at 4 l 0) dir_group ∙ parent_first (replicate 12 0 ++ little_bytes 4 link);
    name = ap (λ (l : List ℕ). take 16 (drop 4 l)) dir_group ∙ name_first (replicate 12 0 ++ little_bytes 4 link);
    next = ap (λ (l : List ℕ). number_at 4 l 0x14) dir_group ∙ sibling_first (replicate 12 0 ++ little_bytes 4 link);
    first = λ is child. no_entries child;
    start = λ is. (cc);
    wide = λ is. (cc);
    last = number_last 4 link
        (little_bytes 4 new.parent ++ new.name.0 ++ little_bytes 4 sibling ++ replicate 12 0) 0x24
        (omega (arith, zeros_long)) fits.link_fits;
  }

  -- a file's
  gap_long : length (little_bytes 4 new.parent ++ new.name.0 ++ little_bytes 4 sibling ++ replicate 4 0) ≡ 28
  gap_long = omega (
    arith,
    head_long,
    length-replicate {A = ℕ} 4 0,
    length-append (little_bytes 4 new.parent ++ new.name.0 ++ little_bytes 4 sibling) (replicate 4 0),
  )

  start_long : length (little_bytes 4 new.parent ++ new.name.0 ++ little_bytes 4 sibling ++ replicate 4 0
      ++ little_bytes 4 new.fields.start) ≡ 32
  start_long = omega (
    arith,
    gap_long,
    length-append
        (little_bytes 4 new.parent ++ new.name.0 ++ little_bytes 4 sibling ++ replicate 4 0)
        (little_bytes 4 new.fields.start),
  )

  wide_long : length (little_bytes 4 new.parent ++ new.name.0 ++ little_bytes 4 sibling ++ replicate 4 0
      ++ little_bytes 4 new.fields.start ++ little_bytes 8 new.fields.wide) ≡ 40
  wide_long = omega (
    arith,
    start_long,
    length-append
        (little_bytes 4 new.parent ++ new.name.0 ++ little_bytes 4 sibling ++ replicate 4 0
        ++ little_bytes 4 new.fields.start) (little_bytes 8 new.fields.wide),
  )

  last_long : length (little_bytes 4 new.parent ++ new.name.0 ++ little_bytes 4 sibling ++ replicate 4 0
      ++ little_bytes 4 new.fields.start ++ little_bytes 8 new.fields.wide ++ replicate 4 0) ≡ 44
  last_long = omega (
    arith,
    wide_long,
    length-replicate {A = ℕ} 4 0,
    length-append
        (little_bytes 4 new.parent ++ new.name.0 ++ little_bytes 4 sibling ++ replicate 4 0
        ++ little_bytes 4 new.fields.start ++ little_bytes 8 new.fields.wide) (replicate 4 0),
  )

  file_group : written_entry File new sibling link ≡ little_bytes 4 new.parent ++ new.name.0 ++ little_bytes 4 sibling
      ++ (replicate 4 0 ++ (little_bytes 4 new.fields.start ++ (little_bytes 8 new.fields.wide
      ++ (replicate 4 0 ++ little_bytes 4 link))))
  file_group =
      append_assoc (little_bytes 4 new.parent ++ new.name.0 ++ little_bytes 4 sibling ++ replicate 4 0
      ++ little_bytes 4 new.fields.start ++ little_bytes 8 new.fields.wide) (replicate 4 0) (little_bytes 4 link)
      ∙ append_assoc (little_bytes 4 new.parent ++ new.name.0 ++ little_bytes 4 sibling ++ replicate 4 0
      ++ little_bytes 4 new.fields.start) (little_bytes 8 new.fields.wide) (replicate 4 0 ++ little_bytes 4 link)
      ∙ append_assoc (little_bytes 4 new.parent ++ new.name.0 ++ little_bytes 4 sibling ++ replicate 4 0)
      (little_bytes 4 new.fields.start) (little_bytes 8 new.fields.wide ++ (replicate 4 0 ++ little_bytes 4 link))
      ∙ append_assoc (little_bytes 4 new.parent ++ new.name.0 ++ little_bytes 4 sibling) (replicate 4 0)
      (little_bytes 4 new.fields.start ++ (little_bytes 8 new.fields.wide ++ (replicate 4 0 ++ little_bytes 4 link)))

  start_there : number_at 4 (written_entry File new sibling link) 0x1C ≡ new.fields.start
  start_there =
      number_at-append 4 (little_bytes 4 new.parent ++ new.name.0 ++ little_bytes 4 sibling ++ replicate 4 0
      ++ little_bytes 4 new.fields.start ++ little_bytes 8 new.fields.wide ++ replicate 4 0) (little_bytes 4 link) 0x1C
      (omega (arith, last_long))
      ∙ number_at-append 4 (little_bytes 4 new.parent ++ new.name.0 ++ little_bytes 4 sibling ++ replicate 4 0
      ++ little_bytes 4 new.fields.start ++ little_bytes 8 new.fields.wide) (replicate 4 0) 0x1C
      (omega (arith, wide_long))
      ∙ number_at-append 4 (little_bytes 4 new.parent ++ new.name.0 ++ little_bytes 4 sibling ++ replicate 4 0
      ++ little_bytes 4 new.fields.start) (little_bytes 8 new.fields.wide) 0x1C (omega (arith, start_long))
      ∙ number_last 4 new.fields.start
      (little_bytes 4 new.parent ++ new.name.0 ++ little_bytes 4 sibling ++ replicate 4 0) 0x1C
      (omega (arith, gap_long)) fits.start

  wide_there : number_at 8 (written_entry File new sibling link) 0x20 ≡ new.fields.wide
  wide_there =
      number_at-append 8 (little_bytes 4 new.parent ++ new.name.0 ++ little_bytes 4 sibling ++ replicate 4 0
      ++ little_bytes 4 new.fields.start ++ little_bytes 8 new.fields.wide ++ replicate 4 0) (little_bytes 4 link) 0x20
      (omega (arith, last_long))
      ∙ number_at-append 8 (little_bytes 4 new.parent ++ new.name.0 ++ little_bytes 4 sibling ++ replicate 4 0
      ++ little_bytes 4 new.fields.start ++ little_bytes 8 new.fields.wide) (replicate 4 0) 0x20
      (omega (arith, wide_long))
      ∙ number_last 8 new.fields.wide
      (little_bytes 4 new.parent ++ new.name.0 ++ little_bytes 4 sibling ++ replicate 4 0
      ++ little_bytes 4 new.fields.start) 0x20 (omega (arith, start_long)) fits.wide

  file_fields : HasFields File new sibling link (written_entry File new sibling link)
  file_fields =
      let rest = replicate 4 0 ++ (little_bytes 4 new.fields.start ++ (little_bytes 8 new.fields.wide
      ++ (replicate 4 0 ++ little_bytes 4 link))) in
      record {
        long = omega (
          arith,
          last_long,
          length-append
              (little_bytes 4 new.parent ++ new.name.0 ++ little_bytes 4 sibling ++ replicate 4 0
              ++ little_bytes 4 new.fields.start ++ little_bytes 8 new.fields.wide ++ replicate 4 0)
              (little_bytes 4 link),
        );
        parent = ap (λ (l : List ℕ). number_at 4 l 0) file_group ∙ parent_first rest;
        name = ap (λ (l : List ℕ). take 16 (drop 4 l)) file_group ∙ name_first rest;
        next = ap (λ (l : List ℕ). number_at 4 l 0x14) file_group ∙ sibling_first rest;
        first = λ is child. (cc);
        start = λ is. start_there;
        wide = λ is. wide_there;
        last = number_last 4 link
            (little_bytes 4 new.parent ++ new.name.0 ++ little_bytes 4 sibling ++ replicate 4 0
            ++ little_bytes 4 new.fields.start ++ little_bytes 8 new.fields.wide ++ replicate 4 0) 0x2C
            (omega (arith, last_long)) fits.link_fits;
      }

pub written_fields : (kind : EntryKind) (new : NewEntry) (sibling link : ℕ) → FitsEntry new sibling link
    → HasFields kind new sibling link (written_entry kind new sibling link)
written_fields Dir new sibling link fits = dir_fields new sibling link fits
written_fields File new sibling link fits = file_fields new sibling link fits

-- a field of a new directory or file, and the others
firsts-reads : (kind : EntryKind) (e : ℕ) (first : EntryKind → ℕ → ℕ) (child : EntryKind) (x read : ℕ)
    → (kind ≡ Dir → x ≡ e → read ≡ 0) → ((kind ≡ Dir → x ≢ e) → read ≡ first child x)
    → read ≡ firsts_new kind e first child x
firsts-reads Dir e first child x read here there =
    with_at-reads e x 0 (first child) read (here refl) (λ differs. there (λ same. differs))
firsts-reads File e first child x read here there = there (λ same. (cc))

field-reads : (kind : EntryKind) (e value : ℕ) (f : ℕ → ℕ) (x read : ℕ) → (kind ≡ File → x ≡ e → read ≡ value)
    → ((kind ≡ File → x ≢ e) → read ≡ f x) → read ≡ field_new kind e value f x
field-reads Dir e value f x read here there = there (λ same. (cc))
field-reads File e value f x read here there =
    with_at-reads e x value f read (here refl) (λ differs. there (λ same. differs))

module _ (s : State) (dirs files : TableInfo) (tables : HasEntryTables s.shape dirs files)
    (can : CanChangeTables s dirs files) (kind : EntryKind) (e : ℕ)
    (has : HasEntry (table_in s.cells kind (info_of dirs files kind)) e) where
  whole_run : IsRunIn s.cells dirs files (EntriesOf kind) (entry_place kind (info_of dirs files kind) e + 0)
      (entry_size kind)
  whole_run = entry_run s dirs files tables can kind e 0 (entry_size kind)
      (entry_place kind (info_of dirs files kind) e + 0) has.below (omega arith) refl

  -- so a whole entry may be put
  pub entry_can_put : CanPut s (entry_place kind (info_of dirs files kind) e) (entry_size kind)
  entry_can_put =
      let place : entry_place kind (info_of dirs files kind) e + 0 ≡ entry_place kind (info_of dirs files kind) e =
      omega arith in
      subst (λ (x : ℕ). CanPut s x (entry_size kind)) place
      (can_put_run s dirs files tables can (EntriesOf kind) (entry_place kind (info_of dirs files kind) e + 0)
      (entry_size kind) whole_run)

  module _ (new : NewEntry) (sibling link : ℕ) (cells : ℕ → Cell) (bytes : List ℕ)
      (fields : HasFields kind new sibling link bytes)
      (are : AreBytesAt cells (entry_place kind (info_of dirs files kind) e) bytes)
      (soft : ChangesWithin s (IsWithin (entry_place kind (info_of dirs files kind) e + 0) (entry_size kind)) cells)
    where
      missed : (other : EntryKind) (f offset m : ℕ) → offset + m ≤ entry_size other → (kind ≡ other → f ≢ e)
          → Misses dirs files (EntriesOf kind) (entry_place kind (info_of dirs files kind) e + 0) (entry_size kind)
          other f offset m
      missed other f offset m inside differs =
          part_misses dirs files kind e 0 (entry_size kind) (omega arith) other f offset m inside
          (λ same is. absurd (differs same is))

      quiet : (other : EntryKind) → Misses dirs files (EntriesOf kind)
          (entry_place kind (info_of dirs files kind) e + 0) (entry_size kind) other 0 4 4
      quiet other = missed other 0 4 4 (omega (arith, entry_long other)) (λ same zero. omega (arith, zero, has.some))

      most_is : (other : EntryKind) → most_in cells (info_of dirs files other)
          ≡ most_in s.cells (info_of dirs files other)
      most_is = most_kept s dirs files tables can (EntriesOf kind) (entry_place kind (info_of dirs files kind) e + 0)
          (entry_size kind) whole_run cells soft quiet

      count_is : (other : EntryKind) → (table_in cells other (info_of dirs files other)).count
          ≡ (table_in s.cells other (info_of dirs files other)).count
      count_is other = count_kept s dirs files tables can (EntriesOf kind)
          (entry_place kind (info_of dirs files kind) e + 0) (entry_size kind) whole_run cells soft other
          (missed other 0 0 4 (omega (arith, entry_long other)) (λ same zero. omega (arith, zero, has.some)))

      head_is : (other : EntryKind) (b : ℕ) → (table_in cells other (info_of dirs files other)).head b
          ≡ (table_in s.cells other (info_of dirs files other)).head b
      head_is other b = head_kept s dirs files tables can (EntriesOf kind)
          (entry_place kind (info_of dirs files kind) e + 0) (entry_size kind) whole_run cells soft quiet other b
          (λ same. (cc))

      parent_is : (other : EntryKind) (f : ℕ) → (kind ≡ other → f ≢ e)
          → (table_in cells other (info_of dirs files other)).parent f
          ≡ (table_in s.cells other (info_of dirs files other)).parent f
      parent_is other f differs = parent_kept s dirs files tables can (EntriesOf kind)
          (entry_place kind (info_of dirs files kind) e + 0) (entry_size kind) whole_run cells soft quiet other f
          (missed other f 0 4 (omega (arith, entry_long other)) differs)

      name_is : (other : EntryKind) (f : ℕ) → (kind ≡ other → f ≢ e)
          → (table_in cells other (info_of dirs files other)).name f
          ≡ (table_in s.cells other (info_of dirs files other)).name f
      name_is other f differs = names_kept s dirs files tables can (EntriesOf kind)
          (entry_place kind (info_of dirs files kind) e + 0) (entry_size kind) whole_run cells soft quiet other f
          (missed other f 4 16 (omega (arith, entry_long other)) differs)

      sibling_is : (other : EntryKind) (f : ℕ) → (kind ≡ other → f ≢ e)
          → (table_in cells other (info_of dirs files other)).sibling f
          ≡ (table_in s.cells other (info_of dirs files other)).sibling f
      sibling_is other f differs = sibling_kept s dirs files tables can (EntriesOf kind)
          (entry_place kind (info_of dirs files kind) e + 0) (entry_size kind) whole_run cells soft quiet other f
          (missed other f 0x14 4 (omega (arith, entry_long other)) differs)

      link_is : (other : EntryKind) (f : ℕ) → (kind ≡ other → f ≢ e)
          → (table_in cells other (info_of dirs files other)).link f
          ≡ (table_in s.cells other (info_of dirs files other)).link f
      link_is other f differs = link_kept s dirs files tables can (EntriesOf kind)
          (entry_place kind (info_of dirs files kind) e + 0) (entry_size kind) whole_run cells soft quiet other f
          (missed other f (link_offset other) 4 (omega (arith, link_last other)) differs)

      -- a field of it is read where there is an entry
      field_put : {A : Type 0} (read value none : A) → read ≡ value
          → (if is_entry (most_in cells (info_of dirs files kind)) e then read else none) ≡ value
      field_put read value none is =
          rw (most_is kind) (field_there (table_in s.cells kind (info_of dirs files kind)) e read none has ∙ is)

      number_put_at : (n offset value : ℕ) → offset + n ≤ entry_size kind → number_at n bytes offset ≡ value
          → number_in n cells (entry_place kind (info_of dirs files kind) e + offset) ≡ value
      number_put_at n offset value inside is =
          sym (field_is n cells (entry_place kind (info_of dirs files kind) e) offset
          (entry_place kind (info_of dirs files kind) e + offset) bytes are
          (omega (arith, fields.long, inside)) refl) ∙ is

      parent_put : number_in 4 cells (entry_place kind (info_of dirs files kind) e) ≡ new.parent
      parent_put =
          sym (field_is 4 cells (entry_place kind (info_of dirs files kind) e) 0
          (entry_place kind (info_of dirs files kind) e) bytes are (omega (arith, fields.long, entry_long kind))
          (omega arith)) ∙ fields.parent

      name_put : bytes_in cells (entry_place kind (info_of dirs files kind) e + 4) 16 ≡ new.name.0
      name_put =
          sym (part_is 16 cells (entry_place kind (info_of dirs files kind) e) 4
          (entry_place kind (info_of dirs files kind) e + 4) bytes are
          (omega (arith, fields.long, entry_long kind)) refl)
          ∙ fields.name

      link_put : number_in 4 cells (entry_place kind (info_of dirs files kind) e + link_offset kind) ≡ link
      link_put = number_put_at 4 (link_offset kind) link (omega (arith, link_last kind)) fields.last

      other_table : (other : EntryKind) → kind ≢ other
          → table_in cells other (info_of dirs files other) ≡ table_in s.cells other (info_of dirs files other)
      other_table other differs = fields_same _ _ (record {
        count = count_is other;
        most = most_is other;
        buckets = refl;
        head = head_is other;
        parent = λ f. parent_is other f (λ same. absurd (differs same));
        name = λ f. name_is other f (λ same. absurd (differs same));
        sibling = λ f. sibling_is other f (λ same. absurd (differs same));
        link = λ f. link_is other f (λ same. absurd (differs same));
      })

      this_table : table_in cells kind (info_of dirs files kind)
          ≡ table_put (table_in s.cells kind (info_of dirs files kind)) e new sibling link
      this_table = fields_same _ _ (record {
        count = count_is kind;
        most = most_is kind;
        buckets = refl;
        head = head_is kind;
        parent = λ f. with_at-reads e f new.parent (table_in s.cells kind (info_of dirs files kind)).parent
            ((table_in cells kind (info_of dirs files kind)).parent f)
            (λ here. rw here (field_put (number_in 4 cells (entry_place kind (info_of dirs files kind) e)) new.parent 0
            parent_put))
            (λ differs. parent_is kind f (λ same. differs));
        name = λ f. with_at-reads e f new.name.0 (table_in s.cells kind (info_of dirs files kind)).name
            ((table_in cells kind (info_of dirs files kind)).name f)
            (λ here. rw here (field_put
            (bytes_in cells (entry_place kind (info_of dirs files kind) e + 4) 16) new.name.0 []
            name_put))
            (λ differs. name_is kind f (λ same. differs));
        sibling = λ f. with_at-reads e f sibling (table_in s.cells kind (info_of dirs files kind)).sibling
            ((table_in cells kind (info_of dirs files kind)).sibling f)
            (λ here. rw here (field_put
            (number_in 4 cells (entry_place kind (info_of dirs files kind) e + 0x14)) sibling 0
            (number_put_at 4 0x14 sibling (omega (arith, entry_long kind)) fields.next)))
            (λ differs. sibling_is kind f (λ same. differs));
        link = λ f. with_at-reads e f link (table_in s.cells kind (info_of dirs files kind)).link
            ((table_in cells kind (info_of dirs files kind)).link f)
            (λ here. rw here (sym (link_there cells kind (info_of dirs files kind) e
            (omega (arith, has.below, most_is kind))) ∙ link_put))
            (λ differs. link_is kind f (λ same. differs));
      })

      child_put : (child : EntryKind) → kind ≡ Dir → (dir : ℕ) → dir ≡ e
          → (tables_in cells dirs files).first child dir ≡ 0
      child_put child is dir here = rw here (at_dir is)
        where
          at_dir : kind ≡ Dir → (tables_in cells dirs files).first child e ≡ 0
          at_dir is =
              let size : child_offset child + 4 ≤ entry_size kind =
              subst (λ (k : EntryKind). child_offset child + 4 ≤ entry_size k) (sym is) (child_inside child) in
              let read : number_in 4 cells (entry_place kind (info_of dirs files kind) e + child_offset child) ≡ 0 =
              number_put_at 4 (child_offset child) 0 size (fields.first is child) in
              subst (λ (k : EntryKind). (if is_entry (most_in cells (info_of dirs files k)) e
              then number_in 4 cells (entry_place k (info_of dirs files k) e + child_offset child) else 0) ≡ 0) is
              (field_put
              (number_in 4 cells (entry_place kind (info_of dirs files kind) e + child_offset child)) 0 0 read)

      start_put : kind ≡ File → (f : ℕ) → f ≡ e → (tables_in cells dirs files).start f ≡ new.fields.start
      start_put is f here = rw here (at_file is)
        where
          at_file : kind ≡ File → (tables_in cells dirs files).start e ≡ new.fields.start
          at_file is =
              let size : 0x1C + 4 ≤ entry_size kind =
              subst (λ (k : EntryKind). 0x1C + 4 ≤ entry_size k) (sym is) (omega arith) in
              subst (λ (k : EntryKind). (if is_entry (most_in cells (info_of dirs files k)) e
              then number_in 4 cells (entry_place k (info_of dirs files k) e + 0x1C) else 0) ≡ new.fields.start) is
              (field_put (number_in 4 cells (entry_place kind (info_of dirs files kind) e + 0x1C)) new.fields.start 0
              (number_put_at 4 0x1C new.fields.start size (fields.start is)))

      wide_put : kind ≡ File → (f : ℕ) → f ≡ e → (tables_in cells dirs files).wide f ≡ new.fields.wide
      wide_put is f here = rw here (at_file is)
        where
          at_file : kind ≡ File → (tables_in cells dirs files).wide e ≡ new.fields.wide
          at_file is =
              let size : 0x20 + 8 ≤ entry_size kind =
              subst (λ (k : EntryKind). 0x20 + 8 ≤ entry_size k) (sym is) (omega arith) in
              subst (λ (k : EntryKind). (if is_entry (most_in cells (info_of dirs files k)) e
              then number_in 8 cells (entry_place k (info_of dirs files k) e + 0x20) else 0) ≡ new.fields.wide) is
              (field_put (number_in 8 cells (entry_place kind (info_of dirs files kind) e + 0x20)) new.fields.wide 0
              (number_put_at 8 0x20 new.fields.wide size (fields.wide is)))

      entry_set : tables_in cells dirs files ≡ tables_put (tables_in s.cells dirs files) kind e new sibling link
      entry_set = tables_same _ _
          (at_kind-reads (λ other table. table_in cells other (info_of dirs files other) ≡ table) kind
          (table_put (table_in s.cells kind (info_of dirs files kind)) e new sibling link)
          (λ other. table_in s.cells other (info_of dirs files other)) this_table other_table)
          (λ child dir. firsts-reads kind e (tables_in s.cells dirs files).first child dir
          ((tables_in cells dirs files).first child dir) (λ is. child_put child is dir)
          (λ differs. first_kept s dirs files tables can (EntriesOf kind)
          (entry_place kind (info_of dirs files kind) e + 0) (entry_size kind) whole_run cells soft quiet child dir
          (missed Dir dir (child_offset child) 4 (child_inside child) differs)))
          (λ f. field-reads kind e new.fields.start (tables_in s.cells dirs files).start f
          ((tables_in cells dirs files).start f) (λ is. start_put is f)
          (λ differs. start_kept s dirs files tables can (EntriesOf kind)
          (entry_place kind (info_of dirs files kind) e + 0) (entry_size kind) whole_run cells soft quiet f
          (missed File f 0x1C 4 (omega arith) differs)))
          (λ f. field-reads kind e new.fields.wide (tables_in s.cells dirs files).wide f
          ((tables_in cells dirs files).wide f) (λ is. wide_put is f)
          (λ differs. wide_kept s dirs files tables can (EntriesOf kind)
          (entry_place kind (info_of dirs files kind) e + 0) (entry_size kind) whole_run cells soft quiet f
          (missed File f 0x20 8 (omega arith) differs)))

  -- a call that puts an entry
  pub entry_done : (P : Type 0) (p : P) (t : State) (place : NewPlace) (new : NewEntry) (refusal : Option Bad)
      → place.entry ≡ e → FitsEntry new place.sibling place.link → SameSpace P s t refusal
      → IfDone refusal (AreBytesAt t.cells (entry_place kind (info_of dirs files kind) e)
      (written_entry kind new place.sibling place.link))
      → UnlessDisk refusal
      (ChangesWithin s (IsWithin (entry_place kind (info_of dirs files kind) e) (entry_size kind)) t.cells)
      → IfDone refusal (IsEntryPut s t dirs files kind place new)
  entry_done P p t place new None is fits space are soft =
      let at : entry_place kind (info_of dirs files kind) e ≡ entry_place kind (info_of dirs files kind) e + 0 =
      omega arith in
      let bytes = written_entry kind new place.sibling place.link in
      let fields = written_fields kind new place.sibling place.link fits in
      let there = subst (λ (x : ℕ). ChangesWithin s (IsWithin x (entry_size kind)) t.cells) at soft in
      let set = entry_set new place.sibling place.link t.cells bytes fields are there in
      record {
        tables = subst (λ (f : ℕ). tables_in t.cells dirs files
            ≡ tables_put (tables_in s.cells dirs files) kind f new place.sibling place.link) (sym is) set;
        bytes = subst (λ (f : ℕ). AreBytesAt t.cells (entry_place kind (info_of dirs files kind) f) bytes) (sym is) are;
        whole = λ k less. subst (λ (f : ℕ). IsByte (t.cells (entry_place kind (info_of dirs files kind) f + k)))
            (sym is) (rw (are k (omega (arith, less, fields.long))) tt);
        can = still s dirs files tables can t
            (record { shape = space.shape; told = space.told p; twins = space.twins p }) (EntriesOf kind)
            (entry_place kind (info_of dirs files kind) e + 0) (entry_size kind) whole_run there
            (λ k less.
            let spot : entry_place kind (info_of dirs files kind) e + k
            ≡ entry_place kind (info_of dirs files kind) e + 0 + k = omega arith in
            subst (λ (x : ℕ). IsByte (t.cells x)) spot (rw (are k (omega (arith, less, fields.long))) tt))
            (most_is new place.sibling place.link t.cells bytes fields are there)
            (λ other.
            (let counted = count_is new place.sibling place.link t.cells bytes fields are there other in record {
              least = omega (arith, counted, (can.tells other).least (can.counts other));
              ends = omega (arith, counted, (can.tells other).most (can.counts other));
            }));
      }
  entry_done P p t place new (Some bad) is fits space are soft = tt

pub entry_outside : (s : State) (dirs files : TableInfo) (kind : EntryKind) (e len : ℕ) → len ≡ s.shape.size
    → len < entry_place kind (info_of dirs files kind) e + entry_size kind
    → ¬ (CanChangeTables s dirs files × HasEntry (table_in s.cells kind (info_of dirs files kind)) e)
entry_outside s dirs files kind e len long outside (can, has) =
    omega (arith, long, outside, (can.tells kind).entries (can.counts kind) e has.below)

-- how many bytes a new entry has
pub written_long : (kind : EntryKind) (new : NewEntry) (sibling link : ℕ) → length new.name.0 ≡ 16
    → length (written_entry kind new sibling link) ≡ entry_size kind
written_long Dir new sibling link name = omega (
  arith,
  name,
  length-append (little_bytes 4 new.parent) new.name.0,
  length-append (little_bytes 4 new.parent ++ new.name.0) (little_bytes 4 sibling),
  length-append (little_bytes 4 new.parent ++ new.name.0 ++ little_bytes 4 sibling) (replicate 12 0),
  length-append (little_bytes 4 new.parent ++ new.name.0 ++ little_bytes 4 sibling ++ replicate 12 0)
      (little_bytes 4 link),
  length-replicate {A = ℕ} 12 0,
)
written_long File new sibling link name = omega (
  arith,
  name,
  length-append (little_bytes 4 new.parent) new.name.0,
  length-append (little_bytes 4 new.parent ++ new.name.0) (little_bytes 4 sibling),
  length-append (little_bytes 4 new.parent ++ new.name.0 ++ little_bytes 4 sibling) (replicate 4 0),
  length-append (little_bytes 4 new.parent ++ new.name.0 ++ little_bytes 4 sibling ++ replicate 4 0)
      (little_bytes 4 new.fields.start),
  length-append (little_bytes 4 new.parent ++ new.name.0 ++ little_bytes 4 sibling ++ replicate 4 0
      ++ little_bytes 4 new.fields.start) (little_bytes 8 new.fields.wide),
  length-append (little_bytes 4 new.parent ++ new.name.0 ++ little_bytes 4 sibling ++ replicate 4 0
      ++ little_bytes 4 new.fields.start ++ little_bytes 8 new.fields.wide) (replicate 4 0),
  length-append (little_bytes 4 new.parent ++ new.name.0 ++ little_bytes 4 sibling ++ replicate 4 0
      ++ little_bytes 4 new.fields.start ++ little_bytes 8 new.fields.wide ++ replicate 4 0) (little_bytes 4 link),
  length-replicate {A = ℕ} 4 0,
)

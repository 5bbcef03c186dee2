-- The bytes of an entry, as its fields.
use Rattle.std.proofs.Common.{◌≡◌, ◌≢◌, ℕ, ◌+◌, ◌<◌, ◌≤◌, true, nat_lt, if◌then◌else◌, List, [], length, take, drop, refl, sym, ◌∙◌, arith}
use Rattle.std.proofs.lemmas.Bool.{and_from, lt-ltb, cond-true}
use Rattle.save_bytes.specs.Fields.{number_at}
use Rattle.save_bytes.specs.Cells.{Cell, AreBytesAt}
use Rattle.save_bytes.specs.CellNumbers.{bytes_in, number_in}
use Rattle.save_bytes.specs.State.{State}
use Rattle.entry_tables.specs.declared.table.EntryKind.{EntryKind}
use Rattle.entry_tables.specs.declared.table.EntryKind.TheVariants.{Dir, File}
use Rattle.entry_tables.specs.declared.table.TableInfo.{TableInfo}
use Rattle.entry_tables.specs.Kinds.{entry_size, link_offset, least_freed}
use Rattle.entry_tables.specs.Tables.{Table, HasEntry, table_in, most_in, is_entry, entry_place, bucket_place}
use Rattle.entry_tables.specs.Used.{used_entries}
use Rattle.entry_tables.specs.Layout.{HasCounts, TellsEntryTable}
use Rattle.entry_tables.proofs.ByteLemmas.{field_is, part_is}

-- the last word ends an entry
pub link_last : (kind : EntryKind) → link_offset kind + 4 ≡ entry_size kind
link_last Dir = refl
link_last File = refl

pub least_some : (kind : EntryKind) → 1 ≤ least_freed kind
least_some Dir = omega arith
least_some File = omega arith

-- a last word that was read is the link
pub link_there : (cells : ℕ → Cell) (kind : EntryKind) (info : TableInfo) (e : ℕ) → e < most_in cells info
    → number_in 4 cells (entry_place kind info e + link_offset kind) ≡ (table_in cells kind info).link e
link_there cells kind info e below =
    sym (cond-true (nat_lt e (most_in cells info)) (number_in 4 cells (entry_place kind info e + link_offset kind)) 0
    (lt-ltb e (most_in cells info) below))

-- and so is a bucket's head
pub head_there : (cells : ℕ → Cell) (kind : EntryKind) (info : TableInfo) (bucket : ℕ) → bucket < info.buckets
    → number_in 4 cells (bucket_place info bucket) ≡ (table_in cells kind info).head bucket
head_there cells kind info bucket below =
    sym (cond-true (nat_lt bucket info.buckets) (number_in 4 cells (bucket_place info bucket)) 0
    (lt-ltb bucket info.buckets below))

-- entry 0 is counted
pub some_counted : (s : State) (kind : EntryKind) (info : TableInfo) → TellsEntryTable s kind info
    → HasCounts s.cells info
    → 1 ≤ (table_in s.cells kind info).count
some_counted s kind info tells known = omega (arith, least_some kind, tells.least known)

-- a number from 1 below the count is that of an entry
pub counted_entry : (s : State) (kind : EntryKind) (info : TableInfo) → TellsEntryTable s kind info
    → HasCounts s.cells info → (e : ℕ)
    → e ≢ 0 → e < (table_in s.cells kind info).count → HasEntry (table_in s.cells kind info) e
counted_entry s kind info tells known e some below =
    record { some = omega (arith, some); below = omega (arith, below, tells.most known) }

-- and so is a used one
pub used_entry : (s : State) (kind : EntryKind) (info : TableInfo) → TellsEntryTable s kind info
    → HasCounts s.cells info → (e : ℕ)
    → used_entries (table_in s.cells kind info) e → HasEntry (table_in s.cells kind info) e
used_entry s kind info tells known e used =
    counted_entry s kind info tells known e (λ none. (omega (arith, used.some, none))) used.below

pub entry_long : (kind : EntryKind) → 40 ≤ entry_size kind
entry_long Dir = omega arith
entry_long File = omega arith

-- where there is an entry its fields are those of its bytes
pub entry_there : (t : Table) (e : ℕ) → HasEntry t e → is_entry t.most e ≡ true
entry_there t e has = and_from (nat_lt 0 e) (nat_lt e t.most) (lt-ltb 0 e has.some) (lt-ltb e t.most has.below)

pub field_there : {A : Type 0} (t : Table) (e : ℕ) (value none : A) → HasEntry t e
    → (if is_entry t.most e then value else none) ≡ value
field_there t e value none has = cond-true (is_entry t.most e) value none (entry_there t e has)

module _ (cells : ℕ → Cell) (kind : EntryKind) (info : TableInfo) (e : ℕ) (bytes : List ℕ)
    (long : length bytes ≡ entry_size kind) (are : AreBytesAt cells (entry_place kind info e + 0) bytes) where
  pub parent_read : HasEntry (table_in cells kind info) e → number_at 4 bytes 0 ≡ (table_in cells kind info).parent e
  parent_read has =
      field_is 4 cells (entry_place kind info e + 0) 0 (entry_place kind info e) bytes are
      (omega (arith, long, entry_long kind)) (omega arith)
      ∙ sym (field_there (table_in cells kind info) e (number_in 4 cells (entry_place kind info e)) 0 has)

  pub name_read : HasEntry (table_in cells kind info) e → take 16 (drop 4 bytes) ≡ (table_in cells kind info).name e
  name_read has =
      part_is 16 cells (entry_place kind info e + 0) 4 (entry_place kind info e + 4) bytes are
      (omega (arith, long, entry_long kind)) (omega arith)
      ∙ sym (field_there (table_in cells kind info) e (bytes_in cells (entry_place kind info e + 4) 16) [] has)

  pub link_read : e < most_in cells info → number_at 4 bytes (link_offset kind) ≡ (table_in cells kind info).link e
  link_read below =
      field_is 4 cells (entry_place kind info e + 0) (link_offset kind)
      (entry_place kind info e + link_offset kind) bytes are (omega (arith, long, link_last kind)) (omega arith)
      ∙ link_there cells kind info e below

  pub sibling_read : HasEntry (table_in cells kind info) e
      → number_at 4 bytes 0x14 ≡ (table_in cells kind info).sibling e
  sibling_read has =
      field_is 4 cells (entry_place kind info e + 0) 0x14 (entry_place kind info e + 0x14) bytes are
      (omega (arith, long, entry_long kind)) (omega arith)
      ∙ sym (field_there (table_in cells kind info) e (number_in 4 cells (entry_place kind info e + 0x14)) 0 has)

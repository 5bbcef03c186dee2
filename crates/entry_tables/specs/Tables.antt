-- The fields of entries, as numbers in cells.
use Rattle.std.specs.Prelude.{ℕ, ◌+◌, ◌*◌, ◌<◌, ◌≤◌, Bool, ◌&&◌, nat_lt, if◌then◌else◌, List, []}
use Rattle.save_bytes.specs.Cells.{Cell}
use Rattle.save_bytes.specs.CellNumbers.{bytes_in, number_in}
use Rattle.entry_tables.specs.declared.table.EntryKind.{EntryKind}
use Rattle.entry_tables.specs.declared.table.EntryKind.TheVariants.{Dir, File}
use Rattle.entry_tables.specs.declared.table.TableInfo.{TableInfo}
use Rattle.entry_tables.specs.Kinds.{entry_size, link_offset, child_offset}

-- A table of entries and its buckets, each field by the number of its entry. What is no field of the table is 0, and no
-- name: those of other numbers than its entries', and of entry 0 all but the link; and a head past the buckets.
pub record Table : Type 0 where
  -- entries ever used, and the most there can be, entry 0 included
  pub count : ℕ
  pub most : ℕ
  pub buckets : ℕ
  -- the first entry of a bucket's list, 0 for none
  pub head : ℕ → ℕ
  pub parent : ℕ → ℕ
  pub name : ℕ → List ℕ
  -- the next entry with this one's parent, 0 for none
  pub sibling : ℕ → ℕ
  -- an entry's last word: of a used one the next in its bucket's list, of entry 0 the first freed one, of that the next
  pub link : ℕ → ℕ

-- a table has an entry of this number; entry 0, which has the counts, is none
pub record HasEntry (t : Table) (e : ℕ) : Type 0 where
  pub some : 1 ≤ e
  pub below : e < t.most

-- both tables
pub record Tables : Type 0 where
  pub table : EntryKind → Table
  -- a directory's first entry of a kind, 0 for none
  pub first : EntryKind → ℕ → ℕ
  -- a file's first data block, and its size or its identifier
  pub start : ℕ → ℕ
  pub wide : ℕ → ℕ

-- where an entry and a bucket stand
abbrev pub entry_place : EntryKind → TableInfo → ℕ → ℕ
entry_place kind info e = info.table_at + e * entry_size kind

abbrev pub bucket_place : TableInfo → ℕ → ℕ
bucket_place info b = info.buckets_at + 4 * b

-- the most entries of a table in the cells of a space
abbrev pub most_in : (ℕ → Cell) → TableInfo → ℕ
most_in cells info = number_in 4 cells (info.table_at + 4)

-- a number is that of an entry among so many, entry 0 left out
abbrev pub is_entry : ℕ → ℕ → Bool
is_entry most e = nat_lt 0 e && nat_lt e most

-- a table in the cells of a space: entry 0 begins with the count and the most
abbrev pub table_in : (ℕ → Cell) → EntryKind → TableInfo → Table
table_in cells kind info = record {
  count = number_in 4 cells info.table_at;
  most = most_in cells info;
  buckets = info.buckets;
  head = λ b. if nat_lt b info.buckets then number_in 4 cells (bucket_place info b) else 0;
  parent = λ e. if is_entry (most_in cells info) e then number_in 4 cells (entry_place kind info e) else 0;
  name = λ e. if is_entry (most_in cells info) e then bytes_in cells (entry_place kind info e + 4) 16 else [];
  sibling = λ e. if is_entry (most_in cells info) e then number_in 4 cells (entry_place kind info e + 0x14) else 0;
  link = λ e. if nat_lt e (most_in cells info) then number_in 4 cells (entry_place kind info e + link_offset kind)
      else 0;
}

abbrev pub info_of : TableInfo → TableInfo → EntryKind → TableInfo
info_of dirs files Dir = dirs
info_of dirs files File = files

abbrev pub tables_in : (ℕ → Cell) → TableInfo → TableInfo → Tables
tables_in cells dirs files = record {
  table = λ kind. table_in cells kind (info_of dirs files kind);
  first = λ kind d. if is_entry (most_in cells dirs) d
      then number_in 4 cells (entry_place Dir dirs d + child_offset kind) else 0;
  start = λ e. if is_entry (most_in cells files) e then number_in 4 cells (entry_place File files e + 0x1C) else 0;
  wide = λ e. if is_entry (most_in cells files) e then number_in 8 cells (entry_place File files e + 0x20) else 0;
}

-- Tables of entries as they were read: what was read of each used entry is what the table has.
use Rattle.std.specs.Prelude.{◌≡◌, ℕ, ◌<◌, Option, Some, None, length, slice_get, slice_index, IfSome}
use Rattle.entry_tables.specs.declared.table.EntryKind.{EntryKind}
use Rattle.entry_tables.specs.declared.table.EntryKind.TheVariants.{Dir, File}
use Rattle.entry_tables.specs.Tables.{Tables}
use Rattle.entry_tables.specs.Used.{used_entries}
use Rattle.entry_tables.specs.Rules.{HasFreedList}
use Rattle.entry_audit.specs.declared.table.ReadEntry.{ReadEntry}
use Rattle.entry_audit.specs.declared.table.ReadTable.{ReadTable}
use Rattle.entry_audit.specs.declared.table.ReadTables.{ReadTables}

-- the fields that a kind has beside those of both
abbrev pub HasOwnFields : EntryKind → Tables → ℕ → ReadEntry → Type 0
HasOwnFields Dir t e read = (read.first_dir ≡ t.first Dir e) × (read.first_file ≡ t.first File e)
HasOwnFields File t e read = (read.start ≡ t.start e) × (read.wide ≡ t.wide e)

-- these are an entry's fields
pub record IsReadEntry (kind : EntryKind) (t : Tables) (e : ℕ) (read : ReadEntry) : Type 0 where
  pub parent : read.parent ≡ (t.table kind).parent e
  pub name : read.name.0 ≡ (t.table kind).name e
  pub sibling : read.sibling ≡ (t.table kind).sibling e
  pub link : read.link ≡ (t.table kind).link e
  pub own : HasOwnFields kind t e read

-- an entry was read where it is used, and only there
abbrev pub IsReadOf : EntryKind → Tables → ℕ → Option ReadEntry → Type 0
IsReadOf kind t e None = ¬ used_entries (t.table kind) e
IsReadOf kind t e (Some read) = used_entries (t.table kind) e × IsReadEntry kind t e read

-- All entries below the count were read, and the heads of all buckets; the freed ones have their list.
pub record IsReadTable (kind : EntryKind) (t : Tables) (read : ReadTable) : Type 0 where
  pub freed : HasFreedList kind (t.table kind)
  pub count : length read.entries.items ≡ (t.table kind).count
  pub entries : (e : ℕ) → IfSome (slice_get read.entries.items e) (IsReadOf kind t e)
  pub buckets : length read.heads.items ≡ (t.table kind).buckets
  pub heads : (bucket : ℕ) → bucket < (t.table kind).buckets
      → slice_index read.heads.items bucket ≡ (t.table kind).head bucket

abbrev pub table_read : ReadTables → EntryKind → ReadTable
table_read read Dir = read.dirs
table_read read File = read.files

-- both tables were read
abbrev pub AreReadTables : Tables → ReadTables → Type 0
AreReadTables t read = (kind : EntryKind) → IsReadTable kind t (table_read read kind)

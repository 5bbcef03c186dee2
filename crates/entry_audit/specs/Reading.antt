-- Where tables of entries can be read, and why reading them is refused.
use Rattle.std.specs.Prelude.{◌≡◌, ℕ, ◌+◌, ◌<◌, Bool, IsTrue, ◌↔◌, List, length, take, drop, get_or, false, slice_index}
use Rattle.std.specs.Prelude.{Option, Some, None, ⊤, Contains}
use Rattle.save_bytes.specs.declared.space.Bad.{Bad}
use Rattle.save_bytes.specs.Cells.{Cell, IsByte, Blames, AreBytesAt}
use Rattle.save_bytes.specs.Fields.{number_at}
use Rattle.save_bytes.specs.State.{State}
use Rattle.save_bytes.specs.Refusals.{IfDamaged, NeverDamaged}
use Rattle.entry_tables.specs.declared.table.EntryKind.{EntryKind}
use Rattle.entry_tables.specs.declared.table.EntryKind.TheVariants.{Dir, File}
use Rattle.entry_tables.specs.declared.table.EntryFault.TheVariants as fault
use Rattle.entry_tables.specs.declared.table.TableInfo.{TableInfo}
use Rattle.entry_tables.specs.Kinds.{entry_size, link_offset, table_number}
use Rattle.entry_tables.specs.Tables.{Table, Tables, table_in, info_of, entry_place}
use Rattle.entry_tables.specs.Used.{freed_entries, used_entries}
use Rattle.entry_tables.specs.Rules.{HasFreedList}
use Rattle.entry_tables.specs.Fails.{NamesWrongly}
use Rattle.entry_tables.specs.Layout.{HasCounts, TellsEntryTable, IsOfTable, IsNeeded}
use Rattle.entry_audit.specs.declared.table.ReadEntry.{ReadEntry}
use Rattle.entry_audit.specs.declared.table.ReadTable.{ReadTable}
use Rattle.entry_audit.specs.declared.table.TableFault.{TableFault}
use Rattle.entry_audit.specs.declared.table.TableFault.TheVariants.{Memory, Entries}

-- a table is told, and can be counted: it has so many entries
pub record IsTold (s : State) (kind : EntryKind) (info : TableInfo) (count : ℕ) : Type 0 where
  pub tells : TellsEntryTable s kind info
  pub known : HasCounts s.cells info
  pub counted : (table_in s.cells kind info).count ≡ count

-- the number of a kind among two
abbrev pub count_of : ℕ → ℕ → EntryKind → ℕ
count_of dirs files Dir = dirs
count_of dirs files File = files

-- both tables are told and have so many entries
abbrev pub AreTold : State → TableInfo → TableInfo → ℕ → ℕ → Type 0
AreTold s dirs files dir_count file_count =
    (kind : EntryKind) → IsTold s kind (info_of dirs files kind) (count_of dir_count file_count kind)

-- the refusal of a space that a reading call passes on
abbrev pub space_bad : Option TableFault → Option Bad
space_bad None = None
space_bad (Some Memory) = None
space_bad (Some (Entries (fault.Bad bad))) = Some bad
space_bad (Some (Entries (fault.Broken table entry))) = None
space_bad (Some (Entries (fault.NoEntry most))) = None

-- P holds of the table and the entry at which a rule is said to fail
abbrev pub IfFreedBroken : Option TableFault → (ℕ → ℕ → Type 0) → Type 0
IfFreedBroken None P = ⊤
IfFreedBroken (Some Memory) P = ⊤
IfFreedBroken (Some (Entries (fault.Bad bad))) P = ⊤
IfFreedBroken (Some (Entries (fault.Broken table entry))) P = P table entry
IfFreedBroken (Some (Entries (fault.NoEntry most))) P = ⊤

-- the call was not refused for want of an entry
abbrev pub NeverFull : Option TableFault → Type 0
NeverFull None = ⊤
NeverFull (Some Memory) = ⊤
NeverFull (Some (Entries (fault.Bad bad))) = ⊤
NeverFull (Some (Entries (fault.Broken table entry))) = ⊤
NeverFull (Some (Entries (fault.NoEntry most))) = ⊥

-- A cell of a table or its buckets is no byte, and names this block. It is a needed one where the freed entries have
-- their list.
pub record BlamesCell (kind : EntryKind) (info : TableInfo) (cells : ℕ → Cell) (part level block : ℕ) : Type 0 where
  pub place : ℕ
  pub of_table : IsOfTable kind info (table_in cells kind info) place
  pub needed : HasFreedList kind (table_in cells kind info) → IsNeeded kind info (table_in cells kind info) place
  pub blames : Blames (cells place) part level block

-- such a cell of one of the two tables
abbrev pub BlamesOne : TableInfo → TableInfo → (ℕ → Cell) → ℕ → ℕ → ℕ → Type 0
BlamesOne dirs files cells part level block =
    (kind : EntryKind) × BlamesCell kind (info_of dirs files kind) cells part level block

-- the rule on freed entries fails at an entry of a table
abbrev pub FreedFailsAt : Tables → ℕ → ℕ → Type 0
FreedFailsAt t table entry = (kind : EntryKind) × (table ≡ table_number kind) × NamesWrongly kind (t.table kind) entry

-- or of the table of this kind
abbrev pub FreedFails : EntryKind → Table → ℕ → ℕ → Type 0
FreedFails kind t table entry = (table ≡ table_number kind) × NamesWrongly kind t entry

-- the last word of each freed entry can be read
abbrev pub HasFreedBytes : EntryKind → TableInfo → (ℕ → Cell) → Type 0
HasFreedBytes kind info cells =
    (list : List ℕ) (e : ℕ) → freed_entries (table_in cells kind info) list → Contains list e → (k : ℕ) → k < 4
    → IsByte (cells (entry_place kind info e + link_offset kind + k))

-- Why a reading call is refused: where a premise holds, for a damaged cell or a wrong freed entry only where there is
-- one.
pub record HasReadCause (plain : Bool) (Premise : Type 0) (Blamed : ℕ → ℕ → ℕ → Type 0) (Fails : ℕ → ℕ → Type 0)
    (refusal : Option TableFault) : Type 0 where
  pub damaged : Premise → IfDamaged (space_bad refusal) Blamed
  pub never : IsTrue plain → NeverDamaged (space_bad refusal)
  pub broken : Premise → IfFreedBroken refusal Fails
  pub never_full : NeverFull refusal

-- the bytes of an entry, as its fields
abbrev pub HasOwnBytes : EntryKind → List ℕ → ReadEntry → Type 0
HasOwnBytes Dir bytes read =
    (read.first_dir ≡ number_at 4 bytes 0x18) × (read.first_file ≡ number_at 4 bytes 0x1C)
HasOwnBytes File bytes read = (read.start ≡ number_at 4 bytes 0x1C) × (read.wide ≡ number_at 8 bytes 0x20)

pub record HasBytes (kind : EntryKind) (bytes : List ℕ) (read : ReadEntry) : Type 0 where
  pub parent : read.parent ≡ number_at 4 bytes 0
  pub name : read.name.0 ≡ take 16 (drop 4 bytes)
  pub sibling : read.sibling ≡ number_at 4 bytes 0x14
  pub link : read.link ≡ number_at 4 bytes (link_offset kind)
  pub own : HasOwnBytes kind bytes read

-- an entry was read from its bytes
pub record IsCopied (kind : EntryKind) (info : TableInfo) (cells : ℕ → Cell) (e : ℕ) (read : ReadEntry) : Type 0 where
  pub bytes : List ℕ
  pub long : length bytes ≡ entry_size kind
  pub are : AreBytesAt cells (entry_place kind info e + 0) bytes
  pub fields : HasBytes kind bytes read

-- the freed entries are marked, and no others
pub record AreMarked (kind : EntryKind) (t : Table) (marks : List Bool) : Type 0 where
  pub freed : HasFreedList kind t
  pub many : length marks ≡ t.count
  pub marked : (e : ℕ) → e < t.count → IsTrue (get_or marks e false) ↔ Contains freed.0 e

-- an entry was read from its bytes where that was wanted, and only there
abbrev pub IsCopiedWhere : EntryKind → TableInfo → (ℕ → Cell) → ℕ → Bool → Option ReadEntry → Type 0
IsCopiedWhere kind info cells e wanted None = wanted ≡ false
IsCopiedWhere kind info cells e wanted (Some read) = IsTrue wanted × IsCopied kind info cells e read

-- or where it is used
abbrev pub IsCopiedOf : EntryKind → TableInfo → (ℕ → Cell) → ℕ → Option ReadEntry → Type 0
IsCopiedOf kind info cells e None = ¬ used_entries (table_in cells kind info) e
IsCopiedOf kind info cells e (Some read) =
    used_entries (table_in cells kind info) e × IsCopied kind info cells e read

-- all used entries of a table were read, each at its number
pub record AreCopied (kind : EntryKind) (info : TableInfo) (cells : ℕ
    → Cell) (entries : List (Option ReadEntry)) : Type 0 where
  pub many : length entries ≡ (table_in cells kind info).count
  pub each : (e : ℕ) → e < length entries → IsCopiedOf kind info cells e (get_or entries e None)

-- these are the heads of a table's buckets
pub record AreHeads (t : Table) (heads : List ℕ) : Type 0 where
  pub many : length heads ≡ t.buckets
  pub each : (bucket : ℕ) → bucket < t.buckets → slice_index heads bucket ≡ t.head bucket

-- a table and its buckets were read, and all bytes are there that it needs
pub record IsTableCopied (kind : EntryKind) (info : TableInfo) (cells : ℕ → Cell) (read : ReadTable) : Type 0 where
  pub freed : HasFreedList kind (table_in cells kind info)
  pub entries : AreCopied kind info cells read.entries.items
  pub heads : AreHeads (table_in cells kind info) read.heads.items
  pub bytes : (x : ℕ) → IsNeeded kind info (table_in cells kind info) x → IsByte (cells x)

-- all bytes can be read that both tables need
abbrev pub HasNeededBytes : TableInfo → TableInfo → (ℕ → Cell) → Type 0
HasNeededBytes dirs files cells =
    (kind : EntryKind) (x : ℕ)
    → IsNeeded kind (info_of dirs files kind) (table_in cells kind (info_of dirs files kind)) x
    → IsByte (cells x)

-- a table that was read has so many buckets and entries
pub record HasLengths (buckets count : ℕ) (read : ReadTable) : Type 0 where
  pub entries : length read.entries.items ≡ count
  pub heads : length read.heads.items ≡ buckets

-- What the entries of a space hold, and what their calls leave.
use Rattle.std.specs.Prelude.{◌≡◌, ℕ, ◌+◌, Option}
use Rattle.std.specs.Borrow.{MutBor}
use Rattle.save_bytes.specs.declared.space.Bad.{Bad}
use Rattle.save_bytes.specs.State.{State}
use Rattle.save_bytes.specs.Spots.{Spot}
use Rattle.save_bytes.specs.Reads.{Reads}
use Rattle.entry_tables.specs.declared.table.EntryKind.{EntryKind}
use Rattle.entry_tables.specs.declared.table.EntryKind.TheVariants.{File}
use Rattle.entry_tables.specs.declared.table.TableInfo.{TableInfo}
use Rattle.name_buckets.specs.declared.view.Entries.{Entries}
use Rattle.entry_tables.specs.Tables.{Tables, entry_place, tables_in, info_of}
use Rattle.entry_tables.specs.Layout.{HasEntryTables, TellsEntryTable}
use Rattle.entry_tables.specs.Changes.{CanChangeTables, ChangesAt}

-- what a contract sees of the space, its tables, and where one stands
abbrev pub space_of : {S : Type 0} → (S → State) → Entries S → State
space_of states entries = states entries.space.now

abbrev pub tables_of : {S : Type 0} → (S → State) → Entries S → Tables
tables_of states entries = tables_in (states entries.space.now).cells entries.dirs entries.files

abbrev pub place_of : {S : Type 0} → Entries S → EntryKind → TableInfo
place_of entries kind = info_of entries.dirs entries.files kind

-- both tables lie in the space
abbrev pub HoldsTables : {S : Type 0} → (S → State) → Entries S → Type 0
HoldsTables states entries = HasEntryTables (states entries.space.now).shape entries.dirs entries.files

-- the cells are told, and where it can be counted, a table lies in the space as a whole
abbrev pub TellsTableOf : {S : Type 0} → (S → State) → Entries S → EntryKind → Type 0
TellsTableOf states entries kind = TellsEntryTable (states entries.space.now) kind (info_of entries.dirs entries.files kind)

-- the entries hold this space and these places
pub record IsEntriesIn {S : Type 0} (entries : Entries S) (space : MutBor S) (dirs files : TableInfo) : Type 0 where
  pub same_space : entries.space.ghost_name ≡ space.ghost_name
  pub space_now : entries.space.now ≡ space.now
  pub same_dirs : entries.dirs ≡ dirs
  pub same_files : entries.files ≡ files

-- the same reference and places; the space may have changed
pub record SameEntries {S : Type 0} (old new : Entries S) : Type 0 where
  pub same_space : new.space.ghost_name ≡ old.space.ghost_name
  pub same_dirs : new.dirs ≡ old.dirs
  pub same_files : new.files ≡ old.files

-- a call that only reads: no cell changes, each spot of the bottom is left alone, and the tables lie in the space
pub record ReadsEntries {S : Type 0} (states : S → State) (keeps : Spot → S → S → Type 0) (lands : S → ℕ → Spot → Type 0)
    (old new : Entries S) (refusal : Option Bad) : Type 0 where
  pub reads : Reads states keeps lands old.space.now new.space.now refusal
  pub same : SameEntries old new
  pub laid_out : HoldsTables states new

-- both tables and their buckets may be changed
abbrev pub CanChange : {S : Type 0} → (S → State) → Entries S → Type 0
CanChange states entries = CanChangeTables (states entries.space.now) entries.dirs entries.files

-- where a file's entry has its fields
abbrev pub fields_place : {S : Type 0} → Entries S → ℕ → ℕ
fields_place entries entry = entry_place File entries.files entry + 0x1C

-- A call that writes at some places, where a premise holds: no other cell changes but that it may soften, each spot is
-- left alone that no put into these places touches, and the tables lie in the space. Refused for a damaged cell it
-- changed no cell.
pub record ChangesEntries {S : Type 0} (states : S → State) (keeps : Spot → S → S → Type 0) (lands : S → ℕ → Spot → Type 0)
    (Premise : Type 0) (Written : ℕ → Type 0) (old new : Entries S) (refusal : Option Bad) : Type 0 where
  pub changes : ChangesAt states keeps lands Premise Written old.space.now new.space.now refusal
  pub same : SameEntries old new
  pub laid_out : HoldsTables states new

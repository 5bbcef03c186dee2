-- Why a call that follows a path is refused.
use Rattle.std.specs.Prelude.{◌≡◌, ℕ, IsTrue, Result}
use Rattle.save_bytes.specs.Cells.{Cell}
use Rattle.save_bytes.specs.State.{State}
use Rattle.save_bytes.specs.Refusals.{IfDamaged, NeverDamaged}
use Rattle.entry_tables.specs.declared.table.EntryKind.{EntryKind}
use Rattle.entry_tables.specs.declared.table.TableInfo.{TableInfo}
use Rattle.entry_tables.specs.declared.table.EntryFault.{EntryFault}
use Rattle.entry_tables.specs.Kinds.{bucket_table}
use Rattle.entry_tables.specs.Tables.{Tables, tables_in, info_of}
use Rattle.entry_tables.specs.Rules.{HasFreedList, HasBucketLists}
use Rattle.entry_tables.specs.Fails.{IsBrokenBucket}
use Rattle.entry_tables.specs.Layout.{HasCounts, TellsEntryTable, BlamesNeeded, BlamesTable}
use Rattle.entry_tables.specs.Causes.{bad_of, IfRuleBroken, NeverNoEntry}

-- the cells are told, and both tables can be counted and lie in the space as a whole
pub record TellsTables (s : State) (dirs files : TableInfo) : Type 0 where
  pub tells : (kind : EntryKind) → TellsEntryTable s kind (info_of dirs files kind)
  pub known : (kind : EntryKind) → HasCounts s.cells (info_of dirs files kind)

-- the freed entries of both kinds, and their buckets, have the lists that they should
pub record HaveLists (t : Tables) : Type 0 where
  pub freed : (kind : EntryKind) → HasFreedList kind (t.table kind)
  pub buckets : (kind : EntryKind) → HasBucketLists kind (t.table kind)

-- a cell of one of the two tables, or of its buckets, is no byte, and names this block
abbrev pub BlamesOneTable : TableInfo → TableInfo → (ℕ → Cell) → ℕ → ℕ → ℕ → Type 0
BlamesOneTable dirs files cells part level block =
    (kind : EntryKind) × BlamesTable kind (info_of dirs files kind) cells part level block

-- a needed one is
abbrev pub BlamesOneNeeded : TableInfo → TableInfo → (ℕ → Cell) → ℕ → ℕ → ℕ → Type 0
BlamesOneNeeded dirs files cells part level block =
    (kind : EntryKind) × BlamesNeeded kind (info_of dirs files kind) cells part level block

-- the list of a bucket is not as it should be
abbrev pub BucketFailsAt : Tables → ℕ → ℕ → Type 0
BucketFailsAt t table bucket =
    (kind : EntryKind) × (table ≡ bucket_table kind) × IsBrokenBucket kind (t.table kind) bucket

-- A call is refused for a damaged cell of the tables, a needed one where all lists are as they should be; or for a
-- bucket whose list is not.
pub record HasPathCause {A : Type 0} (s : State) (dirs files : TableInfo) (result : Result A EntryFault) : Type 0 where
  pub damaged : TellsTables s dirs files → IfDamaged (bad_of result) (BlamesOneTable dirs files s.cells)
  pub needed : TellsTables s dirs files → HaveLists (tables_in s.cells dirs files)
      → IfDamaged (bad_of result) (BlamesOneNeeded dirs files s.cells)
  pub plain : IsTrue s.shape.plain → NeverDamaged (bad_of result)
  pub broken : TellsTables s dirs files → IfRuleBroken result (BucketFailsAt (tables_in s.cells dirs files))
  pub never_full : NeverNoEntry result

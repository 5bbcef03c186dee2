-- Where tables and buckets may be changed, and what a call leaves that changes some of their words.
use Rattle.std.specs.Prelude.{◌≡◌, ℕ, ◌+◌, ◌*◌, ◌<◌, ◌≤◌, false, IsTrue, Option, List, All, Contains, ⊤}
use Rattle.save_bytes.specs.declared.space.Bad.{Bad}
use Rattle.save_bytes.specs.Cells.{Cell, IsByte, IsUnspoilt}
use Rattle.save_bytes.specs.State.{State}
use Rattle.save_bytes.specs.Refusals.{UnlessDisk, IfDamaged, NeverDamaged}
use Rattle.save_bytes.specs.Stays.{SameSpace, SameCells}
use Rattle.save_bytes.specs.Spots.{Spot, Hold, LandsAsBefore}
use Rattle.save_bytes.specs.Writes.{IsWithin}
use Rattle.save_bytes.specs.Within.{ChangesWithin}
use Rattle.entry_tables.specs.declared.table.EntryKind.{EntryKind}
use Rattle.entry_tables.specs.declared.table.TableInfo.{TableInfo}
use Rattle.entry_tables.specs.declared.word.Edit.{Edit}
use Rattle.entry_tables.specs.declared.word.Word.{Word}
use Rattle.entry_tables.specs.declared.word.Word.TheVariants.{Head, Link, Sibling, First, Count}
use Rattle.entry_tables.specs.Kinds.{entry_size, least_freed}
use Rattle.entry_tables.specs.Tables.{Tables, most_in, entry_place, info_of, tables_in}
use Rattle.entry_tables.specs.Layout.{LiesWithin, HasCounts, TellsEntryTable}
use Rattle.entry_tables.specs.Words.{HasWord, tables_with, tables_after, with_fields, word_place}

-- a table's entries, entry 0 included, or its buckets
pub data Area : Type 0 where
  EntriesOf : (kind : EntryKind) → Area
  BucketsOf : (kind : EntryKind) → Area

-- a place of one of them
abbrev pub IsAreaPlace : (ℕ → Cell) → TableInfo → TableInfo → Area → ℕ → Type 0
IsAreaPlace cells dirs files (EntriesOf kind) x =
    (e : ℕ) × (e < most_in cells (info_of dirs files kind))
    × LiesWithin (entry_place kind (info_of dirs files kind) e) (entry_size kind) x
IsAreaPlace cells dirs files (BucketsOf kind) x =
    LiesWithin (info_of dirs files kind).buckets_at (4 * (info_of dirs files kind).buckets) x

-- Both tables and their buckets may be changed: the cells are told, the counts can be read, each table lies in the
-- space
-- as a whole, no two of them overlap, no two of their places are twins, and none is fixed.
pub record CanChangeTables (s : State) (dirs files : TableInfo) : Type 0 where
  pub tells : (kind : EntryKind) → TellsEntryTable s kind (info_of dirs files kind)
  pub counts : (kind : EntryKind) → HasCounts s.cells (info_of dirs files kind)
  pub apart : (one other : Area) (x y : ℕ) → IsAreaPlace s.cells dirs files one x
      → IsAreaPlace s.cells dirs files other y
      → s.bottom x ≡ s.bottom y → (one ≡ other) × (x ≡ y)
  pub free : (area : Area) (x : ℕ) → IsAreaPlace s.cells dirs files area x → s.is_fixed x ≡ false

-- a number is one that a word may have where tables may be changed: a count lies between its bounds
abbrev pub IsBounded : Tables → Word → ℕ → Type 0
IsBounded t (Head kind bucket) value = ⊤
IsBounded t (Link kind e) value = ⊤
IsBounded t (Sibling kind e) value = ⊤
IsBounded t (First kind dir) value = ⊤
IsBounded t (Count kind) value = (least_freed kind ≤ value) × (value ≤ (t.table kind).most)

-- A number was put into a word: the tables are those with it, its cells are bytes, and the tables may be changed as
-- before.
pub record IsWordSet (old new : State) (dirs files : TableInfo) (word : Word) (value : ℕ) : Type 0 where
  pub tables : tables_in new.cells dirs files ≡ tables_with (tables_in old.cells dirs files) word value
  pub bytes : (k : ℕ) → k < 4 → IsByte (new.cells (word_place dirs files word + k))
  pub can : IsBounded (tables_in old.cells dirs files) word value → CanChangeTables new dirs files

-- a number may be put into a word: the tables have it, and none of its cells is spoilt
pub record CanSet (s : State) (dirs files : TableInfo) (edit : Edit) : Type 0 where
  pub has : HasWord (tables_in s.cells dirs files) edit.word
  pub bounded : IsBounded (tables_in s.cells dirs files) edit.word edit.value
  pub ready : (k : ℕ) → k < 4 → IsUnspoilt (s.cells (word_place dirs files edit.word + k))

-- and so may some numbers, one after another
pub record CanSetAll (s : State) (dirs files : TableInfo) (edits : List Edit) : Type 0 where
  pub can : CanChangeTables s dirs files
  pub each : All (CanSet s dirs files) edits

-- they were put
pub record AreSet (old new : State) (dirs files : TableInfo) (edits : List Edit) : Type 0 where
  pub tables : tables_in new.cells dirs files ≡ tables_after (tables_in old.cells dirs files) edits
  pub can : CanChangeTables new dirs files

-- the places of their words
abbrev pub IsSite : TableInfo → TableInfo → List Edit → ℕ → Type 0
IsSite dirs files edits x = (edit : Edit) × Contains edits edit × IsWithin (word_place dirs files edit.word) 4 x

-- A file's fields were put into its entry: the tables are those with them, and may be changed as before.
pub record AreFieldsSet (old new : State) (dirs files : TableInfo) (e start wide : ℕ) : Type 0 where
  pub tables : tables_in new.cells dirs files ≡ with_fields (tables_in old.cells dirs files) e start wide
  pub can : CanChangeTables new dirs files

-- A call that writes at some places, where a premise holds: all other cells have softened at most, and each spot is
-- left
-- alone that no put into one of these places touches. Refused for a damaged cell it changed no cell.
pub record ChangesAt {A : Type 0} (states : A → State) (keeps : Spot → A → A → Type 0) (lands : A → ℕ → Spot → Type 0)
    (Premise : Type 0) (Written : ℕ → Type 0) (old new : A) (refusal : Option Bad) : Type 0 where
  pub space : SameSpace Premise (states old) (states new) refusal
  pub plain : IsTrue (states old).shape.plain → NeverDamaged refusal
  pub within : Premise → UnlessDisk refusal (ChangesWithin (states old) Written (states new).cells)
  pub damaged : Premise → IfDamaged refusal (λ part level block. SameCells (states old) (states new))
  pub hold : keeps Hold old new
  pub spots : Premise → (spot : Spot)
      → ((x : ℕ) → x < (states old).shape.size → Written x → ¬ lands old x spot) → keeps spot old new
  pub reach : Premise → UnlessDisk refusal (LandsAsBefore (states old).shape.size (lands old) (lands new))

-- What is read of an entry before it is removed, and why that is refused.
use Rattle.std.specs.Prelude.{◌≡◌, ℕ, IsTrue, List, Option, Some, None, Result}
use Rattle.save_bytes.specs.Cells.{Cell}
use Rattle.save_bytes.specs.State.{State}
use Rattle.save_bytes.specs.Refusals.{IfDamaged, NeverDamaged}
use Rattle.entry_tables.specs.declared.table.EntryKind.{EntryKind}
use Rattle.entry_tables.specs.declared.table.TableInfo.{TableInfo}
use Rattle.entry_tables.specs.declared.table.EntryFault.{EntryFault}
use Rattle.entry_tables.specs.declared.word.Edit.{Edit}
use Rattle.entry_tables.specs.Tables.{Tables, tables_in, info_of}
use Rattle.entry_tables.specs.Rules.{IsOrderly}
use Rattle.entry_tables.specs.Layout.{BlamesNeeded}
use Rattle.entry_tables.specs.Causes.{bad_of, IfRuleBroken, NeverNoEntry}
use Rattle.entry_tables.specs.Changes.{CanChangeTables, CanSetAll}
use Rattle.entry_changes.specs.Removed.{CanRemove, IsListedBehind, removal_edits}

-- a needed cell of a table or its buckets is no byte, and names this block
abbrev pub BlamesEither : (ℕ → Cell) → TableInfo → TableInfo → ℕ → ℕ → ℕ → Type 0
BlamesEither cells dirs files part level block =
    (kind : EntryKind) × BlamesNeeded kind (info_of dirs files kind) cells part level block

-- Why a changing call is refused: for a damaged cell only where it is needed, as far as a rule holds; for a rule only
-- where it fails.
pub record HasChangeCause {A : Type 0} (s : State) (dirs files : TableInfo) (Rule : Type 0) (Fails : ℕ → ℕ → Type 0)
    (result : Result A EntryFault) : Type 0 where
  pub damaged : CanChangeTables s dirs files → Rule → IfDamaged (bad_of result) (BlamesEither s.cells dirs files)
  pub plain : IsTrue s.shape.plain → NeverDamaged (bad_of result)
  pub broken : CanChangeTables s dirs files → IfRuleBroken result Fails
  pub never_full : NeverNoEntry result

-- the rules hold, and an entry can be removed
pub record MayRemove (t : Tables) (kind : EntryKind) (e : ℕ) : Type 0 where
  pub rules : IsOrderly t
  pub can : CanRemove t kind e

-- these words can be put, and are those of the removal
abbrev pub IsRemovalPlan : State → TableInfo → TableInfo → EntryKind → ℕ → Option (List Edit) → Type 0
IsRemovalPlan s dirs files kind e None = ⊥
IsRemovalPlan s dirs files kind e (Some edits) =
    (xs us : List ℕ) × IsListedBehind (tables_in s.cells dirs files) kind e xs us
    × (edits ≡ removal_edits (tables_in s.cells dirs files) kind e xs us) × CanSetAll s dirs files edits

-- an entry's words were found, and may be put
abbrev pub IsRemovalReady : State → TableInfo → TableInfo → EntryKind → ℕ → Type 0
IsRemovalReady s dirs files kind e = (xs us : List ℕ) × IsListedBehind (tables_in s.cells dirs files) kind e xs us
    × CanSetAll s dirs files (removal_edits (tables_in s.cells dirs files) kind e xs us)

-- What a call keeps, and what it leaves, that takes an entry out of the tables.
use Rattle.std.specs.Prelude.{◌≡◌, ◌≢◌, ℕ, List}
use Rattle.save_bytes.specs.State.{State}
use Rattle.entry_tables.specs.declared.table.EntryKind.{EntryKind}
use Rattle.entry_tables.specs.declared.table.TableInfo.{TableInfo}
use Rattle.entry_tables.specs.Tables.{Tables, tables_in}
use Rattle.entry_tables.specs.Used.{used_entries}
use Rattle.entry_tables.specs.Rules.{IsOrderly}
use Rattle.entry_tables.specs.Changes.{CanChangeTables, IsSite}
use Rattle.entry_changes.specs.Removed.{IsListedBehind, removal_edits, tables_without}

-- Used are the same entries, but that one of a kind is not any more; and every entry has its parent, name and fields.
pub record LacksOne (old new : Tables) (kind : EntryKind) (e : ℕ) : Type 0 where
  pub was : (other : EntryKind) (f : ℕ) → used_entries (new.table other) f → used_entries (old.table other) f
  pub gone : ¬ used_entries (new.table kind) e
  pub still : (other : EntryKind) (f : ℕ) → (kind ≡ other → f ≢ e) → used_entries (old.table other) f
      → used_entries (new.table other) f
  pub parent : (other : EntryKind) → (new.table other).parent ≡ (old.table other).parent
  pub name : (other : EntryKind) → (new.table other).name ≡ (old.table other).name
  pub start : new.start ≡ old.start
  pub wide : new.wide ≡ old.wide

-- An entry was taken out: the tables are those without it, all rules hold of them, and they may be changed as before.
pub record IsTakenOut (old new : State) (dirs files : TableInfo) (kind : EntryKind) (e : ℕ) : Type 0 where
  pub xs : List ℕ
  pub us : List ℕ
  pub behind : IsListedBehind (tables_in old.cells dirs files) kind e xs us
  pub tables : tables_in new.cells dirs files ≡ tables_without (tables_in old.cells dirs files) kind e xs us
  pub rules : IsOrderly (tables_in new.cells dirs files)
  pub lacks : LacksOne (tables_in old.cells dirs files) (tables_in new.cells dirs files) kind e
  pub can : CanChangeTables new dirs files

-- the places of the words that a removal changes
abbrev pub IsRemovalSite : Tables → TableInfo → TableInfo → EntryKind → ℕ → ℕ → Type 0
IsRemovalSite t dirs files kind e x =
    (xs us : List ℕ) × IsListedBehind t kind e xs us × IsSite dirs files (removal_edits t kind e xs us) x

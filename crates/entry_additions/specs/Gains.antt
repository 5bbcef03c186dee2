-- What a call keeps that adds an entry to the tables.
use Rattle.std.specs.Prelude.{◌≡◌, ◌≢◌, ℕ}
use Rattle.entry_tables.specs.declared.table.EntryKind.{EntryKind}
use Rattle.entry_tables.specs.declared.table.EntryKind.TheVariants.{File}
use Rattle.entry_tables.specs.Tables.{Tables}
use Rattle.entry_tables.specs.Used.{used_entries}
use Rattle.entry_additions.specs.declared.entry.NewEntry.{NewEntry}

-- Used are the same entries, and one more of a kind, which was not, and says what it should; each other entry has its
-- parent, name and fields.
pub record GainsOne (old new : Tables) (kind : EntryKind) (e : ℕ) (entry : NewEntry) : Type 0 where
  pub fresh : ¬ used_entries (old.table kind) e
  pub used : used_entries (new.table kind) e
  pub was : (other : EntryKind) (f : ℕ) → (kind ≡ other → f ≢ e) → used_entries (new.table other) f
      → used_entries (old.table other) f
  pub still : (other : EntryKind) (f : ℕ) → used_entries (old.table other) f → used_entries (new.table other) f
  pub parent : (other : EntryKind) (f : ℕ) → (kind ≡ other → f ≢ e)
      → (new.table other).parent f ≡ (old.table other).parent f
  pub name : (other : EntryKind) (f : ℕ) → (kind ≡ other → f ≢ e)
      → (new.table other).name f ≡ (old.table other).name f
  pub start : (f : ℕ) → (kind ≡ File → f ≢ e) → new.start f ≡ old.start f
  pub wide : (f : ℕ) → (kind ≡ File → f ≢ e) → new.wide f ≡ old.wide f
  pub its_parent : (new.table kind).parent e ≡ entry.parent
  pub its_name : (new.table kind).name e ≡ entry.name.0
  pub its_start : kind ≡ File → new.start e ≡ entry.fields.start
  pub its_wide : kind ≡ File → new.wide e ≡ entry.fields.wide

-- An entry that was written anew.
use Rattle.std.specs.Prelude.{◌≡◌, ℕ, ◌+◌, ◌<◌}
use Rattle.save_bytes.specs.Cells.{IsByte, AreBytesAt}
use Rattle.save_bytes.specs.State.{State}
use Rattle.entry_tables.specs.declared.table.EntryKind.{EntryKind}
use Rattle.entry_tables.specs.declared.table.TableInfo.{TableInfo}
use Rattle.entry_tables.specs.Kinds.{entry_size}
use Rattle.entry_tables.specs.Tables.{tables_in, info_of, entry_place}
use Rattle.entry_tables.specs.Changes.{CanChangeTables}
use Rattle.entry_additions.specs.declared.entry.NewEntry.{NewEntry}
use Rattle.entry_additions.specs.declared.entry.NewPlace.{NewPlace}
use Rattle.entry_additions.specs.Added.{tables_put}
use Rattle.entry_additions.specs.Images.{written_entry}

-- the tables are those with it, its cells have its bytes, and the tables may be changed as before
pub record IsEntryPut (old new : State) (dirs files : TableInfo) (kind : EntryKind) (place : NewPlace)
    (entry : NewEntry) : Type 0 where
  pub tables : tables_in new.cells dirs files
      ≡ tables_put (tables_in old.cells dirs files) kind place.entry entry place.sibling place.link
  pub bytes : AreBytesAt new.cells (entry_place kind (info_of dirs files kind) place.entry)
      (written_entry kind entry place.sibling place.link)
  pub whole : (k : ℕ) → k < entry_size kind
      → IsByte (new.cells (entry_place kind (info_of dirs files kind) place.entry + k))
  pub can : CanChangeTables new dirs files

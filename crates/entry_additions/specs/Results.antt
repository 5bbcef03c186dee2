-- What an addition leaves.
use Rattle.std.specs.Prelude.{◌≡◌, ℕ, List}
use Rattle.save_bytes.specs.Cells.{AreBytesAt}
use Rattle.save_bytes.specs.State.{State}
use Rattle.save_bytes.specs.Writes.{IsWithin}
use Rattle.entry_tables.specs.declared.table.EntryKind.{EntryKind}
use Rattle.entry_tables.specs.declared.table.TableInfo.{TableInfo}
use Rattle.entry_tables.specs.Kinds.{entry_size}
use Rattle.entry_tables.specs.Tables.{Tables, table_in, tables_in, info_of, entry_place}
use Rattle.entry_tables.specs.Rules.{IsOrderly}
use Rattle.entry_tables.specs.Changes.{CanChangeTables, IsSite}
use Rattle.entry_additions.specs.declared.entry.NewEntry.{NewEntry}
use Rattle.entry_additions.specs.Added.{taken_entry, bucket_for, tables_with_new, addition_edits}
use Rattle.entry_additions.specs.Gains.{GainsOne}
use Rattle.entry_additions.specs.Images.{written_entry}

-- An entry was added: the first freed one, or where there was none the next number. The tables are those with it, all
-- rules hold of them, its bytes are those of a new entry, and the tables may be changed as before.
pub record IsAddedTo (old new : State) (dirs files : TableInfo) (kind : EntryKind) (entry : NewEntry) (e : ℕ) : Type 0
  where
    pub is : e ≡ taken_entry (table_in old.cells kind (info_of dirs files kind))
    pub tables : tables_in new.cells dirs files ≡ tables_with_new (tables_in old.cells dirs files) kind entry
    pub rules : IsOrderly (tables_in new.cells dirs files)
    pub gains : GainsOne (tables_in old.cells dirs files) (tables_in new.cells dirs files) kind e entry
    pub bytes : AreBytesAt new.cells (entry_place kind (info_of dirs files kind) e)
        (written_entry kind entry ((tables_in old.cells dirs files).first kind entry.parent)
        ((table_in old.cells kind (info_of dirs files kind)).head
        (bucket_for (table_in old.cells kind (info_of dirs files kind)) entry)))
    pub can : CanChangeTables new dirs files

-- the places that an addition changes: those of its entry, and of three words
pub data IsAdditionSite (t : Tables) (dirs files : TableInfo) (kind : EntryKind) (parent : ℕ) (name : List ℕ) (x : ℕ)
    : Type 0 where
  OfEntry : IsWithin (entry_place kind (info_of dirs files kind) (taken_entry (t.table kind))) (entry_size kind) x
      → IsAdditionSite t dirs files kind parent name x
  OfWord : IsSite dirs files (addition_edits t kind parent name) x → IsAdditionSite t dirs files kind parent name x

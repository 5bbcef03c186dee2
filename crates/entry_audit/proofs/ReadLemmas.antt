-- Tables that were copied, as what they hold.
use Rattle.std.proofs.Common.{ℕ, ◌+◌, length, get_or, Option, Some, None, IfSome, inl, inr, sym, ◌∙◌, arith}
use Rattle.std.specs.Prelude.{slice_get}
use Rattle.std.proofs.lemmas.Bool.{cases_lt}
use Rattle.std.proofs.lemmas.Option.{slice_get-get_or, slice_get_past}
use Rattle.save_bytes.specs.Cells.{Cell}
use Rattle.save_bytes.specs.CellNumbers.{number_in}
use Rattle.save_bytes.specs.State.{State}
use Rattle.entry_tables.specs.declared.table.EntryKind.{EntryKind}
use Rattle.entry_tables.specs.declared.table.EntryKind.TheVariants.{Dir, File}
use Rattle.entry_tables.specs.declared.table.TableInfo.{TableInfo}
use Rattle.entry_tables.specs.Tables.{HasEntry, table_in, tables_in, info_of, entry_place}
use Rattle.entry_tables.proofs.ByteLemmas.{field_is}
use Rattle.entry_tables.proofs.EntryLemmas.{parent_read, name_read, sibling_read, link_read, field_there, used_entry}
use Rattle.entry_audit.specs.declared.table.ReadEntry.{ReadEntry}
use Rattle.entry_audit.specs.declared.table.ReadTable.{ReadTable}
use Rattle.entry_audit.specs.Read.{HasOwnFields, IsReadEntry, IsReadOf, IsReadTable}
use Rattle.entry_audit.specs.Reading.{IsTold, IsCopied, IsCopiedOf, IsTableCopied}

module _ (cells : ℕ → Cell) (dirs files : TableInfo) where
  -- the fields of one kind alone
  own_read : (kind : EntryKind) (e : ℕ) (read : ReadEntry)
      → HasEntry (table_in cells kind (info_of dirs files kind)) e
      → IsCopied kind (info_of dirs files kind) cells e read → HasOwnFields kind (tables_in cells dirs files) e read
  own_read Dir e read has copied =
      let at = entry_place Dir dirs e in
      let t = table_in cells Dir dirs in (
        copied.fields.own.0
            ∙ field_is 4 cells (at + 0) 0x18 (at + 0x18) copied.bytes copied.are (omega (arith, copied.long)) (omega
            arith)
            ∙ sym (field_there t e (number_in 4 cells (at + 0x18)) 0 has),
        copied.fields.own.1
            ∙ field_is 4 cells (at + 0) 0x1C (at + 0x1C) copied.bytes copied.are (omega (arith, copied.long)) (omega
            arith)
            ∙ sym (field_there t e (number_in 4 cells (at + 0x1C)) 0 has),
      )
  own_read File e read has copied =
      let at = entry_place File files e in
      let t = table_in cells File files in (
        copied.fields.own.0
            ∙ field_is 4 cells (at + 0) 0x1C (at + 0x1C) copied.bytes copied.are (omega (arith, copied.long)) (omega
            arith)
            ∙ sym (field_there t e (number_in 4 cells (at + 0x1C)) 0 has),
        copied.fields.own.1
            ∙ field_is 8 cells (at + 0) 0x20 (at + 0x20) copied.bytes copied.are (omega (arith, copied.long)) (omega
            arith)
            ∙ sym (field_there t e (number_in 8 cells (at + 0x20)) 0 has),
      )

  entry_read : (kind : EntryKind) (e : ℕ) (read : ReadEntry)
      → HasEntry (table_in cells kind (info_of dirs files kind)) e
      → IsCopied kind (info_of dirs files kind) cells e read → IsReadEntry kind (tables_in cells dirs files) e read
  entry_read kind e read has copied =
      let info = info_of dirs files kind in
      record {
        parent = copied.fields.parent ∙ parent_read cells kind info e copied.bytes copied.long copied.are has;
        name = copied.fields.name ∙ name_read cells kind info e copied.bytes copied.long copied.are has;
        sibling = copied.fields.sibling ∙ sibling_read cells kind info e copied.bytes copied.long copied.are has;
        link = copied.fields.link ∙ link_read cells kind info e copied.bytes copied.long copied.are has.below;
        own = own_read kind e read has copied;
      }

-- a table
module _ (s : State) (dirs files : TableInfo) (kind : EntryKind) (count : ℕ) (read : ReadTable)
    (told : IsTold s kind (info_of dirs files kind) count)
    (copied : IsTableCopied kind (info_of dirs files kind) s.cells read) where
  of_copied : (e : ℕ) (entry : Option ReadEntry) → IsCopiedOf kind (info_of dirs files kind) s.cells e entry
      → IsReadOf kind (tables_in s.cells dirs files) e entry
  of_copied e None is = is
  of_copied e (Some entry) is = (
    is.0,
    entry_read s.cells dirs files kind e entry
        (used_entry s kind (info_of dirs files kind) told.tells told.known e is.0) is.1,
  )

  each : (e : ℕ) → IfSome (slice_get read.entries.items e) (IsReadOf kind (tables_in s.cells dirs files) e)
  each e = elim (cases_lt e (length read.entries.items)) [
    | inl below ↦ rw (slice_get-get_or read.entries.items e None below)
        (of_copied e (get_or read.entries.items e None) (copied.entries.each e below))
    | inr past ↦ rw (slice_get_past read.entries.items e past) tt
  ]

  pub table_was_read : IsReadTable kind (tables_in s.cells dirs files) read
  table_was_read = record {
    freed = copied.freed;
    count = copied.entries.many;
    entries = each;
    buckets = copied.heads.many;
    heads = copied.heads.each;
  }

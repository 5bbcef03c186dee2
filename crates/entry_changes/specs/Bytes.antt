-- What a removal reads, as bytes, and that it may then be carried out.
use Rattle.std.specs.Prelude.{◌≡◌, ℕ, ◌+◌, ◌<◌, Some, Result, Ok, Err, ⊤}
use Rattle.save_bytes.specs.Cells.{IsByte}
use Rattle.save_bytes.specs.State.{State}
use Rattle.save_bytes.specs.Refusals.{NeverDamaged}
use Rattle.save_bytes.specs.Within.{MaySoften}
use Rattle.entry_tables.specs.declared.table.EntryKind.{EntryKind}
use Rattle.entry_tables.specs.declared.table.TableInfo.{TableInfo}
use Rattle.entry_tables.specs.declared.table.EntryFault.{EntryFault}
use Rattle.entry_tables.specs.declared.table.EntryFault.TheVariants as fault
use Rattle.entry_tables.specs.declared.word.Word.TheVariants.{Link}
use Rattle.entry_tables.specs.Kinds.{entry_size}
use Rattle.entry_tables.specs.Tables.{table_in, tables_in, info_of, entry_place}
use Rattle.entry_tables.specs.Rules.{bucket_of}
use Rattle.entry_tables.specs.Changes.{Area, IsAreaPlace}
use Rattle.entry_changes.specs.declared.list.EntryList.TheVariants.{Bucket, Children}
use Rattle.entry_changes.specs.Lists.{AreBytesOf, HasWayBytes}

-- the call was done, or the disk failed
abbrev pub OkOrDisk : {A : Type 0} → Result A EntryFault → Type 0
OkOrDisk (Ok value) = ⊤
OkOrDisk (Err (fault.Bad bad)) = NeverDamaged (Some bad)
OkOrDisk (Err (fault.Broken table entry)) = ⊥
OkOrDisk (Err (fault.NoEntry most)) = ⊥

-- The tables are as they were, and their cells, needed or not, have softened at most; other cells may be any.
pub record HaveSoftened (was now : State) (dirs files : TableInfo) : Type 0 where
  pub shape : now.shape ≡ was.shape
  pub tables : tables_in now.cells dirs files ≡ tables_in was.cells dirs files
  pub cells : (area : Area) (x : ℕ) → IsAreaPlace was.cells dirs files area x → MaySoften (was.cells x) (now.cells x)

-- All that a removal reads is bytes: the entry, the word of entry 0 that names the first freed one, and in both lists
-- the words on the way to the entry. The words that it writes are among them.
pub record HasRemovalBytes (s : State) (dirs files : TableInfo) (kind : EntryKind) (e : ℕ) : Type 0 where
  pub entry : (j : ℕ) → j < entry_size kind → IsByte (s.cells (entry_place kind (info_of dirs files kind) e + j))
  pub zero : AreBytesOf s.cells dirs files (Link kind 0)
  pub in_bucket : HasWayBytes s.cells dirs files
      (Bucket kind (bucket_of (table_in s.cells kind (info_of dirs files kind)) e)) e
  pub in_directory : HasWayBytes s.cells dirs files
      (Children kind ((table_in s.cells kind (info_of dirs files kind)).parent e)) e

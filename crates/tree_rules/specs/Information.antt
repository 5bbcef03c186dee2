-- The header of a filesystem and the information that it names, as numbers in the cells of a store.
use Rattle.std.specs.Prelude.{◌≡◌, ℕ, ◌+◌, Bool, true, false, List, [], ◌∷◌, Option, Some, None}
use Rattle.save_bytes.specs.Cells.{Cell}
use Rattle.save_bytes.specs.CellNumbers.{bytes_in, number_in}
use Rattle.entry_tables.specs.declared.table.EntryKind.{EntryKind}
use Rattle.entry_tables.specs.declared.table.EntryKind.TheVariants.{Dir, File}
use Rattle.tree_model.specs.declared.kind.TreeKind.{TreeKind}
use Rattle.tree_rules.specs.declared.information.Information.{Information}
use Rattle.tree_rules.specs.declared.information.TableFields.{TableFields}
use Rattle.tree_model.specs.declared.kind.TreeKind.TheVariants.{Save, Vsxe}

-- the four bytes that a header begins with: SAVE or VSXE
abbrev pub letters_of : TreeKind → List ℕ
letters_of Save = 0x53 ∷ 0x41 ∷ 0x56 ∷ 0x45 ∷ []
letters_of Vsxe = 0x56 ∷ 0x53 ∷ 0x58 ∷ 0x45 ∷ []

-- the version behind them
abbrev pub version_of_tree : TreeKind → ℕ
version_of_tree Save = 0x40000
version_of_tree Vsxe = 0x30000

-- a header has 0x20 bytes, and the information 0x68
abbrev pub header_len : ℕ
header_len = 0x20

abbrev pub information_len : ℕ
information_len = 0x68

-- the header begins as a filesystem of this kind does
pub record IsLettered (kind : TreeKind) (cells : ℕ → Cell) : Type 0 where
  pub letters : bytes_in cells 0 4 ≡ letters_of kind
  pub version : number_in 4 cells 4 ≡ version_of_tree kind

-- what the information says of a table and its buckets
abbrev pub fields_on : Information → EntryKind → TableFields
fields_on info Dir = info.dirs
fields_on info File = info.files

-- where the fields on the buckets and on the table of a kind begin
abbrev pub buckets_field : EntryKind → ℕ
buckets_field Dir = 0x08
buckets_field File = 0x18

abbrev pub table_field : EntryKind → ℕ
table_field Dir = 0x48
table_field File = 0x58

-- the fields on a table, in the information from a place on
abbrev pub table_fields : (ℕ → Cell) → ℕ → EntryKind → TableFields
table_fields cells at kind = record {
  buckets_at = number_in 8 cells (at + buckets_field kind);
  buckets = number_in 4 cells (at + buckets_field kind + 8);
  table_at = number_in 8 cells (at + table_field kind);
  first = number_in 4 cells (at + table_field kind);
  blocks = number_in 4 cells (at + table_field kind + 4);
}

-- the information from a place on
unfoldable pub information_at : (ℕ → Cell) → ℕ → Information
information_at cells at = record {
  at = at;
  block = number_in 4 cells (at + 4);
  dirs = table_fields cells at Dir;
  files = table_fields cells at File;
  chain_at = number_in 8 cells (at + 0x28);
  count = number_in 4 cells (at + 0x30);
  region_at = number_in 8 cells (at + 0x38);
}

-- the header names its place
unfoldable pub information_in : (ℕ → Cell) → Information
information_in cells = information_at cells (number_in 8 cells 8)

-- the data blocks are in a second part: those of a SAVE, where there is one
abbrev pub has_second : TreeKind → Option ℕ → Bool
has_second Save None = false
has_second Save (Some split) = true
has_second Vsxe split = false

-- where the first part ends, of a store of so many cells
abbrev pub front_len : Option ℕ → ℕ → ℕ
front_len None size = size
front_len (Some split) size = split

-- Why a filesystem is not mounted, as a whole.
use Rattle.std.specs.Prelude.{◌≡◌, ℕ, Option, Some, List, ⊤}
use Rattle.save_bytes.specs.Cells.{Cell}
use Rattle.save_bytes.specs.CellNumbers.{number_in}
use Rattle.save_bytes.specs.Answers.{IsFirstFault}
use Rattle.chain_nodes.specs.Table.{table_in, HasFault}
use Rattle.entry_tables.specs.declared.table.EntryKind.{EntryKind}
use Rattle.entry_tables.specs.declared.table.EntryKind.TheVariants.{Dir, File}
use Rattle.entry_tables.specs.Tables.{Tables}
use Rattle.entry_tables.specs.Used.{used_entries}
use Rattle.entry_audit.specs.Reading.{BlamesOne}
use Rattle.tree_model.specs.declared.kind.TreeKind.{TreeKind}
use Rattle.tree_model.specs.declared.kind.TreeKind.TheVariants.{Save}
use Rattle.tree_layout.specs.Headers.{IsOther, HasHeader, HasBadHeader}
use Rattle.tree_rules.specs.declared.information.Places.{Places}
use Rattle.tree_rules.specs.Information.{information_in, information_len}
use Rattle.tree_rules.specs.Places.{places_of, table_lies, table_info, laid_cells, tree_tables}
use Rattle.tree_rules.specs.Layout.{layout_fault}
use Rattle.tree_rules.specs.Lists.{Holder, IsTableList}
use Rattle.tree_rules.specs.Fails.{BreaksAt}
use Rattle.save_mount.specs.declared.fault.MountFault.{MountFault}
use Rattle.save_mount.specs.declared.fault.MountFault.TheVariants.{Memory, Disk, Damaged, Broken, NotSave, Layout}
use Rattle.save_mount.specs.Held.{FileNeeds}
use Rattle.save_mount.specs.declared.beginning.Begun.{Begun}
use Rattle.save_mount.specs.Causes.{IsPlaced}
use Rattle.save_mount.specs.Structure.{HasStructure, NeedsStructure}

-- where a filesystem lies, by its cells
abbrev pub places_in : TreeKind → Option ℕ → (ℕ → Cell) → Places
places_in kind split cells = places_of kind split (information_in cells)

-- these are the chains of its tables
abbrev pub AreTableChains : TreeKind → Option ℕ → (ℕ → Cell) → (EntryKind → List ℕ) → Type 0
AreTableChains kind split cells chains = (table : EntryKind)
    → IsTableList (table_in cells (places_in kind split cells).chain) (places_in kind split cells).chain.count
    (table_lies (places_in kind split cells) table) (chains table)

-- and these its tables
abbrev pub tables_of : TreeKind → ℕ → Option ℕ → (ℕ → Cell) → (EntryKind → List ℕ) → Tables
tables_of kind size split cells chains = tree_tables size (places_in kind split cells) chains cells

-- a condition on where all lies is the first that fails: whatever the tables are, or by the tables that there are
pub data FailsFirst (kind : TreeKind) (size : ℕ) (split : Option ℕ) (cells : ℕ → Cell) (condition : ℕ) : Type 0 where
  WithAnyTables : ((t : Tables) → layout_fault kind split size (information_in cells) t ≡ Some condition)
      → FailsFirst kind size split cells condition
  WithTheTables : (chains : EntryKind → List ℕ) → AreTableChains kind split cells chains
      → layout_fault kind split size (information_in cells) (tables_of kind size split cells chains) ≡ Some condition
      → FailsFirst kind size split cells condition

-- a cell that is needed is no byte, and names this block
pub data BlamesMount (kind : TreeKind) (size : ℕ) (split : Option ℕ) (cells : ℕ → Cell)
    (part level block : ℕ) : Type 0 where
  InHeader : HasBadHeader kind size cells part level block → BlamesMount kind size split cells part level block
  InInformation : HasHeader kind size cells (number_in 8 cells 8)
      → IsFirstFault cells (number_in 8 cells 8) information_len part level block
      → BlamesMount kind size split cells part level block
  InLists : (entry : ℕ)
      → NeedsStructure (table_in cells (places_in kind split cells).chain) (places_in kind split cells) entry
      → HasFault (table_in cells (places_in kind split cells).chain) entry part level block
      → BlamesMount kind size split cells part level block
  InTables : (chains : EntryKind → List ℕ) → AreTableChains kind split cells chains
      → BlamesOne (table_info size (places_in kind split cells) Dir) (table_info size (places_in kind split cells) File)
      (laid_cells size (places_in kind split cells) chains cells) part level block
      → BlamesMount kind size split cells part level block
  InFile : kind ≡ Save → (chains : EntryKind → List ℕ) → AreTableChains kind split cells chains → (e entry : ℕ)
      → used_entries ((tables_of kind size split cells chains).table File) e
      → FileNeeds (table_in cells (places_in kind split cells).chain) (places_in kind split cells).chain.count
      ((tables_of kind size split cells chains).start e) entry
      → HasFault (table_in cells (places_in kind split cells).chain) entry part level block
      → BlamesMount kind size split cells part level block

-- why a filesystem is not mounted
abbrev pub HasMountCause : TreeKind → ℕ → Option ℕ → (ℕ → Cell) → MountFault → Type 0
HasMountCause kind size split cells Memory = ⊤
HasMountCause kind size split cells Disk = ⊤
HasMountCause kind size split cells (Damaged part level block) = BlamesMount kind size split cells part level block
HasMountCause kind size split cells (Broken table entry) = BreaksAt kind size split cells table entry
HasMountCause kind size split cells NotSave = IsOther kind size cells
HasMountCause kind size split cells (Layout condition) =
    HasHeader kind size cells (number_in 8 cells 8) × FailsFirst kind size split cells condition

-- The filesystem lies where its information says, and the lists that were walked are its own.
pub record IsBegun (kind : TreeKind) (size : ℕ) (split : Option ℕ) (cells : ℕ → Cell) (begun : Begun) : Type 0 where
  pub placed : IsPlaced kind size split cells begun.info
  pub places : begun.places ≡ places_in kind split cells
  pub lists : Holder → List ℕ
  pub structure : HasStructure cells begun.places begun.found lists

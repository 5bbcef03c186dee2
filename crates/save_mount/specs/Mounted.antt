-- A mounted filesystem: what is kept of the lists and tables that its store has.
use Rattle.std.specs.Prelude.{◌≡◌, ℕ, ◌≤◌, ◌↔◌, true, Option, None, List, length, ◌++◌, ⊤}
use Rattle.std.specs.List.{Contains}
use Rattle.save_bytes.specs.Cells.{Cell}
use Rattle.container_header.specs.Conditions.{first_failing}
use Rattle.entry_tables.specs.declared.table.EntryKind.TheVariants.{Dir, File}
use Rattle.held_lists.specs.Sets.{has_entry, HasRoomFor}
use Rattle.tree_model.specs.declared.kind.TreeKind.{TreeKind}
use Rattle.tree_rules.specs.declared.information.Information.{Information}
use Rattle.tree_rules.specs.declared.information.Places.{Places}
use Rattle.tree_rules.specs.Information.{information_in}
use Rattle.tree_rules.specs.Layout.{place_faults}
use Rattle.tree_rules.specs.Lists.{Holder, Free, OfTable}
use Rattle.tree_rules.specs.Places.{places_of, table_blocks, table_info}
use Rattle.tree_rules.specs.Reading.{IsRoomOf}
use Rattle.tree_rules.specs.Trees.{table_chains, IsConsistentTree}
use Rattle.save_mount.specs.declared.fault.MountFault.{MountFault}
use Rattle.save_mount.specs.declared.fault.MountFault.TheVariants.{Memory, Disk, Damaged, Broken, NotSave, Layout}
use Rattle.save_mount.specs.declared.mounting.Mounted.{Mounted}
use Rattle.save_mount.specs.declared.structure.Structure.{Structure}
use Rattle.save_mount.specs.declared.tables.Audited.{Audited}
use Rattle.save_mount.specs.Counts.{IsCountOf, IsLost}
use Rattle.save_mount.specs.Held.{AreTableBlocks}
use Rattle.save_mount.specs.Mounts.{tables_of}

-- what is kept of lists and tables, where so many data blocks are lost
abbrev pub mount_with : TreeKind → Information → Places → Structure → Audited → ℕ → Mounted
mount_with kind info p found audited lost = record {
  kind = kind;
  info = info;
  places = p;
  dirs = audited.dirs;
  files = audited.files;
  blocks = found.blocks;
  held = found.held;
  room = record { blocks = found.free; dirs = audited.free_dirs; files = audited.free_files };
  lost = lost;
}

-- The cells hold a tree with these lists, of which this is kept: where all lies, the set of all entries of the lists,
-- what can be added, and how many data blocks are in no list.
pub record IsMountOf (kind : TreeKind) (size : ℕ) (split : Option ℕ) (cells : ℕ → Cell) (m : Mounted)
    (lists : Holder → List ℕ) : Type 0 where
  pub consistent : IsConsistentTree kind size split cells lists
  pub kind_is : m.kind ≡ kind
  pub info_is : m.info ≡ information_in cells
  pub places_are : m.places ≡ places_of kind split m.info
  pub dirs_at : m.dirs ≡ table_info size m.places Dir
  pub files_at : m.files ≡ table_info size m.places File
  pub blocks_are : m.blocks.items
      ≡ table_blocks m.places.dirs.table (lists (OfTable Dir)) ++ table_blocks m.places.files.table (lists (OfTable File))
  pub held_are : (entry : ℕ)
      → (has_entry m.held entry ≡ true) ↔ ((holder : Holder) × Contains (lists holder) entry)
  pub free_blocks : m.room.blocks ≡ length (lists Free)
  pub free_dirs : IsRoomOf ((tables_of kind size split cells (table_chains lists)).table Dir) m.room.dirs
  pub free_files : IsRoomOf ((tables_of kind size split cells (table_chains lists)).table File) m.room.files
  pub lost_are : IsCountOf (IsLost m.places.chain.count lists) m.lost

-- What is known of a mounted filesystem even where the cells are not: it lies in its store as it should, the data
-- blocks of its tables are data blocks, and the set has a bit for each entry.
pub record IsPlacedMount (kind : TreeKind) (split : Option ℕ) (size : ℕ) (m : Mounted) : Type 0 where
  pub kind_is : m.kind ≡ kind
  pub places_are : m.places ≡ places_of kind split m.info
  pub faultless : first_failing 1 (place_faults kind split size m.info) ≡ None
  pub dirs_at : m.dirs ≡ table_info size m.places Dir
  pub files_at : m.files ≡ table_info size m.places File
  pub blocks_are : AreTableBlocks m.places m.blocks.items
  pub room : (entry : ℕ) → entry ≤ m.places.chain.count → HasRoomFor m.held entry
  pub few_free : m.room.blocks ≤ m.places.chain.count
  pub few_lost : m.lost ≤ m.places.chain.count

-- the fault says nothing of the store
abbrev pub IsMemoryOrDisk : MountFault → Type 0
IsMemoryOrDisk Memory = ⊤
IsMemoryOrDisk Disk = ⊤
IsMemoryOrDisk (Damaged part level block) = ⊥
IsMemoryOrDisk (Broken table entry) = ⊥
IsMemoryOrDisk NotSave = ⊥
IsMemoryOrDisk (Layout condition) = ⊥

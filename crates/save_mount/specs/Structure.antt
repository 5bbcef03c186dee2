-- The free list and the chains of the tables, as they were walked.
use Rattle.std.specs.Prelude.{◌≡◌, ℕ, false, List, [], length, ◌++◌}
use Rattle.save_bytes.specs.Cells.{Cell}
use Rattle.chain_nodes.specs.Table.{table_in}
use Rattle.chain_nodes.specs.Chains.{IsFreeList}
use Rattle.chain_nodes.specs.Faults.{IsFreeNeeded}
use Rattle.entry_tables.specs.declared.table.EntryKind.{EntryKind}
use Rattle.entry_tables.specs.declared.table.EntryKind.TheVariants.{Dir, File}
use Rattle.entry_tables.specs.Tables.{Tables}
use Rattle.held_lists.specs.declared.set.EntrySet.{EntrySet}
use Rattle.held_lists.specs.Sets.{has_entry}
use Rattle.held_lists.specs.Walks.{TakesAll}
use Rattle.tree_model.specs.declared.kind.TreeKind.{TreeKind}
use Rattle.tree_rules.specs.declared.information.Places.{Places}
use Rattle.tree_rules.specs.Lists.{Holder, Free, OfTable, OfFile, IsTableList}
use Rattle.tree_rules.specs.Places.{table_lies, table_blocks}
use Rattle.tree_rules.specs.Fails.{allocation_number, TreeFailsAt}
use Rattle.save_mount.specs.declared.structure.Structure.{Structure}
use Rattle.save_mount.specs.Held.{IsFreeFault, TableNeeds}
use Rattle.save_mount.specs.Holders.{HoldsLists}

-- the free list was taken into an empty set
pub record IsFreeHeld (table : ℕ → ℕ → Cell) (count : ℕ) (found : Structure) : Type 0 where
  pub list : List ℕ
  pub free : IsFreeList table count list
  pub none : EntrySet
  pub is_none : (entry : ℕ) → has_entry none entry ≡ false
  pub takes : TakesAll none found.held list
  pub len : found.free ≡ length list
  pub no_blocks : found.blocks.items ≡ []

-- the free list, walked under an empty set, is at fault
pub record FailsFree (table : ℕ → ℕ → Cell) (count entry : ℕ) : Type 0 where
  pub none : EntrySet
  pub is_none : (entry : ℕ) → has_entry none entry ≡ false
  pub fault : IsFreeFault table count none entry

-- the lists that were walked: the set has exactly their entries, and those of the tables' blocks are listed
pub record HasStructure (cells : ℕ → Cell) (p : Places) (found : Structure) (lists : Holder → List ℕ) : Type 0 where
  pub holds : (kind : TreeKind) (t : Tables) → HoldsLists kind (table_in cells p.chain) p t found.held lists
  pub free : IsFreeList (table_in cells p.chain) p.chain.count (lists Free)
  pub free_len : found.free ≡ length (lists Free)
  pub tables : (table : EntryKind)
      → IsTableList (table_in cells p.chain) p.chain.count (table_lies p table) (lists (OfTable table))
  pub files : (e : ℕ) → lists (OfFile e) ≡ []
  pub blocks : found.blocks.items
      ≡ table_blocks p.dirs.table (lists (OfTable Dir)) ++ table_blocks p.files.table (lists (OfTable File))

-- a rule fails at an entry whatever the tables have
abbrev pub FailsInStructure : (ℕ → Cell) → Places → ℕ → Type 0
FailsInStructure cells p entry = (kind : TreeKind) (t : Tables)
    → TreeFailsAt kind (table_in cells p.chain) p t allocation_number entry

-- an entry is needed to follow the free list, or the chain of a table
pub data NeedsStructure (table : ℕ → ℕ → Cell) (p : Places) (entry : ℕ) : Type 0 where
  NeedsFree : IsFreeNeeded table p.chain.count entry → NeedsStructure table p entry
  NeedsChain : (entries : EntryKind) → TableNeeds table p.chain.count (table_lies p entries) entry
      → NeedsStructure table p entry

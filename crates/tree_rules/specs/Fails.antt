-- Where a rule of a filesystem fails: the table and the entry, by their numbers in a refusal.
use Rattle.std.specs.Prelude.{◌≡◌, ◌≢◌, ℕ, ◌+◌, ◌*◌, ◌<◌, ◌≤◌, ◌==◌, Option, None, List, length, if◌then◌else◌}
use Rattle.std.specs.List.{Contains}
use Rattle.save_bytes.specs.Cells.{Cell}
use Rattle.chain_nodes.specs.declared.info.ChainInfo.{ChainInfo}
use Rattle.chain_nodes.specs.declared.node.Node.{Node}
use Rattle.chain_nodes.specs.declared.node.Lead.{Lead}
use Rattle.chain_nodes.specs.declared.node.Lead.TheVariants.{Opens, OpensFree}
use Rattle.chain_nodes.specs.Table.{table_in, word_v, index_of}
use Rattle.chain_nodes.specs.Chains.{start_of, AreNodes, entries_of, occurrences, IsChain}
use Rattle.chain_nodes.specs.Faults.{IsBroken, IsFreeBroken}
use Rattle.entry_tables.specs.declared.table.EntryKind.{EntryKind}
use Rattle.entry_tables.specs.declared.table.EntryKind.TheVariants.{File}
use Rattle.entry_tables.specs.Kinds.{table_number}
use Rattle.entry_tables.specs.Tables.{Tables}
use Rattle.entry_tables.specs.Used.{used_entries}
use Rattle.entry_tables.specs.Fails.{RuleFailsAt}
use Rattle.tree_model.specs.declared.kind.TreeKind.{TreeKind}
use Rattle.tree_model.specs.declared.kind.TreeKind.TheVariants.{Save, Vsxe}
use Rattle.tree_rules.specs.Information.{information_in}
use Rattle.tree_rules.specs.declared.information.TableAt.{TableAt}
use Rattle.tree_rules.specs.declared.information.TableAt.TheVariants.{Plainly, InChain}
use Rattle.tree_rules.specs.declared.information.Places.{Places}
use Rattle.tree_rules.specs.Places.{places_of, tree_tables}
use Rattle.tree_rules.specs.Layout.{layout_fault}
use Rattle.tree_rules.specs.Lists.{Holder, Free, OfTable, OfFile, no_block, IsTableList}
use Rattle.tree_rules.specs.Places.{table_lies}

-- the number that names the allocation table
abbrev pub allocation_number : ℕ
allocation_number = 1

-- how a holder's list begins, and with which entry: 0 for none
abbrev pub lead_of : Holder → Lead
lead_of Free = OpensFree
lead_of (OfTable table) = Opens
lead_of (OfFile e) = Opens

abbrev pub table_first : TableAt → ℕ
table_first (Plainly at) = 0
table_first (InChain first blocks) = first + 1

abbrev pub file_first : TreeKind → ℕ → ℕ
file_first Save start = if start == no_block then 0 else start + 1
file_first Vsxe start = 0

abbrev pub first_of : TreeKind → (ℕ → ℕ → Cell) → Places → Tables → Holder → ℕ
first_of kind table p t Free = index_of (word_v table 0)
first_of kind table p t (OfTable entries) = table_first (table_lies p entries)
first_of kind table p t (OfFile e) = file_first kind (t.start e)

-- a holder there is: a file is a used entry
abbrev pub IsHolder : Tables → Holder → Type 0
IsHolder t Free = Unit {0}
IsHolder t (OfTable entries) = Unit {0}
IsHolder t (OfFile e) = used_entries (t.table File) e

-- the list of a holder is broken at an entry
abbrev pub IsListBroken : TreeKind → (ℕ → ℕ → Cell) → Places → Tables → Holder → ℕ → Type 0
IsListBroken kind table p t Free entry = IsFreeBroken table p.chain.count entry
IsListBroken kind table p t (OfTable entries) entry =
    IsBroken table p.chain.count Opens (first_of kind table p t (OfTable entries)) entry
IsListBroken kind table p t (OfFile e) entry =
    IsBroken table p.chain.count Opens (first_of kind table p t (OfFile e)) entry

-- an entry belongs to a node of a holder's list, and all up to that node is as it should be
pub record IsReachedBy (kind : TreeKind) (table : ℕ → ℕ → Cell) (p : Places) (t : Tables) (holder : Holder)
    (entry : ℕ) : Type 0 where
  pub is_holder : IsHolder t holder
  pub nodes : List Node
  pub next : ℕ
  pub named : next ≤ p.chain.count
  pub linked : AreNodes table p.chain.count (lead_of holder) nodes next
  pub starts : start_of nodes next ≡ first_of kind table p t holder
  pub within : Contains (entries_of nodes) entry

-- some nodes of a holder's list are as they should be, and an entry is twice in them
pub record IsTwiceIn (kind : TreeKind) (table : ℕ → ℕ → Cell) (p : Places) (t : Tables) (holder : Holder)
    (entry : ℕ) : Type 0 where
  pub reached : IsReachedBy kind table p t holder entry
  pub twice : 2 ≤ occurrences entry (entries_of reached.nodes)

-- a table's chain has too few blocks
pub record IsShortTable (table : ℕ → ℕ → Cell) (p : Places) (entries : EntryKind) (entry : ℕ) : Type 0 where
  pub blocks : ℕ
  pub first : ℕ
  pub lies : table_lies p entries ≡ InChain first blocks
  pub named : entry ≡ first + 1
  pub list : List ℕ
  pub chain : IsChain table p.chain.count (first + 1) list
  pub short : length list < blocks

-- a file's first data block and its size don't agree
pub data IsWrongFile (table : ℕ → ℕ → Cell) (chain : ChainInfo) (start size : ℕ) : Type 0 where
  NoneButBytes : start ≡ no_block → 1 ≤ size → IsWrongFile table chain start size
  PastTheBlocks : start ≢ no_block → chain.count ≤ start → IsWrongFile table chain start size
  TooShort : start < chain.count → (list : List ℕ) → IsChain table chain.count (start + 1) list
      → length list * chain.block < size → IsWrongFile table chain start size

-- a rule fails at an entry, where these are the tables
pub data TreeFailsAt (kind : TreeKind) (table : ℕ → ℕ → Cell) (p : Places) (t : Tables)
    (number entry : ℕ) : Type 0 where
  OfList : (holder : Holder) → IsHolder t holder → number ≡ allocation_number
      → IsListBroken kind table p t holder entry → TreeFailsAt kind table p t number entry
  OfTwo : (one other : Holder) → one ≢ other → number ≡ allocation_number → IsReachedBy kind table p t one entry
      → IsReachedBy kind table p t other entry → TreeFailsAt kind table p t number entry
  OfTwice : (holder : Holder) → number ≡ allocation_number → IsTwiceIn kind table p t holder entry
      → TreeFailsAt kind table p t number entry
  OfShort : (entries : EntryKind) → number ≡ allocation_number → IsShortTable table p entries entry
      → TreeFailsAt kind table p t number entry
  OfTables : RuleFailsAt t number entry → TreeFailsAt kind table p t number entry
  OfWrongFile : kind ≡ Save → number ≡ table_number File → used_entries (t.table File) entry
      → IsWrongFile table p.chain (t.start entry) (t.wide entry) → TreeFailsAt kind table p t number entry

-- A rule fails at an entry of the cells: whatever the tables are, or where the tables have their chains and no
-- condition on where all lies fails.
pub data BreaksAt (kind : TreeKind) (size : ℕ) (split : Option ℕ) (cells : ℕ → Cell) (number entry : ℕ) : Type 0 where
  BeforeTables : ((t : Tables) → TreeFailsAt kind (table_in cells (places_of kind split (information_in cells)).chain)
      (places_of kind split (information_in cells)) t number entry) → BreaksAt kind size split cells number entry
  InTables : (chains : EntryKind → List ℕ)
      → ((entries : EntryKind)
      → IsTableList (table_in cells (places_of kind split (information_in cells)).chain)
      (places_of kind split (information_in cells)).chain.count
      (table_lies (places_of kind split (information_in cells)) entries) (chains entries))
      → layout_fault kind split size (information_in cells)
      (tree_tables size (places_of kind split (information_in cells)) chains cells) ≡ None
      → TreeFailsAt kind (table_in cells (places_of kind split (information_in cells)).chain)
      (places_of kind split (information_in cells))
      (tree_tables size (places_of kind split (information_in cells)) chains cells) number entry
      → BreaksAt kind size split cells number entry

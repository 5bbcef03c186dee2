-- A walk over the nodes of a list, and what calls on a list give.
use Rattle.std.specs.Prelude.{◌≡◌, ℕ, ◌+◌, ◌-◌, ◌<◌, ◌≤◌, List, length, slice_index, Result, Ok, Err, ⊤}
use Rattle.save_bytes.specs.declared.space.Bad.TheVariants.{Disk, Damaged}
use Rattle.save_bytes.specs.Cells.{Cell}
use Rattle.chain_nodes.specs.declared.info.Run.{Run}
use Rattle.chain_nodes.specs.declared.fault.ChainFault.{ChainFault}
use Rattle.chain_nodes.specs.declared.fault.ChainFault.TheVariants.{Broken, Short}
use Rattle.chain_nodes.specs.declared.fault.ChainFault.TheVariants.{Bad as Refused}
use Rattle.chain_nodes.specs.declared.node.Node.{Node}
use Rattle.chain_nodes.specs.declared.node.Lead.{Lead}
use Rattle.chain_nodes.specs.declared.walk.Cursor.{Cursor}
use Rattle.chain_nodes.specs.Chains.{start_of, AreNodes, IsNode, lead_after, entries_of, IsLinkedBy}

-- a cursor stands behind some nodes of the list that begins with `first`
pub record IsReached (table : ℕ → ℕ → Cell) (count : ℕ) (lead : Lead) (first : ℕ) (cursor : Cursor) : Type 0 where
  pub nodes : List Node
  pub linked : AreNodes table count lead nodes cursor.next
  pub starts : start_of nodes cursor.next ≡ first
  pub named : cursor.next ≤ count
  pub led : cursor.lead ≡ lead_after lead nodes
  pub behind : cursor.passed ≡ length (entries_of nodes)

-- the list that begins with `first` has so many entries
abbrev pub HasLength : (ℕ → ℕ → Cell) → ℕ → Lead → ℕ → ℕ → Type 0
HasLength table count lead first n = (list : List ℕ) × IsLinkedBy table count lead first list × (n ≡ length list)

-- a cursor is a place of the list that begins with its first entry, as it says
pub record IsListPlace (table : ℕ → ℕ → Cell) (count : ℕ) (cursor : Cursor) : Type 0 where
  pub reached : IsReached table count cursor.opens cursor.first cursor
  pub bounded : cursor.passed ≤ count

-- no node begins behind a cursor
abbrev pub IsAtEnd : Cursor → Type 0
IsAtEnd cursor = cursor.next ≡ 0

-- a position lies in the list that begins with `first`
abbrev pub HasPosition : (ℕ → ℕ → Cell) → ℕ → Lead → ℕ → ℕ → Type 0
HasPosition table count lead first pos = (list : List ℕ) → IsLinkedBy table count lead first list → pos < length list

-- the call was done, and P holds of what it gave, unless the disk failed
abbrev pub DoneUnlessDisk : {A : Type 0} → Result A ChainFault → (A → Type 0) → Type 0
DoneUnlessDisk (Ok given) P = P given
DoneUnlessDisk (Err (Refused Disk)) P = ⊤
DoneUnlessDisk (Err (Refused (Damaged part level block))) P = ⊥
DoneUnlessDisk (Err (Broken entry)) P = ⊥
DoneUnlessDisk (Err (Short need have)) P = ⊥

-- the data blocks of a run belong to the entries of a list from a position on
pub record IsRunIn (list : List ℕ) (pos : ℕ) (run : Run) : Type 0 where
  pub inside : pos + run.len ≤ length list
  pub blocks : (k : ℕ) → k < run.len → slice_index list (pos + k) ≡ run.block + k + 1

-- a run is the rest of the node that has the block at a position of the list
pub record IsRestOfNode (table : ℕ → ℕ → Cell) (count : ℕ) (lead : Lead) (first pos : ℕ) (run : Run) : Type 0 where
  pub nodes : List Node
  pub node : Node
  pub next : ℕ
  pub linked : AreNodes table count lead nodes node.first
  pub starts : start_of nodes node.first ≡ first
  pub is_node : IsNode table count (lead_after lead nodes) node next
  pub named : next ≤ count
  pub before : length (entries_of nodes) ≤ pos
  pub block : run.block + 1 ≡ node.first + (pos - length (entries_of nodes))
  pub last : run.block + run.len ≡ node.last

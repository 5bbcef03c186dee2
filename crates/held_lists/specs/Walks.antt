-- Lists whose entries were taken into a set, and where such a list is at fault.
use Rattle.std.specs.Prelude.{◌≡◌, ◌⊎◌, ℕ, ◌≤◌, true, false, nat_eq, List, length, Option, Some, None, Result, Ok, Err}
use Rattle.std.specs.List.{Contains, IsDistinct}
use Rattle.save_bytes.specs.Cells.{Cell}
use Rattle.chain_nodes.specs.declared.fault.ChainFault.{ChainFault}
use Rattle.chain_nodes.specs.declared.node.Node.{Node}
use Rattle.chain_nodes.specs.declared.node.Lead.{Lead}
use Rattle.chain_nodes.specs.Table.{HasWords}
use Rattle.chain_nodes.specs.Chains.{start_of, AreNodes, lead_after, entries_of, occurrences, IsLinkedBy}
use Rattle.chain_nodes.specs.Faults.{FailsAt}
use Rattle.held_lists.specs.declared.set.EntrySet.{EntrySet}
use Rattle.held_lists.specs.declared.walk.Place.{Place}
use Rattle.held_lists.specs.declared.walk.HoldFault.{HoldFault}
use Rattle.held_lists.specs.declared.walk.HoldFault.TheVariants.{Memory, Chain}
use Rattle.held_lists.specs.Sets.{has_entry}

-- the entries of a list were taken into a set, in which none of them was
pub record TakesAll (old new : EntrySet) (list : List ℕ) : Type 0 where
  pub once : IsDistinct nat_eq list
  pub fresh : (entry : ℕ) → Contains list entry → has_entry old entry ≡ false
  pub taken : (entry : ℕ) → Contains list entry → has_entry new entry ≡ true
  pub kept : (entry : ℕ) → has_entry old entry ≡ true → has_entry new entry ≡ true
  pub only : (entry : ℕ) → has_entry new entry ≡ true → (has_entry old entry ≡ true) ⊎ Contains list entry

-- a place lies behind some nodes of the list that begins with `first`, whose entries were taken in
pub record IsWalkedBy (table : ℕ → ℕ → Cell) (count : ℕ) (lead : Lead) (first : ℕ) (before : EntrySet)
    (nodes : List Node) (at : Place) (held : EntrySet) : Type 0 where
  pub linked : AreNodes table count lead nodes at.next
  pub starts : start_of nodes at.next ≡ first
  pub named : at.next ≤ count
  pub led : at.lead ≡ lead_after lead nodes
  pub passed : at.passed ≡ length (entries_of nodes)
  pub takes : TakesAll before held (entries_of nodes)

-- P holds of each list, of some nodes of which the place lies behind
abbrev pub IfWalked : (ℕ → ℕ → Cell) → ℕ → Place → EntrySet → (Lead → ℕ → EntrySet → Type 0) → Type 0
IfWalked table count at held P = (lead : Lead) (first : ℕ) (before : EntrySet) (nodes : List Node)
    → IsWalkedBy table count lead first before nodes at held → P lead first before

-- the whole list that begins with `first` was
pub record IsHeldList (table : ℕ → ℕ → Cell) (count : ℕ) (lead : Lead) (first : ℕ) (before held : EntrySet)
    (list : List ℕ) : Type 0 where
  pub linked : IsLinkedBy table count lead first list
  pub takes : TakesAll before held list

-- some nodes of the list that begins with `first` have these entries
pub record HasFront (table : ℕ → ℕ → Cell) (count : ℕ) (lead : Lead) (first : ℕ) (nodes : List Node) : Type 0 where
  pub next : ℕ
  pub named : next ≤ count
  pub linked : AreNodes table count lead nodes next
  pub starts : start_of nodes next ≡ first

-- The list is at fault at an entry: its words are not as they should be, or it is twice in it, or it was in the set
-- before.
pub data IsListFault (table : ℕ → ℕ → Cell) (count : ℕ) (lead : Lead) (first : ℕ) (before : EntrySet)
    (entry : ℕ) : Type 0 where
  Unlike : HasWords table entry → FailsAt table count lead first entry → IsListFault table count lead first before entry
  Twice : (nodes : List Node) → HasFront table count lead first nodes → 2 ≤ occurrences entry (entries_of nodes)
      → IsListFault table count lead first before entry
  Held : (nodes : List Node) → HasFront table count lead first nodes → Contains (entries_of nodes) entry
      → has_entry before entry ≡ true → IsListFault table count lead first before entry

-- the fault of a list that an answer passes on
abbrev pub chain_fault_of : {A : Type 0} → Result A HoldFault → Option ChainFault
chain_fault_of (Ok value) = None
chain_fault_of (Err Memory) = None
chain_fault_of (Err (Chain fault)) = Some fault

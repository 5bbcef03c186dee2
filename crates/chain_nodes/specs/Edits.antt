-- What a table is after one of its entries was written, and nodes whose list is about to change.
use Rattle.std.specs.Prelude.{◌≡◌, ◌≢◌, ℕ, ◌+◌, ◌<◌, ◌≤◌, nat_eq, List, [], ◌∷◌, ◌++◌}
use Rattle.std.specs.List.{IsDistinct}
use Rattle.save_bytes.specs.Cells.{Cell, IsByte}
use Rattle.chain_nodes.specs.declared.node.Node.{Node}
use Rattle.chain_nodes.specs.declared.node.Lead.{Lead}
use Rattle.chain_nodes.specs.declared.node.Lead.TheVariants.{Opens, OpensFree}
use Rattle.chain_nodes.specs.Table.{word_u, word_v, index_of, flagged, HasWords}
use Rattle.chain_nodes.specs.Chains.{IsLead, IsInner, start_of, AreNodes, lead_after, entries_of}

-- the bytes of an entry are the same
abbrev pub KeepsEntry : (old new : ℕ → ℕ → Cell) → ℕ → Type 0
KeepsEntry old new entry = (k : ℕ) → k < 8 → IsByte (old entry k) → new entry k ≡ old entry k

-- the words of an entry are these, and each byte of any other entry is as before
pub record IsEntrySet (old new : ℕ → ℕ → Cell) (count entry u v : ℕ) : Type 0 where
  pub words : HasWords new entry
  pub u_is : word_u new entry ≡ u
  pub v_is : word_v new entry ≡ v
  pub others : (x : ℕ) → x ≤ count → x ≢ entry → KeepsEntry old new x

-- The word V of a node's first entry: it names where the next node begins, with the flag where the node has a second
-- entry.
pub record IsHeadWord (node : Node) (next word : ℕ) : Type 0 where
  pub single : node.first ≡ node.last → word ≡ next
  pub several : node.first < node.last → word ≡ flagged next

-- a node as it should be, but for the word that names the next one
pub record HasEnds (table : ℕ → ℕ → Cell) (count : ℕ) (lead : Lead) (node : Node) : Type 0 where
  pub starts : 1 ≤ node.first
  pub ordered : node.first ≤ node.last
  pub ends : node.last ≤ count
  pub read : HasWords table node.first
  pub u : IsLead lead (word_u table node.first)
  pub second : node.first < node.last → IsInner table node (node.first + 1)
  pub last : node.first < node.last → IsInner table node node.last

-- the free list has these nodes
pub record AreFreeNodes (table : ℕ → ℕ → Cell) (count : ℕ) (nodes : List Node) : Type 0 where
  pub read : HasWords table 0
  pub starts : start_of nodes 0 ≡ index_of (word_v table 0)
  pub linked : AreNodes table count OpensFree nodes 0
  pub once : IsDistinct nat_eq (entries_of nodes)

-- Nodes of two lists that can be linked: some nodes and one behind them, of which none is named as the next, and a list
-- that begins with `after`. No entry stands twice.
pub record AreJoinable (table : ℕ → ℕ → Cell) (count : ℕ) (lead other : Lead) (xs : List Node) (before : Node) (ys :
    List Node)
    (after : ℕ) : Type 0 where
  pub front : AreNodes table count lead xs before.first
  pub ends : HasEnds table count (lead_after lead xs) before
  pub behind : AreNodes table count other ys 0
  pub starts : start_of ys 0 ≡ after
  pub once : IsDistinct nat_eq (entries_of (xs ++ before ∷ ys))

-- some nodes, and an entry that they name as the next node's first one, which has words as it should; no entry of them and
-- of the node stands twice
pub record AreBefore (table : ℕ → ℕ → Cell) (count : ℕ) (lead : Lead) (xs : List Node) (node : Node) : Type 0 where
  pub front : AreNodes table count lead xs node.first
  pub read : HasWords table node.first
  pub u : IsLead (lead_after lead xs) (word_u table node.first)
  pub once : IsDistinct nat_eq (entries_of (xs ++ node ∷ []))

-- nodes that begin with `next`, and a node that shares no entry with them
pub record AreBehind (table : ℕ → ℕ → Cell) (count : ℕ) (lead : Lead) (node : Node) (ys : List Node) (next : ℕ) :
    Type 0 where
  pub linked : AreNodes table count lead ys 0
  pub starts : start_of ys 0 ≡ next
  pub once : IsDistinct nat_eq (entries_of (node ∷ ys))

-- some free nodes, one behind them, and others that begin with `next`
pub record AreFreeAround (table : ℕ → ℕ → Cell) (count : ℕ) (xs : List Node) (node : Node) (ys : List Node) (next :
    ℕ) : Type 0 where
  pub linked : AreNodes table count OpensFree (xs ++ node ∷ ys) 0
  pub starts : start_of ys 0 ≡ next
  pub once : IsDistinct nat_eq (entries_of (xs ++ node ∷ ys))

-- Nodes that were one list are two, of the same entries. The first ends with the entry `middle` of a node, and the other
-- begins with `rest`.
pub record AreCut (table : ℕ → ℕ → Cell) (count : ℕ) (xs : List Node) (node : Node) (ys : List Node) (middle rest :
    ℕ) : Type 0 where
  pub nodes : List Node
  pub front : AreNodes table count OpensFree (xs ++ record { first = node.first; last = middle } ∷ []) 0
  pub behind : AreNodes table count OpensFree nodes 0
  pub starts : start_of nodes 0 ≡ rest
  pub entries : entries_of (xs ++ record { first = node.first; last = middle } ∷ []) ++ entries_of nodes
      ≡ entries_of (xs ++ node ∷ ys)

-- nodes that were one free list are a chain, up to the entry `middle` of a node, and the free list behind it
pub record AreTaken (table : ℕ → ℕ → Cell) (count : ℕ) (xs : List Node) (node : Node) (ys : List Node) (middle : ℕ) :
    Type 0 where
  pub nodes : List Node
  pub chain : AreNodes table count Opens (xs ++ record { first = node.first; last = middle } ∷ []) 0
  pub free : AreFreeNodes table count nodes
  pub entries : entries_of (xs ++ record { first = node.first; last = middle } ∷ []) ++ entries_of nodes
      ≡ entries_of (xs ++ node ∷ ys)

-- a chain of nodes that begins with `first` and ends with `tail`, and the free list, which begins with `head`
pub record AreApartFrom (table : ℕ → ℕ → Cell) (count : ℕ) (xs : List Node) (tail : Node) (ys : List Node) (first
    head : ℕ) : Type 0 where
  pub chain : AreNodes table count Opens (xs ++ tail ∷ []) 0
  pub starts : start_of (xs ++ tail ∷ []) 0 ≡ first
  pub read : HasWords table 0
  pub free : AreNodes table count OpensFree ys 0
  pub head_is : start_of ys 0 ≡ head
  pub once : IsDistinct nat_eq (entries_of (xs ++ tail ∷ ys))

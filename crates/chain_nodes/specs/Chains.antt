-- Chains of entries. A chain is a list of nodes, and a node is a run of entries that follow each other.
use Rattle.std.specs.Prelude.{◌≡◌, ℕ, ◌+◌, ◌-◌, ◌<◌, ◌≤◌, nat_eq, List, [], ◌∷◌, ◌++◌, ◌==◌, count_by}
use Rattle.std.specs.List.{range_with_len, IsDistinct}
use Rattle.save_bytes.specs.Cells.{Cell}
use Rattle.chain_nodes.specs.declared.node.Node.{Node}
use Rattle.chain_nodes.specs.declared.node.Lead.{Lead}
use Rattle.chain_nodes.specs.declared.node.Lead.TheVariants.{Opens, OpensFree, Follows}
use Rattle.chain_nodes.specs.Table.{word_u, word_v, index_of, flagged, HasWords}

-- Which word U the first entry of a node has. It names the node before. The first node of a chain has the flag in place
-- of that; in the free list the flag of the first node is not looked at.
abbrev pub IsLead : Lead → ℕ → Type 0
IsLead Opens word = word ≡ flagged 0
IsLead OpensFree word = index_of word ≡ 0
IsLead (Follows before) word = word ≡ before

-- a second or last entry names both ends of its node
pub record IsInner (table : ℕ → ℕ → Cell) (node : Node) (entry : ℕ) : Type 0 where
  pub read : HasWords table entry
  pub u : word_u table entry ≡ flagged node.first
  pub v : word_v table entry ≡ node.last

-- a node lies in the table, and its first, second and last entry say so; `next` is where the node after it begins, or 0
pub record IsNode (table : ℕ → ℕ → Cell) (count : ℕ) (lead : Lead) (node : Node) (next : ℕ) : Type 0 where
  pub starts : 1 ≤ node.first
  pub ordered : node.first ≤ node.last
  pub ends : node.last ≤ count
  pub read : HasWords table node.first
  pub u : IsLead lead (word_u table node.first)
  pub single : node.first ≡ node.last → word_v table node.first ≡ next
  pub several : node.first < node.last → word_v table node.first ≡ flagged next
  pub second : node.first < node.last → IsInner table node (node.first + 1)
  pub last : node.first < node.last → IsInner table node node.last

-- where nodes begin, or what comes behind none
abbrev pub start_of : List Node → ℕ → ℕ
start_of [] next = next
start_of (node ∷ nodes) next = node.first

-- nodes that name each other in turn; behind the last one `next` is named
abbrev pub AreNodes : (ℕ → ℕ → Cell) → ℕ → Lead → List Node → ℕ → Type 0
AreNodes table count lead [] next = Unit {0}
AreNodes table count lead (node ∷ nodes) next =
    IsNode table count lead node (start_of nodes next) × AreNodes table count (Follows node.first) nodes next

-- how the node behind these begins
abbrev pub lead_after : Lead → List Node → Lead
lead_after lead [] = lead
lead_after lead (node ∷ nodes) = lead_after (Follows node.first) nodes

-- the entries of nodes, in their order
abbrev pub entries_of : List Node → List ℕ
entries_of [] = []
entries_of (node ∷ nodes) = range_with_len node.first (node.last + 1 - node.first) ++ entries_of nodes

-- how often a number stands in a list
abbrev pub occurrences : ℕ → List ℕ → ℕ
occurrences x list = count_by (λ y. y == x) list

-- The list consists of runs, which the table links in both directions, from the entry `first` on up to one that names
-- none as the next.
pub record IsLinkedBy (table : ℕ → ℕ → Cell) (count : ℕ) (lead : Lead) (first : ℕ) (list : List ℕ) : Type 0 where
  pub nodes : List Node
  pub linked : AreNodes table count lead nodes 0
  pub starts : start_of nodes 0 ≡ first
  pub entries : entries_of nodes ≡ list

-- the chain that begins with an entry is this list of entries, in which no number stands twice
pub record IsChain (table : ℕ → ℕ → Cell) (count first : ℕ) (list : List ℕ) : Type 0 where
  pub some : 1 ≤ first
  pub linked : IsLinkedBy table count Opens first list
  pub once : IsDistinct nat_eq list

-- the free entries are this list, which begins where entry 0 says
pub record IsFreeList (table : ℕ → ℕ → Cell) (count : ℕ) (list : List ℕ) : Type 0 where
  pub read : HasWords table 0
  pub linked : IsLinkedBy table count OpensFree (index_of (word_v table 0)) list
  pub once : IsDistinct nat_eq list

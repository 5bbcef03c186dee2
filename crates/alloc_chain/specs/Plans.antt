-- What a swap has to know of the old chain and of the free list before it writes.
use Rattle.std.specs.Prelude.{◌≡◌, ℕ, ◌+◌, ◌<◌, ◌≤◌, nat_eq, List, [], ◌∷◌, ◌++◌, length, Option, Some, None}
use Rattle.std.specs.Prelude.{Result, Ok, Err, IfSome, ⊤}
use Rattle.std.specs.List.{IsDistinct}
use Rattle.save_bytes.specs.declared.space.Bad.TheVariants.{Disk, Damaged}
use Rattle.chain_nodes.specs.declared.node.Node.{Node}
use Rattle.chain_nodes.specs.declared.fault.ChainFault.{ChainFault}
use Rattle.chain_nodes.specs.declared.fault.ChainFault.TheVariants.{Broken, Short}
use Rattle.chain_nodes.specs.declared.fault.ChainFault.TheVariants.{Bad as Refused}
use Rattle.chain_nodes.specs.Chains.{start_of, entries_of}
use Rattle.chain_nodes.specs.declared.node.Lead.TheVariants.{Opens}
use Rattle.chain_nodes.specs.Chains.{AreNodes}
use Rattle.chain_nodes.specs.Edits.{AreFreeNodes}
use Rattle.save_bytes.specs.Cells.{Cell}
use Rattle.alloc_chain.specs.declared.plan.NodeAt.{NodeAt}
use Rattle.alloc_chain.specs.declared.plan.Boundary.{Boundary}
use Rattle.alloc_chain.specs.declared.plan.Given.{Given}
use Rattle.alloc_chain.specs.declared.plan.Plan.{Plan}

-- the node lies in a table of so many entries, and so does what it names
pub record IsInTable (count : ℕ) (at : NodeAt) : Type 0 where
  pub some : 1 ≤ at.node.first
  pub ordered : at.node.first ≤ at.node.last
  pub inside : at.node.last ≤ count
  pub next : at.next ≤ count

-- the node is one of these, and is followed and counted as it says; so many blocks lie before all of them
pub record IsNodeAt (nodes : List Node) (from : ℕ) (at : NodeAt) : Type 0 where
  pub before : List Node
  pub after : List Node
  pub whole : nodes ≡ before ++ at.node ∷ after
  pub next : start_of after 0 ≡ at.next
  pub counted : at.end + at.node.first ≡ from + length (entries_of before) + at.node.last + 1

-- the first of these nodes was read, and what names the one behind it
pub record IsFirstOf (nodes : List Node) (at : NodeAt) : Type 0 where
  pub rest : List Node
  pub whole : nodes ≡ at.node ∷ rest
  pub next : start_of rest 0 ≡ at.next

-- The call was done, where there are as many blocks as are needed, and P holds of what it gave; where there are fewer,
-- it says so. Or the disk failed.
abbrev pub EnoughUnlessDisk : {A : Type 0} → (need have : ℕ) → Result A ChainFault → (A → Type 0) → Type 0
EnoughUnlessDisk need have (Ok given) P = (need ≤ have) × P given
EnoughUnlessDisk need have (Err (Refused Disk)) P = ⊤
EnoughUnlessDisk need have (Err (Refused (Damaged part level block))) P = ⊥
EnoughUnlessDisk need have (Err (Broken entry)) P = ⊥
EnoughUnlessDisk need have (Err (Short n h)) P = (n ≡ need) × (h ≡ have) × (have < need)

-- the nodes are cut behind block number n - 1 of them, where so many blocks lie before all of them
pub record IsBoundary (nodes : List Node) (from n : ℕ) (boundary : Boundary) : Type 0 where
  pub before : List Node
  pub after : List Node
  pub whole : nodes ≡ before ++ boundary.node ∷ after
  pub next : start_of after 0 ≡ boundary.next
  pub counted : from + length (entries_of before) + boundary.middle + 1 ≡ n + boundary.node.first

-- the nodes end and begin as is said
pub record IsEndedBy (nodes : List Node) (given : Given) : Type 0 where
  pub front : List Node
  pub whole : nodes ≡ front ++ given.tail ∷ []
  pub starts : start_of nodes 0 ≡ given.first

-- the node is the last one of a chain that begins with an entry, and is counted as it says
pub record IsLastOf (nodes : List Node) (first : ℕ) (at : NodeAt) : Type 0 where
  pub ended : IsEndedBy nodes (record { first = first; tail = at.node })
  pub counted : at.end ≡ length (entries_of nodes)

-- what a plan names lies in a table of so many entries
pub record IsBoundaryIn (count : ℕ) (boundary : Boundary) : Type 0 where
  pub some : 1 ≤ boundary.node.first
  pub from : boundary.node.first ≤ boundary.middle
  pub up_to : boundary.middle ≤ boundary.node.last
  pub inside : boundary.node.last ≤ count
  pub next : boundary.next ≤ count

pub record IsGivenIn (count : ℕ) (given : Given) : Type 0 where
  pub first : given.first ≤ count
  pub ordered : given.tail.first ≤ given.tail.last
  pub inside : given.tail.last ≤ count

pub record IsPlanIn (count : ℕ) (plan : Plan) : Type 0 where
  pub given : IfSome plan.given (IsGivenIn count)
  pub head : plan.head ≤ count
  pub boundary : IfSome plan.boundary (IsBoundaryIn count)

-- the nodes of a chain that is given back, or of none
abbrev pub AreGivenBy : List Node → Option Given → Type 0
AreGivenBy nodes None = nodes ≡ []
AreGivenBy nodes (Some given) = IsEndedBy nodes given

-- where the nodes are cut, if any of their blocks are taken
abbrev pub AreCutBy : List Node → ℕ → Option Boundary → Type 0
AreCutBy nodes n None = n ≡ 0
AreCutBy nodes n (Some boundary) = (1 ≤ n) × IsBoundary nodes 0 n boundary

-- just the blocks of the chain that is given back are taken, or there is none and none are taken
abbrev pub IsSameCut : Option Given → Option Boundary → Type 0
IsSameCut None None = ⊤
IsSameCut None (Some boundary) = ⊥
IsSameCut (Some given) None = ⊥
IsSameCut (Some given) (Some boundary) = boundary.middle ≡ given.tail.last

-- the plan of a swap: of these nodes of the old chain, and behind them of these free ones, the first n blocks are taken
pub record IsPlan (old free : List Node) (n : ℕ) (plan : Plan) : Type 0 where
  pub given : AreGivenBy old plan.given
  pub head : start_of free 0 ≡ plan.head
  pub cut : AreCutBy (old ++ free) n plan.boundary

-- an old chain, which may be missing, has these nodes
abbrev pub AreOldNodes : (ℕ → ℕ → Cell) → ℕ → Option ℕ → List Node → Type 0
AreOldNodes table count None nodes = nodes ≡ []
AreOldNodes table count (Some first) nodes =
    (1 ≤ first) × AreNodes table count Opens nodes 0 × (start_of nodes 0 ≡ first)

-- an old chain and the free list have these nodes, and neither has more blocks than the table
pub record CanPlan (table : ℕ → ℕ → Cell) (count : ℕ) (given : Option ℕ) (old free : List Node) : Type 0 where
  pub old_nodes : AreOldNodes table count given old
  pub free_nodes : AreFreeNodes table count free
  pub few_old : length (entries_of old) ≤ count
  pub few_free : length (entries_of free) ≤ count

-- nodes of an old chain, or none, and those of the free list; no entry stands twice
pub record AreApartLists (table : ℕ → ℕ → Cell) (count : ℕ) (old free : List Node) : Type 0 where
  pub chain : AreNodes table count Opens old 0
  pub listed : AreFreeNodes table count free
  pub once : IsDistinct nat_eq (entries_of (old ++ free))

-- the nodes of an old chain, which may be missing, and of the free list, as lists of entries
pub record HasNodes (table : ℕ → ℕ → Cell) (count : ℕ) (given : Option ℕ) (mine free : List ℕ) : Type 0 where
  pub old_nodes : List Node
  pub free_nodes : List Node
  pub can : CanPlan table count given old_nodes free_nodes
  pub apart : AreApartLists table count old_nodes free_nodes
  pub old_is : entries_of old_nodes ≡ mine
  pub free_is : entries_of free_nodes ≡ free

-- the plan of a swap: of these entries of the old chain, and behind them of these free ones, the first n are taken
pub record IsListPlan (table : ℕ → ℕ → Cell) (count : ℕ) (given : Option ℕ) (n : ℕ) (mine free : List ℕ)
    (plan : Plan) : Type 0 where
  pub nodes : HasNodes table count given mine free
  pub planned : IsPlan nodes.old_nodes nodes.free_nodes n plan

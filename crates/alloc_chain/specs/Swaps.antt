-- What a chain takes of its own blocks and of the free ones, in one change.
use Rattle.std.specs.Prelude.{◌≡◌, ◌⊎◌, ℕ, ◌+◌, ◌*◌, ◌<◌, ◌≤◌, List, [], ◌∷◌, ◌++◌, length, take, drop, Option}
use Rattle.std.specs.Prelude.{Some, None}
use Rattle.std.specs.Prelude.{Result, Ok, Err, ⊤, slice_index}
use Rattle.std.specs.List.{Contains}
use Rattle.save_bytes.specs.declared.space.Bad.TheVariants.{Disk, Damaged}
use Rattle.save_bytes.specs.Cells.{Cell, Spoilt, IsUnspoilt}
use Rattle.save_bytes.specs.Within.{MaySoften}
use Rattle.save_bytes.specs.Writes.{IsWithin}
use Rattle.chain_nodes.specs.declared.info.ChainInfo.{ChainInfo}
use Rattle.chain_nodes.specs.declared.fault.ChainFault.{ChainFault}
use Rattle.chain_nodes.specs.declared.fault.ChainFault.TheVariants.{Broken, Short}
use Rattle.chain_nodes.specs.declared.fault.ChainFault.TheVariants.{Bad as Refused}
use Rattle.chain_nodes.specs.Chains.{IsChain, IsFreeList}
use Rattle.alloc_chain.specs.declared.plan.Boundary.{Boundary}
use Rattle.alloc_chain.specs.declared.plan.Given.{Given}
use Rattle.alloc_chain.specs.declared.plan.Plan.{Plan}
use Rattle.chain_links.specs.Alters.{cut_entries}

-- a chain that may be missing is this list of entries
abbrev pub IsOptChain : (ℕ → ℕ → Cell) → ℕ → Option ℕ → List ℕ → Type 0
IsOptChain table count None list = list ≡ []
IsOptChain table count (Some first) list = IsChain table count first list

-- no number stands in both lists
abbrev pub ShareNone : List ℕ → List ℕ → Type 0
ShareNone one other = (x : ℕ) → Contains one x → ¬ Contains other x

-- an old chain, which may be missing, and the free list are as they should be, and share no entry
pub record CanSwap (table : ℕ → ℕ → Cell) (count : ℕ) (old : Option ℕ) (mine free : List ℕ) : Type 0 where
  pub chain : IsOptChain table count old mine
  pub listed : IsFreeList table count free
  pub share_none : ShareNone mine free

-- the first n entries of a list are a chain, and the others are free
pub record IsSwapped (table : ℕ → ℕ → Cell) (count n : ℕ) (list : List ℕ) (taken : Option ℕ) : Type 0 where
  pub chain : IsOptChain table count taken (take n list)
  pub rest : IsFreeList table count (drop n list)

-- an entry whose words a swap may need
abbrev pub IsSwapEntry : List ℕ → List ℕ → ℕ → Type 0
IsSwapEntry mine free entry = (entry ≡ 0) ⊎ Contains (mine ++ free) entry

-- a cell of an entry is spoilt, and names this block
abbrev pub HasSpoilt : (ℕ → ℕ → Cell) → ℕ → ℕ → ℕ → ℕ → Type 0
HasSpoilt table entry part level block = (k : ℕ) × (k < 8) × (table entry k ≡ Spoilt part level block)

-- A position of a list has the last of its first n entries, or one of the two behind that. Where a list of blocks is
-- cut behind its first n, of all entries that are written these alone may be ignored ones of a node: the one ends a
-- node then, and the others begin one.
abbrev pub IsNearCut : ℕ → ℕ → Type 0
IsNearCut n k = (1 ≤ n) × (n ≤ k + 1) × (k ≤ n + 1)

-- no cell of an entry is spoilt
abbrev pub IsUnspoiltEntry : (ℕ → ℕ → Cell) → ℕ → Type 0
IsUnspoiltEntry table entry = (k : ℕ) → k < 8 → IsUnspoilt (table entry k)

-- n blocks can be taken of two lists: there are so many, and no entry near the cut has a spoilt cell
pub record CanTake (table : ℕ → ℕ → Cell) (n : ℕ) (mine free : List ℕ) : Type 0 where
  pub enough : n ≤ length mine + length free
  pub cut : (k : ℕ) → IsNearCut n k → k < length (mine ++ free)
      → IsUnspoiltEntry table (slice_index (mine ++ free) k)

-- an entry near the cut has a spoilt cell, which names this block
pub record IsCutSpoilt (table : ℕ → ℕ → Cell) (n : ℕ) (list : List ℕ) (part level block : ℕ) : Type 0 where
  pub k : ℕ
  pub near : IsNearCut n k
  pub inside : k < length list
  pub spoilt : HasSpoilt table (slice_index list k) part level block

-- each cell of a table is as it was in another, or softened since
abbrev pub HasSoftened : (old new : ℕ → ℕ → Cell) → Type 0
HasSoftened old new = (entry k : ℕ) → MaySoften (old entry k) (new entry k)

-- why a swap of n blocks is refused, where it can be made: there are fewer, or a word that it writes is spoilt
abbrev pub IsSwapRefusal : (table : ℕ → ℕ → Cell) (n : ℕ) (mine free : List ℕ) → ChainFault → Type 0
IsSwapRefusal table n mine free (Refused Disk) = ⊤
IsSwapRefusal table n mine free (Refused (Damaged part level block)) =
    IsCutSpoilt table n (mine ++ free) part level block
IsSwapRefusal table n mine free (Broken entry) = ⊥
IsSwapRefusal table n mine free (Short need have) =
    (need ≡ n) × (have ≡ length mine + length free) × (have < n)

-- what a swap of n blocks answers
abbrev pub IsSwapAnswer : (old new : ℕ → ℕ → Cell) (count n : ℕ) (mine free : List ℕ) → Result (Option ℕ) ChainFault
    → Type 0
IsSwapAnswer old new count n mine free (Ok taken) =
    (n ≤ length mine + length free) × IsSwapped new count n (mine ++ free) taken
IsSwapAnswer old new count n mine free (Err fault) = IsSwapRefusal old n mine free fault

-- what is answered to the question whether it may be made
abbrev pub IsReadyAnswer : {A : Type 0} (table : ℕ → ℕ → Cell) (n : ℕ) (mine free : List ℕ) → Result A ChainFault →
    Type 0
IsReadyAnswer table n mine free (Ok given) = CanTake table n mine free
IsReadyAnswer table n mine free (Err fault) = IsSwapRefusal table n mine free fault

-- what is written where a chain is given back, or none
abbrev pub given_entries : Option Given → ℕ → List ℕ
given_entries None head = []
given_entries (Some given) head = 0 ∷ given.first ∷ given.tail.first ∷ head ∷ []

-- with what the free list then begins
abbrev pub first_of : Option Given → ℕ → ℕ
first_of None head = head
first_of (Some given) head = given.first

-- what is written where blocks are taken, or none are
abbrev pub taken_entries : ℕ → Option Boundary → List ℕ
taken_entries first None = []
taken_entries first (Some boundary) = first ∷ cut_entries boundary.node boundary.middle boundary.next

-- the entries that a swap by a plan writes
abbrev pub plan_entries : Plan → List ℕ
plan_entries plan = given_entries plan.given plan.head ++ taken_entries (first_of plan.given plan.head) plan.boundary

-- the places that a swap may write: the words of entry 0, of the old chain and of the free list
abbrev pub IsSwapSite : ChainInfo → List ℕ → List ℕ → ℕ → Type 0
IsSwapSite info mine free x = (entry : ℕ) × IsSwapEntry mine free entry × IsWithin (info.table_at + 8 * entry) 8 x

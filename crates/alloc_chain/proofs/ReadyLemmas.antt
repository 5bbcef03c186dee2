-- Which of the words that a swap writes are bytes, and which may be none.
use Rattle.std.proofs.Common.{◌≡◌, ℕ, ◌+◌, ◌-◌, ◌<◌, ◌≤◌, List, [], ◌∷◌, ◌++◌, length, get_or, min, zero, suc}
use Rattle.std.proofs.Common.{sym, ◌∙◌, ap, subst, arith, ◌⊎◌, ⊎_elim, inl, inr}
use Rattle.std.proofs.lemmas.Bool.{cases_lt}
use Rattle.std.proofs.lemmas.List.{get_or_append_left, get_or-append-add}
use Rattle.std.proofs.lemmas.List.FromFn.{get_or-range_with_len}
use Rattle.std.specs.List.{Contains}
use Rattle.save_bytes.specs.Cells.{Cell, IsByte, IsUnspoilt, Byte, Blank, Spoilt}
use Rattle.chain_nodes.specs.declared.node.Node.{Node}
use Rattle.chain_nodes.specs.declared.node.Lead.{Lead}
use Rattle.chain_nodes.specs.declared.node.Lead.TheVariants.{Follows}
use Rattle.chain_nodes.specs.Table.{HasWords}
use Rattle.chain_nodes.specs.Chains.{start_of, AreNodes, entries_of}
use Rattle.chain_nodes.proofs.EditLemmas.{run_of}
use Rattle.chain_nodes.proofs.ListLemmas.{entries_of-append}
use Rattle.alloc_chain.specs.declared.plan.Boundary.{Boundary}
use Rattle.chain_links.specs.Alters.{cut_entries}
use Rattle.alloc_chain.specs.Plans.{IsBoundary}
use Rattle.alloc_chain.specs.Swaps.{IsNearCut, IsUnspoiltEntry}
use Rattle.alloc_chain.proofs.PlanLemmas.{length_run, length_around}

-- an entry of a list has a place near the cut
pub record HasNearPlace (n : ℕ) (list : List ℕ) (entry : ℕ) : Type 0 where
  pub k : ℕ
  pub near : IsNearCut n k
  pub inside : k < length list
  pub is_entry : get_or list k 0 ≡ entry

-- the first, the second and the last entry of a node are bytes
pub record IsReadNode (table : ℕ → ℕ → Cell) (node : Node) : Type 0 where
  pub ordered : node.first ≤ node.last
  pub read : HasWords table node.first
  pub second : node.first < node.last → HasWords table (node.first + 1)
  pub last : node.first < node.last → HasWords table node.last

abbrev pub AreReadNodes : (ℕ → ℕ → Cell) → List Node → Type 0
AreReadNodes table [] = Unit {0}
AreReadNodes table (node ∷ nodes) = IsReadNode table node × AreReadNodes table nodes

pub linked_read : (table : ℕ → ℕ → Cell) (count : ℕ) (lead : Lead) (nodes : List Node) (next : ℕ)
    → AreNodes table count lead nodes next → AreReadNodes table nodes
linked_read table count lead [] next h = tt
linked_read table count lead (node ∷ nodes) next h = (
  record {
    ordered = h.0.ordered;
    read = h.0.read;
    second = λ more. (h.0.second more).read;
    last = λ more. (h.0.last more).read;
  },
  linked_read table count (Follows node.first) nodes next h.1,
)

pub AreReadNodes-append : (table : ℕ → ℕ → Cell) (xs ys : List Node) → AreReadNodes table xs → AreReadNodes table ys
    → AreReadNodes table (xs ++ ys)
AreReadNodes-append table [] ys h k = k
AreReadNodes-append table (x ∷ xs) ys h k = (h.0, AreReadNodes-append table xs ys h.1 k)

AreReadNodes-behind : (table : ℕ → ℕ → Cell) (xs ys : List Node) → AreReadNodes table (xs ++ ys) → AreReadNodes table ys
AreReadNodes-behind table [] ys h = h
AreReadNodes-behind table (x ∷ xs) ys h = AreReadNodes-behind table xs ys h.1

-- where nodes begin, or an entry that is read
pub start_words : (table : ℕ → ℕ → Cell) → HasWords table 0 → (nodes : List Node) → AreReadNodes table nodes
    → (first : ℕ) → start_of nodes 0 ≡ first → HasWords table first
start_words table root [] h first is = subst (λ (x : ℕ). HasWords table x) is root
start_words table root (node ∷ nodes) h first is = subst (λ (x : ℕ). HasWords table x) is h.0.read

-- the entry at a position of nodes, within the first one and behind it
entry_in_first : (node : Node) (nodes : List Node) (j : ℕ) → node.first + j ≤ node.last
    → get_or (entries_of (node ∷ nodes)) j 0 ≡ node.first + j
entry_in_first node nodes j inside =
    get_or_append_left (run_of node) (entries_of nodes) 0 j (omega (arith, length_run node, inside))
    ∙ get_or-range_with_len node.first (node.last + 1 - node.first) j 0 (omega (arith, inside))

entry_behind_first : (node : Node) (nodes : List Node) (j : ℕ)
    → get_or (entries_of (node ∷ nodes)) ((node.last + 1 - node.first) + j) 0 ≡ get_or (entries_of nodes) j 0
entry_behind_first node nodes j =
    ap (λ (n : ℕ). get_or (entries_of (node ∷ nodes)) (n + j) 0) (sym (length_run node))
    ∙ get_or-append-add (run_of node) (entries_of nodes) j 0

pub entry_around : (before : List Node) (node : Node) (after : List Node) (j : ℕ) → node.first + j ≤ node.last
    → get_or (entries_of (before ++ node ∷ after)) (length (entries_of before) + j) 0 ≡ node.first + j
entry_around before node after j inside =
    ap (λ (l : List ℕ). get_or l (length (entries_of before) + j) 0) (entries_of-append before (node ∷ after))
    ∙ get_or-append-add (entries_of before) (entries_of (node ∷ after)) j 0 ∙ entry_in_first node after j inside

-- the first two entries of nodes are bytes
first_words : (table : ℕ → ℕ → Cell) (nodes : List Node) → AreReadNodes table nodes → 0 < length (entries_of nodes)
    → HasWords table (get_or (entries_of nodes) 0 0)
first_words table [] h some = absurd (omega (arith, some))
first_words table (node ∷ nodes) h some =
    let none : node.first + 0 ≡ node.first = omega arith in
    subst (λ (x : ℕ). HasWords table x) (sym (entry_in_first node nodes 0 (omega (arith, h.0.ordered)) ∙ none)) h.0.read

second_words : (table : ℕ → ℕ → Cell) (nodes : List Node) → AreReadNodes table nodes → 1 < length (entries_of nodes)
    → HasWords table (get_or (entries_of nodes) 1 0)
second_words table [] h some = absurd (omega (arith, some))
second_words table (node ∷ nodes) h some =
    ⊎_elim
    (λ (more : node.first < node.last).
    subst (λ (x : ℕ). HasWords table x) (sym (entry_in_first node nodes 1 (omega (arith, more)))) (h.0.second more))
    (λ (less : node.last ≤ node.first).
    let single : (node.last + 1 - node.first) + 0 ≡ 1 = omega (arith, h.0.ordered, less) in
    let count = length_around [] node nodes in
    let place = ap (λ (k : ℕ). get_or (entries_of (node ∷ nodes)) k 0) (sym single) ∙ entry_behind_first node nodes 0 in
    subst (λ (x : ℕ). HasWords table x) (sym place)
    (first_words table nodes h.1 (omega (arith, count, some, single))))
    (cases_lt node.first node.last)

front_words : (table : ℕ → ℕ → Cell) (nodes : List Node) → AreReadNodes table nodes → (j : ℕ) → j ≤ 1
    → j < length (entries_of nodes) → HasWords table (get_or (entries_of nodes) j 0)
front_words table nodes h zero low less = first_words table nodes h (omega (arith, less))
front_words table nodes h (suc zero) low less = second_words table nodes h (omega (arith, less))
front_words table nodes h (suc (suc j)) low less = absurd (omega (arith, low))

module _ (table : ℕ → ℕ → Cell) (nodes : List Node) (n : ℕ) (boundary : Boundary)
    (is : IsBoundary nodes 0 n boundary) (read : AreReadNodes table nodes)
    (from : boundary.node.first ≤ boundary.middle) (up_to : boundary.middle ≤ boundary.node.last) where
  node_read : AreReadNodes table (boundary.node ∷ is.after)
  node_read = AreReadNodes-behind table is.before (boundary.node ∷ is.after)
      (subst (λ (l : List Node). AreReadNodes table l) is.whole read)

  parts : entries_of nodes ≡ entries_of is.before ++ entries_of (boundary.node ∷ is.after)
  parts = ap entries_of is.whole ∙ entries_of-append is.before (boundary.node ∷ is.after)

  from_node : (j : ℕ) → get_or (entries_of nodes) (length (entries_of is.before) + j) 0
      ≡ get_or (entries_of (boundary.node ∷ is.after)) j 0
  from_node j = ap (λ (l : List ℕ). get_or l (length (entries_of is.before) + j) 0) parts
      ∙ get_or-append-add (entries_of is.before) (entries_of (boundary.node ∷ is.after)) j 0

  length_parts : length (entries_of nodes) ≡ length (entries_of is.before)
      + ((boundary.node.last + 1 - boundary.node.first) + length (entries_of is.after))
  length_parts = ap (λ (l : List Node). length (entries_of l)) is.whole ∙ length_around is.before boundary.node is.after

  pub near_entry : (entry : ℕ) → boundary.middle ≤ entry → entry ≤ boundary.middle + 2 → entry ≤ boundary.node.last
      → HasNearPlace n (entries_of nodes) entry
  near_entry entry low high inside =
      let j : ℕ = entry - boundary.node.first in
      let place : boundary.node.first + j ≡ entry = omega (arith, low, from) in
      record {
        k = length (entries_of is.before) + j;
        near = (
          omega (arith, is.counted, from),
          omega (arith, is.counted, low, place),
          omega (arith, is.counted, high, place),
        );
        inside = omega (arith, length_parts, inside, place);
        is_entry = from_node j ∙ entry_in_first boundary.node is.after j (omega (arith, place, inside)) ∙ place;
      }

  -- each entry that is written at the cut is bytes, or has a place near it
  abbrev IsKnown : ℕ → Type 0
  IsKnown entry = HasWords table entry ⊎ HasNearPlace n (entries_of nodes) entry

  last_words : HasWords table boundary.node.last
  last_words =
      ⊎_elim
      (λ (more : boundary.node.first < boundary.node.last). node_read.0.last more)
      (λ (less : boundary.node.last ≤ boundary.node.first).
      let same : boundary.node.first ≡ boundary.node.last = omega (arith, less, from, up_to) in
      subst (λ (x : ℕ). HasWords table x) same node_read.0.read)
      (cases_lt boundary.node.first boundary.node.last)

  -- of an entry behind the cut, or the last one of the node
  behind_known : (j : ℕ) → j ≤ 2 → IsKnown (min (boundary.middle + j) boundary.node.last)
  behind_known j low =
      ⊎_elim
      (λ (within : boundary.middle + j < boundary.node.last).
      inr (near_entry (min (boundary.middle + j) boundary.node.last) (omega (arith, within)) (omega (arith, low))
      (omega arith)))
      (λ (past : boundary.node.last ≤ boundary.middle + j).
      let same : boundary.node.last ≡ min (boundary.middle + j) boundary.node.last = omega (arith, past) in
      inl (subst (λ (x : ℕ). HasWords table x) same last_words))
      (cases_lt (boundary.middle + j) boundary.node.last)

  second_known : IsKnown (min (boundary.node.first + 1) boundary.middle)
  second_known =
      ⊎_elim
      (λ (more : boundary.node.first < boundary.middle).
      let same : boundary.node.first + 1 ≡ min (boundary.node.first + 1) boundary.middle = omega (arith, more) in
      inl (subst (λ (x : ℕ). HasWords table x) same (node_read.0.second (omega (arith, more, up_to)))))
      (λ (less : boundary.middle ≤ boundary.node.first).
      let same : boundary.node.first ≡ min (boundary.node.first + 1) boundary.middle = omega (arith, less, from) in
      inl (subst (λ (x : ℕ). HasWords table x) same node_read.0.read))
      (cases_lt boundary.node.first boundary.middle)

  each_of : (P : ℕ → Type 0) (a : ℕ) (few : List ℕ) → P a → ((x : ℕ) → Contains few x → P x) → (x : ℕ)
      → Contains (a ∷ few) x → P x
  each_of P a few here rest x (zero, within, same) = subst P same here
  each_of P a few here rest x (suc k, within, same) = rest x (k, omega (arith, within), same)

  pub cut_known : HasWords table 0 → (first : ℕ) → HasWords table first → (x : ℕ)
      → Contains (first ∷ cut_entries boundary.node boundary.middle boundary.next) x
      → HasWords table x ⊎ HasNearPlace n (entries_of nodes) x
  cut_known root first first_read =
      let node = boundary.node in
      let middle = boundary.middle in
      let next = boundary.next in
      let known = λ (x : ℕ). IsKnown x in
      each_of known first (0 ∷ node.first ∷ min (node.first + 1) middle ∷ middle ∷ min (middle + 1) node.last
      ∷ min (middle + 2) node.last ∷ node.last ∷ next ∷ []) (inl first_read)
      (each_of known 0 (node.first ∷ min (node.first + 1) middle ∷ middle ∷ min (middle + 1) node.last
      ∷ min (middle + 2) node.last ∷ node.last ∷ next ∷ []) (inl root)
      (each_of known node.first (min (node.first + 1) middle ∷ middle ∷ min (middle + 1) node.last
      ∷ min (middle + 2) node.last ∷ node.last ∷ next ∷ []) (inl node_read.0.read)
      (each_of known (min (node.first + 1) middle) (middle ∷ min (middle + 1) node.last
      ∷ min (middle + 2) node.last ∷ node.last ∷ next ∷ []) second_known
      (each_of known middle (min (middle + 1) node.last ∷ min (middle + 2) node.last ∷ node.last ∷ next ∷ [])
      (inr (near_entry middle (omega arith) (omega arith) up_to))
      (each_of known (min (middle + 1) node.last) (min (middle + 2) node.last ∷ node.last ∷ next ∷ [])
      (behind_known 1 (omega arith))
      (each_of known (min (middle + 2) node.last) (node.last ∷ next ∷ []) (behind_known 2 (omega arith))
      (each_of known node.last (next ∷ []) (inl last_words)
      (each_of known next [] (inl (start_words table root is.after node_read.1 next is.next))
      (λ x within. absurd (omega (arith, within.1)))))))))))

  -- what holds of each entry of words, and of those written at the cut, holds of each that has a place near it
  pub each_near : (Q : ℕ → Type 0) → ((x : ℕ) → HasWords table x → Q x)
      → ((x : ℕ) → boundary.middle ≤ x → x ≤ boundary.middle + 2 → x ≤ boundary.node.last → Q x) → (k : ℕ)
      → IsNearCut n k → k < length (entries_of nodes) → Q (get_or (entries_of nodes) k 0)
  each_near Q of_words of_cut k near inside =
      let past : ℕ = length (entries_of is.before) in
      let run : ℕ = boundary.node.last + 1 - boundary.node.first in
      ⊎_elim
      (λ (within : k < past + run).
      let j : ℕ = k - past in
      let low : past + j ≡ k = omega (arith, near.1, is.counted, from) in
      let fits : boundary.node.first + j ≤ boundary.node.last = omega (arith, within, low, from, up_to) in
      let place = ap (λ (i : ℕ). get_or (entries_of nodes) i 0) (sym low) ∙ from_node j
      ∙ entry_in_first boundary.node is.after j fits in
      subst Q (sym place)
      (of_cut (boundary.node.first + j) (omega (arith, near.1, is.counted, low))
      (omega (arith, near.2, is.counted, low)) fits))
      (λ (behind : past + run ≤ k).
      let j : ℕ = k - (past + run) in
      let split : past + (run + j) ≡ k = omega (arith, behind) in
      let place = ap (λ (i : ℕ). get_or (entries_of nodes) i 0) (sym split) ∙ from_node (run + j)
      ∙ entry_behind_first boundary.node is.after j in
      subst Q (sym place)
      (of_words (get_or (entries_of is.after) j 0)
      (front_words table is.after node_read.1 j (omega (arith, near.2, is.counted, split, from, up_to))
      (omega (arith, length_parts, inside, split)))))
      (cases_lt k (past + run))

-- the last entry before the cut, and the two behind it in its node, are written there
pub cut_behind_contains : (first : ℕ) (node : Node) (middle next x : ℕ) → middle ≤ x → x ≤ middle + 2 → x ≤ node.last
    → Contains (first ∷ cut_entries node middle next) x
cut_behind_contains first node middle next x low high fits =
    ⊎_elim
    (λ (here : x < middle + 1). (let same : middle ≡ x = omega (arith, here, low) in (4, omega arith, same)))
    (λ (past : middle + 1 ≤ x). ⊎_elim
    (λ (one : x < middle + 2).
    (let same : min (middle + 1) node.last ≡ x = omega (arith, one, past, fits) in (5, omega arith, same)))
    (λ (two : middle + 2 ≤ x).
    (let same : min (middle + 2) node.last ≡ x = omega (arith, two, high, fits) in (6, omega arith, same)))
    (cases_lt x (middle + 2)))
    (cases_lt x (middle + 1))

-- bytes are not spoilt
byte_unspoilt : (cell : Cell) → IsByte cell → IsUnspoilt cell
byte_unspoilt (Byte value) h = tt
byte_unspoilt (Blank part level block) h = tt
byte_unspoilt (Spoilt part level block) h = h

pub words_unspoilt : (table : ℕ → ℕ → Cell) (entry : ℕ) → HasWords table entry → IsUnspoiltEntry table entry
words_unspoilt table entry words k less = byte_unspoilt (table entry k) (words k less)

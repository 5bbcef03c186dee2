-- What a swap needs of the words that it writes, and what it leaves as it is.
use Rattle.std.proofs.Common.{◌≡◌, ℕ, ◌+◌, ◌*◌, ◌<◌, ◌≤◌, List, [], ◌∷◌, ◌++◌, length, get_or, refl, sym, ◌∙◌, ap}
use Rattle.std.proofs.Common.{subst, arith}
use Rattle.std.proofs.Common.{IsTrue, IfSome, min, Option, None, Some, Err, inl, inr, ◌⊎◌, nat_eq, take, drop, ⊎_elim}
use Rattle.std.proofs.Math.Seq.{take-append_seam, drop-append_seam}
use Rattle.std.proofs.lemmas.Grind.{get_or_default_zero}
use Rattle.std.proofs.lemmas.List.Elements.{Contains-append_left, Contains-append_right, Contains-append_cases}
use Rattle.std.specs.List.{Contains, IsDistinct}
use Rattle.chain_nodes.specs.declared.node.Node.{Node}
use Rattle.save_bytes.specs.State.{Shape, State}
use Rattle.save_bytes.specs.Stays.{Stays}
use Rattle.save_bytes.specs.Cells.{Cell, IsUnspoilt}
use Rattle.save_bytes.specs.Answers.{IsFirstSpoilt}
use Rattle.save_bytes.specs.declared.space.Bad.TheVariants.{Disk, Damaged}
use Rattle.chain_nodes.specs.declared.fault.ChainFault.{ChainFault}
use Rattle.chain_nodes.specs.declared.fault.ChainFault.TheVariants.{Broken, Short}
use Rattle.chain_nodes.specs.declared.fault.ChainFault.TheVariants.{Bad as Refused}
use Rattle.chain_nodes.specs.declared.node.Lead.{Lead}
use Rattle.chain_nodes.specs.declared.info.ChainInfo.{ChainInfo}
use Rattle.chain_nodes.specs.declared.node.Lead.TheVariants.{Opens, OpensFree, Follows}
use Rattle.chain_nodes.specs.Table.{table_in, HasWords, HasAllocationTable}
use Rattle.chain_nodes.specs.Chains.{IsChain, IsNode, lead_after, start_of, AreNodes, entries_of}
use Rattle.chain_nodes.specs.Edits.{KeepsEntry, AreFreeNodes, AreTaken}
use Rattle.chain_nodes.proofs.OwnLemmas.{list_rests, entry_of}
use Rattle.chain_nodes.proofs.TableLemmas.{table_cell}
use Rattle.chain_nodes.proofs.EditLemmas.{run_of, entry_within, AreNodes-split}
use Rattle.chain_links.specs.Alters.{AreUnspoilt, IsOfEntries, cut_entries}
use Rattle.chain_nodes.proofs.ListLemmas.{start_of-append, entries_of-append}
use Rattle.chain_nodes.proofs.DistinctLemmas.{distinct_left}
use Rattle.alloc_chain.specs.declared.plan.Boundary.{Boundary}
use Rattle.alloc_chain.specs.declared.plan.Given.{Given}
use Rattle.alloc_chain.specs.declared.plan.Plan.{Plan}
use Rattle.save_bytes.specs.declared.space.Bad.{Bad}
use Rattle.save_bytes.specs.Refusals.{IfDamaged}
use Rattle.alloc_chain.specs.Plans.{IsBoundary, IsBoundaryIn, IsEndedBy, IsPlan, IsPlanIn, CanPlan}
use Rattle.alloc_chain.specs.Plans.{EnoughUnlessDisk, AreOldNodes, AreGivenBy, AreCutBy}
use Rattle.alloc_chain.specs.Swaps.{ShareNone, HasSpoilt, IsSwapped, IsSwapRefusal, first_of, given_entries}
use Rattle.alloc_chain.specs.Swaps.{IsNearCut, IsUnspoiltEntry, CanTake, IsCutSpoilt}
use Rattle.alloc_chain.proofs.ReadyLemmas.{AreReadNodes, linked_read, AreReadNodes-append, start_words, HasNearPlace}
use Rattle.alloc_chain.proofs.ReadyLemmas.{cut_known, cut_behind_contains, each_near, words_unspoilt}
use Rattle.alloc_chain.specs.Swaps.{taken_entries, plan_entries}
use Rattle.chain_links.proofs.CutLemmas.{IsNoneOr, each_none, each_more, all_four, each_four}
use Rattle.chain_links.proofs.TakeLemmas.{starts_some}
use Rattle.alloc_chain.proofs.PlanLemmas.{length_around}

-- a spoilt cell of an entry
pub spoilt_entry : (cells : ℕ → Cell) (info : ChainInfo) (entry at : ℕ) → entry ≤ info.count
    → at ≡ info.table_at + 8 * entry → (part level block : ℕ) → IsFirstSpoilt cells at 8 part level block
    → HasSpoilt (table_in cells info) entry part level block
spoilt_entry cells info entry at inside is part level block first =
    let place : info.table_at + 8 * entry + first.k ≡ at + first.k = omega (arith, is) in
    (first.k, first.within, table_cell cells info entry first.k inside first.within ∙ ap cells place ∙ first.spoilt)

-- what is not spoilt after a call that changes nothing was not before
pub unspoilt_before : (s m : State) (info : ChainInfo) (entries : List ℕ) → Stays s m None → IsTrue s.told
    → AreUnspoilt m (IsOfEntries info entries) → AreUnspoilt s (IsOfEntries info entries)
unspoilt_before s m info entries stays told un x below site =
    let size : m.shape.size ≡ s.shape.size = ap (λ (shape : Shape). shape.size) stays.space.shape in
    subst (λ (c : Cell). IsUnspoilt c) (stays.cells told x below) (un x (omega (arith, size, below)) site)

-- no word of some entries is spoilt
pub unspoilt_all : (s : State) (info : ChainInfo) (entries : List ℕ)
    → ((k : ℕ) → k < length entries → AreUnspoilt s (IsOfEntries info (get_or entries k 0 ∷ [])))
    → AreUnspoilt s (IsOfEntries info entries)
unspoilt_all s info entries each x below (entry, (k, within, is), of) =
    let same : get_or entries k 0 ≡ entry = sym (get_or_default_zero entries k entry within) ∙ is in
    each k within x below (entry, (0, omega arith, same), of)

-- of two lists of entries
pub unspoilt_both : (s : State) (info : ChainInfo) (one other : List ℕ) → AreUnspoilt s (IsOfEntries info one)
    → AreUnspoilt s (IsOfEntries info other) → AreUnspoilt s (IsOfEntries info (one ++ other))
unspoilt_both s info one other first second x below (entry, within, of) =
    ⊎_elim
    (λ (left : Contains one entry). first x below (entry, left, of))
    (λ (right : Contains other entry). second x below (entry, right, of))
    (Contains-append_cases one other entry within)

-- a chain that shares no entry with the two lists of a swap is the same one
pub others_stay : (old new : ℕ → ℕ → Cell) (count first : ℕ) (mine free list : List ℕ)
    → ((x : ℕ) → 1 ≤ x → x ≤ count → ¬ Contains (mine ++ free) x → KeepsEntry old new x) → ShareNone list (mine ++
    free)
    → IsChain old count first list → IsChain new count first list
others_stay old new count first mine free list kept apart chain = record {
  some = chain.some;
  linked = list_rests old new count Opens first list
      (λ x within. (let inside = entry_within old count Opens chain.linked.nodes 0 x chain.linked.linked
      (subst (λ (l : List ℕ). Contains l x) (sym chain.linked.entries) within) in
      kept x inside.0 inside.1 (apart x within))) chain.linked;
  once = chain.once;
}

-- what a boundary cuts
module _ (nodes : List Node) (n : ℕ) (boundary : Boundary) (is : IsBoundary nodes 0 n boundary) where
  pub cut_free : (table : ℕ → ℕ → Cell) (count : ℕ) → AreFreeNodes table count nodes
      → AreFreeNodes table count (is.before ++ boundary.node ∷ is.after)
  cut_free table count free = subst (λ (l : List Node). AreFreeNodes table count l) is.whole free

  pub cut_starts : (first : ℕ) → start_of nodes 0 ≡ first → start_of (is.before ++ boundary.node ∷ []) 0 ≡ first
  cut_starts first starts =
      start_of-append is.before (boundary.node ∷ []) 0 ∙ sym (start_of-append is.before (boundary.node ∷ is.after) 0)
      ∙ sym (ap (λ (l : List Node). start_of l 0) is.whole) ∙ starts

  module _ (new : ℕ → ℕ → Cell) (count first : ℕ) (once : IsDistinct nat_eq (entries_of nodes)) (starts : start_of
      nodes 0 ≡ first)
      (from : boundary.node.first ≤ boundary.middle)
      (taken : AreTaken new count is.before boundary.node is.after boundary.middle) where
    front : List ℕ
    front = entries_of (is.before ++ record { first = boundary.node.first; last = boundary.middle } ∷ [])

    whole : front ++ entries_of taken.nodes ≡ entries_of nodes
    unfolding front
    whole = taken.entries ∙ sym (ap entries_of is.whole)

    front_length : length front ≡ n
    unfolding front
    front_length = omega (
      arith,
      length_around is.before (record { first = boundary.node.first; last = boundary.middle }) [],
      is.counted,
      from,
    )

    first_part : take n (entries_of nodes) ≡ front
    first_part = ap (λ (l : List ℕ). take n l) (sym whole) ∙ ap (λ (k : ℕ). take k (front ++ entries_of taken.nodes))
        (sym front_length)
        ∙ take-append_seam front (entries_of taken.nodes)

    last_part : drop n (entries_of nodes) ≡ entries_of taken.nodes
    last_part = ap (λ (l : List ℕ). drop n l) (sym whole) ∙ ap (λ (k : ℕ). drop k (front ++ entries_of taken.nodes))
        (sym front_length)
        ∙ drop-append_seam front (entries_of taken.nodes)

    first_is : start_of (is.before ++ record { first = boundary.node.first; last = boundary.middle } ∷ []) 0 ≡ first
    first_is = start_of-append is.before (record { first = boundary.node.first; last = boundary.middle } ∷ []) 0
        ∙ sym (start_of-append is.before (boundary.node ∷ []) 0) ∙ cut_starts first starts

    first_some : 1 ≤ first
    first_some =
        let some = starts_some new count Opens is.before (record {
          first = boundary.node.first;
          last =
              boundary.middle;
        }) taken.chain in
        omega (arith, some, first_is)

    pub swapped_by : IsSwapped new count n (entries_of nodes) (Some first)
    unfolding front
    swapped_by = record {
      chain = record {
        some = first_some;
        linked = record {
          nodes = is.before ++ record { first = boundary.node.first; last = boundary.middle } ∷ [];
          linked = taken.chain;
          starts = first_is;
          entries = sym first_part;
        };
        once = subst (λ (l : List ℕ). IsDistinct nat_eq l) (sym first_part)
            (distinct_left front (entries_of taken.nodes) (subst (λ (l : List ℕ). IsDistinct nat_eq l) (sym whole)
            once));
      };
      rest = record {
        read = taken.free.read;
        linked = record {
          nodes = taken.nodes;
          linked = taken.free.linked;
          starts = taken.free.starts;
          entries = sym last_part;
        };
        once = subst (λ (l : List ℕ). IsDistinct nat_eq l) (sym last_part) taken.free.once;
      };
    }

-- a plan that was refused
pub refused_plan : {A : Type 0} (table : ℕ → ℕ → Cell) (n : ℕ) (mine free : List ℕ) (P : A → Type 0) (fault :
    ChainFault)
    → EnoughUnlessDisk n (length mine + length free) (Err fault) P → IsSwapRefusal table n mine free fault
refused_plan table n mine free P (Refused Disk) h = tt
refused_plan table n mine free P (Refused (Damaged part level block)) h = absurd h
refused_plan table n mine free P (Broken entry) h = h
refused_plan table n mine free P (Short need have) h = (h.0, h.1, omega (arith, h.1, h.2))

-- an old chain, or none, begins with an entry of it
old_start : (table : ℕ → ℕ → Cell) (count : ℕ) (given : Option ℕ) (old : List Node) → AreOldNodes table count given
    old
    → AreNodes table count Opens old 0
old_start table count None old is = subst (λ (l : List Node). AreNodes table count Opens l 0) (sym is) tt
old_start table count (Some first) old is = is.1

-- each node has entries
abbrev pub AreFilled : List Node → Type 0
AreFilled [] = Unit {0}
AreFilled (node ∷ nodes) = (node.first ≤ node.last) × AreFilled nodes

linked_filled : (table : ℕ → ℕ → Cell) (count : ℕ) (lead : Lead) (nodes : List Node) → AreNodes table count lead
    nodes 0
    → AreFilled nodes
linked_filled table count lead [] h = tt
linked_filled table count lead (node ∷ nodes) h = (
  h.0.ordered,
  linked_filled table count (Follows node.first) nodes
      h.1,
)

AreFilled-append : (xs ys : List Node) → AreFilled xs → AreFilled ys → AreFilled (xs ++ ys)
AreFilled-append [] ys h k = k
AreFilled-append (x ∷ xs) ys h k = (h.0, AreFilled-append xs ys h.1 k)

AreFilled-behind : (xs ys : List Node) → AreFilled (xs ++ ys) → AreFilled ys
AreFilled-behind [] ys h = h
AreFilled-behind (x ∷ xs) ys h = AreFilled-behind xs ys h.1

-- where they begin is 0, or one of their entries
start_none_or : (nodes : List Node) → AreFilled nodes → IsNoneOr (entries_of nodes) (start_of nodes 0)
start_none_or [] h = inl refl
start_none_or (node ∷ nodes) h = inr (entry_of node nodes node.first (omega arith) h.0)

-- a number of one part is one of the whole
pub none_or_wider : (few many : List ℕ) → ((x : ℕ) → Contains few x → Contains many x) → (x : ℕ) → IsNoneOr few x →
    IsNoneOr many x
none_or_wider few many wider x h =
    ⊎_elim (λ (none : x ≡ 0). inl none) (λ (within : Contains few x). inr (wider x within)) h

module _ (table : ℕ → ℕ → Cell) (count n : ℕ) (old free : List Node) (chain : AreNodes table count Opens old 0)
    (listed : AreNodes table count OpensFree free 0) where
  both : List ℕ
  both = entries_of old ++ entries_of free

  in_old : (x : ℕ) → IsNoneOr (entries_of old) x → IsNoneOr both x
  unfolding both
  in_old = none_or_wider (entries_of old) (entries_of old ++ entries_of free) (Contains-append_left (entries_of old)
      (entries_of free))

  in_free : (x : ℕ) → IsNoneOr (entries_of free) x → IsNoneOr both x
  unfolding both
  in_free = none_or_wider (entries_of free) (entries_of old ++ entries_of free)
      (Contains-append_right (entries_of old) (entries_of free))

  head_in : (head : ℕ) → start_of free 0 ≡ head → IsNoneOr both head
  head_in head is = in_free head (subst (λ (x : ℕ). IsNoneOr (entries_of free) x) is
      (start_none_or free (linked_filled table count OpensFree free listed)))

  old_first_in : (first : ℕ) → start_of old 0 ≡ first → IsNoneOr both first
  old_first_in first is = in_old first (subst (λ (x : ℕ). IsNoneOr (entries_of old) x) is
      (start_none_or old (linked_filled table count Opens old chain)))

  module _ (given : Given) (is : IsEndedBy old given) where
    tail_node : IsNode table count (lead_after Opens is.front) given.tail 0
    tail_node = (AreNodes-split table count Opens is.front (given.tail ∷ []) 0
        (subst (λ (l : List Node). AreNodes table count Opens l 0) is.whole chain)).1.0

    tail_in : IsNoneOr both given.tail.first
    tail_in = in_old given.tail.first (inr (subst (λ (l : List Node). Contains (entries_of l) given.tail.first) (sym
        is.whole)
        (subst (λ (l : List ℕ). Contains l given.tail.first) (sym (entries_of-append is.front (given.tail ∷ [])))
        (Contains-append_right (entries_of is.front) (entries_of (given.tail ∷ [])) given.tail.first
        (entry_of given.tail [] given.tail.first (omega arith) tail_node.ordered)))))

  -- what is written where the chain is given back is of the two lists
  given_in : (given : Option Given) (head : ℕ) → AreGivenBy old given → start_of free 0 ≡ head → (x : ℕ)
      → Contains (given_entries given head) x → IsNoneOr both x
  given_in None head is head_is x within = each_none both x within
  given_in (Some given) head is head_is x within =
      each_four both 0 given.first given.tail.first head (inl refl) (old_first_in given.first is.starts) (tail_in
      given is)
      (head_in head head_is) x within

  first_in : (given : Option Given) (head : ℕ) → AreGivenBy old given → start_of free 0 ≡ head
      → IsNoneOr both (first_of given head)
  first_in None head is head_is = head_in head head_is
  first_in (Some given) head is head_is = old_first_in given.first is.starts

  -- and so is what is written at a boundary
  module _ (boundary : Boundary) (is : IsBoundary (old ++ free) 0 n boundary) (inside : IsBoundaryIn count boundary)
    where
      parts_is : both ≡ entries_of (is.before ++ boundary.node ∷ is.after)
      unfolding both
      parts_is = sym (entries_of-append old free) ∙ ap entries_of is.whole

      from_node : (x : ℕ) → IsNoneOr (entries_of (boundary.node ∷ is.after)) x → IsNoneOr both x
      from_node x h = subst (λ (l : List ℕ). IsNoneOr l x) (sym (parts_is ∙ entries_of-append is.before (boundary.node
          ∷ is.after)))
          (none_or_wider (entries_of (boundary.node ∷ is.after))
          (entries_of is.before ++ entries_of (boundary.node ∷ is.after))
          (Contains-append_right (entries_of is.before) (entries_of (boundary.node ∷ is.after))) x h)

      node_in : (x : ℕ) → boundary.node.first ≤ x → x ≤ boundary.node.last → IsNoneOr both x
      node_in x low high = from_node x (inr (entry_of boundary.node is.after x low high))

      after_filled : AreFilled is.after
      after_filled = (AreFilled-behind is.before (boundary.node ∷ is.after)
          (subst (λ (l : List Node). AreFilled l) is.whole (AreFilled-append old free
          (linked_filled table count Opens old chain) (linked_filled table count OpensFree free listed)))).1

      next_in : IsNoneOr both boundary.next
      next_in = from_node boundary.next (none_or_wider (entries_of is.after) (entries_of (boundary.node ∷ is.after))
          (Contains-append_right (run_of boundary.node) (entries_of is.after)) boundary.next
          (subst (λ (x : ℕ). IsNoneOr (entries_of is.after) x) is.next (start_none_or is.after after_filled)))

      cut_in : (x : ℕ) → Contains (cut_entries boundary.node boundary.middle boundary.next) x → IsNoneOr both x
      cut_in =
          let node = boundary.node in
          let middle = boundary.middle in
          let next = boundary.next in
          each_more both 0 (node.first ∷ min (node.first + 1) middle ∷ middle ∷ min (middle + 1) node.last
          ∷ min (middle + 2) node.last ∷ node.last ∷ next ∷ []) (inl refl)
          (each_more both node.first (min (node.first + 1) middle ∷ middle ∷ min (middle + 1) node.last
          ∷ min (middle + 2) node.last ∷ node.last ∷ next ∷ [])
          (node_in node.first (omega arith) (omega (arith, inside.from, inside.up_to)))
          (each_more both (min (node.first + 1) middle) (middle ∷ min (middle + 1) node.last
          ∷ min (middle + 2) node.last ∷ node.last ∷ next ∷ [])
          (node_in (min (node.first + 1) middle) (omega (arith, inside.from)) (omega (arith, inside.up_to)))
          (each_more both middle (min (middle + 1) node.last ∷ min (middle + 2) node.last ∷ node.last ∷ next ∷ [])
          (node_in middle inside.from inside.up_to)
          (each_four both (min (middle + 1) node.last) (min (middle + 2) node.last) node.last next
          (node_in (min (middle + 1) node.last) (omega (arith, inside.from, inside.up_to)) (omega arith))
          (node_in (min (middle + 2) node.last) (omega (arith, inside.from, inside.up_to)) (omega arith))
          (node_in node.last (omega (arith, inside.from, inside.up_to)) (omega arith)) next_in))))

  taken_in : (first : ℕ) (boundary : Option Boundary) → IsNoneOr both first → AreCutBy (old ++ free) n boundary
      → IfSome boundary (IsBoundaryIn count) → (x : ℕ) → Contains (taken_entries first boundary) x → IsNoneOr both x
  taken_in first None here is inside x within = each_none both x within
  taken_in first (Some boundary) here is inside x within =
      each_more both first (cut_entries boundary.node boundary.middle boundary.next) here (cut_in boundary is.1
      inside) x within

  -- each entry that a swap by a plan writes is entry 0, or of the old chain or the free list
  pub plan_in : (plan : Plan) → IsPlan old free n plan → IsPlanIn count plan → (x : ℕ) → Contains (plan_entries plan)
      x
      → IsNoneOr (entries_of old ++ entries_of free) x
  unfolding both
  plan_in plan is inside x within =
      ⊎_elim
      (λ (left : Contains (given_entries plan.given plan.head) x). given_in plan.given plan.head is.given is.head x
      left)
      (λ (right : Contains (taken_entries (first_of plan.given plan.head) plan.boundary) x).
      taken_in (first_of plan.given plan.head) plan.boundary (first_in plan.given plan.head is.given is.head) is.cut
      inside.boundary x right)
      (Contains-append_cases (given_entries plan.given plan.head)
      (taken_entries (first_of plan.given plan.head) plan.boundary) x within)

  -- such an entry lies in the table
  pub plan_inside : (plan : Plan) → IsPlan old free n plan → IsPlanIn count plan → (x : ℕ)
      → Contains (plan_entries plan) x → x ≤ count
  plan_inside plan is inside x within =
      ⊎_elim
      (λ (none : x ≡ 0). omega (arith, none))
      (λ (some : Contains (entries_of old ++ entries_of free) x). ⊎_elim
      (λ (left : Contains (entries_of old) x). (entry_within table count Opens old 0 x chain left).1)
      (λ (right : Contains (entries_of free) x). (entry_within table count OpensFree free 0 x listed right).1)
      (Contains-append_cases (entries_of old) (entries_of free) x some))
      (plan_in plan is inside x within)

  module _ (read : HasWords table 0) where
    old_read : AreReadNodes table old
    old_read = linked_read table count Opens old 0 chain

    free_read : AreReadNodes table free
    free_read = linked_read table count OpensFree free 0 listed

    both_read : AreReadNodes table (old ++ free)
    both_read = AreReadNodes-append table old free old_read free_read

    -- where the chain is given back, only words are written that are bytes
    given_words : (given : Option Given) (head : ℕ) → AreGivenBy old given → start_of free 0 ≡ head → (x : ℕ)
        → Contains (given_entries given head) x → HasWords table x
    given_words None head is head_is x (k, within, same) = absurd (omega (arith, within))
    given_words (Some given) head is head_is x within =
        all_four (λ (e : ℕ). HasWords table e) 0 given.first given.tail.first head read
        (start_words table read old old_read given.first is.starts) (tail_node given is).read
        (start_words table read free free_read head head_is) x within

    first_words : (given : Option Given) (head : ℕ) → AreGivenBy old given → start_of free 0 ≡ head
        → HasWords table (first_of given head)
    first_words None head is head_is = start_words table read free free_read head head_is
    first_words (Some given) head is head_is = start_words table read old old_read given.first is.starts

    words_or_near : (given : Option Given) (head : ℕ) (boundary : Option Boundary) → AreGivenBy old given
        → start_of free 0 ≡ head → AreCutBy (old ++ free) n boundary → IfSome boundary (IsBoundaryIn count) → (x : ℕ)
        → Contains (given_entries given head ++ taken_entries (first_of given head) boundary) x
        → HasWords table x ⊎ HasNearPlace n (entries_of (old ++ free)) x
    words_or_near given head None is head_is cut inside x within =
        ⊎_elim
        (λ (left : Contains (given_entries given head) x). inl (given_words given head is head_is x left))
        (λ (right : Contains [] x). absurd (omega (arith, right.1)))
        (Contains-append_cases (given_entries given head) [] x within)
    words_or_near given head (Some boundary) is head_is cut inside x within =
        ⊎_elim
        (λ (left : Contains (given_entries given head) x). inl (given_words given head is head_is x left))
        (λ (right : Contains (first_of given head ∷ cut_entries boundary.node boundary.middle boundary.next) x).
        cut_known table (old ++ free) n boundary cut.1 both_read inside.from inside.up_to read
        (first_of given head) (first_words given head is head_is) x right)
        (Contains-append_cases (given_entries given head)
        (first_of given head ∷ cut_entries boundary.node boundary.middle boundary.next) x within)

    -- an entry that a swap by a plan writes and that has a spoilt cell is near the cut
    pub spoilt_near : (plan : Plan) → IsPlan old free n plan → IsPlanIn count plan → (entry part level block : ℕ)
        → Contains (plan_entries plan) entry → HasSpoilt table entry part level block
        → IsCutSpoilt table n (entries_of (old ++ free)) part level block
    spoilt_near plan is inside entry part level block within fault =
        ⊎_elim
        (λ (words : HasWords table entry).
        absurd (subst (λ (c : Cell). IsUnspoilt c) fault.2 (words_unspoilt table entry words fault.0 fault.1)))
        (λ (place : HasNearPlace n (entries_of (old ++ free)) entry). record {
          k = place.k;
          near = place.near;
          inside = place.inside;
          spoilt = subst (λ (e : ℕ). HasSpoilt table e part level block) (sym place.is_entry) fault;
        })
        (words_or_near plan.given plan.head plan.boundary is.given is.head is.cut inside.boundary entry within)

    near_unspoilt : (boundary : Option Boundary) (first : ℕ) → AreCutBy (old ++ free) n boundary
        → IfSome boundary (IsBoundaryIn count)
        → ((x : ℕ) → Contains (taken_entries first boundary) x → IsUnspoiltEntry table x)
        → (k : ℕ) → IsNearCut n k → k < length (entries_of (old ++ free))
        → IsUnspoiltEntry table (get_or (entries_of (old ++ free)) k 0)
    near_unspoilt None first cut inside un = λ k near less. absurd (omega (arith, cut, near.0))
    near_unspoilt (Some boundary) first cut inside un =
        each_near table (old ++ free) n boundary cut.1 both_read inside.from inside.up_to
        (λ (x : ℕ). IsUnspoiltEntry table x) (words_unspoilt table)
        (λ x low high fits.
        un x (cut_behind_contains first boundary.node boundary.middle boundary.next x low high fits))

    -- where no entry of a plan is spoilt, its blocks can be taken
    pub plan_can_take : (plan : Plan) → IsPlan old free n plan → IsPlanIn count plan
        → n ≤ length (entries_of old) + length (entries_of free)
        → ((x : ℕ) → Contains (plan_entries plan) x → IsUnspoiltEntry table x)
        → CanTake table n (entries_of old) (entries_of free)
    plan_can_take plan is inside enough un = record {
      enough = enough;
      cut = subst (λ (l : List ℕ). (k : ℕ) → IsNearCut n k → k < length l → IsUnspoiltEntry table (get_or l k 0))
          (entries_of-append old free)
          (near_unspoilt plan.boundary (first_of plan.given plan.head) is.cut inside.boundary
          (λ x within. un x (Contains-append_right (given_entries plan.given plan.head)
          (taken_entries (first_of plan.given plan.head) plan.boundary) x within)));
    }

-- a word of a plan that is spoilt
pub spoilt_plan : (table : ℕ → ℕ → Cell) (count : ℕ) (given : Option ℕ) (n : ℕ) (old free : List Node)
    → CanPlan table count given old free → (plan : Plan) → IsPlan old free n plan → IsPlanIn count plan → (bad : Bad)
    → (later : ℕ → ℕ → Cell) → later ≡ table
    → IfDamaged (Some bad) (λ part level block. (entry : ℕ) × Contains (plan_entries plan) entry
    × HasSpoilt later entry part level block)
    → IsSwapRefusal table n (entries_of old) (entries_of free) (Refused bad)
spoilt_plan table count given n old free can plan is inside Disk later same fault = tt
spoilt_plan table count given n old free can plan is inside (Damaged part level block) later same (
  entry,
  within,
  fault,
) =
    subst (λ (l : List ℕ). IsCutSpoilt table n l part level block) (entries_of-append old free)
    (spoilt_near table count n old free (old_start table count given old can.old_nodes) can.free_nodes.linked
    can.free_nodes.read plan is inside entry part level block within
    (subst (λ (t : ℕ → ℕ → Cell). HasSpoilt t entry part level block) same fault))

-- no word of a plan is spoilt
pub unspoilt_plan : (s : State) (info : ChainInfo) (given : Option ℕ) (n : ℕ) (old free : List Node)
    → HasAllocationTable s.shape info → CanPlan (table_in s.cells info) info.count given old free → (plan : Plan)
    → IsPlan old free n plan → IsPlanIn info.count plan → n ≤ length (entries_of old) + length (entries_of free)
    → AreUnspoilt s (IsOfEntries info (plan_entries plan))
    → CanTake (table_in s.cells info) n (entries_of old) (entries_of free)
unspoilt_plan s info given n old free table can plan is inside enough un =
    let chain = old_start (table_in s.cells info) info.count given old can.old_nodes in
    plan_can_take (table_in s.cells info) info.count n old free chain can.free_nodes.linked can.free_nodes.read plan is
    inside enough
    (λ x within k less.
    (let fits : x ≤ info.count =
    plan_inside (table_in s.cells info) info.count n old free chain can.free_nodes.linked plan is inside x within in
    subst (λ (c : Cell). IsUnspoilt c) (sym (table_cell s.cells info x k fits less))
    (un (info.table_at + 8 * x + k) (omega (arith, table.table, fits, less))
    (x, within, (omega arith, omega (arith, less))))))

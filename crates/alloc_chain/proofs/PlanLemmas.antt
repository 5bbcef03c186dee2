-- Going over given nodes.
use Rattle.std.proofs.Common.{◌≡◌, ◌≢◌, ℕ, ◌+◌, ◌-◌, ◌^◌, ◌<◌, ◌≤◌, List, [], ◌∷◌, ◌++◌, length, sym, ◌∙◌, ap}
use Rattle.std.proofs.Common.{subst, arith}
use Rattle.std.proofs.Common.{⊎_elim, append_assoc, length-append, Result, Err}
use Rattle.std.proofs.lemmas.Bool.{cases_lt}
use Rattle.std.proofs.lemmas.List.FromFn.{length-range_with_len}
use Rattle.save_bytes.specs.Cells.{Cell}
use Rattle.save_bytes.specs.State.{State}
use Rattle.save_bytes.specs.Stays.{Stays}
use Rattle.std.proofs.Common.{IsTrue, None}
use Rattle.chain_nodes.specs.declared.info.ChainInfo.{ChainInfo}
use Rattle.chain_nodes.specs.Table.{table_in, HasAllocationTable}
use Rattle.chain_nodes.proofs.TableLemmas.{table_stays}
use Rattle.save_bytes.specs.declared.space.Bad.TheVariants.{Disk, Damaged}
use Rattle.chain_nodes.specs.declared.fault.ChainFault.{ChainFault}
use Rattle.chain_nodes.specs.declared.fault.ChainFault.TheVariants.{Broken, Short}
use Rattle.chain_nodes.specs.declared.fault.ChainFault.TheVariants.{Bad as Refused}
use Rattle.chain_nodes.specs.declared.node.Node.{Node}
use Rattle.chain_nodes.specs.declared.node.Lead.{Lead}
use Rattle.chain_nodes.specs.declared.node.Lead.TheVariants.{Opens, Follows}
use Rattle.chain_nodes.specs.Chains.{IsNode, start_of, AreNodes, entries_of}
use Rattle.chain_nodes.specs.Runs.{DoneUnlessDisk}
use Rattle.chain_nodes.proofs.ListLemmas.{start_of-append, entries_of-append}
use Rattle.chain_nodes.proofs.FrontLemmas.{same_node, start_small}
use Rattle.chain_nodes.proofs.EditLemmas.{run_of, AreNodes-split, no_nodes_behind}
use Rattle.alloc_chain.specs.declared.plan.NodeAt.{NodeAt}
use Rattle.alloc_chain.specs.declared.plan.Boundary.{Boundary}
use Rattle.alloc_chain.specs.declared.plan.Plan.{Plan}
use Rattle.alloc_chain.specs.Plans.{IsNodeAt, IsFirstOf, IsBoundary, IsEndedBy, IsLastOf, IsPlan, EnoughUnlessDisk}

-- a refusal for the disk's sake is one whatever was to be given
pub done_other : {A B : Type 0} (P : A → Type 0) (Q : B → Type 0) (fault : ChainFault) → DoneUnlessDisk (Err fault) P
    → DoneUnlessDisk (Err fault) Q
done_other P Q (Refused Disk) h = tt
done_other P Q (Refused (Damaged part level block)) h = h
done_other P Q (Broken entry) h = h
done_other P Q (Short need have) h = h

-- a node that was read is the first of those that begin there
pub first_of : (table : ℕ → ℕ → Cell) (count : ℕ) → count < 2 ^ 31 → (lead : Lead) (nodes : List Node) (first : ℕ)
    (at : NodeAt)
    → 1 ≤ first → AreNodes table count lead nodes 0 → start_of nodes 0 ≡ first → IsNode table count lead at.node
    at.next
    → at.node.first ≡ first → at.next ≤ count → IsFirstOf nodes at
first_of table count few lead [] first at some h starts is first_is inside = absurd (omega (arith, starts, some))
first_of table count few lead (node ∷ nodes) first at some h starts is first_is inside =
    let same = same_node table count lead node at.node (start_of nodes 0) at.next
    (start_small table count (Follows node.first) nodes 0 few (omega arith) h.1) (omega (arith, few, inside)) h.0 is
    (starts ∙ sym first_is) in
    record { rest = nodes; whole = ap (λ (n : Node). n ∷ nodes) same.node; next = same.next }

-- how many entries a node has
pub length_run : (node : Node) → length (run_of node) ≡ node.last + 1 - node.first
length_run node = length-range_with_len node.first (node.last + 1 - node.first)

pub length_around : (bs : List Node) (node : Node) (after : List Node)
    → length (entries_of (bs ++ node ∷ after)) ≡ length (entries_of bs) + ((node.last + 1 - node.first) + length
    (entries_of after))
length_around bs node after =
    ap length (entries_of-append bs (node ∷ after)) ∙ length-append (entries_of bs) (run_of node ++ entries_of after)
    ∙ ap (λ (n : ℕ). length (entries_of bs) + n) (length-append (run_of node) (entries_of after)
    ∙ ap (λ (n : ℕ). n + length (entries_of after)) (length_run node))

module _ (nodes : List Node) (from : ℕ) (at : NodeAt) (is : IsNodeAt nodes from at) where
  -- what is behind a node is a list
  pub behind_at : (table : ℕ → ℕ → Cell) (count : ℕ) (lead : Lead) → AreNodes table count lead nodes 0
      → AreNodes table count (Follows at.node.first) is.after 0
  behind_at table count lead h =
      (AreNodes-split table count lead is.before (at.node ∷ is.after) 0
      (subst (λ (l : List Node). AreNodes table count lead l 0) is.whole h)).1.1

  -- no more blocks lie up to its end than in all
  pub end_within : at.node.first ≤ at.node.last → at.end ≤ from + length (entries_of nodes)
  end_within ordered =
      let all = ap (λ (l : List Node). length (entries_of l)) is.whole in
      omega (arith, all, length_around is.before at.node is.after, is.counted, ordered)

  -- the next node
  pub step_at : (behind : NodeAt) → at.node.first ≤ at.node.last → IsFirstOf is.after behind
      → behind.end + behind.node.first ≡ at.end + behind.node.last + 1 → IsNodeAt nodes from behind
  step_at behind ordered first counted =
      let length_bs = length_around is.before at.node [] in
      record {
        before = is.before ++ at.node ∷ [];
        after = first.rest;
        whole = is.whole ∙ ap (λ (l : List Node). is.before ++ at.node ∷ l) first.whole
            ∙ sym (append_assoc is.before (at.node ∷ []) (behind.node ∷ first.rest));
        next = first.next;
        counted = omega (arith, counted, is.counted, length_bs, ordered);
      }

-- nodes of a table that a call left as it was
pub nodes_later : (s m : State) (info : ChainInfo) → HasAllocationTable s.shape info → Stays s m None → IsTrue s.told
    → (lead : Lead) (nodes : List Node) → AreNodes (table_in s.cells info) info.count lead nodes 0
    → AreNodes (table_in m.cells info) info.count lead nodes 0
nodes_later s m info table stays told lead nodes =
    subst (λ (t : ℕ → ℕ → Cell). AreNodes t info.count lead nodes 0) (sym (table_stays s m info table stays told))

-- the first one
pub start_at : (nodes : List Node) (from : ℕ) (at : NodeAt) → IsFirstOf nodes at
    → at.end + at.node.first ≡ from + at.node.last + 1 → IsNodeAt nodes from at
start_at nodes from at first counted = record {
  before = [];
  after = first.rest;
  whole = first.whole;
  next = first.next;
  counted = omega (arith, counted);
}

module _ (nodes : List Node) (from n : ℕ) (at : NodeAt) (is : IsNodeAt nodes from at) where
  -- nothing is behind the last node
  pub all_counted : (table : ℕ → ℕ → Cell) (count : ℕ) (lead : Lead) → AreNodes table count lead nodes 0
      → at.node.first ≤ at.node.last → at.next ≡ 0 → is.after ≡ []
  all_counted table count lead h ordered none =
      no_nodes_behind table count (Follows at.node.first) is.after (behind_at nodes from at is table count lead h)
      (is.next ∙ none)

  pub all_before : at.node.first ≤ at.node.last → is.after ≡ [] → from + length (entries_of nodes) ≡ at.end
  all_before ordered none =
      let all = ap (λ (l : List Node). length (entries_of l)) is.whole in
      let empty : length (entries_of is.after) ≡ 0 = ap (λ (l : List Node). length (entries_of l)) none in
      omega (arith, all, length_around is.before at.node is.after, is.counted, ordered, empty)

  -- the boundary behind a block of a node
  pub boundary_of : (boundary : Boundary) → boundary.node ≡ at.node → boundary.next ≡ at.next
      → boundary.middle + at.end ≡ n + at.node.last → IsBoundary nodes from n boundary
  boundary_of boundary node next counted = record {
    before = is.before;
    after = is.after;
    whole = is.whole ∙ ap (λ (m : Node). is.before ++ m ∷ is.after) (sym node);
    next = is.next ∙ sym next;
    counted = omega (arith, counted, is.counted, ap (λ (m : Node). m.first) node, ap (λ (m : Node). m.last) node);
  }

-- a call that went over nodes failed for the disk's sake
pub enough_done : {A B : Type 0} (need have : ℕ) (P : A → Type 0) (Q : B → Type 0) (fault : ChainFault) →
    DoneUnlessDisk (Err fault) P
    → EnoughUnlessDisk need have (Err fault) Q
enough_done need have P Q (Refused Disk) h = tt
enough_done need have P Q (Refused (Damaged part level block)) h = h
enough_done need have P Q (Broken entry) h = absurd h
enough_done need have P Q (Short n m) h = absurd h

-- what did not reach a position has no node behind it
pub is_last : (next end pos : ℕ) → (next ≢ 0 → pos < end) → end ≤ pos → next ≡ 0
is_last next end pos found short =
    ⊎_elim
    (λ (some : 0 < next). (let past = found (λ none. omega (arith, none, some)) in absurd (omega (
      arith,
      past,
      short,
    ))))
    (λ (none : next ≤ 0). omega (arith, none))
    (cases_lt 0 next)

pub enough_other : {A B : Type 0} (need have other : ℕ) (P : A → Type 0) (Q : B → Type 0) (fault : ChainFault) → have
    ≡ other
    → EnoughUnlessDisk need have (Err fault) P → EnoughUnlessDisk need other (Err fault) Q
enough_other need have other P Q (Refused Disk) same h = tt
enough_other need have other P Q (Refused (Damaged part level block)) same h = h
enough_other need have other P Q (Broken entry) same h = absurd h
enough_other need have other P Q (Short n m) same h = (h.0, h.1 ∙ same, omega (arith, h.2, same))

-- where nodes begin, and others behind them
start_or : (table : ℕ → ℕ → Cell) (count : ℕ) (lead : Lead) (nodes : List Node) (next head result : ℕ)
    → AreNodes table count lead nodes 0 → start_of nodes 0 ≡ next → (next ≡ 0 → result ≡ head) → (next ≢ 0 → result ≡
    next)
    → start_of nodes head ≡ result
start_or table count lead [] next head result h starts none some = sym (none (sym starts))
start_or table count lead (node ∷ nodes) next head result h starts none some =
    starts ∙ sym (some (λ zero_next. omega (arith, h.0.starts, starts, zero_next)))

module _ (table : ℕ → ℕ → Cell) (count : ℕ) (old free : List Node) (linked : AreNodes table count Opens old 0) where
  -- the last node of the old chain
  ended_by : (first : ℕ) (tail : NodeAt) → start_of old 0 ≡ first → IsNodeAt old 0 tail → tail.node.first ≤
      tail.node.last
      → tail.next ≡ 0 → IsEndedBy old (record { first = first; tail = tail.node })
  ended_by first tail starts is ordered none =
      let last = all_counted old 0 0 tail is table count Opens linked ordered none in
      record {
        front = is.before;
        whole = is.whole ∙ ap (λ (l : List Node). is.before ++ tail.node ∷ l) last;
        starts = starts;
      }

  -- how many blocks the old chain has
  old_blocks : (tail : NodeAt) → IsNodeAt old 0 tail → tail.node.first ≤ tail.node.last → tail.next ≡ 0
      → tail.end ≡ length (entries_of old)
  old_blocks tail is ordered none =
      omega (
        arith,
        all_before old 0 0 tail is ordered (all_counted old 0 0 tail is table count Opens linked ordered
            none),
      )

  pub last_of : (first : ℕ) (tail : NodeAt) → start_of old 0 ≡ first → IsNodeAt old 0 tail
      → tail.node.first ≤ tail.node.last → tail.next ≡ 0 → IsLastOf old first tail
  last_of first tail starts is ordered none = record {
    ended = ended_by first tail starts is ordered none;
    counted = old_blocks tail is ordered none;
  }

  -- the boundary lies in the old chain
  pub cut_in_old : (n head : ℕ) (at : NodeAt) (boundary : Boundary) → start_of free 0 ≡ head → IsNodeAt old 0 at
      → boundary.node ≡ at.node → (at.next ≡ 0 → boundary.next ≡ head) → (at.next ≢ 0 → boundary.next ≡ at.next)
      → boundary.middle + at.end ≡ n + at.node.last → IsBoundary (old ++ free) 0 n boundary
  cut_in_old n head at boundary starts is node none some counted =
      let behind = behind_at old 0 at is table count Opens linked in
      record {
        before = is.before;
        after = is.after ++ free;
        whole = ap (λ (l : List Node). l ++ free) is.whole ∙ append_assoc is.before (at.node ∷ is.after) free
            ∙ ap (λ (m : Node). is.before ++ m ∷ (is.after ++ free)) (sym node);
        next = start_of-append is.after free 0 ∙ ap (start_of is.after) starts
            ∙ start_or table count (Follows at.node.first) is.after at.next head boundary.next behind is.next none
            some;
        counted = omega (arith, counted, is.counted, ap (λ (m : Node). m.first) node, ap (λ (m : Node). m.last) node);
      }

-- or in the free list
pub cut_in_free : (old free : List Node) (from n : ℕ) (boundary : Boundary) → from ≡ length (entries_of old)
    → IsBoundary free from n boundary → IsBoundary (old ++ free) 0 n boundary
cut_in_free old free from n boundary same is = record {
  before = old ++ is.before;
  after = is.after;
  whole = ap (λ (l : List Node). old ++ l) is.whole ∙ sym (append_assoc old is.before (boundary.node ∷ is.after));
  next = is.next;
  counted = omega (
    arith,
    is.counted,
    same,
    ap length (entries_of-append old is.before),
    length-append (entries_of old) (entries_of is.before),
  );
}

-- no chain is given back
pub fresh_enough : (n : ℕ) (old free : List Node) (result : Result Plan ChainFault) → old ≡ []
    → EnoughUnlessDisk n (length (entries_of free)) result (IsPlan [] free n)
    → EnoughUnlessDisk n (length (entries_of old) + length (entries_of free)) result (IsPlan old free n)
fresh_enough n old free result none h =
    let lengths : length (entries_of free) ≡ 0 + length (entries_of free) = omega arith in
    let here : EnoughUnlessDisk n (0 + length (entries_of free)) result (IsPlan [] free n) =
    subst (λ (k : ℕ). EnoughUnlessDisk n k result (IsPlan [] free n)) lengths h in
    subst (λ (l : List Node). EnoughUnlessDisk n (length (entries_of l) + length (entries_of free)) result (IsPlan l
    free n))
    (sym none) here

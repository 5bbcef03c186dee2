-- Two walks over one list.
use Rattle.std.proofs.Common.{◌≡◌, ℕ, ◌+◌, ◌-◌, ◌^◌, ◌<◌, ◌≤◌, ◌⊎◌, List, [], ◌∷◌, ◌++◌, length, refl, sym, ◌∙◌, ap}
use Rattle.std.proofs.Common.{subst, arith, ⊎_elim, inl, inr}
use Rattle.std.proofs.Common.{length-append}
use Rattle.std.proofs.lemmas.List.{append-nil}
use Rattle.std.specs.List.{range_with_len}
use Rattle.std.proofs.lemmas.List.FromFn.{length-range_with_len}
use Rattle.save_bytes.specs.Cells.{Cell}
use Rattle.chain_nodes.specs.declared.node.Node.{Node}
use Rattle.chain_nodes.specs.declared.node.Lead.{Lead}
use Rattle.chain_nodes.specs.declared.walk.Cursor.{Cursor}
use Rattle.chain_nodes.specs.Chains.{IsNode, start_of, AreNodes, lead_after, entries_of}
use Rattle.chain_nodes.specs.Runs.{IsReached}
use Rattle.chain_nodes.specs.Between.{count_between}
use Rattle.chain_nodes.specs.declared.node.Lead.TheVariants.{Follows}
use Rattle.chain_nodes.proofs.ListLemmas.{entries_of-append, reached_start, reached_more}
use Rattle.chain_nodes.proofs.CountLemmas.{count_between-split, count_between-all, count_between-append}
use Rattle.chain_nodes.proofs.FrontLemmas.{same_node, start_small, HasRest, front_of}

-- how many entries the first of some nodes and the others have
length-nodes : (node : Node) (nodes : List Node) → length (entries_of
    (node ∷ nodes)) ≡ node.last + 1 - node.first + length (entries_of nodes)
length-nodes node nodes = length-append (range_with_len node.first (node.last + 1 - node.first)) (entries_of nodes)
    ∙ ap (λ (n : ℕ). n + length (entries_of nodes)) (length-range_with_len node.first (node.last + 1 - node.first))

module _ (table : ℕ → ℕ → Cell) (count : ℕ) (few : count < 2 ^ 31) where
  -- a node that begins where some nodes do is the first of them
  fits_rest : (lead : Lead) (node : Node) (m : ℕ) (rest : List Node) (n : ℕ) → m ≤ count → n ≤ count
      → IsNode table count lead node m → AreNodes table count lead rest n → start_of rest n ≡ node.first
      → 1 ≤ length (entries_of rest) → node.last + 1 - node.first ≤ length (entries_of rest)
  fits_rest lead node m [] n in_m in_n h k starts some = absurd (omega arith)
  fits_rest lead node m (x ∷ xs) n in_m in_n h k starts some =
      let same = same_node table count lead node x m (start_of xs n) (omega arith)
      (start_small table count (lead_after lead (x ∷ [])) xs n few in_n k.1) h k.0 (sym starts) in
      let len : node.last + 1 - node.first ≡ x.last + 1 - x.first = ap (λ (y : Node). y.last + 1 - y.first) same.node in
      omega (arith, len, length-nodes x xs)

  none_left : (lead : Lead) (rest : List Node) (m n : ℕ) → AreNodes table count lead rest n → start_of rest n ≡ m
      → (length (entries_of rest) ≤ 0) ⊎ (m ≡ 0) → entries_of rest ≡ []
  none_left lead [] m n k starts over = refl
  none_left lead (x ∷ xs) m n k starts over =
      absurd (⊎_elim (λ (short : length (entries_of (x ∷ xs)) ≤ 0). omega (arith, length-nodes x xs, k.0.ordered))
      (λ (zero_next : m ≡ 0). omega (arith, k.0.starts)) over)

  module _ (lead : Lead) (first : ℕ) (cursor end : Cursor) (reached : IsReached table count lead first cursor)
      (whole : IsReached table count lead first end) (in_cursor : cursor.next ≤ count) (in_end : end.next ≤ count)
      (before : cursor.passed ≤ end.passed) where
    the_rest : HasRest table count lead reached.nodes whole.nodes cursor.next end.next
    the_rest = front_of table count few lead reached.nodes whole.nodes cursor.next end.next in_cursor in_end
        reached.linked whole.linked (reached.starts ∙ sym whole.starts)
        (inr (omega (arith, reached.behind, whole.behind)))

    both_entries : entries_of whole.nodes ≡ entries_of reached.nodes ++ entries_of the_rest.rest
    both_entries = ap entries_of the_rest.whole ∙ entries_of-append reached.nodes the_rest.rest

    rest_len : length (entries_of the_rest.rest) ≡ end.passed - cursor.passed
    rest_len = omega (
      arith,
      ap length both_entries,
      length-append (entries_of reached.nodes)
          (entries_of the_rest.rest),
      reached.behind,
      whole.behind,
    )

    -- a step from a place before the end leads no further than the end
    pub step_within : (node : Node) (next : ℕ) → next ≤ count → IsNode table count cursor.lead node next
        → node.first ≡ cursor.next → cursor.passed < end.passed
        → cursor.passed + (node.last + 1 - node.first) ≤ end.passed
    step_within node next in_next is_node starts less =
        let here : IsNode table count (lead_after lead reached.nodes) node next = subst (λ
        (l : Lead). IsNode table count l node next) reached.led is_node in
        let len = fits_rest (lead_after lead reached.nodes) node next the_rest.rest end.next in_next in_end here
        the_rest.linked (the_rest.starts ∙ sym starts) (omega (arith, rest_len)) in
        omega (arith, len, rest_len)

    -- at the end the walk has the same entries
    pub same_entries : (end.passed ≤ cursor.passed) ⊎ (cursor.next ≡ 0)
        → entries_of reached.nodes ≡ entries_of whole.nodes
    same_entries over =
        let none = none_left (lead_after lead reached.nodes) the_rest.rest cursor.next end.next the_rest.linked
        the_rest.starts (⊎_elim (λ (behind : end.passed ≤ cursor.passed). inl (omega (arith, rest_len)))
        (λ (zero_next : cursor.next ≡ 0). inr zero_next) over) in
        sym (both_entries ∙ ap (λ (l : List ℕ). entries_of reached.nodes ++ l) none ∙ append-nil
        (entries_of reached.nodes))

-- some nodes and one more
pub between_more : (low high between : ℕ) (nodes : List Node) (node : Node)
    → between ≡ count_between low high (entries_of nodes)
    → between + count_between low high (range_with_len node.first (node.last + 1 - node.first)) ≡ count_between low
    high (entries_of (nodes ++ node ∷ []))
between_more low high between nodes node is =
    let run = range_with_len node.first (node.last + 1 - node.first) in
    rw (entries_of-append nodes (node ∷ []), append-nil run)
    (omega (arith, count_between-append low high (entries_of nodes) run))

-- a cursor behind some nodes, and how many of their entries lie between two numbers
abbrev pub Counted : (ℕ → ℕ → Cell) → ℕ → Lead → ℕ → Cursor → ℕ → ℕ → ℕ → Type 0
Counted table count lead first cursor low high between = (reached : IsReached table count lead first cursor)
    × (between ≡ count_between low high (entries_of reached.nodes))

pub counted_start : (table : ℕ → ℕ → Cell) (count : ℕ) (lead : Lead) (first : ℕ) (cursor : Cursor) (low high : ℕ)
    → first ≤ count → cursor.lead ≡ lead → cursor.next ≡ first → cursor.passed ≡ 0
    → Counted table count lead first cursor low high 0
unfolding reached_start
counted_start table count lead first cursor low high inside led next none =
    (reached_start table count lead first cursor inside led next none, refl)

pub counted_more : (table : ℕ → ℕ → Cell) (count : ℕ) (lead : Lead) (first : ℕ) (cursor behind : Cursor) (node : Node)
    (low high between more : ℕ) → Counted table count lead first cursor low high between
    → IsNode table count cursor.lead node behind.next → behind.next ≤ count → node.first ≡ cursor.next
    → behind.lead ≡ Follows node.first → behind.passed ≡ cursor.passed + (node.last + 1 - node.first)
    → more ≡ count_between low high (range_with_len node.first (node.last + 1 - node.first))
    → Counted table count lead first behind low high (between + more)
unfolding reached_more
counted_more table count lead first cursor behind node low high between more counted is_node named starts led passed is
    = (
      reached_more table count lead first cursor behind node counted.0 is_node named starts led passed,
      rw is (between_more low high between counted.0.nodes node counted.1),
    )

module _ (table : ℕ → ℕ → Cell) (count : ℕ) (lead : Lead) (first : ℕ) (end : Cursor)
    (whole : IsReached table count lead first end) where
  -- the table has fewer entries than the list
  pub crowded_all : count < end.passed → count + 1 - 1 < count_between 1 count (entries_of whole.nodes)
  crowded_all many = omega (arith, count_between-all table count lead whole.nodes end.next whole.linked, whole.behind)

  -- one half is crowded where the other is not
  pub crowded_back : (low middle high : ℕ) → low ≤ middle → middle < high
      → high + 1 - low < count_between low high (entries_of whole.nodes)
      → count_between low middle (entries_of whole.nodes) ≤ middle - low + 1
      → high + 1 - (middle + 1) < count_between (middle + 1) high (entries_of whole.nodes)
  crowded_back low middle high h k crowded front =
      omega (arith, count_between-split low middle high (entries_of whole.nodes) h (omega arith))

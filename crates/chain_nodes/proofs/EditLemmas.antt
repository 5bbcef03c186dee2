-- Nodes and lists of nodes, after entries were written.
use Rattle.std.proofs.Common.{◌≡◌, ◌≢◌, ℕ, ◌+◌, ◌-◌, ◌<◌, ◌≤◌, List, [], ◌∷◌, ◌++◌, nat_eq, sym, ◌∙◌, ap}
use Rattle.std.proofs.Common.{subst, arith, refl, append_assoc, ⊎_elim}
use Rattle.std.specs.List.{range_with_len, Contains, IsDistinct}
use Rattle.std.proofs.lemmas.List.Elements.{Contains-append_left, Contains-append_cases}
use Rattle.std.proofs.lemmas.List.FromFn.{length-range_with_len, get_or-range_with_len}
use Rattle.save_bytes.specs.Cells.{Cell}
use Rattle.chain_nodes.specs.declared.node.Node.{Node}
use Rattle.chain_nodes.specs.declared.node.Lead.{Lead}
use Rattle.chain_nodes.specs.declared.node.Lead.TheVariants.{Follows}
use Rattle.chain_nodes.specs.Table.{word_u, word_v, HasWords}
use Rattle.chain_nodes.specs.Chains.{IsLead, IsInner, IsNode, start_of, AreNodes, lead_after, entries_of}
use Rattle.chain_nodes.specs.Edits.{IsEntrySet, IsHeadWord, HasEnds}
use Rattle.chain_nodes.proofs.ListLemmas.{start_of-append, lead_after-append, AreNodes-append, entries_of-append}
use Rattle.chain_nodes.proofs.OwnLemmas.{range_contains, entry_of, words_read, same_u, same_inner, nodes_rest}
use Rattle.chain_nodes.proofs.DistinctLemmas.{distinct_apart, distinct_right}

-- the numbers of a run
pub range_bounds : (a n x : ℕ) → Contains (range_with_len a n) x → (a ≤ x) × (x < a + n)
range_bounds a n x (k, within, is) =
    let less : k < n = omega (arith, within, length-range_with_len a n) in
    let value : a + k ≡ x = sym (get_or-range_with_len a n k x less) ∙ is in
    (omega (arith, value), omega (arith, value, less))

-- the entries of a node
abbrev pub run_of : Node → List ℕ
run_of node = range_with_len node.first (node.last + 1 - node.first)

module _ (table : ℕ → ℕ → Cell) (count : ℕ) where
  -- entries of nodes lie in the table, behind entry 0
  pub entry_within : (lead : Lead) (nodes : List Node) (next x : ℕ) → AreNodes table count lead nodes next
      → Contains (entries_of nodes) x → (1 ≤ x) × (x ≤ count)
  entry_within lead [] next x h (k, within, is) = absurd (omega (arith, within))
  entry_within lead (node ∷ nodes) next x h within =
      ⊎_elim
      (λ (here : Contains (run_of node) x).
      let bounds = range_bounds node.first (node.last + 1 - node.first) x here in
      (omega (arith, bounds.0, h.0.starts), omega (arith, bounds.1, h.0.ends, h.0.ordered)))
      (λ (there : Contains (entries_of nodes) x). entry_within (Follows node.first) nodes next x h.1 there)
      (Contains-append_cases (run_of node) (entries_of nodes) x within)

  -- a list of nodes in two parts
  pub AreNodes-split : (lead : Lead) (xs ys : List Node) (next : ℕ) → AreNodes table count lead (xs ++ ys) next
      → AreNodes table count lead xs (start_of ys next) × AreNodes table count (lead_after lead xs) ys next
  AreNodes-split lead [] ys next h = (tt, h)
  AreNodes-split lead (x ∷ xs) ys next h =
      let rest = AreNodes-split (Follows x.first) xs ys next h.1 in
      ((subst (λ (n : ℕ). IsNode table count lead x n) (start_of-append xs ys next) h.0, rest.0), rest.1)

  pub ends_of : (lead : Lead) (node : Node) (next : ℕ) → IsNode table count lead node next → HasEnds table count lead
      node
  ends_of lead node next h = record {
    starts = h.starts;
    ordered = h.ordered;
    ends = h.ends;
    read = h.read;
    u = h.u;
    second = h.second;
    last = h.last;
  }

  -- what names no next node has none behind it
  pub no_nodes_behind : (lead : Lead) (nodes : List Node) → AreNodes table count lead nodes 0 → start_of nodes 0 ≡ 0
      → nodes ≡ []
  no_nodes_behind lead [] h none = refl
  no_nodes_behind lead (node ∷ nodes) h none = absurd (omega (arith, h.0.starts, none))

  -- where nodes begin is one of their entries
  pub start_contained : (lead : Lead) (nodes : List Node) → AreNodes table count lead nodes 0 → start_of nodes 0 ≢ 0
      → Contains (entries_of nodes) (start_of nodes 0)
  start_contained lead [] h some = absurd (some refl)
  start_contained lead (node ∷ nodes) h some = entry_of node nodes node.first (omega arith) h.0.ordered

module _ (old new : ℕ → ℕ → Cell) (count entry u v : ℕ) (set : IsEntrySet old new count entry u v) where
  pub kept_inner : (node : Node) (x : ℕ) → x ≤ count → x ≢ entry → IsInner old node x → IsInner new node x
  kept_inner node x inside other = same_inner old new node x (set.others x inside other)

  -- the node's first entry was written: its word U fits another place in a list
  pub ends_led : (lead other : Lead) (node : Node) → entry ≡ node.first → HasEnds old count lead node → IsLead other u
      → HasEnds new count other node
  ends_led lead other node is h led = record {
    starts = h.starts;
    ordered = h.ordered;
    ends = h.ends;
    read = rw (sym is) set.words;
    u = subst (λ (w : ℕ). IsLead other w) (sym set.u_is ∙ ap (word_u new) is) led;
    second = λ more. kept_inner node (node.first + 1) (omega (arith, more, h.ends)) (λ same. omega (arith, is, same))
        (h.second more);
    last = λ more. kept_inner node node.last h.ends (λ same. omega (arith, is, same, more)) (h.last more);
  }

  -- and its word V names the next node
  pub node_named : (lead other : Lead) (node : Node) (next : ℕ) → entry ≡ node.first → HasEnds old count lead node
      → IsLead other u → IsHeadWord node next v → IsNode new count other node next
  node_named lead other node next is h led word =
      let ends = ends_led lead other node is h led in
      let v_is : word_v new node.first ≡ v = sym (ap (word_v new) is) ∙ set.v_is in
      record {
        starts = ends.starts;
        ordered = ends.ordered;
        ends = ends.ends;
        read = ends.read;
        u = ends.u;
        single = λ one. v_is ∙ word.single one;
        several = λ more. v_is ∙ word.several more;
        second = ends.second;
        last = ends.last;
      }

  -- nodes that do not have the entry are as before
  pub nodes_kept : (lead : Lead) (nodes : List Node) (next : ℕ) → ¬ Contains (entries_of nodes) entry
      → AreNodes old count lead nodes next → AreNodes new count lead nodes next
  nodes_kept lead nodes next apart h = nodes_rest old new count lead nodes next
      (λ x within. set.others x (entry_within old count lead nodes next x h within).1
      (λ same. apart (subst (λ (y : ℕ). Contains (entries_of nodes) y) same within))) h

  -- a list whose first entry was written begins at another place
  pub list_led : (lead other : Lead) (nodes : List Node) (next : ℕ) → entry ≡ start_of nodes 0 → v ≡ word_v old entry
      → IsDistinct nat_eq (entries_of nodes) → IsLead other u → AreNodes old count lead nodes next
      → AreNodes new count other nodes next
  list_led lead other [] next is same once led h = tt
  list_led lead other (node ∷ nodes) next is same once led h =
      let v_old : v ≡ word_v old node.first = same ∙ ap (word_v old) is in (
        node_named lead other node (start_of nodes next) is (ends_of old count lead node (start_of nodes next) h.0)
            led
            (record { single = λ one. v_old ∙ h.0.single one; several = λ more. v_old ∙ h.0.several more }),
        nodes_kept (Follows node.first) nodes next
            (λ there. distinct_apart (run_of node) (entries_of nodes) once entry
            (subst (λ (y : ℕ). Contains (run_of node) y) (sym is)
            (range_contains node.first (node.last + 1 - node.first) node.first (omega arith) (omega (
              arith,
              h.0.ordered,
            )))) there) h.1,
      )

module _ (count : ℕ) (lead : Lead) (xs : List Node) (before : Node) (ys : List Node)
    (once : IsDistinct nat_eq (entries_of (xs ++ before ∷ ys))) where
  parts : entries_of (xs ++ before ∷ ys) ≡ entries_of xs ++ (run_of before ++ entries_of ys)
  parts = entries_of-append xs (before ∷ ys)

  pub whole_list : (xs ++ before ∷ []) ++ ys ≡ xs ++ before ∷ ys
  whole_list = append_assoc xs (before ∷ []) ys

  pub halves : entries_of (xs ++ before ∷ ys) ≡ entries_of (xs ++ before ∷ []) ++ entries_of ys
  halves = ap entries_of (sym whole_list) ∙ entries_of-append (xs ++ before ∷ []) ys

  first_in : before.first ≤ before.last → Contains (run_of before) before.first
  first_in ordered = range_contains before.first (before.last + 1 - before.first) before.first (omega arith)
      (omega (arith, ordered))

  pub apart_before : before.first ≤ before.last → ¬ Contains (entries_of xs) before.first
  apart_before ordered within =
      distinct_apart (entries_of xs) (run_of before ++ entries_of ys) (subst (λ (l : List ℕ). IsDistinct nat_eq l)
      parts once)
      before.first within (Contains-append_left (run_of before) (entries_of ys) before.first (first_in ordered))

  apart_behind : before.first ≤ before.last → ¬ Contains (entries_of ys) before.first
  apart_behind ordered =
      distinct_apart (run_of before) (entries_of ys)
      (distinct_right (entries_of xs) (run_of before ++ entries_of ys) (subst (λ (l : List ℕ). IsDistinct nat_eq l)
      parts once))
      before.first (first_in ordered)

  pub once_behind : IsDistinct nat_eq (entries_of ys)
  once_behind = distinct_right (entries_of (xs ++ before ∷ [])) (entries_of ys)
      (subst (λ (l : List ℕ). IsDistinct nat_eq l) halves once)

  pub apart_front : (x : ℕ) → Contains (entries_of ys) x → ¬ Contains (entries_of (xs ++ before ∷ [])) x
  apart_front x behind front =
      distinct_apart (entries_of (xs ++ before ∷ [])) (entries_of ys) (subst (λ (l : List ℕ). IsDistinct nat_eq l)
      halves once)
      x front behind

  module _ (old new : ℕ → ℕ → Cell) (v : ℕ) (set : IsEntrySet old new count before.first (word_u old before.first) v)
      (ends : HasEnds old count (lead_after lead xs) before) where
    -- a node names another one as the next
    pub front_named : (next : ℕ) → IsHeadWord before next v → AreNodes old count lead xs before.first
        → AreNodes new count lead (xs ++ before ∷ []) next
    front_named next word h =
        AreNodes-append new count lead xs (before ∷ []) next
        (nodes_kept old new count before.first (word_u old before.first) v set lead xs before.first (apart_before
        ends.ordered) h) (
          node_named old new count before.first (word_u old before.first) v set (lead_after lead xs) (lead_after lead
              xs) before
              next refl ends ends.u word,
          tt,
        )

    -- the nodes of the other list are as before
    pub behind_kept : (other : Lead) → AreNodes old count other ys 0 → AreNodes new count other ys 0
    behind_kept other h =
        nodes_kept old new count before.first (word_u old before.first) v set other ys 0 (apart_behind ends.ordered) h

  -- the node that begins the other list names the one before it
  pub both_linked : (old new : ℕ → ℕ → Cell) (other : Lead) (after v : ℕ) → start_of ys 0 ≡ after → after ≢ 0
      → v ≡ word_v old after → IsEntrySet old new count after before.first v
      → AreNodes old count lead (xs ++ before ∷ []) after → AreNodes old count other ys 0
      → AreNodes new count lead (xs ++ before ∷ ys) 0
  both_linked old new other after v starts some same set front behind =
      let within : Contains (entries_of ys) after = subst (λ (y : ℕ). Contains (entries_of ys) y) starts
      (start_contained old count other ys behind (λ none. some (sym starts ∙ none))) in
      let front_kept : AreNodes new count lead (xs ++ before ∷ []) (start_of ys 0) =
      subst (λ (n : ℕ). AreNodes new count lead (xs ++ before ∷ []) n) (sym starts)
      (nodes_kept old new count after before.first v set lead (xs ++ before ∷ []) after (apart_front after within)
      front) in
      let led : AreNodes new count (Follows before.first) ys 0 =
      list_led old new count after before.first v set other (Follows before.first) ys 0 (sym starts) same once_behind
      refl behind
      in
      let led_after : AreNodes new count (lead_after lead (xs ++ before ∷ [])) ys 0 =
      subst (λ (l : Lead). AreNodes new count l ys 0) (sym (lead_after-append lead xs (before ∷ []))) led in
      subst (λ (l : List Node). AreNodes new count lead l 0) whole_list
      (AreNodes-append new count lead (xs ++ before ∷ []) ys 0 front_kept led_after)

  -- no list stands behind
  pub none_linked : (new : ℕ → ℕ → Cell) (other : Lead) → AreNodes new count other ys 0 → start_of ys 0 ≡ 0
      → AreNodes new count lead (xs ++ before ∷ []) 0 → AreNodes new count lead (xs ++ before ∷ ys) 0
  none_linked new other behind starts front =
      subst (λ (l : List Node). AreNodes new count lead (xs ++ before ∷ l) 0)
      (sym (no_nodes_behind new count other ys behind starts)) front

-- the entry with which nodes begin has words
pub start_read : (table : ℕ → ℕ → Cell) (count : ℕ) (lead : Lead) (nodes : List Node) → AreNodes table count lead
    nodes 0
    → start_of nodes 0 ≢ 0 → HasWords table (start_of nodes 0)
start_read table count lead [] h some = absurd (some refl)
start_read table count lead (node ∷ nodes) h some = h.0.read

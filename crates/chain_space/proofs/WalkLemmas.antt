-- The computed list of a table is the one that the relation speaks of.
use Rattle.std.proofs.Common.{◌≡◌, ℕ, zero, suc, ◌+◌, ◌-◌, ◌^◌, ◌<◌, ◌≤◌, Bool, true, false, ◌&&◌, eqb, ltb, leb, cond}
use Rattle.std.proofs.Common.{List, [], ◌∷◌, ◌++◌, length}
use Rattle.std.proofs.Common.{Option, Some, None, option_map, refl, sym, subst, arith, ⊎_elim}
use Rattle.std.proofs.lemmas.Bool.{and_parts, and_from, cases_lt, cases_Bool, lt-ltb, le-ltb, le-leb, lt-leb, ne_eqb}
use Rattle.std.proofs.lemmas.Bool.{eq-eqb, leb-true, eqb-true, false≢true}
use Rattle.std.specs.List.{range_with_len}
use Rattle.save_bytes.specs.Cells.{Cell, Byte, Blank, Spoilt, IsByte}
use Rattle.chain_nodes.specs.declared.node.Node.{Node}
use Rattle.chain_nodes.specs.declared.node.Lead.{Lead}
use Rattle.chain_nodes.specs.declared.node.Lead.TheVariants.{Opens, OpensFree, Follows}
use Rattle.chain_nodes.specs.Table.{word_u, word_v, index_of, flagged, HasWords}
use Rattle.chain_nodes.specs.Chains.{IsLead, IsInner, IsNode, start_of, AreNodes, entries_of, IsLinkedBy}
use Rattle.chain_space.specs.Bounded.{each_passes}
use Rattle.chain_space.specs.Walks.{is_byte, has_words, is_lead, is_inner, is_node, node_at, list_in}

pub each_passes-true : (n : ℕ) (test : ℕ → Bool) → each_passes n test ≡ true → (k : ℕ) → k < n → test k ≡ true
unfolding each_passes
each_passes-true zero test h k less = absurd (omega (arith, less))
each_passes-true (suc n) test h k less =
    let parts = and_parts (test n) (each_passes n test) h in
    ⊎_elim
    (λ (below : k < n). each_passes-true n test parts.1 k below)
    (λ (last : n ≤ k). (let same : n ≡ k = omega arith in subst (λ (m : ℕ). test m ≡ true) same parts.0))
    (cases_lt k n)

pub true-each_passes : (n : ℕ) (test : ℕ → Bool) → ((k : ℕ) → k < n → test k ≡ true) → each_passes n test ≡ true
unfolding each_passes
true-each_passes zero test h = refl
true-each_passes (suc n) test h =
    and_from (test n) (each_passes n test) (h n (omega arith)) (true-each_passes n test (λ k less. h k (omega arith)))

is_byte-true : (cell : Cell) → is_byte cell ≡ true → IsByte cell
is_byte-true (Byte value) h = tt
is_byte-true (Blank part level block) h = absurd (false≢true h)
is_byte-true (Spoilt part level block) h = absurd (false≢true h)

true-is_byte : (cell : Cell) → IsByte cell → is_byte cell ≡ true
true-is_byte (Byte value) h = refl
true-is_byte (Blank part level block) h = absurd h
true-is_byte (Spoilt part level block) h = absurd h

module _ (table : ℕ → ℕ → Cell) where
  has_words-true : (entry : ℕ) → has_words table entry ≡ true → HasWords table entry
  unfolding has_words
  has_words-true entry h k less =
      is_byte-true (table entry k) (each_passes-true 8 (λ j. is_byte (table entry j)) h k less)

  true-has_words : (entry : ℕ) → HasWords table entry → has_words table entry ≡ true
  unfolding has_words
  true-has_words entry h =
      true-each_passes 8 (λ j. is_byte (table entry j)) (λ k less. true-is_byte (table entry k) (h k less))

  is_lead-true : (lead : Lead) (word : ℕ) → is_lead lead word ≡ true → IsLead lead word
  is_lead-true Opens word h = eqb-true word (flagged 0) h
  is_lead-true OpensFree word h = eqb-true (index_of word) 0 h
  is_lead-true (Follows before) word h = eqb-true word before h

  true-is_lead : (lead : Lead) (word : ℕ) → IsLead lead word → is_lead lead word ≡ true
  true-is_lead Opens word h = eq-eqb word (flagged 0) h
  true-is_lead OpensFree word h = eq-eqb (index_of word) 0 h
  true-is_lead (Follows before) word h = eq-eqb word before h

  is_inner-true : (node : Node) (entry : ℕ) → is_inner table node entry ≡ true → IsInner table node entry
  unfolding is_inner
  is_inner-true node entry h =
      let parts = and_parts _ _ h in
      let words = and_parts _ _ parts.1 in
      record { read = has_words-true entry parts.0; u = eqb-true _ _ words.0; v = eqb-true _ _ words.1 }

  true-is_inner : (node : Node) (entry : ℕ) → IsInner table node entry → is_inner table node entry ≡ true
  unfolding is_inner
  true-is_inner node entry h =
      and_from _ _ (true-has_words entry h.read) (and_from _ _ (eq-eqb _ _ h.u) (eq-eqb _ _ h.v))

  module _ (count : ℕ) (lead : Lead) (node : Node) (next : ℕ) where
    is_node-true : is_node table count lead node next ≡ true → IsNode table count lead node next
    unfolding is_node
    is_node-true h =
        let a = and_parts _ _ h in
        let b = and_parts _ _ a.1 in
        let c = and_parts _ _ b.1 in
        let d = and_parts _ _ c.1 in
        let e = and_parts _ _ d.1 in
        record {
          starts = leb-true _ _ a.0;
          ordered = leb-true _ _ b.0;
          ends = leb-true _ _ c.0;
          read = has_words-true node.first d.0;
          u = is_lead-true lead (word_u table node.first) e.0;
          single = λ same. (let less : ltb node.first node.last ≡ false = le-ltb node.first node.last
              (omega arith) in eqb-true _ _ (rw less at e.1));
          several = λ more. (let less : ltb node.first node.last ≡ true = lt-ltb node.first node.last more in eqb-true
              _ _ (and_parts _ _ (rw less at e.1)).0);
          second = λ more. (let less : ltb node.first node.last ≡ true =
              lt-ltb node.first node.last more in is_inner-true node (node.first + 1)
              (and_parts _ _ (and_parts _ _ (rw less at e.1)).1).0);
          last = λ more. (let less : ltb node.first node.last ≡ true =
              lt-ltb node.first node.last more in is_inner-true node node.last
              (and_parts _ _ (and_parts _ _ (rw less at e.1)).1).1);
        }

    ends_true : IsNode table count lead node next → cond (ltb node.first node.last)
        (eqb (word_v table node.first) (flagged next) &&
        (is_inner table node (node.first + 1) && is_inner table node node.last))
        (eqb (word_v table node.first) next) ≡ true
    ends_true h =
        ⊎_elim
        (λ (more : node.first < node.last).
        let less : ltb node.first node.last ≡ true = lt-ltb node.first node.last more in
        rw less (and_from _ _ (eq-eqb _ _ (h.several more))
        (and_from _ _ (true-is_inner node (node.first + 1) (h.second more))
        (true-is_inner node node.last (h.last more)))))
        (λ (one : node.last ≤ node.first).
        let less : ltb node.first node.last ≡ false = le-ltb node.first node.last one in
        let same : node.first ≡ node.last = omega (arith, h.ordered) in
        rw less (eq-eqb _ _ (h.single same)))
        (cases_lt node.first node.last)

    true-is_node : IsNode table count lead node next → is_node table count lead node next ≡ true
    unfolding is_node
    true-is_node h =
        and_from _ _ (le-leb _ _ h.starts)
        (and_from _ _ (le-leb _ _ h.ordered)
        (and_from _ _ (le-leb _ _ h.ends)
        (and_from _ _ (true-has_words node.first h.read)
        (and_from _ _ (true-is_lead lead (word_u table node.first) h.u) (ends_true h)))))

some_inj : (xs ys : List ℕ) → Some xs ≡ Some ys → xs ≡ ys
some_inj xs ys e = cc

none_some : (ys : List ℕ) → None ≡ Some ys → ⊥
none_some ys e = cc

no_list : (table : ℕ → ℕ → Cell) (count : ℕ) (lead : Lead) (list : List ℕ) → Some [] ≡ Some list
    → IsLinkedBy table count lead 0 list
no_list table count lead list e = record { nodes = []; linked = tt; starts = refl; entries = some_inj [] list e }

module _ (table : ℕ → ℕ → Cell) (count : ℕ) where
  -- one node and the list behind it
  longer_list : (lead : Lead) (first next : ℕ) (node : Node) (rest : List ℕ) → node.first ≡ first
      → IsNode table count lead node next → IsLinkedBy table count (Follows first) next rest
      → IsLinkedBy table count lead first (range_with_len first (node.last + 1 - first) ++ rest)
  longer_list lead first next node rest same h linked = record {
    nodes = node ∷ linked.nodes;
    linked = (
      rw linked.starts h,
      subst (λ (f : ℕ). AreNodes table count (Follows f) linked.nodes 0)
          (sym same) linked.linked,
    );
    starts = same;
    entries = rw (same, linked.entries) refl;
  }

  grown_list : (lead : Lead) (first next : ℕ) (node : Node) (list : List ℕ) (found : Option (List ℕ))
      → node.first ≡ first → IsNode table count lead node next
      → ((rest : List ℕ) → found ≡ Some rest → IsLinkedBy table count (Follows first) next rest)
      → option_map (λ rest. range_with_len first (node.last + 1 - first) ++ rest) found ≡ Some list
      → IsLinkedBy table count lead first list
  grown_list lead first next node list None same h linked e = absurd (none_some list e)
  grown_list lead first next node list (Some rest) same h linked e =
      subst (λ (l : List ℕ). IsLinkedBy table count lead first l)
      (some_inj (range_with_len first (node.last + 1 - first) ++ rest) list e)
      (longer_list lead first next node rest same h (linked rest refl))

  node_at-first : (first : ℕ) → (node_at table first).first ≡ first
  unfolding node_at
  node_at-first first = refl

  -- what is computed is linked
  pub list_in-linked : (most : ℕ) (lead : Lead) (first : ℕ) (list : List ℕ)
      → list_in table count most lead first ≡ Some list → IsLinkedBy table count lead first list
  unfolding list_in
  list_in-linked zero lead first list h =
      ⊎_elim
      (λ (none : eqb first 0 ≡ true). subst (λ (f : ℕ). IsLinkedBy table count lead f list)
      (sym (eqb-true first 0 none)) (no_list table count lead list (rw none at h)))
      (λ (some : eqb first 0 ≡ false). absurd (none_some list (rw some at h)))
      (cases_Bool (eqb first 0))
  list_in-linked (suc most) lead first list h =
      ⊎_elim
      (λ (none : eqb first 0 ≡ true). subst (λ (f : ℕ). IsLinkedBy table count lead f list)
      (sym (eqb-true first 0 none)) (no_list table count lead list (rw none at h)))
      (λ (some : eqb first 0 ≡ false).
      ⊎_elim
      (λ (good : is_node table count lead (node_at table first) (index_of (word_v table first)) ≡ true).
      grown_list lead first (index_of (word_v table first)) (node_at table first) list
      (list_in table count most (Follows first) (index_of (word_v table first))) (node_at-first first)
      (is_node-true table count lead (node_at table first) (index_of (word_v table first)) good)
      (λ rest. list_in-linked most (Follows first) (index_of (word_v table first)) rest) (rw (some, good) at h))
      (λ (bad : is_node table count lead (node_at table first) (index_of (word_v table first)) ≡ false). absurd
      (none_some list (rw (some, bad) at h)))
      (cases_Bool (is_node table count lead (node_at table first) (index_of (word_v table first)))))
      (cases_Bool (eqb first 0))

  -- a node is the one that its words tell of
  node_at-is : (lead : Lead) (node : Node) (next : ℕ) → next < 2 ^ 31 → IsNode table count lead node next
      → node_at table node.first ≡ node
  unfolding node_at
  node_at-is lead node next small h =
      ⊎_elim
      (λ (more : node.first < node.last).
      let long : 2 ^ 31 ≤ word_v table node.first = omega (arith, h.several more) in
      let flag : leb (2 ^ 31) (word_v table node.first) ≡ true = le-leb _ _ long in
      rw flag (λ i. record { first = node.first; last = (h.second more).v i }))
      (λ (one : node.last ≤ node.first).
      let same : node.first ≡ node.last = omega (arith, h.ordered) in
      let flag : leb (2 ^ 31) (word_v table node.first) ≡ false = lt-leb (2 ^ 31) (word_v table node.first) (omega
      (arith, h.single same)) in
      rw flag (λ i. record { first = node.first; last = same i }))
      (cases_lt node.first node.last)

  next_is : (lead : Lead) (node : Node) (next : ℕ) → next < 2 ^ 31 → IsNode table count lead node next
      → index_of (word_v table node.first) ≡ next
  next_is lead node next small h =
      ⊎_elim
      (λ (more : node.first < node.last). omega (arith, h.several more))
      (λ (one : node.last ≤ node.first). (let same : node.first ≡ node.last = omega (arith, h.ordered) in omega
      (arith, h.single same)))
      (cases_lt node.first node.last)

  start_below : count < 2 ^ 31 → (lead : Lead) (nodes : List Node) → AreNodes table count lead nodes 0
      → start_of nodes 0 < 2 ^ 31
  start_below few lead [] h = omega arith
  start_below few lead (node ∷ nodes) h = omega (arith, h.0.ordered, h.0.ends)

  list_in-none : (most : ℕ) (lead : Lead) → list_in table count most lead 0 ≡ Some []
  unfolding list_in
  list_in-none zero lead = refl
  list_in-none (suc most) lead = refl

  -- and what is linked is computed
  pub linked-list_in : count < 2 ^ 31 → (most : ℕ) (lead : Lead) (nodes : List Node)
      → AreNodes table count lead nodes 0 → length nodes ≤ most
      → list_in table count most lead (start_of nodes 0) ≡ Some (entries_of nodes)
  unfolding list_in
  linked-list_in few most lead [] h enough = list_in-none most lead
  linked-list_in few zero lead (node ∷ nodes) h enough = absurd (omega (arith, enough))
  linked-list_in few (suc most) lead (node ∷ nodes) h enough =
      let small = start_below few (Follows node.first) nodes h.1 in
      let some : eqb node.first 0 ≡ false = ne_eqb node.first 0 (λ e. omega (arith, e, h.0.starts)) in
      let is = node_at-is lead node (start_of nodes 0) small h.0 in
      let next = next_is lead node (start_of nodes 0) small h.0 in
      let good : is_node table count lead node (start_of nodes 0) ≡ true = true-is_node table count lead node
      (start_of nodes 0) h.0 in
      let rest : list_in table count most (Follows node.first) (start_of nodes 0) ≡ Some (entries_of nodes) =
      linked-list_in few most (Follows node.first) nodes h.1 (omega (arith, enough)) in
      rw (some, is, next, good, rest) refl

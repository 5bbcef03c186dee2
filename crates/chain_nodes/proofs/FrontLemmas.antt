-- The table fixes the nodes of a list.
use Rattle.std.proofs.Common.{◌≡◌, ℕ, ◌+◌, ◌-◌, ◌^◌, ◌<◌, ◌≤◌, ◌⊎◌, List, [], ◌∷◌, ◌++◌, length, refl, sym, ◌∙◌, ap}
use Rattle.std.proofs.Common.{subst, arith, ⊎_elim, inl, inr}
use Rattle.std.proofs.Common.{length-append}
use Rattle.std.proofs.lemmas.Bool.{cases_lt}
use Rattle.std.specs.List.{range_with_len}
use Rattle.std.proofs.lemmas.List.FromFn.{length-range_with_len}
use Rattle.save_bytes.specs.Cells.{Cell}
use Rattle.chain_nodes.specs.declared.node.Node.{Node}
use Rattle.chain_nodes.specs.declared.node.Lead.{Lead}
use Rattle.chain_nodes.specs.declared.node.Lead.TheVariants.{Follows}
use Rattle.chain_nodes.specs.Table.{word_v, flagged}
use Rattle.chain_nodes.specs.Chains.{IsNode, start_of, AreNodes, lead_after, entries_of}

-- two nodes that begin with one entry end with one, and name the same as the next
pub record SameNode (x y : Node) (m n : ℕ) : Type 0 where
  pub node : x ≡ y
  pub next : m ≡ n

node_is : (x y : Node) → x.first ≡ y.first → x.last ≡ y.last → x ≡ y
node_is x y first last = λ i. record { first = first i; last = last i }

module _ (table : ℕ → ℕ → Cell) (count : ℕ) where
  same_long : (lead : Lead) (x y : Node) (m n : ℕ) → IsNode table count lead x m → IsNode table count lead y n
      → x.first ≡ y.first → x.first < x.last → y.first < y.last → SameNode x y m n
  same_long lead x y m n h k first long_x long_y =
      let last : x.last ≡ y.last = sym (h.second long_x).v ∙ ap (λ (f : ℕ). word_v table (f + 1)) first ∙
      (k.second long_y).v in
      let words : flagged m ≡ flagged n = sym (h.several long_x) ∙ ap (word_v table) first ∙ k.several long_y in
      record { node = node_is x y first last; next = omega arith }

  same_single : (lead : Lead) (x y : Node) (m n : ℕ) → IsNode table count lead x m → IsNode table count lead y n
      → x.first ≡ y.first → x.first ≡ x.last → y.first ≡ y.last → SameNode x y m n
  same_single lead x y m n h k first one_x one_y =
      record {
        node = node_is x y first (omega arith);
        next = sym (h.single one_x) ∙ ap
            (word_v table) first ∙ k.single one_y;
      }

  -- a node has more than one entry, or does not
  mixed : (lead : Lead) (x y : Node) (m n : ℕ) → m < 2 ^ 31 → IsNode table count lead x m
      → IsNode table count lead y n → x.first ≡ y.first → x.first ≡ x.last → y.first < y.last → ⊥
  mixed lead x y m n small h k first one long =
      let words : m ≡ flagged n = sym (h.single one) ∙ ap (word_v table) first ∙ k.several long in
      omega arith

  pub same_node : (lead : Lead) (x y : Node) (m n : ℕ) → m < 2 ^ 31 → n < 2 ^ 31 → IsNode table count lead x m
      → IsNode table count lead y n → x.first ≡ y.first → SameNode x y m n
  same_node lead x y m n small_m small_n h k first =
      ⊎_elim
      (λ (long_x : x.first < x.last).
      ⊎_elim
      (λ (long_y : y.first < y.last). same_long lead x y m n h k first long_x long_y)
      (λ (one_y : y.last ≤ y.first). absurd (mixed lead y x n m small_n k h (sym first) (omega
      (arith, k.ordered)) long_x))
      (cases_lt y.first y.last))
      (λ (one_x : x.last ≤ x.first).
      ⊎_elim
      (λ (long_y : y.first < y.last). absurd (mixed lead x y m n small_m h k first (omega (arith, h.ordered)) long_y))
      (λ (one_y : y.last ≤ y.first). same_single lead x y m n h k first (omega (arith, h.ordered)) (omega
      (arith, k.ordered)))
      (cases_lt y.first y.last))
      (cases_lt x.first x.last)

  -- what is named lies in the table
  pub start_small : (lead : Lead) (nodes : List Node) (next : ℕ) → count < 2 ^ 31 → next ≤ count
      → AreNodes table count lead nodes next → start_of nodes next < 2 ^ 31
  start_small lead [] next few inside h = omega arith
  start_small lead (node ∷ nodes) next few inside h = omega (arith, h.0.ordered, h.0.ends)

  -- some nodes of a list, and the rest of it
  pub record HasRest (lead : Lead) (xs ys : List Node) (m n : ℕ) : Type 0 where
    pub rest : List Node
    pub whole : ys ≡ xs ++ rest
    pub starts : start_of rest n ≡ m
    pub linked : AreNodes table count (lead_after lead xs) rest n

  no_nodes : (lead : Lead) (x : Node) (xs : List Node) (m n : ℕ) → IsNode table count lead x m → x.first ≡ n
      → (n ≡ 0) ⊎ (length (entries_of (x ∷ xs)) ≤ 0) → ⊥
  no_nodes lead x xs m n h starts none =
      ⊎_elim
      (λ (zero_next : n ≡ 0). omega (arith, h.starts))
      (λ (short : length (entries_of (x ∷ xs)) ≤ 0).
      omega (
        arith,
        h.ordered,
        length-append (range_with_len x.first (x.last + 1 - x.first)) (entries_of xs),
        length-range_with_len x.first (x.last + 1 - x.first),
      ))
      none

  -- Of two lists of nodes that begin with one entry the shorter is a front of the longer. One behind which no node is
  -- named is not the shorter.
  pub front_of : count < 2 ^ 31 → (lead : Lead) (xs ys : List Node) (m n : ℕ) → m ≤ count → n ≤ count
      → AreNodes table count lead xs m → AreNodes table count lead ys n → start_of xs m ≡ start_of ys n
      → (n ≡ 0) ⊎ (length (entries_of xs) ≤ length (entries_of ys)) → HasRest lead xs ys m n
  front_of few lead [] ys m n in_m in_n h k starts shorter = record {
    rest = ys;
    whole = refl;
    starts = sym starts;
    linked = k;
  }
  front_of few lead (x ∷ xs) [] m n in_m in_n h k starts shorter =
      absurd (no_nodes lead x xs (start_of xs m) n h.0 starts shorter)
  front_of few lead (x ∷ xs) (y ∷ ys) m n in_m in_n h k starts shorter =
      let same = same_node lead x y (start_of xs m) (start_of ys n) (start_small (Follows x.first) xs m few in_m h.1)
      (start_small (Follows y.first) ys n few in_n k.1) h.0 k.0 starts in
      let back : AreNodes table count (Follows x.first) ys n = subst (λ (node : Node). AreNodes table count
      (Follows node.first) ys n) (sym same.node) k.1 in
      let lengths : (length (entries_of (x ∷ xs)) ≤ length (entries_of (y ∷ ys)))
      → length (entries_of xs) ≤ length (entries_of ys) = λ le.
      (let here : length (entries_of (x ∷ xs)) ≤ length (entries_of (x ∷ ys)) =
      subst (λ (node : Node). length (entries_of (x ∷ xs)) ≤ length (entries_of (node ∷ ys))) (sym same.node) le
      in
      omega (
        arith,
        here,
        length-append (range_with_len x.first (x.last + 1 - x.first)) (entries_of xs),
        length-append (range_with_len x.first (x.last + 1 - x.first)) (entries_of ys),
      )) in
      let rest = front_of few (Follows x.first) xs ys m n in_m in_n h.1 back same.next (⊎_elim (λ (e : n ≡ 0). inl e)
      (λ le. inr (lengths le)) shorter) in
      record {
        rest = rest.rest;
        whole = ap (λ (l : List Node). y ∷ l) rest.whole ∙ ap (λ (node : Node). node ∷ (xs ++ rest.rest))
            (sym same.node);
        starts = rest.starts;
        linked = rest.linked;
      }

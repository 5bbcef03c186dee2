-- The front of the free list as a chain, and a chain as the front of the free list.
use Rattle.std.proofs.Common.{◌≡◌, ◌≢◌, ℕ, ◌^◌, ◌<◌, ◌≤◌, nat_eq, List, [], ◌∷◌, ◌++◌, refl, sym, ◌∙◌, ap, subst}
use Rattle.std.proofs.Common.{arith}
use Rattle.std.specs.List.{Contains, IsDistinct}
use Rattle.save_bytes.specs.Cells.{Cell}
use Rattle.chain_nodes.specs.declared.node.Node.{Node}
use Rattle.chain_nodes.specs.declared.node.Lead.{Lead}
use Rattle.chain_nodes.specs.declared.node.Lead.TheVariants.{Opens, OpensFree}
use Rattle.chain_nodes.specs.Table.{word_v, index_of, flagged, HasWords}
use Rattle.chain_nodes.specs.Chains.{start_of, AreNodes, lead_after, entries_of}
use Rattle.chain_nodes.specs.Edits.{IsEntrySet, AreJoinable, AreFreeNodes, AreCut, AreTaken, AreApartFrom}
use Rattle.chain_nodes.proofs.ListLemmas.{start_of-append}
use Rattle.chain_nodes.proofs.DistinctLemmas.{distinct_apart, distinct_left, distinct_right}
use Rattle.chain_nodes.proofs.EditLemmas.{AreNodes-split, ends_of, start_contained, start_read, list_led}
use Rattle.chain_nodes.proofs.EditLemmas.{nodes_kept, halves, entry_within}

-- nodes one of which is the last begin behind entry 0
pub starts_some : (table : ℕ → ℕ → Cell) (count : ℕ) (lead : Lead) (xs : List Node) (node : Node)
    → AreNodes table count lead (xs ++ node ∷ []) 0 → start_of (xs ++ node ∷ []) 0 ≢ 0
starts_some table count lead [] node h none = omega (arith, h.0.starts, none)
starts_some table count lead (x ∷ xs) node h none = omega (arith, h.0.starts, none)

-- entry 0 is in no list
no_root : (table : ℕ → ℕ → Cell) (count : ℕ) (lead : Lead) (nodes : List Node) → AreNodes table count lead nodes 0
    → ¬ Contains (entries_of nodes) 0
no_root table count lead nodes h within = omega (arith, (entry_within table count lead nodes 0 0 h within).0)

-- an index that lies in the table
index_is : (count n : ℕ) → count < 2 ^ 31 → n ≤ count → index_of n ≡ n
index_is count n few inside = omega arith

module _ (count : ℕ) (few : count < 2 ^ 31) (xs : List Node) (node : Node) (ys : List Node) (middle rest : ℕ)
    (mid : ℕ → ℕ → Cell) (cut : AreCut mid count xs node ys middle rest) (once : IsDistinct nat_eq (entries_of (xs ++
    node ∷ ys)))
    (first : ℕ) (starts : start_of (xs ++ node ∷ []) 0 ≡ first) where
  -- the front begins where the whole does
  front_starts : start_of (xs ++ record { first = node.first; last = middle } ∷ []) 0 ≡ first
  front_starts = start_of-append xs (record { first = node.first; last = middle } ∷ []) 0
      ∙ sym (start_of-append xs (node ∷ []) 0) ∙ starts

  once_parts : IsDistinct nat_eq (entries_of (xs ++ record { first = node.first; last = middle } ∷ []) ++ entries_of
      cut.nodes)
  once_parts = subst (λ (l : List ℕ). IsDistinct nat_eq l) (sym cut.entries) once

  -- where the front begins there are words
  pub first_read : HasWords mid first
  first_read = subst (λ (e : ℕ). HasWords mid e) front_starts
      (start_read mid count OpensFree (xs ++ record { first = node.first; last = middle } ∷ []) cut.front
      (starts_some mid count OpensFree xs (record { first = node.first; last = middle }) cut.front))

  -- then it is a chain, and what is behind it the free list
  pub taken : (chained new : ℕ → ℕ → Cell) (u : ℕ) → rest ≤ count
      → IsEntrySet mid chained count first (flagged 0) (word_v mid first) → IsEntrySet chained new count 0 u rest
      → AreTaken new count xs node ys middle
  taken chained new u inside head root =
      let left : Node = record { first = node.first; last = middle } in
      let front_some = starts_some mid count OpensFree xs left cut.front in
      let within : Contains (entries_of (xs ++ left ∷ [])) first = subst (λ (e : ℕ). Contains (entries_of (xs ++ left
      ∷ [])) e)
      front_starts (start_contained mid count OpensFree (xs ++ left ∷ []) cut.front front_some) in
      let chain = list_led mid chained count first (flagged 0) (word_v mid first) head OpensFree Opens (xs ++ left ∷
      []) 0
      (sym front_starts) refl (distinct_left (entries_of (xs ++ left ∷ [])) (entries_of cut.nodes) once_parts) refl
      cut.front in
      let behind = nodes_kept mid chained count first (flagged 0) (word_v mid first) head OpensFree cut.nodes 0
      (distinct_apart (entries_of (xs ++ left ∷ [])) (entries_of cut.nodes) once_parts first within) cut.behind in
      record {
        nodes = cut.nodes;
        chain = nodes_kept chained new count 0 u rest root Opens (xs ++ left ∷ []) 0
            (no_root chained count Opens (xs ++ left ∷ []) chain) chain;
        free = record {
          read = root.words;
          starts = cut.starts ∙ sym (ap index_of root.v_is ∙ index_is count rest few inside);
          linked = nodes_kept chained new count 0 u rest root OpensFree cut.nodes 0 (no_root chained count OpensFree
              cut.nodes behind) behind;
          once = distinct_right (entries_of (xs ++ left ∷ [])) (entries_of cut.nodes) once_parts;
        };
        entries = cut.entries;
      }

module _ (count : ℕ) (few : count < 2 ^ 31) (xs : List Node) (tail : Node) (ys : List Node) (first head : ℕ)
    (old : ℕ → ℕ → Cell) (apart : AreApartFrom old count xs tail ys first head) where
  chain_once : IsDistinct nat_eq (entries_of (xs ++ tail ∷ []))
  chain_once = distinct_left (entries_of (xs ++ tail ∷ [])) (entries_of ys)
      (subst (λ (l : List ℕ). IsDistinct nat_eq l) (halves count Opens xs tail ys apart.once) apart.once)

  chain_some : start_of (xs ++ tail ∷ []) 0 ≢ 0
  chain_some = starts_some old count Opens xs tail apart.chain

  pub chain_read : HasWords old first
  chain_read = subst (λ (e : ℕ). HasWords old e) apart.starts (start_read old count Opens (xs ++ tail ∷ [])
      apart.chain chain_some)

  -- the chain as a front of free nodes can be linked with the free ones
  pub can_give : (opened : ℕ → ℕ → Cell) → IsEntrySet old opened count first 0 (word_v old first)
      → AreJoinable opened count OpensFree OpensFree xs tail ys head
  can_give opened set =
      let v = word_v old first in
      let led = list_led old opened count first 0 v set Opens OpensFree (xs ++ tail ∷ []) 0 (sym apart.starts) refl
      chain_once refl
      apart.chain in
      let parts = AreNodes-split opened count OpensFree xs (tail ∷ []) 0 led in
      let within : Contains (entries_of (xs ++ tail ∷ [])) first = subst (λ (e : ℕ). Contains (entries_of (xs ++ tail
      ∷ [])) e)
      apart.starts (start_contained old count Opens (xs ++ tail ∷ []) apart.chain chain_some) in
      record {
        front = parts.0;
        ends = ends_of opened count (lead_after OpensFree xs) tail 0 parts.1.0;
        behind = nodes_kept old opened count first 0 v set OpensFree ys 0
            (distinct_apart (entries_of (xs ++ tail ∷ [])) (entries_of ys)
            (subst (λ (l : List ℕ). IsDistinct nat_eq l) (halves count Opens xs tail ys apart.once) apart.once) first
            within)
            apart.free;
        starts = apart.head_is;
        once = apart.once;
      }

  -- and then all of them are the free list
  pub given : (linked new : ℕ → ℕ → Cell) (u : ℕ) → first ≤ count → AreNodes linked count OpensFree (xs ++ tail ∷ ys)
      0
      → IsEntrySet linked new count 0 u first → AreFreeNodes new count (xs ++ tail ∷ ys)
  given linked new u inside all root = record {
    read = root.words;
    starts = start_of-append xs (tail ∷ ys) 0 ∙ sym (start_of-append xs (tail ∷ []) 0) ∙ apart.starts
        ∙ sym (ap index_of root.v_is ∙ index_is count first few inside);
    linked = nodes_kept linked new count 0 u first root OpensFree (xs ++ tail ∷ ys) 0 (no_root linked count OpensFree
        (xs ++ tail ∷ ys) all) all;
    once = apart.once;
  }

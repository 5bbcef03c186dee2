-- Free nodes that are cut in two.
use Rattle.std.proofs.Common.{◌≡◌, ◌≢◌, ◌⊎◌, ℕ, ◌+◌, ◌<◌, ◌≤◌, min, nat_eq, List, [], ◌∷◌, ◌++◌, refl, sym, ◌∙◌, ap}
use Rattle.std.proofs.Common.{subst, arith}
use Rattle.std.proofs.Common.{inl, inr, ⊎_elim, zero, suc}
use Rattle.std.proofs.lemmas.Bool.{cases_lt}
use Rattle.std.specs.List.{Contains, IsDistinct}
use Rattle.std.proofs.lemmas.List.Elements.{Contains-append_left, Contains-append_right}
use Rattle.save_bytes.specs.State.{State, HasNoTwins}
use Rattle.save_bytes.specs.Within.{ChangesWithin}
use Rattle.chain_nodes.specs.declared.info.ChainInfo.{ChainInfo}
use Rattle.chain_nodes.specs.declared.node.Node.{Node}
use Rattle.chain_nodes.specs.declared.node.Lead.TheVariants.{OpensFree, Follows}
use Rattle.chain_nodes.specs.Table.{table_in, word_v, HasWords, HasAllocationTable}
use Rattle.chain_nodes.specs.Chains.{IsLead, IsNode, start_of, AreNodes, lead_after, entries_of}
use Rattle.chain_nodes.specs.Edits.{KeepsEntry, IsEntrySet, AreJoinable, AreBefore, AreBehind, AreFreeAround, AreCut}
use Rattle.chain_nodes.proofs.ListLemmas.{entries_of-append}
use Rattle.chain_nodes.proofs.OwnLemmas.{words_read, same_u, entry_of, node_cut}
use Rattle.chain_nodes.proofs.DistinctLemmas.{distinct_left}
use Rattle.chain_nodes.proofs.EditLemmas.{AreNodes-split, ends_of, start_contained, no_nodes_behind, start_read}
use Rattle.chain_nodes.proofs.EditLemmas.{list_led, nodes_kept}
use Rattle.chain_nodes.proofs.EditLemmas.{run_of, halves, once_behind, apart_front}
use Rattle.chain_links.specs.Alters.{IsOfEntries}
use Rattle.chain_links.proofs.WordLemmas.{entry_kept, nodes_clear}

-- a number that is 0 or one of a list
abbrev pub IsNoneOr : List ℕ → ℕ → Type 0
IsNoneOr list x = (x ≡ 0) ⊎ Contains list x

-- what holds of each number of a list of these
pub each_none : (list : List ℕ) (x : ℕ) → Contains [] x → IsNoneOr list x
each_none list x (k, within, is) = absurd (omega (arith, within))

pub each_more : (list : List ℕ) (a : ℕ) (few : List ℕ) → IsNoneOr list a → ((x : ℕ) → Contains few x → IsNoneOr list
    x)
    → (x : ℕ) → Contains (a ∷ few) x → IsNoneOr list x
each_more list a few here rest x (zero, within, is) = subst (λ (y : ℕ). IsNoneOr list y) is here
each_more list a few here rest x (suc k, within, is) = rest x (k, omega (arith, within), is)

-- what holds of four numbers
pub all_four : (P : ℕ → Type 0) (a b c d : ℕ) → P a → P b → P c → P d → (x : ℕ) → Contains (a ∷ b ∷ c ∷ d ∷ []) x → P
    x
all_four P a b c d in_a in_b in_c in_d x (zero, within, is) = subst P is in_a
all_four P a b c d in_a in_b in_c in_d x (suc zero, within, is) = subst P is in_b
all_four P a b c d in_a in_b in_c in_d x (suc (suc zero), within, is) = subst P is in_c
all_four P a b c d in_a in_b in_c in_d x (suc (suc (suc zero)), within, is) = subst P is in_d
all_four P a b c d in_a in_b in_c in_d x (suc (suc (suc (suc k))), within, is) = absurd (omega (arith, within))

pub each_four : (list : List ℕ) (a b c d : ℕ) → IsNoneOr list a → IsNoneOr list b → IsNoneOr list c → IsNoneOr list d
    → (x : ℕ) → Contains (a ∷ b ∷ c ∷ d ∷ []) x → IsNoneOr list x
each_four list = all_four (IsNoneOr list)

-- what stands in one part, and is not 0, is no number that is 0 or stands in the other
pub apart_from : (front behind sites : List ℕ) → ((x : ℕ) → Contains front x → ¬ Contains behind x)
    → ((x : ℕ) → Contains sites x → IsNoneOr behind x) → (x : ℕ) → 1 ≤ x → Contains front x → ¬ Contains sites x
apart_from front behind sites apart each x some within site =
    ⊎_elim
    (λ (none : x ≡ 0). omega (arith, none, some))
    (λ (there : Contains behind x). apart x within there)
    (each x site)

module _ (s : State) (info : ChainInfo) (xs : List Node) (node : Node) (ys : List Node) (next : ℕ)
    (around : AreFreeAround (table_in s.cells info) info.count xs node ys next) where
  parts : AreNodes (table_in s.cells info) info.count OpensFree xs node.first
      × (IsNode (table_in s.cells info) info.count (lead_after OpensFree xs) node (start_of ys 0)
      × AreNodes (table_in s.cells info) info.count (Follows node.first) ys 0)
  parts = AreNodes-split (table_in s.cells info) info.count OpensFree xs (node ∷ ys) 0 around.linked

  once_front : IsDistinct nat_eq (entries_of (xs ++ node ∷ []))
  once_front = distinct_left (entries_of (xs ++ node ∷ [])) (entries_of ys)
      (subst (λ (l : List ℕ). IsDistinct nat_eq l) (halves info.count OpensFree xs node ys around.once) around.once)

  -- the front can be closed behind the node
  pub can_end : AreJoinable (table_in s.cells info) info.count OpensFree OpensFree xs node [] 0
  can_end = record {
    front = parts.0;
    ends = ends_of (table_in s.cells info) info.count (lead_after OpensFree xs) node (start_of ys 0) parts.1.0;
    behind = tt;
    starts = refl;
    once = once_front;
  }

  module _ (m : State) (table : HasAllocationTable s.shape info) (single : HasNoTwins s)
      (changes : ChangesWithin s (IsOfEntries info (node.first ∷ 0 ∷ [])) m.cells) where
    -- what is behind the node is as before
    pub rest_kept : AreNodes (table_in m.cells info) info.count (Follows node.first) ys 0
    rest_kept = nodes_clear s m info (node.first ∷ 0 ∷ []) table single changes (Follows node.first) ys 0
        (apart_from (entries_of ys) (entries_of (xs ++ node ∷ [])) (node.first ∷ 0 ∷ [])
        (apart_front info.count OpensFree xs node ys around.once)
        (each_more (entries_of (xs ++ node ∷ [])) node.first (0 ∷ [])
        (inr (subst (λ (l : List ℕ). Contains l node.first) (sym (entries_of-append xs (node ∷ [])))
        (Contains-append_right (entries_of xs) (entries_of (node ∷ [])) node.first
        (entry_of node [] node.first (omega arith) parts.1.0.ordered))))
        (each_more (entries_of (xs ++ node ∷ [])) 0 [] (inl refl) (each_none (entries_of (xs ++ node ∷ []))))))
        parts.1.1

    -- nothing is behind it
    pub cut_none : next ≡ 0 → AreNodes (table_in m.cells info) info.count OpensFree (xs ++ node ∷ []) 0
        → AreCut (table_in m.cells info) info.count xs node ys node.last next
    cut_none none front =
        let is : ys ≡ [] = no_nodes_behind (table_in m.cells info) info.count (Follows node.first) ys rest_kept
        (around.starts ∙ none)
        in
        record {
          nodes = ys;
          front = front;
          behind = subst (λ (l : List Node). AreNodes (table_in m.cells info) info.count OpensFree l 0) (sym is) tt;
          starts = around.starts;
          entries = sym (halves info.count OpensFree xs node ys around.once);
        }

    -- the entry with which it begins was written
    pub cut_some : (t : State) → next ≢ 0
        → IsEntrySet (table_in m.cells info) (table_in t.cells info) info.count next 0 (word_v (table_in m.cells
        info) next)
        → AreNodes (table_in m.cells info) info.count OpensFree (xs ++ node ∷ []) 0
        → AreCut (table_in t.cells info) info.count xs node ys node.last next
    cut_some t some set front =
        let mid = table_in m.cells info in
        let new = table_in t.cells info in
        let v = word_v mid next in
        let within : Contains (entries_of ys) next = subst (λ (y : ℕ). Contains (entries_of ys) y) around.starts
        (start_contained mid info.count (Follows node.first) ys rest_kept (λ none. some (sym around.starts ∙ none)))
        in
        record {
          nodes = ys;
          front = nodes_kept mid new info.count next 0 v set OpensFree (xs ++ node ∷ []) 0
              (apart_front info.count OpensFree xs node ys around.once next within) front;
          behind = list_led mid new info.count next 0 v set (Follows node.first) OpensFree ys 0 (sym around.starts)
              refl
              (once_behind info.count OpensFree xs node ys around.once) refl rest_kept;
          starts = around.starts;
          entries = sym (halves info.count OpensFree xs node ys around.once);
        }

    pub next_read : next ≢ 0 → HasWords (table_in m.cells info) next
    next_read some = subst (λ (e : ℕ). HasWords (table_in m.cells info) e) around.starts
        (start_read (table_in m.cells info) info.count (Follows node.first) ys rest_kept (λ none. some (sym
        around.starts ∙ none)))

  -- the node is cut within
  module _ (middle : ℕ) (from : node.first ≤ middle) (below : middle < node.last) where
    left : Node
    left = record { first = node.first; last = middle }

    right : Node
    right = record { first = middle + 1; last = node.last }

    same_entries : entries_of (xs ++ node ∷ ys) ≡ entries_of (xs ++ left ∷ right ∷ ys)
    unfolding left right
    same_entries = entries_of-append xs (node ∷ ys)
        ∙ ap (λ (l : List ℕ). entries_of xs ++ l) (node_cut node.first middle node.last ys from below)
        ∙ sym (entries_of-append xs (left ∷ right ∷ ys))

    once_cut : IsDistinct nat_eq (entries_of (xs ++ left ∷ right ∷ ys))
    once_cut = subst (λ (l : List ℕ). IsDistinct nat_eq l) same_entries around.once

    -- the right part can be made the first free node
    pub right_behind : AreBehind (table_in s.cells info) info.count (Follows node.first)
        (record { first = middle + 1; last = node.last }) ys next
    unfolding right
    right_behind = record {
      linked = parts.1.1;
      starts = around.starts;
      once = once_behind info.count OpensFree xs left (right ∷ ys) once_cut;
    }

    left_contained : (x : ℕ) → node.first ≤ x → x ≤ middle → Contains (entries_of (xs ++ left ∷ [])) x
    unfolding left
    left_contained x low high =
        subst (λ (l : List ℕ). Contains l x) (sym (entries_of-append xs (left ∷ [])))
        (Contains-append_right (entries_of xs) (entries_of (left ∷ [])) x (entry_of left [] x low high))

    right_contained : (x : ℕ) → middle + 1 ≤ x → x ≤ node.last → IsNoneOr (entries_of (right ∷ ys)) x
    unfolding right
    right_contained x low high = inr (entry_of right ys x low high)

    next_contained : IsNoneOr (entries_of (right ∷ ys)) next
    unfolding right
    next_contained =
        ⊎_elim
        (λ (none : next < 1). inl (omega arith))
        (λ (some : 1 ≤ next). inr (Contains-append_right (run_of right) (entries_of ys) next
        (subst (λ (y : ℕ). Contains (entries_of ys) y) around.starts
        (start_contained (table_in s.cells info) info.count (Follows node.first) ys parts.1.1
        (λ none. omega (arith, none, around.starts, some))))))
        (cases_lt next 1)

    right_sites : List ℕ
    right_sites = (middle + 1) ∷ min (middle + 1 + 1) node.last ∷ node.last ∷ next ∷ []

    left_sites : List ℕ
    left_sites = node.first ∷ min (node.first + 1) middle ∷ middle ∷ 0 ∷ []

    right_each : (x : ℕ) → Contains right_sites x → IsNoneOr (entries_of (right ∷ ys)) x
    unfolding right_sites
    right_each =
        each_four (entries_of (right ∷ ys)) (middle + 1) (min (middle + 1 + 1) node.last) node.last next
        (right_contained (middle + 1) (omega arith) (omega (arith, below)))
        (right_contained (min (middle + 1 + 1) node.last) (omega (arith, below)) (omega arith))
        (right_contained node.last (omega (arith, below)) (omega arith)) next_contained

    left_each : (x : ℕ) → Contains left_sites x → IsNoneOr (entries_of (xs ++ left ∷ [])) x
    unfolding left_sites
    left_each =
        each_four (entries_of (xs ++ left ∷ [])) node.first (min (node.first + 1) middle) middle 0
        (inr (left_contained node.first (omega arith) from))
        (inr (left_contained (min (node.first + 1) middle) (omega (arith, from)) (omega arith)))
        (inr (left_contained middle from (omega arith))) (inl refl)

    front_apart : (x : ℕ) → Contains (entries_of (xs ++ left ∷ [])) x → ¬ Contains (entries_of (right ∷ ys)) x
    front_apart x front behind = apart_front info.count OpensFree xs left (right ∷ ys) once_cut x behind front

    module _ (m : State) (table : HasAllocationTable s.shape info) (single : HasNoTwins s)
        (changes : ChangesWithin s (IsOfEntries info ((middle + 1) ∷ min (middle + 1 + 1) node.last ∷ node.last ∷ next ∷
        [])) m.cells)
      where
        first_kept : KeepsEntry (table_in s.cells info) (table_in m.cells info) node.first
        unfolding right_sites
        first_kept = entry_kept s m info right_sites table single changes node.first
            (omega (arith, parts.1.0.ordered, parts.1.0.ends))
            (apart_from (entries_of (xs ++ left ∷ [])) (entries_of (right ∷ ys)) right_sites front_apart right_each
            node.first
            parts.1.0.starts (left_contained node.first (omega arith) from))

        -- then the left one can be closed
        pub left_before : AreBefore (table_in m.cells info) info.count OpensFree xs (record {
          first = node.first;
          last = middle;
        })
        unfolding left right_sites
        left_before = record {
          front = nodes_clear s m info right_sites table single changes OpensFree xs node.first
              (λ x some within. apart_from (entries_of (xs ++ left ∷ [])) (entries_of (right ∷ ys)) right_sites
              front_apart
              right_each x some (subst (λ (l : List ℕ). Contains l x) (sym (entries_of-append xs (left ∷ [])))
              (Contains-append_left (entries_of xs) (entries_of (left ∷ [])) x within))) parts.0;
          read = words_read (table_in s.cells info) (table_in m.cells info) node.first first_kept parts.1.0.read;
          u = subst (λ (w : ℕ). IsLead (lead_after OpensFree xs) w)
              (sym (same_u (table_in s.cells info) (table_in m.cells info) node.first first_kept parts.1.0.read))
              parts.1.0.u;
          once = distinct_left (entries_of (xs ++ left ∷ [])) (entries_of (right ∷ ys))
              (subst (λ (l : List ℕ). IsDistinct nat_eq l) (halves info.count OpensFree xs left (right ∷ ys)
              once_cut) once_cut);
        }

    -- and both are apart
    pub cut_done : (m t : State) → HasAllocationTable m.shape info → HasNoTwins m
        → ChangesWithin m (IsOfEntries info (node.first ∷ min (node.first + 1) middle ∷ middle ∷ 0 ∷ [])) t.cells
        → AreNodes (table_in m.cells info) info.count OpensFree (record { first = middle + 1; last = node.last } ∷
        ys) 0
        → AreNodes (table_in t.cells info) info.count OpensFree (xs ++ record { first = node.first; last = middle } ∷
        []) 0
        → AreCut (table_in t.cells info) info.count xs node ys middle (middle + 1)
    unfolding left right left_sites
    cut_done m t table single changes behind front = record {
      nodes = right ∷ ys;
      front = front;
      behind = nodes_clear m t info left_sites table single changes OpensFree (right ∷ ys) 0
          (apart_from (entries_of (right ∷ ys)) (entries_of (xs ++ left ∷ [])) left_sites
          (λ x there here. front_apart x here there) left_each) behind;
      starts = refl;
      entries = sym (halves info.count OpensFree xs left (right ∷ ys) once_cut) ∙ sym same_entries;
    }

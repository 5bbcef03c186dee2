-- One list more, and where it is at fault.
use Rattle.std.proofs.Common.{◌≡◌, ◌⊎◌, ℕ, suc, ◌+◌, ◌≤◌, Bool, true, false, List, [], ◌∷◌, refl, sym}
use Rattle.std.proofs.Common.{◌∙◌, ap, subst, arith, ⊎_elim, inl, inr, cond, eqb}
use Rattle.std.proofs.lemmas.Bool.{eqb-true, eq-eqb, ne_eqb, cases_eq, true≢false, false≢true}
use Rattle.std.proofs.lemmas.List.Sums.{sum_by-cons}
use Rattle.std.specs.List.{Contains}
use Rattle.save_bytes.specs.Cells.{Cell}
use Rattle.chain_nodes.specs.declared.node.Node.{Node}
use Rattle.chain_nodes.specs.Table.{HasWords}
use Rattle.chain_nodes.specs.Chains.{entries_of, occurrences, IsLinkedBy}
use Rattle.chain_nodes.specs.Faults.{FailsAt, IsBroken}
use Rattle.chain_nodes.specs.Faults.IsBroken.{Unlike as UnlikeEntry}
use Rattle.chain_nodes.specs.Faults.IsFreeBroken.{InList}
use Rattle.entry_tables.specs.declared.table.EntryKind.{EntryKind}
use Rattle.entry_tables.specs.declared.table.EntryKind.TheVariants.{Dir, File}
use Rattle.entry_tables.specs.Tables.{Tables}
use Rattle.held_lists.specs.declared.set.EntrySet.{EntrySet}
use Rattle.held_lists.specs.Sets.{has_entry}
use Rattle.held_lists.specs.Walks.{TakesAll, HasFront, IsListFault}
use Rattle.held_lists.specs.Walks.IsListFault.{Unlike, Twice, Held}
use Rattle.tree_model.specs.declared.kind.TreeKind.{TreeKind}
use Rattle.tree_rules.specs.declared.information.Places.{Places}
use Rattle.tree_rules.specs.Lists.{Holder, Free, OfTable, OfFile}
use Rattle.tree_rules.specs.Fails.{lead_of, first_of, IsHolder, IsListBroken, IsReachedBy, allocation_number, TreeFailsAt}
use Rattle.tree_rules.specs.Fails.TreeFailsAt.{OfList, OfTwo, OfTwice}
use Rattle.save_mount.specs.Holders.{same_kind, same_holder, with_list, HoldsLists}

same_kind_is : (one other : EntryKind) → same_kind one other ≡ true → one ≡ other
same_kind_is Dir Dir same = λ i. Dir
same_kind_is Dir File same = absurd (false≢true same)
same_kind_is File Dir same = absurd (false≢true same)
same_kind_is File File same = λ i. File

same_is : (one other : Holder) → same_holder one other ≡ true → one ≡ other
same_is Free Free same = λ i. Free
same_is Free (OfTable table) same = absurd (false≢true same)
same_is Free (OfFile e) same = absurd (false≢true same)
same_is (OfTable table) Free same = absurd (false≢true same)
same_is (OfTable table) (OfTable other) same = ap OfTable (same_kind_is table other same)
same_is (OfTable table) (OfFile e) same = absurd (false≢true same)
same_is (OfFile e) Free same = absurd (false≢true same)
same_is (OfFile e) (OfTable table) same = absurd (false≢true same)
same_is (OfFile e) (OfFile other) same = ap OfFile (eqb-true e other same)

self_kind : (one : EntryKind) → same_kind one one ≡ true
self_kind Dir = λ i. true
self_kind File = λ i. true

self_same : (one : Holder) → same_holder one one ≡ true
self_same Free = λ i. true
self_same (OfTable table) = self_kind table
self_same (OfFile e) = eq-eqb e e refl

is_or_not : (b : Bool) → (b ≡ true) ⊎ (b ≡ false)
is_or_not true = inl (λ i. true)
is_or_not false = inr (λ i. false)

nothing_in : (entry : ℕ) → ¬ Contains [] entry
nothing_in entry (k, within, is) = omega (arith, within)

-- what has a place in a list stands in it
occurs_contains : (x : ℕ) (list : List ℕ) → 1 ≤ occurrences x list → Contains list x
occurs_contains x [] some = absurd (omega (arith, some))
occurs_contains x (y ∷ list) some =
    ⊎_elim
    (λ (same : y ≡ x). (0, omega arith, same))
    (λ (other : y ≡ x → ⊥).
    let here : occurrences x (y ∷ list) ≡ cond (eqb y x) 1 0 + occurrences x list =
    sum_by-cons (λ z. cond (eqb z x) 1 0) y list in
    let none : 0 + cond (eqb y x) 1 0 ≡ 0 = rw (ne_eqb y x other) refl in
    let rest = occurs_contains x list (omega (arith, some, here, none)) in
    (suc rest.0, omega (arith, rest.1), rest.2))
    (cases_eq y x)

module _ (kind : TreeKind) (table : ℕ → ℕ → Cell) (p : Places) (t : Tables) where
  -- before the first list
  pub holds_none : (held : EntrySet) → ((entry : ℕ) → has_entry held entry ≡ false)
      → HoldsLists kind table p t held (λ holder. [])
  holds_none held none = record {
    each = λ holder entry within. absurd (nothing_in entry within);
    only = λ entry is. absurd (false≢true (sym (none entry) ∙ is));
    apart = λ one other entry within inside. absurd (nothing_in entry within);
    reached = λ holder entry within. absurd (nothing_in entry within);
  }

  module _ (held : EntrySet) (lists : Holder → List ℕ) (holds : HoldsLists kind table p t held lists)
      (holder : Holder) (there : IsHolder t holder) (none : lists holder ≡ []) where
    -- what is in the lists with one more
    in_list : (list : List ℕ) (other : Holder) (entry : ℕ) → Contains (with_list lists holder list other) entry
        → ((holder ≡ other) × Contains list entry) ⊎ Contains (lists other) entry
    in_list list other entry within =
        ⊎_elim
        (λ (same : same_holder holder other ≡ true).
        inl (same_is holder other same, rw same at within))
        (λ (different : same_holder holder other ≡ false). inr (rw different at within))
        (is_or_not (same_holder holder other))

    at_self : (list : List ℕ) (entry : ℕ) → Contains list entry → Contains (with_list lists holder list holder) entry
    at_self list entry within = rw (self_same holder) within

    at_other : (list : List ℕ) (other : Holder) (entry : ℕ) → Contains (lists other) entry
        → Contains (with_list lists holder list other) entry
    at_other list other entry within =
        ⊎_elim
        (λ (same : same_holder holder other ≡ true).
        absurd (nothing_in entry (subst (λ (l : List ℕ). Contains l entry)
        (ap lists (sym (same_is holder other same)) ∙ none) within)))
        (λ (different : same_holder holder other ≡ false). rw different within)
        (is_or_not (same_holder holder other))

    reach : (nodes : List Node) → HasFront table p.chain.count (lead_of holder) (first_of kind table p t holder) nodes
        → (entry : ℕ) → Contains (entries_of nodes) entry → IsReachedBy kind table p t holder entry
    reach nodes front entry within = record {
      is_holder = there;
      nodes = nodes;
      next = front.next;
      named = front.named;
      linked = front.linked;
      starts = front.starts;
      within = within;
    }

    module _ (new : EntrySet) (list : List ℕ) (takes : TakesAll held new list)
        (linked : IsLinkedBy table p.chain.count (lead_of holder) (first_of kind table p t holder) list) where
      -- an entry of the list is in no other
      strange : (other : Holder) (entry : ℕ) → Contains list entry → ¬ Contains (lists other) entry
      strange other entry within inside =
          true≢false (sym (holds.each other entry inside) ∙ takes.fresh entry within)

      reach_list : (entry : ℕ) → Contains list entry → IsReachedBy kind table p t holder entry
      reach_list entry within =
          reach linked.nodes (record { next = 0; named = omega arith; linked = linked.linked; starts = linked.starts })
          entry (subst (λ (l : List ℕ). Contains l entry) (sym linked.entries) within)

      pub holds_more : HoldsLists kind table p t new (with_list lists holder list)
      holds_more = record {
        each = λ other entry within. ⊎_elim
            (λ (here : (holder ≡ other) × Contains list entry). takes.taken entry here.1)
            (λ (there : Contains (lists other) entry). takes.kept entry (holds.each other entry there))
            (in_list list other entry within);
        only = λ entry is. ⊎_elim
            (λ (old : has_entry held entry ≡ true). (
            let one = holds.only entry old in (one.0, at_other list one.0 entry one.1)))
            (λ (within : Contains list entry). (holder, at_self list entry within))
            (takes.only entry is);
        apart = λ one other entry within inside. ⊎_elim
            (λ (here : (holder ≡ one) × Contains list entry). ⊎_elim
            (λ (also : (holder ≡ other) × Contains list entry). sym here.0 ∙ also.0)
            (λ (there : Contains (lists other) entry). absurd (strange other entry here.1 there))
            (in_list list other entry inside))
            (λ (there : Contains (lists one) entry). ⊎_elim
            (λ (also : (holder ≡ other) × Contains list entry). absurd (strange one entry also.1 there))
            (λ (both : Contains (lists other) entry). holds.apart one other entry there both)
            (in_list list other entry inside))
            (in_list list one entry within);
        reached = λ other entry within. ⊎_elim
            (λ (here : (holder ≡ other) × Contains list entry).
            subst (λ (h : Holder). IsReachedBy kind table p t h entry) here.0 (reach_list entry here.1))
            (λ (there : Contains (lists other) entry). holds.reached other entry there)
            (in_list list other entry within);
      }

    broken_list : (entry : ℕ) → HasWords table entry
        → FailsAt table p.chain.count (lead_of holder) (first_of kind table p t holder) entry
        → IsListBroken kind table p t holder entry
    broken_list entry words fails = as_broken holder entry (UnlikeEntry words fails) where
      as_broken : (h : Holder) (entry : ℕ) → IsBroken table p.chain.count (lead_of h) (first_of kind table p t h) entry
          → IsListBroken kind table p t h entry
      as_broken Free entry broken = InList broken
      as_broken (OfTable entries) entry broken = broken
      as_broken (OfFile e) entry broken = broken

    -- the list is at fault at an entry
    pub list_fails : (entry : ℕ)
        → IsListFault table p.chain.count (lead_of holder) (first_of kind table p t holder) held entry
        → TreeFailsAt kind table p t allocation_number entry
    unfolding reach
    list_fails entry (Unlike words fails) = OfList holder there refl (broken_list entry words fails)
    list_fails entry (Twice nodes front twice) = OfTwice holder refl (record {
      reached = reach nodes front entry (occurs_contains entry (entries_of nodes) (omega (arith, twice)));
      twice = twice;
    })
    list_fails entry (Held nodes front within is) =
        let other = holds.only entry is in
        OfTwo holder other.0
        (λ same. nothing_in entry (subst (λ (l : List ℕ). Contains l entry) (ap lists (sym same) ∙ none) other.1))
        refl (reach nodes front entry within) (holds.reached other.0 entry other.1)

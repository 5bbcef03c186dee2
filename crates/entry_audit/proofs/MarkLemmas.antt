-- The freed entries that were marked, as far as their list was followed.
use Rattle.std.proofs.Common.{◌≡◌, ◌≢◌, ℕ, zero, suc, ◌+◌, ◌<◌, ◌≤◌, Bool, true, false, IsTrue, List, [], ◌∷◌, ◌++◌}
use Rattle.std.proofs.Common.{length, get_or, replicate, slice_set}
use Rattle.std.proofs.Common.{nat_eq, inl, inr, ◌↔◌, refl, sym, ◌∙◌, subst, arith, length-append, append-nil}
use Rattle.std.specs.List.{All, Contains, IsDistinct}
use Rattle.std.proofs.lemmas.Bool.{cases_eq, false≢true}
use Rattle.std.proofs.lemmas.List.{get_or-replicate, get_or-set_same, get_or-set_other, length-set}
use Rattle.std.proofs.lemmas.List.Elements.{All-nil, All-push, All-contains, Contains-append_left, Contains-push}
use Rattle.std.proofs.lemmas.List.Elements.{Contains-push_cases}
use Rattle.entry_tables.specs.declared.table.EntryKind.{EntryKind}
use Rattle.entry_tables.specs.declared.table.TableInfo.{TableInfo}
use Rattle.entry_tables.specs.Kinds.{least_freed, link_offset}
use Rattle.entry_tables.specs.Tables.{Table, entry_place}
use Rattle.entry_tables.specs.Links.{LeadsTo, LeadsToEnd, last_of}
use Rattle.entry_tables.specs.Used.{freed_entries}
use Rattle.entry_tables.specs.Rules.{CanBeFreed, HasFreedList}
use Rattle.entry_tables.specs.Fails.{IsFreedFront, NamesWrongly}
use Rattle.entry_tables.specs.Layout.{LiesWithin, IsNeeded, OfZero, OfFreed}
use Rattle.entry_tables.proofs.EntryLemmas.{link_last, least_some}
use Rattle.entry_tables.proofs.LinkLemmas.{LeadsTo-push, last_of-push, Contains-head, Contains-tail, whole_list}
use Rattle.entry_tables.proofs.LinkLemmas.{whole_front}
use Rattle.entry_tables.proofs.LinkLemmas.{IsDistinct-push, few_between}
use Rattle.entry_audit.specs.Reading.{AreMarked}

-- so many freed entries were marked, up to one, and R holds of entry 0 and of all of them but that one
pub record HasMarked (kind : EntryKind) (t : Table) (R : ℕ → Type 0) (marks : List Bool) (steps from : ℕ) : Type 0 where
  pub front : List ℕ
  pub begins : IsFreedFront kind t front from
  pub once : IsDistinct nat_eq front
  pub passed : length front ≡ steps
  pub many : length marks ≡ t.count
  pub marked : (e : ℕ) → e < t.count → IsTrue (get_or marks e false) ↔ Contains front e
  pub read : (e : ℕ) → Contains (0 ∷ front) e → e ≢ from → R e

last_in : (from : ℕ) (list : List ℕ) → Contains (from ∷ list) (last_of from list)
last_in from [] = Contains-head from []
last_in from (x ∷ xs) = Contains-tail from (x ∷ xs) (last_of x xs) (last_in x xs)

last_below : (kind : EntryKind) (t : Table) (list : List ℕ) → 1 ≤ t.count → All (CanBeFreed kind t) list
    → last_of 0 list < t.count
last_below kind t [] some inside = some
last_below kind t (x ∷ xs) some inside =
    (All-contains (CanBeFreed kind t) (x ∷ xs) (last_of x xs) inside (last_in x xs)).1

-- the last word of the last one is needed
last_needed : (kind : EntryKind) (info : TableInfo) (t : Table) (x : ℕ) (front whole rest : List ℕ)
    → LeadsToEnd t.link (t.link 0) whole → whole ≡ front ++ rest
    → LiesWithin (entry_place kind info (last_of 0 front) + link_offset kind) 4 x → IsNeeded kind info t x
last_needed kind info t x [] whole rest linked is within =
    OfZero (record { from = omega (arith, within.from); before = omega (arith, within.before, link_last kind) })
last_needed kind info t x (e ∷ front) whole rest linked is within =
    OfFreed (last_of e front) whole linked
    (rw is (Contains-append_left (e ∷ front) rest (last_of e front) (last_in e front))) within

none_in : (e : ℕ) → ¬ Contains [] e
none_in e (k, h, is) = omega (arith, h)

only_in : (e : ℕ) → Contains (0 ∷ []) e → e ≡ 0
only_in e (zero, h, is) = sym is
only_in e (suc k, h, is) = absurd (omega (arith, h))

none_marked : (n e : ℕ) → e < n → ¬ IsTrue (get_or (replicate n false) e false)
none_marked n e h marked = false≢true (sym (get_or-replicate n e false false h) ∙ marked)

pub HasMarked-none : (kind : EntryKind) (t : Table) (R : ℕ → Type 0) (n : ℕ) → t.count ≡ n
    → length (replicate n false) ≡ n
    → HasMarked kind t R (replicate n false) 0 0
unfolding IsDistinct
HasMarked-none kind t R n count long = record {
  front = [];
  begins = record { leads = refl; last = refl; inside = All-nil (CanBeFreed kind t) };
  once = tt;
  passed = refl;
  many = long ∙ sym count;
  marked = λ e below. (
    (λ marked. absurd (none_marked n e (omega (arith, below, count)) marked)),
    (λ within. absurd (none_in e within)),
  );
  read = λ e within other. absurd (other (only_in e within));
}

module _ {kind : EntryKind} {t : Table} {R : ℕ → Type 0} {marks : List Bool} {steps from : ℕ}
    (h : HasMarked kind t R marks steps from) where
  marked_more : (next e : ℕ) → next < t.count → e < t.count
      → IsTrue (get_or (slice_set marks next true) e false) ↔ Contains (h.front ++ next ∷ []) e
  marked_more next e inside below = elim (cases_eq e next) [
    | inl same ↦ (
      (λ marked. rw same (Contains-push h.front next)),
      (λ within. rw same (get_or-set_same marks next true false (omega (arith, inside, h.many)))),
    )
    | inr other ↦ (
      (λ marked. Contains-append_left h.front (next ∷ []) e
          ((h.marked e below).0 (sym (get_or-set_other marks next e true false other) ∙ marked))),
      (λ within. get_or-set_other marks next e true false other
          ∙ (elim (Contains-push_cases h.front next e within) [
            | inl before ↦ (h.marked e below).1 before
            | inr here ↦ absurd (other (sym here))
          ])),
    )
  ]

  read_more : (next e : ℕ) → R from → Contains (0 ∷ h.front ++ next ∷ []) e → e ≢ next → R e
  read_more next e here within other = elim (Contains-push_cases (0 ∷ h.front) next e within) [
    | inl before ↦ (elim (cases_eq e from) [
      | inl same ↦ rw same here
      | inr apart ↦ h.read e before apart
    ])
    | inr there ↦ absurd (other (sym there))
  ]

  -- one entry more
  pub HasMarked-more : (next : ℕ) → next ≡ t.link from → least_freed kind ≤ next → next < length marks
      → get_or marks next false ≡ false → R from
      → HasMarked kind t R (slice_set marks next true) (steps + 1) next
  HasMarked-more next is least inside unmarked here =
      let below : next < t.count = omega (arith, inside, h.many) in
      let apart : ¬ Contains h.front next = λ within. false≢true (sym unmarked ∙ (h.marked next below).1 within) in
      record {
        front = h.front ++ next ∷ [];
        begins = record {
          leads = LeadsTo-push t.link (t.link 0) h.front next (subst (λ (n : ℕ). LeadsTo t.link (t.link 0) h.front n)
              (sym is) h.begins.leads) (omega (arith, least, least_some kind));
          last = last_of-push 0 h.front next;
          inside = All-push (CanBeFreed kind t) h.front next h.begins.inside (least, below);
        };
        once = IsDistinct-push h.front next h.once apart;
        passed = omega (arith, length-append h.front (next ∷ []), h.passed);
        many = length-set marks next true ∙ h.many;
        marked = λ e inside_e. marked_more next e below inside_e;
        read = λ e within other. read_more next e here within other;
      }

  -- the last one lies in the table
  pub marked_below : 1 ≤ t.count → from < t.count
  marked_below some = subst (λ (n : ℕ). n < t.count) h.begins.last (last_below kind t h.front some h.begins.inside)

  -- and its last word is needed
  pub marked_needed : (info : TableInfo) (x : ℕ) → HasFreedList kind t
      → LiesWithin (entry_place kind info from + link_offset kind) 4 x → IsNeeded kind info t x
  marked_needed info x list within =
      let whole = whole_list t.link (t.link 0) h.front (t.link from) list.0 h.begins.leads list.1.leads in
      last_needed kind info t x h.front list.0 whole.0 list.1.leads whole.1
      (subst (λ (n : ℕ). LiesWithin (entry_place kind info n + link_offset kind) 4 x) (sym h.begins.last) within)

  ends : t.link from ≡ 0 → freed_entries t h.front
  ends last = subst (λ (e : ℕ). LeadsTo t.link (t.link 0) h.front e) last h.begins.leads

  -- where the list ends all are marked
  pub marked_all : t.link from ≡ 0 → AreMarked kind t marks
  marked_all last = record {
    freed = (h.front, record { leads = ends last; inside = h.begins.inside });
    many = h.many;
    marked = h.marked;
  }

  -- and R holds of all
  pub read_all : t.link from ≡ 0 → R from → (list : List ℕ) (e : ℕ) → freed_entries t list → Contains list e → R e
  read_all last here list e freed within =
      let same = whole_front t.link (t.link 0) h.front list (ends last) freed in
      let before : Contains h.front e = subst (λ (l : List ℕ). Contains l e) (same ∙ append-nil h.front) within in
      elim (cases_eq e from) [
        | inl there ↦ rw there here
        | inr apart ↦ h.read e (Contains-tail 0 h.front e before) apart
      ]

  -- an entry that names a number which no freed entry can have, or one that was marked
  pub marked_wrong : (next : ℕ) → next ≡ t.link from → next ≢ 0
      → (least_freed kind ≤ next → next < length marks → IsTrue (get_or marks next false))
      → NamesWrongly kind t from
  marked_wrong next is some again = record {
    front = h.front;
    begins = h.begins;
    once = h.once;
    named = λ none. some (is ∙ none);
    wrong = λ can. subst (λ (n : ℕ). Contains h.front n) is
        ((h.marked next (omega (arith, is, can.1))).0 (again (omega (arith, is, can.0)) (omega (
          arith,
          is,
          can.1,
          h.many,
        ))));
  }

  -- there are fewer than numbers below the count
  pub not_all : 1 ≤ t.count → steps < t.count
  not_all some =
      let few : length h.front < t.count = few_between h.front t.count some h.once
      (λ e within. let can = All-contains (CanBeFreed kind t) h.front e h.begins.inside within in
      (omega (arith, can.0, least_some kind), can.1)) in
      omega (arith, few, h.passed)

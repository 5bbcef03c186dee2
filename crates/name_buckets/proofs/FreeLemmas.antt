-- The list of freed entries, as far as it was followed.
use Rattle.std.proofs.Common.{◌≡◌, ◌≢◌, ℕ, zero, suc, ◌+◌, ◌-◌, ◌<◌, ◌≤◌, List, [], ◌∷◌}
use Rattle.std.proofs.Common.{◌++◌, length, get_or, nat_eq, inl, inr, refl, sym, ◌∙◌, ap, subst, arith, add-one}
use Rattle.std.proofs.Common.{length-append}
use Rattle.std.specs.List.{All, Contains, IsDistinct}
use Rattle.std.proofs.lemmas.Bool.{cases_lt}
use Rattle.std.proofs.lemmas.List.Elements.{All-nil, All-push, All-contains, All-from_get_or, Contains-get_or, Contains-append_left}
use Rattle.entry_tables.specs.declared.table.EntryKind.{EntryKind}
use Rattle.entry_tables.specs.declared.table.TableInfo.{TableInfo}
use Rattle.entry_tables.specs.Kinds.{link_offset}
use Rattle.entry_tables.specs.Tables.{Table, entry_place}
use Rattle.entry_tables.specs.Links.{LeadsTo, LeadsToEnd, last_of}
use Rattle.entry_tables.specs.Rules.{CanBeFreed, HasFreedList}
use Rattle.entry_tables.specs.Fails.{IsFreedFront, NamesWrongly}
use Rattle.entry_tables.specs.Layout.{LiesWithin, IsNeeded, OfZero, OfFreed}
use Rattle.name_buckets.specs.Replies.{IsRoom}
use Rattle.entry_tables.proofs.EntryLemmas.{link_last, least_some}
use Rattle.entry_tables.proofs.LinkLemmas.{LeadsTo-push, last_of-push, Contains-head, Contains-tail, whole_list, LeadsTo-distinct, few_between}
use Rattle.entry_tables.proofs.LinkLemmas.{linked_distinct, front_within, front_next, IsDistinct-push}

-- so many freed entries were passed, up to one
pub record HasFollowed (kind : EntryKind) (t : Table) (steps from : ℕ) : Type 0 where
  pub front : List ℕ
  pub begins : IsFreedFront kind t front from
  pub many : length front ≡ steps

-- the last entry is one of them, or there is none
last_in : (from : ℕ) (list : List ℕ) → Contains (from ∷ list) (last_of from list)
last_in from [] = Contains-head from []
last_in from (x ∷ xs) = Contains-tail from (x ∷ xs) (last_of x xs) (last_in x xs)

last_below : (kind : EntryKind) (t : Table) (list : List ℕ) → 1 ≤ t.count → All (CanBeFreed kind t) list → last_of 0 list < t.count
last_below kind t [] some inside = some
last_below kind t (x ∷ xs) some inside = (All-contains (CanBeFreed kind t) (x ∷ xs) (last_of x xs) inside (last_in x xs)).1

-- the last word of one is needed
last_needed : (kind : EntryKind) (info : TableInfo) (t : Table) (x : ℕ) (front whole rest : List ℕ) → LeadsToEnd t.link (t.link 0) whole
    → whole ≡ front ++ rest → LiesWithin (entry_place kind info (last_of 0 front) + link_offset kind) 4 x → IsNeeded kind info t x
last_needed kind info t x [] whole rest linked is within =
    OfZero (record { from = omega (arith, within.from); before = omega (arith, within.before, link_last kind) })
last_needed kind info t x (e ∷ front) whole rest linked is within =
    OfFreed (last_of e front) whole linked (rw is (Contains-append_left (e ∷ front) rest (last_of e front) (last_in e front))) within

some_freed : (kind : EntryKind) (t : Table) (list : List ℕ) (e : ℕ) → All (CanBeFreed kind t) list → Contains list e
    → (1 ≤ e) × (e < t.count)
some_freed kind t list e inside within =
    let can = All-contains (CanBeFreed kind t) list e inside within in
    (omega (arith, can.0, least_some kind), can.1)

pub HasFollowed-none : (kind : EntryKind) (t : Table) → HasFollowed kind t 0 0
HasFollowed-none kind t =
    record {
      front = [];
      begins = record { leads = refl; last = refl; inside = All-nil (CanBeFreed kind t) };
      many =
          refl;
    }

module _ {kind : EntryKind} {t : Table} {steps from : ℕ} (h : HasFollowed kind t steps from) where
  pub HasFollowed-more : (next : ℕ) → next ≡ t.link from → next ≢ 0 → CanBeFreed kind t next → HasFollowed kind t (steps + 1) next
  HasFollowed-more next is some can = record {
    front = h.front ++ next ∷ [];
    begins = record {
      leads = LeadsTo-push t.link (t.link 0) h.front next (subst (λ (n : ℕ). LeadsTo t.link (t.link 0) h.front n)
          (sym is) h.begins.leads) some;
      last = last_of-push 0 h.front next;
      inside = All-push (CanBeFreed kind t) h.front next h.begins.inside can;
    };
    many = omega (arith, length-append h.front (next ∷ []), h.many);
  }

  -- the last one lies in the table
  pub followed_below : 1 ≤ t.count → from < t.count
  followed_below some = subst (λ (n : ℕ). n < t.count) h.begins.last (last_below kind t h.front some h.begins.inside)

  -- and its last word is needed
  pub followed_needed : (info : TableInfo) (x : ℕ) → HasFreedList kind t → LiesWithin (entry_place kind info from + link_offset kind) 4 x
      → IsNeeded kind info t x
  followed_needed info x list within =
      let whole = whole_list t.link (t.link 0) h.front (t.link from) list.0 h.begins.leads list.1.leads in
      last_needed kind info t x h.front list.0 whole.0 list.1.leads whole.1
      (subst (λ (n : ℕ). LiesWithin (entry_place kind info n + link_offset kind) 4 x) (sym h.begins.last) within)

  freed_once : ¬ Contains h.front (t.link from) → IsDistinct nat_eq h.front
  freed_once apart = LeadsTo-distinct t.link (t.link 0) h.front (t.link from) h.begins.leads apart

  -- where the list ends, the freed entries are counted
  pub room_counted : (n : ℕ) → t.link from ≡ 0 → n ≡ t.most - t.count + steps → IsRoom kind t n
  room_counted n ends is = record {
    freed = h.front;
    list = record {
      leads = subst (λ (e : ℕ). LeadsTo t.link (t.link 0) h.front e) ends h.begins.leads;
      inside = h.begins.inside;
    };
    is = rw h.many is;
  }

  -- an entry that names a number which no freed entry can have
  pub wrong_number : (next : ℕ) → next ≡ t.link from → next ≢ 0 → ¬ CanBeFreed kind t next → NamesWrongly kind t from
  wrong_number next is some cannot =
      let cannot_link : ¬ CanBeFreed kind t (t.link from) = λ can. cannot (subst (CanBeFreed kind t) (sym is) can) in
      record {
        front = h.front;
        begins = h.begins;
        once = freed_once (λ within. cannot_link (All-contains (CanBeFreed kind t) h.front (t.link from)
            h.begins.inside within));
        named = λ none. some (is ∙ none);
        wrong = λ can. absurd (cannot_link can);
      }

  -- as many freed entries as there are numbers are not all different
  pub not_once : t.count ≤ steps → 1 ≤ t.count → ¬ IsDistinct nat_eq h.front
  not_once long some once =
      let few : length h.front < t.count =
      few_between h.front t.count some once (λ e within. some_freed kind t h.front e h.begins.inside within) in
      omega (arith, few, h.many, long)

  -- so where freed entries have a list it is not so long
  pub not_long : t.count ≤ steps → 1 ≤ t.count → ¬ HasFreedList kind t
  not_long long some list =
      let whole = whole_list t.link (t.link 0) h.front (t.link from) list.0 h.begins.leads list.1.leads in
      let few : length list.0 < t.count = few_between list.0 t.count some
      (linked_distinct t.link (t.link 0) list.0 list.1.leads)
      (λ e within. some_freed kind t list.0 e list.1.inside within) in
      let longer : length list.0 ≡ length h.front + length whole.0 = ap length whole.1 ∙ length-append h.front whole.0
      in
      omega (arith, few, longer, h.many, long)

-- so many freed entries were passed, none twice
pub record HasFollowedOnce (kind : EntryKind) (t : Table) (steps from : ℕ) : Type 0 where
  pub followed : HasFollowed kind t steps from
  pub once : IsDistinct nat_eq followed.front

pub HasFollowedOnce-none : (kind : EntryKind) (t : Table) → HasFollowedOnce kind t 0 0
unfolding IsDistinct HasFollowed-none
HasFollowedOnce-none kind t = record { followed = HasFollowed-none kind t; once = tt }

module _ {kind : EntryKind} {t : Table} {steps from : ℕ} (h : HasFollowedOnce kind t steps from) where
  -- an entry that names one of them
  pub named_before : Contains h.followed.front (t.link from) → NamesWrongly kind t from
  named_before again = record {
    front = h.followed.front;
    begins = h.followed.begins;
    once = h.once;
    named = λ none. (let can = some_freed kind t h.followed.front (t.link from) h.followed.begins.inside again in
        omega (arith, can.0, none));
    wrong = λ can. again;
  }

  -- the next of a longer front is none of them
  pub HasFollowedOnce-more : (next end : ℕ) (longer : List ℕ) → IsFreedFront kind t longer end → steps < length longer
      → next ≡ t.link from → ¬ Contains h.followed.front next → HasFollowedOnce kind t (steps + 1) next
  unfolding HasFollowed-more
  HasFollowedOnce-more next end longer is_front more is apart =
      let within = front_within t.link (t.link 0) h.followed.front longer (t.link from) (t.link end)
      h.followed.begins.leads
      is_front.leads (omega (arith, more, h.followed.many)) in
      let can = All-contains (CanBeFreed kind t) longer (t.link from) is_front.inside within in
      record {
        followed = HasFollowed-more h.followed next is (λ none. (omega (arith, none, is, can.0, least_some kind)))
            (subst (CanBeFreed kind t) (sym is) can);
        once = IsDistinct-push h.followed.front next h.once apart;
      }

-- so many entries of a front were compared with an entry, up to one
pub record HasCompared (front : List ℕ) (entry steps from : ℕ) : Type 0 where
  pub here : from ≡ get_or (0 ∷ front) steps 0
  pub apart : (k : ℕ) → k < steps → get_or front k 0 ≢ entry

module _ {kind : EntryKind} {t : Table} {front : List ℕ} {entry steps from end : ℕ}
    (is_front : IsFreedFront kind t front end)
    (h : HasCompared front entry steps from) (more : steps < length front) where
  -- the one that was reached lies in the table
  pub compared_below : 1 ≤ t.count → from < t.count
  compared_below some = subst (λ (n : ℕ). n < t.count) (sym h.here) (go steps more)
    where
      go : (k : ℕ) → k < length front → get_or (0 ∷ front) k 0 < t.count
      go zero below = some
      go (suc k) below =
          (some_freed kind t front (get_or front k 0) is_front.inside
          (Contains-get_or front k 0 (omega (arith, below)))).1

  next_is : (next : ℕ) → next ≡ t.link from → next ≡ get_or front steps 0
  next_is next is =
      is ∙ ap t.link h.here ∙ front_next t.link 0 (t.link 0) front (t.link end) steps is_front.leads refl more

  pub compared_found : (next : ℕ) → next ≡ t.link from → next ≡ entry → Contains front entry
  compared_found next is same =
      subst (λ (n : ℕ). Contains front n) (sym (next_is next is) ∙ same) (Contains-get_or front steps 0 more)

  pub HasCompared-more : (next : ℕ) → next ≡ t.link from → next ≢ entry → HasCompared front entry (steps + 1) next
  HasCompared-more next is other = record {
    here = next_is next is ∙ rw add-one refl;
    apart = λ k below same. elim (cases_lt k steps) [
      | inl before ↦ h.apart k before same
      | inr behind ↦ (let there : k ≡ steps = omega (arith, below, behind) in other
          (next_is next is ∙ rw (sym there) same))
    ];
  }

-- where all were compared the entry is none of them
pub compared_all : (front : List ℕ) (entry steps from : ℕ) → HasCompared front entry steps from
    → length front ≤ steps → ¬ Contains front entry
compared_all front entry steps from h all within =
    All-contains (λ x. x ≢ entry) front entry
    (All-from_get_or (λ x. x ≢ entry) front 0 (λ i below. h.apart i (omega (arith, below, all)))) within refl

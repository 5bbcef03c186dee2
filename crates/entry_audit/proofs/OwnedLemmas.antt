-- Lists of entries, as far as they were followed.
use Rattle.std.proofs.Common.{◌≡◌, ◌≢◌, ℕ, zero, suc, ◌+◌, ◌<◌, Bool, true, false, if◌then◌else◌}
use Rattle.std.proofs.Common.{Option, Some, None, IfNone, List, [], ◌∷◌, ◌++◌, length, get_or, slice_index, inl, inr}
use Rattle.std.proofs.Common.{refl, sym, ◌∙◌, ap, subst, arith}
use Rattle.std.specs.List.{Contains, sum_by}
use Rattle.std.proofs.Math.ListN.{set}
use Rattle.std.proofs.lemmas.Bool.{cases_Bool, cases_eq, cases_lt}
use Rattle.std.proofs.lemmas.List.{get_or-set_same, get_or-set_other}
use Rattle.std.proofs.lemmas.List.Sums.{sum_by-set}
use Rattle.std.proofs.lemmas.List.Elements.{Contains-push, Contains-push_cases, Contains-append_left}
use Rattle.std.proofs.lemmas.List.Elements.{Contains-append_cases}
use Rattle.entry_tables.specs.Links.{LeadsTo, LeadsToEnd}
use Rattle.entry_tables.proofs.LinkLemmas.{LeadsTo-push, reached, whole_front, never_again}
use Rattle.entry_audit.specs.declared.owned.Link.{Link}
use Rattle.entry_audit.specs.Owned.{link_at, behind_in, MayStandIn, MustStandIn, IsOwnedList, IsSeen, IsFollowed}

-- what follows where there is no value
pub IfNone_then : {X : Type 0} (r : Option X) {P Q : Type 0} → IfNone r P → (P → Q) → IfNone r Q
IfNone_then None p then_q = then_q p
IfNone_then (Some x) p then_q = tt

-- how many entries were not seen
abbrev pub unseen : List Bool → ℕ
unseen seen = sum_by (λ (s : Bool). if s then 0 else 1) seen

not_seen : (b : Bool) → ¬ (b ≡ true) → b ≡ false
not_seen b fresh = elim (cases_Bool b) [ inl is ↦ absurd (fresh is) | inr not ↦ not ]

pub unseen_less : (seen : List Bool) (e : ℕ) → e < length seen → ¬ IsSeen seen e
    → unseen (set seen e true) < unseen seen
unseen_less seen e below fresh =
    let one : Bool → ℕ = λ s. if s then 0 else 1 in
    let was : one (get_or seen e false) ≡ 1 = ap one (not_seen (get_or seen e false) fresh) in
    omega (arith, was, sum_by-set one seen e true false below)

pub none_within : (e : ℕ) → ¬ Contains {X = ℕ} [] e
none_within e (k, h, is) = omega (arith, h)

pub followed_none : (links : List (Option Link)) (owner head : ℕ) (seen : List Bool)
    → IsFollowed links owner head seen seen [] head
followed_none links owner head seen = record {
  leads = refl;
  own = λ e within. absurd (none_within e within);
  kept = λ e was. was;
  marked = λ e within. absurd (none_within e within);
  only = λ e is fresh. absurd (fresh is);
}

seen_still : (seen : List Bool) (e x : ℕ) → e < length seen → IsSeen seen x → IsSeen (set seen e true) x
seen_still seen e x below was = elim (cases_eq x e) [
  | inl same ↦ subst (λ (n : ℕ). IsSeen (set seen e true) n) (sym same) (get_or-set_same seen e true false below)
  | inr other ↦ get_or-set_other seen e x true false other ∙ was
]

-- the entries of a whole list are those through which it was followed
pub front_whole : (next : ℕ → ℕ) (head : ℕ) (front whole : List ℕ) (e : ℕ) → LeadsTo next head front 0
    → LeadsToEnd next head whole → Contains whole e → Contains front e
front_whole next head front whole e leads linked within =
    elim (Contains-append_cases front [] e (subst (λ (l : List ℕ). Contains l e) (whole_front next head front whole
    leads linked) within)) [
      | inl there ↦ there
      | inr none ↦ absurd (none_within e none)
    ]

pub whole_has : (next : ℕ → ℕ) (head : ℕ) (front whole : List ℕ) (e : ℕ) → LeadsTo next head front 0
    → LeadsToEnd next head whole → Contains front e → Contains whole e
whole_has next head front whole e leads linked within =
    subst (λ (l : List ℕ). Contains l e) (sym (whole_front next head front whole leads linked))
    (Contains-append_left front [] e within)

module _ {links : List (Option Link)} {owner head : ℕ} {old new : List Bool} {front : List ℕ} {e : ℕ}
    (h : IsFollowed links owner head old new front e) (some : e ≢ 0) where
  pub followed_more : (next : ℕ) → e < length new → MayStandIn owner (link_at links e) → next ≡ behind_in links e
      → IsFollowed links owner head old (set new e true) (front ++ e ∷ []) next
  followed_more next below may is = record {
    leads = subst (λ (n : ℕ). LeadsTo (behind_in links) head (front ++ e ∷ []) n) (sym is)
        (LeadsTo-push (behind_in links) head front e h.leads some);
    own = λ x within. elim (Contains-push_cases front e x within) [
      | inl there ↦ h.own x there
      | inr same ↦ subst (λ (n : ℕ). MayStandIn owner (link_at links n)) same may
    ];
    kept = λ x was. seen_still new e x below (h.kept x was);
    marked = λ x within. elim (Contains-push_cases front e x within) [
      | inl there ↦ seen_still new e x below (h.marked x there)
      | inr same ↦ subst (λ (n : ℕ). IsSeen (set new e true) n) same (get_or-set_same new e true false below)
    ];
    only = λ x is fresh. elim (cases_eq x e) [
      | inl same ↦ subst (λ (n : ℕ). Contains (front ++ e ∷ []) n) (sym same) (Contains-push front e)
      | inr other ↦ Contains-append_left front (e ∷ []) x
          (h.only x (sym (get_or-set_other new e x true false other) ∙ is) fresh)
    ];
  }

  -- an entry that may not stand in the list, or was seen on the way: it is no list as it should be
  pub followed_strange : ((x : ℕ) → IsSeen old x → ¬ MayStandIn owner (link_at links x))
      → (MayStandIn owner (link_at links e) → IsSeen new e) → (whole : List ℕ)
      → LeadsToEnd (behind_in links) head whole
      → ¬ ((x : ℕ) → Contains whole x → MayStandIn owner (link_at links x))
  followed_strange apart none whole linked own =
      let may = own e (reached (behind_in links) head front e whole h.leads some linked) in
      never_again (behind_in links) head front e whole h.leads some linked
      (h.only e (none may) (λ was. apart e was may))

-- All lists below a number were followed: each ends and has only entries that may stand in it, and these were seen.
pub record AreFollowed (links : List (Option Link)) (heads : List ℕ) (seen : List Bool) (n : ℕ) : Type 0 where
  pub ended : (owner : ℕ) → owner < n → (front : List ℕ)
      × LeadsToEnd (behind_in links) (slice_index heads owner) front
      × ((e : ℕ) → Contains front e → MayStandIn owner (link_at links e))
  pub marked : (owner : ℕ) → owner < n → (whole : List ℕ)
      → LeadsToEnd (behind_in links) (slice_index heads owner) whole → (e : ℕ) → Contains whole e → IsSeen seen e
  pub only : (e : ℕ) → IsSeen seen e → (owner : ℕ) → MayStandIn owner (link_at links e) → (owner < n)
      × ((whole : List ℕ) → LeadsToEnd (behind_in links) (slice_index heads owner) whole → Contains whole e)

-- an entry has one list in which it may stand
one_owner : (link : Option Link) (owner other : ℕ) → MayStandIn owner link → MayStandIn other link → owner ≡ other
one_owner None owner other may too = absurd may
one_owner (Some link) owner other may too = sym may ∙ too

pub must_may : (link : Option Link) (owner : ℕ) → MustStandIn owner link → MayStandIn owner link
must_may None owner must = must
must_may (Some link) owner must = must.0

-- what has to stand in a list has a link
pub must_inside : (links : List (Option Link)) (owner e : ℕ) → MustStandIn owner (link_at links e) → e < length links
must_inside [] owner e must = absurd must
must_inside (x ∷ xs) owner zero must = omega arith
must_inside (x ∷ xs) owner (suc e) must = omega (arith, must_inside xs owner e must)

module _ {links : List (Option Link)} {heads : List ℕ} {seen : List Bool} {n : ℕ}
    (h : AreFollowed links heads seen n) where
  -- none of the entries that were seen may stand in the next list
  pub all_apart : (e : ℕ) → IsSeen seen e → ¬ MayStandIn n (link_at links e)
  all_apart e is may = (let below = (h.only e is n may).0 in omega (arith, below))

  pub all_more : (new : List Bool) (front : List ℕ) → IsFollowed links n (slice_index heads n) seen new front 0
      → AreFollowed links heads new (n + 1)
  all_more new front more = record {
    ended = λ owner below. elim (cases_lt owner n) [
      | inl before ↦ h.ended owner before
      | inr behind ↦ (let here : owner ≡ n = omega (arith, below, behind) in
          subst (λ (o : ℕ). (front : List ℕ) × LeadsToEnd (behind_in links) (slice_index heads o) front
          × ((e : ℕ) → Contains front e → MayStandIn o (link_at links e))) (sym here) (front, more.leads, more.own))
    ];
    marked = λ owner below. elim (cases_lt owner n) [
      | inl before ↦ (λ whole linked e within. more.kept e (h.marked owner before whole linked e within))
      | inr behind ↦ (let here : owner ≡ n = omega (arith, below, behind) in
          λ whole linked e within. more.marked e (front_whole (behind_in links) (slice_index heads n) front whole e
          more.leads (subst (λ (o : ℕ). LeadsToEnd (behind_in links) (slice_index heads o) whole) here linked) within))
    ];
    only = λ e is owner may. elim (cases_Bool (get_or seen e false)) [
      | inl was ↦ (let before = h.only e was owner may in (omega (arith, before.0), before.1))
      | inr not ↦ (let there = more.only e is (λ was. never not was) in
          let here = one_owner (link_at links e) owner n may (more.own e there) in (
            omega (arith, here),
            λ whole linked. whole_has (behind_in links) (slice_index heads n) front whole e more.leads
                (subst (λ (o : ℕ). LeadsToEnd (behind_in links) (slice_index heads o) whole) here linked) there,
          ))
    ];
  }
    where
      never : {b : Bool} → b ≡ false → ¬ (b ≡ true)
      never not is = cc

  -- where each entry that has to stand in a list was seen, each list is as it should be
  pub all_owned : ((owner e : ℕ) → owner < n → MustStandIn owner (link_at links e) → IsSeen seen e) → (owner : ℕ)
      → owner < n → (list : List ℕ) × IsOwnedList links owner (slice_index heads owner) list
  all_owned none owner below =
      let ended = h.ended owner below in (
        ended.0,
        record {
          leads = ended.1;
          own = ended.2;
          all = λ e must. (h.only e (none owner e below must) owner (must_may (link_at links e) owner must)).1 ended.0
              ended.1;
        },
      )

  -- and where one was not its list is not
  pub all_lacking : (owner e : ℕ) → owner < n → MustStandIn owner (link_at links e) → ¬ IsSeen seen e
      → (list : List ℕ) → ¬ IsOwnedList links owner (slice_index heads owner) list
  all_lacking owner e below must fresh list is = fresh (h.marked owner below list is.leads e (is.all e must))

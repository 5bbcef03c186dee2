-- Entries found by their parents and names.
use Rattle.std.proofs.Common.{◌≡◌, ℕ, ◌+◌, ◌<◌, ◌≤◌, Bool, true, false, cond, List, Option, Some, None, IsSome}
use Rattle.std.proofs.Common.{IfSome}
use Rattle.std.proofs.Common.{inl, inr, refl, sym, ◌∙◌, subst, arith}
use Rattle.std.specs.declared.cmp.Ordering.{Ordering}
use Rattle.std.specs.Ordering.{nat_cmp, is_eq, ordering_then}
use Rattle.std.specs.declared.cmp.Ordering.TheVariants.{Less, Equal, Greater}
use Rattle.std.specs.Cmp.{unsigned_tied}
use Rattle.std.specs.Cmp.Lexicographic.{slice_cmp}
use Rattle.std.proofs.lemmas.Bool.{cases_lt, false≢true, eqb-true, eq-eqb}
use Rattle.std.proofs.lemmas.Map.Text.{is_eq-slice_cmp}
use Rattle.std.proofs.lemmas.Slice.Eq.{bytes_eq-Decides}
use Rattle.entry_tables.specs.declared.table.EntryKind.{EntryKind}
use Rattle.entry_tables.specs.Tables.{Table}
use Rattle.entry_tables.specs.Used.{named_entries}
use Rattle.entry_tables.specs.Rules.{HasApartNames}
use Rattle.entry_tables.specs.Fails.{SharesName}

-- a parent and a name
abbrev pub Key : Type 0
Key = ℕ × List ℕ

abbrev pub key_of : Table → ℕ → Key
key_of t e = (t.parent e, t.name e)

-- their order in a map
abbrev pub key_cmp : Key → Key → Ordering
key_cmp k q = ordering_then (nat_cmp k.0 q.0) (slice_cmp nat_cmp k.1 q.1)

first_equal : (o p : Ordering) → is_eq (ordering_then o p) ≡ true → (is_eq o ≡ true) × (is_eq p ≡ true)
first_equal Less p h = absurd (false≢true h)
first_equal Equal p h = (refl, h)
first_equal Greater p h = absurd (false≢true h)

both_equal : (o p : Ordering) → is_eq o ≡ true → is_eq p ≡ true → is_eq (ordering_then o p) ≡ true
both_equal Less p h k = absurd (false≢true h)
both_equal Equal p h k = k
both_equal Greater p h k = absurd (false≢true h)

same_key : (k q : Key) → is_eq (key_cmp k q) ≡ true → (k.0 ≡ q.0) × (k.1 ≡ q.1)
same_key k q h =
    let both = first_equal (nat_cmp k.0 q.0) (slice_cmp nat_cmp k.1 q.1) h in (
      eqb-true k.0 q.0 (sym (unsigned_tied k.0 q.0) ∙ both.0),
      (bytes_eq-Decides k.1 q.1).0 (sym (is_eq-slice_cmp k.1 q.1) ∙ both.1),
    )

key_itself : (parent : ℕ) (name : List ℕ) → is_eq (key_cmp (parent, name) (parent, name)) ≡ true
key_itself parent name =
    both_equal (nat_cmp parent parent) (slice_cmp nat_cmp name name)
    (unsigned_tied parent parent ∙ eq-eqb parent parent refl)
    (is_eq-slice_cmp name name ∙ (bytes_eq-Decides name name).1 refl)

-- the entries other than the root below a number are found, no two by one parent and name
pub record HasNames (kind : EntryKind) (t : Table) (at : Key → Option ℕ) (entry : ℕ) : Type 0 where
  pub sound : (q : Key) → IfSome (at q) (λ e. (e < entry) × named_entries kind t e × (t.parent e ≡ q.0)
      × (t.name e ≡ q.1))
  pub there : (e : ℕ) → e < entry → named_entries kind t e → IsSome (at (key_of t e))
  pub apart : (e f : ℕ) → e < entry → f < entry → named_entries kind t e → named_entries kind t f
      → t.parent e ≡ t.parent f → t.name e ≡ t.name f → e ≡ f

pub HasNames-none : (kind : EntryKind) (t : Table) (at : Key → Option ℕ) → ((q : Key) → at q ≡ None)
    → HasNames kind t at 0
HasNames-none kind t at none = record {
  sound = λ q. rw (none q) tt;
  there = λ e below named. absurd (omega (arith, below));
  apart = λ e f below. absurd (omega (arith, below));
}

module _ {kind : EntryKind} {t : Table} {at : Key → Option ℕ} {entry : ℕ} (h : HasNames kind t at entry) where
  lower : (found : Option ℕ) (q : Key)
      → IfSome found (λ e. (e < entry) × named_entries kind t e × (t.parent e ≡ q.0) × (t.name e ≡ q.1))
      → IfSome found (λ e. (e < entry + 1) × named_entries kind t e × (t.parent e ≡ q.0) × (t.name e ≡ q.1))
  lower None q is = tt
  lower (Some e) q is = (omega (arith, is.0), is.1, is.2, is.3)

  -- an entry that is the root or not used
  pub HasNames-other : ¬ named_entries kind t entry → HasNames kind t at (entry + 1)
  HasNames-other other = record {
    sound = λ q. lower (at q) q (h.sound q);
    there = λ e below named. h.there e (before e below named) named;
    apart = λ e f below below_too named named_too. h.apart e f (before e below named) (before f below_too named_too)
        named named_too;
  }
    where
      before : (e : ℕ) → e < entry + 1 → named_entries kind t e → e < entry
      before e below named = elim (cases_lt e entry) [
        | inl less ↦ less
        | inr more ↦ (let here : e ≡ entry = omega (arith, below, more) in
            absurd (other (subst (named_entries kind t) here named)))
      ]

  -- one with the parent and name of an earlier one
  pub name_shared : (found : Option ℕ) → found ≡ at (key_of t entry) → IsSome found → named_entries kind t entry
      → SharesName kind t entry
  name_shared None is some named = absurd (false≢true some)
  name_shared (Some other) is some named =
      let sound = subst (λ (o : Option ℕ). IfSome o (λ e. (e < entry) × named_entries kind t e
      × (t.parent e ≡ t.parent entry) × (t.name e ≡ t.name entry))) (sym is) (h.sound (key_of t entry)) in
      record {
        entry = named;
        other = other;
        other_entry = sound.1;
        apart = λ same. (omega (arith, sound.0, same));
        same_parent = sound.2;
        same_name = sound.3;
      }

  -- one that no earlier one has
  module _ (named : named_entries kind t entry) (new_key : at (key_of t entry) ≡ None) (new : Key → Option ℕ)
      (put : (q : Key) → new q ≡ cond (is_eq (key_cmp (key_of t entry) q)) (Some entry) (at q)) where
    put_sound : (test : Bool) (q : Key) → is_eq (key_cmp (key_of t entry) q) ≡ test
        → IfSome (cond test (Some entry) (at q)) (λ e. (e < entry + 1) × named_entries kind t e
        × (t.parent e ≡ q.0) × (t.name e ≡ q.1))
    put_sound true q is = (omega arith, named, (same_key (key_of t entry) q is).0, (same_key (key_of t entry) q is).1)
    put_sound false q is = lower (at q) q (h.sound q)

    put_there : (test : Bool) (q : Key) → IsSome (at q) → IsSome (cond test (Some entry) (at q))
    put_there true q some = refl
    put_there false q some = some

    never_again : (e : ℕ) → e < entry → named_entries kind t e → t.parent e ≡ t.parent entry
        → t.name e ≡ t.name entry → ⊥
    never_again e below named_e parent name =
        let some = h.there e below named_e in
        let here : IsSome (at (key_of t entry)) =
        subst (λ (n : List ℕ). IsSome (at (t.parent entry, n))) name
        (subst (λ (p : ℕ). IsSome (at (p, t.name e))) parent some) in
        false≢true (subst (λ (o : Option ℕ). IsSome o) new_key here)

    pub HasNames-more : HasNames kind t new (entry + 1)
    HasNames-more = record {
      sound = λ q. rw (put q) (put_sound (is_eq (key_cmp (key_of t entry) q)) q refl);
      there = there_more;
      apart = apart_more;
    }
      where
        there_more : (e : ℕ) → e < entry + 1 → named_entries kind t e → IsSome (new (key_of t e))
        there_more e below named_e = elim (cases_lt e entry) [
          | inl before ↦ rw (put (key_of t e)) (put_there (is_eq (key_cmp (key_of t entry) (key_of t e))) (key_of t e)
              (h.there e before named_e))
          | inr behind ↦ (let here : e ≡ entry = omega (arith, below, behind) in
              rw (here, put (key_of t entry), key_itself (t.parent entry) (t.name entry)) refl)
        ]

        apart_more : (e f : ℕ) → e < entry + 1 → f < entry + 1 → named_entries kind t e → named_entries kind t f
            → t.parent e ≡ t.parent f → t.name e ≡ t.name f → e ≡ f
        apart_more e f below below_too named_e named_f parent name = elim (cases_lt e entry) [
          | inl before ↦ (elim (cases_lt f entry) [
            | inl before_too ↦ h.apart e f before before_too named_e named_f parent name
            | inr behind ↦ (let here : f ≡ entry = omega (arith, below_too, behind) in
                absurd (never_again e before named_e (rw (sym here) parent) (rw (sym here) name)))
          ])
          | inr behind ↦ (let here : e ≡ entry = omega (arith, below, behind) in
              elim (cases_lt f entry) [
                | inl before_too ↦ absurd (never_again f before_too named_f (rw (sym here) (sym parent))
                    (rw (sym here) (sym name)))
                | inr behind_too ↦ omega (arith, here, below_too, behind_too)
              ])
        ]

  -- where all were found, no two have one parent and name
  pub all_apart : t.count ≤ entry → HasApartNames kind t
  all_apart all e f named named_too =
      h.apart e f (omega (arith, named.used.below, all)) (omega (arith, named_too.used.below, all)) named named_too

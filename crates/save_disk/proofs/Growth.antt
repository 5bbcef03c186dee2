-- How calls that add events add up.
use Rattle.std.proofs.Common.{◌≡◌, ℕ, ◌+◌, ◌≤◌, eqb, List, [], ◌∷◌, ◌++◌, Option, Some, None, MatchOption, refl, sym}
use Rattle.std.proofs.Common.{subst, ◌∙◌, ap, append_assoc, ⊎_elim, add_assoc, zero-add, arith}
use Rattle.std.specs.Option.{option_map}
use Rattle.std.proofs.lemmas.List.{append-nil, append_cancel_left}
use Rattle.save_disk.specs.Trace.{Event, Write, Sync, Said, Told, with_sector, image_now}
use Rattle.save_disk.specs.State.{State, IsQuiet, Happens, GoesOn, WriteFails, then_event}
use Rattle.save_disk.specs.Writes.{OnlyWrites, GrewBy, WritesOnly, one_if, writes_to, WritesTo}
use Rattle.save_disk.proofs.Events.{image_after-push}

pub OnlyWrites-append : (Q : ℕ → List ℕ → Type 0) (xs ys : List Event) → OnlyWrites Q xs → OnlyWrites Q ys
    → OnlyWrites Q (xs ++ ys)
OnlyWrites-append Q [] ys h k = k
OnlyWrites-append Q (Write sector bytes ∷ xs) ys h k = (h.0, OnlyWrites-append Q xs ys h.1 k)
OnlyWrites-append Q (Sync ∷ xs) ys h k = absurd h
OnlyWrites-append Q (Said bytes ∷ xs) ys h k = absurd h

pub OnlyWrites-map : (P Q : ℕ → List ℕ → Type 0) (events : List Event)
    → ((sector : ℕ) (bytes : List ℕ) → P sector bytes → Q sector bytes) → OnlyWrites P events → OnlyWrites Q events
OnlyWrites-map P Q [] f h = tt
OnlyWrites-map P Q (Write sector bytes ∷ events) f h = (f sector bytes h.0, OnlyWrites-map P Q events f h.1)
OnlyWrites-map P Q (Sync ∷ events) f h = absurd h
OnlyWrites-map P Q (Said bytes ∷ events) f h = absurd h

-- writes behind writes
pub writes_to-append : (sector : ℕ) (xs ys : List Event) → writes_to sector (xs ++ ys) ≡ writes_to sector xs
    + writes_to sector ys
writes_to-append sector [] ys = sym (zero-add (writes_to sector ys))
writes_to-append sector (Write number bytes ∷ xs) ys =
    ap (λ (n : ℕ). one_if (eqb number sector) + n) (writes_to-append sector xs ys)
    ∙ sym (add_assoc (one_if (eqb number sector)) (writes_to sector xs) (writes_to sector ys))
writes_to-append sector (Sync ∷ xs) ys = writes_to-append sector xs ys
writes_to-append sector (Said bytes ∷ xs) ys = writes_to-append sector xs ys

-- a sector that is written by a front of the events or by the rest
pub written_first : (sector : ℕ) (xs ys : List Event) → 1 ≤ writes_to sector xs → 1 ≤ writes_to sector (xs ++ ys)
written_first sector xs ys some = omega (arith, writes_to-append sector xs ys)

pub written_later : (sector : ℕ) (xs ys : List Event) → 1 ≤ writes_to sector ys → 1 ≤ writes_to sector (xs ++ ys)
written_later sector xs ys some = omega (arith, writes_to-append sector xs ys)

module _ (P Q R : List Event → Type 0) (append : (xs ys : List Event) → P xs → Q ys → R (xs ++ ys)) where
  grew_then : (a b c : Told) → GrewBy P a b → GrewBy Q b c → GrewBy R a c
  grew_then a b c h k = record {
    start = k.start ∙ h.start;
    grain = k.grain ∙ h.grain;
    left = k.left ∙ h.left;
    added = h.added ++ k.added;
    events = k.events ∙ ap (λ (l : List Event). l ++ k.added) h.events ∙ append_assoc a.events h.added k.added;
    such = append h.added k.added h.such k.such;
  }

  went_then : (o p q : Option Told)
      → MatchOption o (p ≡ None) (λ told. (next : Told) × (p ≡ Some next) × GrewBy P told next)
      → MatchOption p (q ≡ None) (λ told. (next : Told) × (q ≡ Some next) × GrewBy Q told next)
      → MatchOption o (q ≡ None) (λ told. (next : Told) × (q ≡ Some next) × GrewBy R told next)
  went_then None p q h k = rw h at k
  went_then (Some a) p q (b, is, grew) k = let later = rw is at
      k in (later.0, later.1, grew_then a b later.0 grew later.2)

  -- events behind events
  pub GoesOn-then : (one two three : State) → GoesOn (GrewBy P) one two → GoesOn (GrewBy Q) two three
      → GoesOn (GrewBy R) one three
  GoesOn-then one two three h k = went_then one.told two.told three.told h k

module _ (P : List Event → Type 0) where
  quiet : (o : Option Told) → P []
      → MatchOption o (o ≡ None) (λ told. (next : Told) × (o ≡ Some next) × GrewBy P told next)
  quiet None none = refl
  quiet (Some told) none = (
    told,
    refl,
    record {
      start = refl;
      grain = refl;
      left = refl;
      added = [];
      events =
          sym (append-nil told.events);
      such = none;
    },
  )

  -- nothing happened
  pub grew_quiet : (one two : State) → IsQuiet one two → P [] → GoesOn (GrewBy P) one two
  grew_quiet one two same none = rw same (quiet one.told none)

  happened : (event : Event) (o p : Option Told) → p ≡ option_map (then_event event) o → P (event ∷ [])
      → MatchOption o (p ≡ None) (λ told. (next : Told) × (p ≡ Some next) × GrewBy P told next)
  happened event None p is such = is
  happened event (Some told) p is such = (
    then_event event told,
    is,
    record
        { start = refl; grain = refl; left = refl; added = event ∷ []; events = refl; such = such },
  )

  -- one event
  pub grew_happens : (event : Event) (one two : State) → Happens event one two → P (event ∷ [])
      → GoesOn (GrewBy P) one two
  grew_happens event one two happens such = happened event one.told two.told happens such

  failed : (sector : ℕ) (bytes : List ℕ) (a b : Told) → WriteFails sector bytes a b → P [] → P (Write sector bytes ∷ [])
      → GrewBy P a b
  failed sector bytes a b fails none such =
      ⊎_elim
      (λ (same : b.events ≡ a.events). let grew : GrewBy P a b =
      record {
        start = fails.start;
        grain = fails.grain;
        left = fails.left;
        added = [];
        events = same
            ∙ sym (append-nil a.events);
        such = none;
      } in grew)
      (λ (more : b.events ≡ a.events ++ Write sector bytes ∷ []). let grew : GrewBy P a b =
      record {
        start = fails.start;
        grain = fails.grain;
        left = fails.left;
        added =
            Write sector bytes ∷ [];
        events = more;
        such = such;
      } in grew)
      fails.events

  went_failed : (sector : ℕ) (bytes : List ℕ) (o p : Option Told)
      → MatchOption o (p ≡ None) (λ told. (next : Told) × (p ≡ Some next) × WriteFails sector bytes told next) → P []
      → P (Write sector bytes ∷ []) → MatchOption o (p ≡ None)
      (λ told. (next : Told) × (p ≡ Some next) × GrewBy P told next)
  went_failed sector bytes None p is none such = is
  went_failed sector bytes (Some told) p (next, is, fails) none such =
      (next, is, failed sector bytes told next fails none such)

  -- a write that failed is an event or none
  pub grew_failed : (sector : ℕ) (bytes : List ℕ) (one two : State) → GoesOn (WriteFails sector bytes) one two → P []
      → P (Write sector bytes ∷ []) → GoesOn (GrewBy P) one two
  grew_failed sector bytes one two fails none such = went_failed sector bytes one.told two.told fails none such

module _ (Q : ℕ → List ℕ → Type 0) where
  pub WritesOnly-quiet : (one two : State) → IsQuiet one two → WritesOnly Q one two
  WritesOnly-quiet one two same = grew_quiet (OnlyWrites Q) one two same tt

  pub WritesOnly-join : (one two three : State) → WritesOnly Q one two → WritesOnly Q two three → WritesOnly Q one three
  WritesOnly-join = GoesOn-then (OnlyWrites Q) (OnlyWrites Q) (OnlyWrites Q) (OnlyWrites-append Q)

module _ (P Q : ℕ → List ℕ → Type 0) (f : (sector : ℕ) (bytes : List ℕ) → P sector bytes → Q sector bytes) where
  grew_map : (a b : Told) → GrewBy (OnlyWrites P) a b → GrewBy (OnlyWrites Q) a b
  grew_map a b h = record {
    start = h.start;
    grain = h.grain;
    left = h.left;
    added = h.added;
    events = h.events;
    such =
        OnlyWrites-map P Q h.added f h.such;
  }

  went_map : (o p : Option Told)
      → MatchOption o (p ≡ None) (λ told. (next : Told) × (p ≡ Some next) × GrewBy (OnlyWrites P) told next)
      → MatchOption o (p ≡ None) (λ told. (next : Told) × (p ≡ Some next) × GrewBy (OnlyWrites Q) told next)
  went_map None p h = h
  went_map (Some told) p (next, is, grew) = (next, is, grew_map told next grew)

  pub WritesOnly-map : (one two : State) → WritesOnly P one two → WritesOnly Q one two
  WritesOnly-map one two h = went_map one.told two.told h

came : (R : Told → Told → Type 0) (o p : Option Told) (now : Told)
    → MatchOption o (p ≡ None) (λ told. (next : Told) × (p ≡ Some next) × R told next) → p ≡ Some now → (told : Told)
    × (o ≡ Some told) × R told now
came R None p now is here = absurd (cc)
came R (Some told) p now (next, is, r) here = let same : next ≡ now = cc in (told, refl, subst (R told) same r)

-- the trace from which a trace went on
pub came_from : (R : Told → Told → Type 0) (one two : State) (now : Told) → GoesOn R one two → two.told ≡ Some now
    → (told : Told) × (one.told ≡ Some told) × R told now
came_from R one two now goes here = came R one.told two.told now goes here

-- with one write more the image has other bytes in that sector
pub image_written : (a b : Told) (sector : ℕ) (bytes : List ℕ)
    → GrewBy (λ events. events ≡ Write sector bytes ∷ []) a b
    → image_now b ≡ with_sector a.grain (image_now a) sector bytes
image_written a b sector bytes grew =
    rw (grew.grain, grew.start, grew.events, grew.such) (image_after-push a.grain a.events (Write sector bytes) a.start)

-- with no event more the image is as it was
pub image_unchanged : (a b : Told) → GrewBy (λ events. events ≡ []) a b → image_now b ≡ image_now a
image_unchanged a b grew = rw (grew.grain, grew.start, grew.events, grew.such, append-nil) refl

module _ {T : Type 0} (Q : T → ℕ → List ℕ → Type 0) where
  -- each of the writes is as each of the relations says
  OnlyWrites-all : (P : ℕ → List ℕ → Type 0) (events : List Event) → OnlyWrites P events
      → ((t : T) → OnlyWrites (Q t) events) → OnlyWrites (λ sector bytes. (t : T) → Q t sector bytes) events
  OnlyWrites-all P [] base each = tt
  OnlyWrites-all P (Write sector bytes ∷ events) base each =
      (λ t. (each t).0, OnlyWrites-all P events base.1 (λ t. (each t).1))
  OnlyWrites-all P (Sync ∷ events) base each = absurd base
  OnlyWrites-all P (Said bytes ∷ events) base each = absurd base

  grew_all : (P : ℕ → List ℕ → Type 0) (a b : Told) → GrewBy (OnlyWrites P) a b
      → ((t : T) → GrewBy (OnlyWrites (Q t)) a b)
      → GrewBy (OnlyWrites (λ sector bytes. (t : T) → Q t sector bytes)) a b
  grew_all P a b base each = record {
    start = base.start;
    grain = base.grain;
    left = base.left;
    added = base.added;
    events = base.events;
    such = OnlyWrites-all P base.added base.such
        (λ t. subst (OnlyWrites (Q t))
        (append_cancel_left a.events (each t).added base.added (sym (each t).events ∙ base.events)) (each t).such);
  }

  went_all : (P : ℕ → List ℕ → Type 0) (o p : Option Told)
      → MatchOption o (p ≡ None) (λ told. (next : Told) × (p ≡ Some next) × GrewBy (OnlyWrites P) told next)
      → ((t : T) → MatchOption o (p ≡ None)
      (λ told. (next : Told) × (p ≡ Some next) × GrewBy (OnlyWrites (Q t)) told next))
      → MatchOption o (p ≡ None) (λ told. (next : Told) × (p ≡ Some next)
      × GrewBy (OnlyWrites (λ sector bytes. (t : T) → Q t sector bytes)) told next)
  went_all P None p base each = base
  went_all P (Some told) p (next, is, grew) each = (
    next,
    is,
    grew_all P told next grew (λ t.
        (let mine = each t in
        let same : mine.0 ≡ next = some_same mine.0 next (sym mine.1 ∙ is) in
        subst (GrewBy (OnlyWrites (Q t)) told) same mine.2)),
  )
    where
      some_same : (x y : Told) → Some x ≡ Some y → x ≡ y
      some_same x y same = cc

  -- a call whose writes each of the relations allows
  pub WritesOnly-all : (P : ℕ → List ℕ → Type 0) (one two : State) → WritesOnly P one two
      → ((t : T) → WritesOnly (Q t) one two) → WritesOnly (λ sector bytes. (t : T) → Q t sector bytes) one two
  WritesOnly-all P one two base each = went_all P one.told two.told base each

-- a sector that is written stays so, and so does one that was
pub WritesTo-first : (sector : ℕ) (P : ℕ → List ℕ → Type 0) (one two three : State) → WritesTo sector one two
    → WritesOnly P two three → WritesTo sector one three
WritesTo-first sector P = GoesOn-then (λ events. 1 ≤ writes_to sector events) (OnlyWrites P)
    (λ events. 1 ≤ writes_to sector events) (λ xs ys some rest. written_first sector xs ys some)

pub WritesTo-later : (sector : ℕ) (P : ℕ → List ℕ → Type 0) (one two three : State) → WritesOnly P one two
    → WritesTo sector two three → WritesTo sector one three
WritesTo-later sector P = GoesOn-then (OnlyWrites P) (λ events. 1 ≤ writes_to sector events)
    (λ events. 1 ≤ writes_to sector events) (λ xs ys front some. written_later sector xs ys some)

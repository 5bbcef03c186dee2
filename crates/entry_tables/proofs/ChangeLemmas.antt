-- Calls that change some words, as puts and one behind another.
use Rattle.std.proofs.Common.{◌≡◌, ℕ, ◌+◌, ◌<◌, ◌≤◌, IsTrue, List, length, Option, Some, None, refl, sym, ap, subst}
use Rattle.std.proofs.Common.{arith}
use Rattle.save_bytes.specs.declared.space.Bad.{Bad}
use Rattle.save_bytes.specs.declared.space.Bad.TheVariants.{Disk, Damaged}
use Rattle.save_bytes.specs.State.{Shape, State, CanPut}
use Rattle.save_bytes.specs.Refusals.{UnlessDisk, NeverDamaged}
use Rattle.save_bytes.specs.Stays.{SameCells}
use Rattle.save_bytes.specs.Puts.{Puts}
use Rattle.save_bytes.specs.Spots.{Spot, Hold, LandsAsBefore, MovesOnly}
use Rattle.save_bytes.specs.Writes.{IsWithin}
use Rattle.save_bytes.specs.Within.{ChangesWithin}
use Rattle.save_bytes.proofs.SpaceLemmas.{UnlessDisk-map, IfDamaged-never, SameSpace-join, SameSpace-where}
use Rattle.save_bytes.proofs.WithinLemmas.{ChangesWithin-put, ChangesWithin-same, ChangesWithin-wider}
use Rattle.save_bytes.proofs.WithinLemmas.{ChangesWithin-join}
use Rattle.entry_tables.specs.Changes.{ChangesAt}

module _ {A : Type 0} (states : A → State) (keeps : Spot → A → A → Type 0) (lands : A → ℕ → Spot → Type 0) where
  -- a premise that gives another
  pub ChangesAt-where : {P Q : Type 0} (sites : ℕ → Type 0) (s t : A) (refusal : Option Bad) → (P → Q)
      → ChangesAt states keeps lands Q sites s t refusal → ChangesAt states keeps lands P sites s t refusal
  ChangesAt-where sites s t refusal gives h = record {
    space = SameSpace-where (states s) (states t) refusal gives h.space;
    plain = h.plain;
    within = λ p. h.within (gives p);
    damaged = λ p. h.damaged (gives p);
    hold = h.hold;
    spots = λ p. h.spots (gives p);
    reach = λ p. h.reach (gives p);
  }

  -- no call, where the premise does not hold
  pub ChangesAt-never : {P : Type 0} (sites : ℕ → Type 0) (s : A) → keeps Hold s s → ¬ P
      → ChangesAt states keeps lands P sites s s None
  ChangesAt-never sites s hold never = record {
    space = record {
      shape = refl;
      faults = omega arith;
      cause = tt;
      told = λ p. absurd (never p);
      twins = λ p. absurd (never p);
    };
    plain = λ plain. tt;
    within = λ p. absurd (never p);
    damaged = λ p. tt;
    hold = hold;
    spots = λ p. absurd (never p);
    reach = λ p. absurd (never p);
  }

  -- a call behind a call, which is refused for the disk alone
  pub ChangesAt-then : ((spot : Spot) (s t u : A) → keeps spot s t → keeps spot t u → keeps spot s u) → {P Q : Type 0}
      (sites few : ℕ → Type 0) (s t u : A) (refusal : Option Bad) → (P → Q) → (P → NeverDamaged refusal)
      → ((x : ℕ) → few x → sites x) → ChangesAt states keeps lands P sites s t None
      → ChangesAt states keeps lands Q few t u refusal → ChangesAt states keeps lands P sites s u refusal
  ChangesAt-then join sites few s t u refusal gives never wider h k =
      let size : (states t).shape.size ≡ (states s).shape.size = ap (λ (shape : Shape). shape.size) h.space.shape in
      record {
        space = SameSpace-join (states s) (states t) (states u) refusal (λ p. p) gives h.space k.space;
        plain = λ plain. k.plain (subst (λ (shape : Shape). IsTrue shape.plain) (sym h.space.shape) plain);
        within = λ p. UnlessDisk-map refusal
            (λ later. ChangesWithin-join (states s) (states t) sites (states u).cells size (h.space.twins p)
            (h.within p)
            (ChangesWithin-wider (states t) few sites (states u).cells (λ x below. wider x) later)) (k.within
            (gives p));
        damaged = λ p. IfDamaged-never refusal (λ part level block. SameCells (states s) (states u)) (never p);
        hold = join Hold s t u h.hold k.hold;
        spots = λ p spot misses. join spot s t u (h.spots p spot misses)
            (k.spots (gives p) spot
            (λ x below site lands_t. (let inside : x < (states s).shape.size = omega (arith, size, below) in
            misses x inside (wider x site) (h.reach p x inside spot lands_t))));
        reach = λ p. UnlessDisk-map refusal
            (λ (later : LandsAsBefore (states t).shape.size (lands t) (lands u)). λ x below spot lands_u.
            h.reach p x below spot (later x (omega (arith, size, below)) spot lands_u)) (k.reach (gives p));
      }

  -- no call
  pub ChangesAt-same : {P : Type 0} (sites : ℕ → Type 0) (s : A) → keeps Hold s s → ((spot : Spot) → keeps spot s s)
      → (P → IsTrue (states s).told) → ChangesAt states keeps lands P sites s s None
  ChangesAt-same sites s hold spots told = record {
    space = record {
      shape = refl;
      faults = omega arith;
      cause = tt;
      told = told;
      twins = λ p. record { bottom = λ x below. refl; is_fixed = λ x below. refl };
    };
    plain = λ plain. tt;
    within = λ p. ChangesWithin-same (states s) sites (states s).cells (λ x below. refl);
    damaged = λ p. tt;
    hold = hold;
    spots = λ p spot misses. spots spot;
    reach = λ p x below spot lands. lands;
  }

  module _ (s t : A) (at : ℕ) (bytes : List ℕ) (fits : at + length bytes ≤ (states s).shape.size) where
    within_put : (refusal : Option Bad) → Puts (states s) at bytes (states t) refusal
        → CanPut (states s) at (length bytes)
        → UnlessDisk refusal (ChangesWithin (states s) (IsWithin at (length bytes)) (states t).cells)
    within_put None puts can = ChangesWithin-put (states s) at bytes (states t).cells fits (puts.done can)
    within_put (Some Disk) puts can = tt
    within_put (Some (Damaged part level block)) puts can =
        ChangesWithin-same (states s) (IsWithin at (length bytes)) (states t).cells (puts.damaged can)

    -- a put changes its range
    pub ChangesAt-put : (refusal : Option Bad) → (IsTrue (states s).shape.plain → NeverDamaged refusal)
        → Puts (states s) at bytes (states t) refusal → MovesOnly keeps lands (states s) s at (length bytes) t refusal
        → ChangesAt states keeps lands (CanPut (states s) at (length bytes)) (IsWithin at (length bytes)) s t refusal
    ChangesAt-put refusal plain puts moves = record {
      space = puts.space;
      plain = plain;
      within = within_put refusal puts;
      damaged = puts.damaged;
      hold = moves.hold;
      spots = λ can spot misses. moves.spots can spot
          (λ k less lands_k. misses (at + k) (omega (arith, less, fits)) (omega arith, omega (arith, less)) lands_k);
      reach = moves.reach;
    }

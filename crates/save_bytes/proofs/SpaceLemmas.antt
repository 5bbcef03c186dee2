-- One call of a space after another.
use Rattle.std.proofs.Common.{◌≡◌, ℕ, ◌+◌, ◌≤◌, IsTrue, Option, Some, None, refl, ◌∙◌, ap, arith}
use Rattle.save_bytes.specs.declared.space.Bad.{Bad}
use Rattle.save_bytes.specs.declared.space.Bad.TheVariants.{Disk, Damaged}
use Rattle.save_bytes.specs.State.{Shape, State, HasNoTwins, CanPut}
use Rattle.save_bytes.specs.Refusals.{Rose, IfDone, OnDisk, UnlessDisk, IfDamaged, NeverDamaged}
use Rattle.save_bytes.specs.Stays.{SameTwins, SameSpace, SameCells, Stays}
use Rattle.save_bytes.specs.Spots.{Spot, Misses, LandsAsBefore}

-- facts under `UnlessDisk`
pub UnlessDisk-map : (refusal : Option Bad) {P Q : Type 0} → (P → Q) → UnlessDisk refusal P → UnlessDisk refusal Q
UnlessDisk-map None f p = f p
UnlessDisk-map (Some Disk) f p = tt
UnlessDisk-map (Some (Damaged part level block)) f p = f p

pub UnlessDisk-always : (refusal : Option Bad) {P : Type 0} → P → UnlessDisk refusal P
UnlessDisk-always None p = p
UnlessDisk-always (Some Disk) p = tt
UnlessDisk-always (Some (Damaged part level block)) p = p

pub UnlessDisk-both : (refusal : Option Bad) (P Q R : Type 0) → (P → Q → R) → UnlessDisk refusal P → UnlessDisk refusal Q
    → UnlessDisk refusal R
UnlessDisk-both None P Q R f p q = f p q
UnlessDisk-both (Some Disk) P Q R f p q = tt
UnlessDisk-both (Some (Damaged part level block)) P Q R f p q = f p q

pub OnDisk-map : (refusal : Option Bad) {P Q : Type 0} → (P → Q) → OnDisk refusal P → OnDisk refusal Q
OnDisk-map None f p = tt
OnDisk-map (Some Disk) f p = f p
OnDisk-map (Some (Damaged part level block)) f p = tt

-- facts of a call that was done
pub IfDone-map : (refusal : Option Bad) {P Q : Type 0} → (P → Q) → IfDone refusal P → IfDone refusal Q
IfDone-map None f p = f p
IfDone-map (Some bad) f p = tt

pub IfDone-both : (refusal : Option Bad) {P Q R : Type 0} → (P → Q → R) → IfDone refusal P → UnlessDisk refusal Q → IfDone refusal R
IfDone-both None f p q = f p q
IfDone-both (Some bad) f p q = tt

-- facts of a damaged cell's numbers
pub IfDamaged-map : (refusal : Option Bad) {P Q : ℕ → ℕ → ℕ → Type 0}
    → ((part level block : ℕ) → P part level block → Q part level block) → IfDamaged refusal P → IfDamaged refusal Q
IfDamaged-map None f p = tt
IfDamaged-map (Some Disk) f p = tt
IfDamaged-map (Some (Damaged part level block)) f p = f part level block p

pub IfDamaged-never : (refusal : Option Bad) (P : ℕ → ℕ → ℕ → Type 0) → NeverDamaged refusal → IfDamaged refusal P
IfDamaged-never None P never = tt
IfDamaged-never (Some Disk) P never = tt
IfDamaged-never (Some (Damaged part level block)) P never = absurd never

-- a count that rose later rose
pub Rose-later : (a b c : ℕ) → a ≤ b → Rose b c → Rose a c
Rose-later a b c le rose = omega arith

-- where there are no twins and no fixed places, a put may be made wherever the cells are told
pub can_put : (s : State) (at n : ℕ) → HasNoTwins s → IsTrue s.told → CanPut s at n
can_put s at n none told = record {
  told = told;
  apart = λ j k in_j in_k same. (let there = none.apart (at + j) (at + k) same in omega arith);
  free = λ k less. none.free (at + k);
}

SameTwins-join : (s t u : State) → t.shape ≡ s.shape → SameTwins s t → SameTwins t u → SameTwins s u
SameTwins-join s t u shape h k =
    let size : t.shape.size ≡ s.shape.size = ap (λ (shape : Shape). shape.size) shape in
    record {
      bottom = λ x below. k.bottom x (omega arith) ∙ h.bottom x below;
      is_fixed = λ x below. k.is_fixed x (omega arith) ∙ h.is_fixed x below;
    }

-- where one premise gives those of both calls
pub SameSpace-join : {P Q R : Type 0} (s t u : State) (refusal : Option Bad) → (P → Q) → (P → R) → SameSpace Q s t None
    → SameSpace R t u refusal → SameSpace P s u refusal
SameSpace-join s t u refusal first second h k = record {
  shape = k.shape ∙ h.shape;
  faults = omega arith;
  cause = OnDisk-map refusal (Rose-later s.faults t.faults u.faults h.faults) k.cause;
  told = λ p. k.told (second p);
  twins = λ p. UnlessDisk-map refusal (SameTwins-join s t u h.shape (h.twins (first p))) (k.twins (second p));
}

-- a premise that gives another
pub SameSpace-where : {P Q : Type 0} (s t : State) (refusal : Option Bad) → (P → Q) → SameSpace Q s t refusal → SameSpace P s t refusal
SameSpace-where s t refusal gives h = record {
  shape = h.shape;
  faults = h.faults;
  cause = h.cause;
  told = λ p. h.told (gives p);
  twins = λ p. h.twins (gives p);
}

-- before the first call
pub Stays-same : (s : State) → Stays s s None
Stays-same s = record {
  space = record {
    shape = refl;
    faults = omega arith;
    cause = tt;
    told = λ told. told;
    twins = λ told. record { bottom = λ x below. refl; is_fixed = λ x below. refl };
  };
  cells = λ told x below. refl;
}

pub Stays-join : (s t u : State) (refusal : Option Bad) → Stays s t None → Stays t u refusal → Stays s u refusal
Stays-join s t u refusal h k =
    let size : t.shape.size ≡ s.shape.size = ap (λ (shape : Shape). shape.size) h.space.shape in
    record {
      space = SameSpace-join s t u refusal (λ told. told) h.space.told h.space k.space;
      cells = λ told. UnlessDisk-map refusal (λ (same : SameCells t u). λ x below. same x (omega arith) ∙ h.cells told x below)
          (k.cells (h.space.told told));
    }

-- what a put would have missed before, it misses now
pub Misses-later : (size at n : ℕ) (old new : ℕ → Spot → Type 0) (spot : Spot) → at + n ≤ size → LandsAsBefore size old new
    → Misses old at n spot → Misses new at n spot
Misses-later size at n old new spot fits as_before misses k h lands = misses k h (as_before (at + k) (omega arith) spot lands)

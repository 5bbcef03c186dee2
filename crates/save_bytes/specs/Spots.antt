-- Which spots of the bottom, a memory or a disk, and which marks of the views between, a call leaves alone.
use Rattle.std.specs.Prelude.{ℕ, ◌+◌, ◌<◌, Option}
use Rattle.save_bytes.specs.declared.space.Bad.{Bad}
use Rattle.save_bytes.specs.State.{State, CanPut}
use Rattle.save_bytes.specs.Refusals.{UnlessDisk, IfDamaged}

pub data Spot : Type 0 where
  -- a byte of the bottom
  Place : (at : ℕ) → Spot
  -- a sector of a disk, as long as that disk's sectors are
  Sector : (number : ℕ) → Spot
  -- the mark of a block in a view of a partition: of level 3 of its double-copy tree at level 0, and of the hash tree's
  -- levels at 1 to 4
  Mark : (part level block : ℕ) → Spot
  -- all that a call which reads keeps, but for its marks
  Frame : Spot
  -- all that a call which puts keeps too: the references, the plain fields, how many marks there are
  Hold : Spot

-- no put into the n places from `at` on touches the spot
abbrev pub Misses : (ℕ → Spot → Type 0) → ℕ → ℕ → Spot → Type 0
Misses lands at n spot = (k : ℕ) → k < n → ¬ lands (at + k) spot

-- a put into one of so many places touches no spot that it would not have touched before
abbrev pub LandsAsBefore : ℕ → (ℕ → Spot → Type 0) → (ℕ → Spot → Type 0) → Type 0
LandsAsBefore size old new = (x : ℕ) → x < size → (spot : Spot) → new x spot → old x spot

-- A call that leaves alone each spot which no put into the range touches, and each where it is refused for a damaged
-- cell, where a put may be made there.
pub record MovesOnly {A : Type 0} (keeps : Spot → A → A → Type 0) (lands : A → ℕ → Spot → Type 0) (was : State) (old : A)
    (at n : ℕ) (new : A) (refusal : Option Bad) : Type 0 where
  pub hold : keeps Hold old new
  pub spots : CanPut was at n → (spot : Spot) → Misses (lands old) at n spot → keeps spot old new
  pub damaged : CanPut was at n → IfDamaged refusal (λ part level block. (spot : Spot) → keeps spot old new)
  pub reach : CanPut was at n → UnlessDisk refusal (LandsAsBefore was.shape.size (lands old) (lands new))

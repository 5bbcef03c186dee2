-- What calls leave as it is.
use Rattle.std.specs.Prelude.{◌≡◌, ℕ, ◌<◌, ◌≤◌, IsTrue, Option}
use Rattle.save_bytes.specs.declared.space.Bad.{Bad}
use Rattle.save_bytes.specs.State.{State}
use Rattle.save_bytes.specs.Refusals.{Rose, OnDisk, UnlessDisk}

-- the same twins and fixed places
pub record SameTwins (old new : State) : Type 0 where
  pub bottom : (x : ℕ) → x < old.shape.size → new.bottom x ≡ old.bottom x
  pub is_fixed : (x : ℕ) → x < old.shape.size → new.is_fixed x ≡ old.is_fixed x

-- What each call keeps, where a premise holds: `Disk` comes only where the count of faults rose, and it alone ends what
-- is told. A put may begin it.
pub record SameSpace (P : Type 0) (old new : State) (refusal : Option Bad) : Type 0 where
  pub shape : new.shape ≡ old.shape
  pub faults : old.faults ≤ new.faults
  pub cause : OnDisk refusal (Rose old.faults new.faults)
  pub told : P → UnlessDisk refusal (IsTrue new.told)
  pub twins : P → UnlessDisk refusal (SameTwins old new)

-- the same cells
abbrev pub SameCells : State → State → Type 0
SameCells old new = (x : ℕ) → x < old.shape.size → new.cells x ≡ old.cells x

-- a call that changes no cell
pub record Stays (old new : State) (refusal : Option Bad) : Type 0 where
  pub space : SameSpace (IsTrue old.told) old new refusal
  pub cells : IsTrue old.told → UnlessDisk refusal (SameCells old new)

-- What a call of a space leaves that writes into cells of it, some of them many times.
use Rattle.std.specs.Prelude.{◌≡◌, ℕ, ◌+◌, ◌<◌, ◌≤◌, IsTrue, Option}
use Rattle.save_bytes.specs.declared.space.Bad.{Bad}
use Rattle.save_bytes.specs.State.{State}
use Rattle.save_bytes.specs.Refusals.{UnlessDisk, NeverDamaged}
use Rattle.save_bytes.specs.Stays.{SameSpace}
use Rattle.save_bytes.specs.Spots.{Spot, Hold, LandsAsBefore}

-- the n places from one on
abbrev pub IsWithin : ℕ → ℕ → ℕ → Type 0
IsWithin at n x = (at ≤ x) × (x < at + n)

-- The cells of all places but some are as before, and each spot is left alone that no put into one of these touches.
-- Which places they are is said of the space as the call began.
pub record Writes {A : Type 0} (states : A → State) (keeps : Spot → A → A → Type 0) (lands : A → ℕ → Spot → Type 0)
    (sites : ℕ → Type 0) (old new : A) (refusal : Option Bad) : Type 0 where
  pub space : SameSpace (IsTrue (states old).told) (states old) (states new) refusal
  pub plain : NeverDamaged refusal
  pub others : IsTrue (states old).told
      → UnlessDisk refusal ((x : ℕ) → x < (states old).shape.size → ¬ sites x → (states new).cells x ≡ (states old).cells x)
  pub hold : keeps Hold old new
  pub spots : IsTrue (states old).told → (spot : Spot)
      → ((x : ℕ) → x < (states old).shape.size → sites x → ¬ lands old x spot) → keeps spot old new
  pub reach : IsTrue (states old).told → UnlessDisk refusal (LandsAsBefore (states old).shape.size (lands old) (lands new))

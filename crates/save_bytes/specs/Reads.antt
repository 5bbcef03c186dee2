-- What a call of a space leaves that only reads.
use Rattle.std.specs.Prelude.{ℕ, IsTrue, Option}
use Rattle.save_bytes.specs.declared.space.Bad.{Bad}
use Rattle.save_bytes.specs.State.{State}
use Rattle.save_bytes.specs.Refusals.{UnlessDisk}
use Rattle.save_bytes.specs.Stays.{Stays}
use Rattle.save_bytes.specs.Spots.{Spot, Sector, Frame, LandsAsBefore}

-- No cell changes. No sector is written in which nothing was unwritten, whatever is told; and where the cells are told,
-- each spot is left alone, and a later put touches none that it would not have touched before.
pub record Reads {A : Type 0} (states : A → State) (keeps : Spot → A → A → Type 0) (lands : A → ℕ → Spot → Type 0)
    (old new : A) (refusal : Option Bad) : Type 0 where
  pub stays : Stays (states old) (states new) refusal
  pub frame : keeps Frame old new
  pub sectors : (number : ℕ) → keeps (Sector number) old new
  pub spots : IsTrue (states old).told → (spot : Spot) → keeps spot old new
  pub reach : IsTrue (states old).told → UnlessDisk refusal (LandsAsBefore (states old).shape.size (lands old) (lands new))

-- Calls of a space one after another that only read, and calls that write some cells.
use Rattle.std.proofs.Common.{◌≡◌, ℕ, Option, Some, None, Result, Ok, Err, IfOk, ap, arith}
use Rattle.save_bytes.specs.declared.space.Bad.{Bad}
use Rattle.save_bytes.specs.declared.space.Bad.TheVariants.{Damaged}
use Rattle.save_bytes.specs.State.{Shape, State}
use Rattle.save_bytes.specs.Refusals.{UnlessDisk}
use Rattle.save_bytes.specs.Spots.{Spot, Sector, Frame, LandsAsBefore}
use Rattle.save_bytes.specs.Reads.{Reads}
use Rattle.save_bytes.proofs.SpaceLemmas.{UnlessDisk-map, Stays-same, Stays-join}

module _ {A : Type 0} (states : A → State) (keeps : Spot → A → A → Type 0) (lands : A → ℕ → Spot → Type 0) where
  -- before the first call
  pub Reads-same : ((spot : Spot) (s : A) → keeps spot s s) → (s : A) → Reads states keeps lands s s None
  Reads-same same s = record {
    stays = Stays-same (states s);
    frame = same Frame s;
    sectors = λ number. same (Sector number) s;
    spots = λ told spot. same spot s;
    reach = λ told x below spot lands. lands;
  }

  -- a call that was refused for a damaged cell left what one leaves that was not
  pub Reads-done : (s t : A) (part level block : ℕ) → Reads states keeps lands s t (Some (Damaged part level block))
      → Reads states keeps lands s t None
  Reads-done s t part level block h = record {
    stays = record {
      space = record { shape = h.stays.space.shape; faults = h.stays.space.faults; cause = tt; told = h.stays.space.told; twins = h.stays.space.twins };
      cells = h.stays.cells;
    };
    frame = h.frame;
    sectors = h.sectors;
    spots = h.spots;
    reach = h.reach;
  }

  module _ (join : (spot : Spot) (s t u : A) → keeps spot s t → keeps spot t u → keeps spot s u) where
    reach-join : (s t u : A) (refusal : Option Bad) → (states t).shape ≡ (states s).shape
        → LandsAsBefore (states s).shape.size (lands s) (lands t)
        → UnlessDisk refusal (LandsAsBefore (states t).shape.size (lands t) (lands u))
        → UnlessDisk refusal (LandsAsBefore (states s).shape.size (lands s) (lands u))
    reach-join s t u refusal shape first =
        let size : (states t).shape.size ≡ (states s).shape.size = ap (λ (shape : Shape). shape.size) shape in
        UnlessDisk-map refusal (λ (later : LandsAsBefore (states t).shape.size (lands t) (lands u)). λ x below spot lands_u.
        first x below spot (later x (omega arith) spot lands_u))

    -- a call behind a call
    pub Reads-join : (s t u : A) (refusal : Option Bad) → Reads states keeps lands s t None → Reads states keeps lands t u refusal
        → Reads states keeps lands s u refusal
    Reads-join s t u refusal h k = record {
      stays = Stays-join (states s) (states t) (states u) refusal h.stays k.stays;
      frame = join Frame s t u h.frame k.frame;
      sectors = λ number. join (Sector number) s t u (h.sectors number) (k.sectors number);
      spots = λ told spot. join spot s t u (h.spots told spot) (k.spots (h.stays.space.told told) spot);
      reach = λ told. reach-join s t u refusal h.stays.space.shape (h.reach told) (k.reach (h.stays.space.told told));
    }

-- the same, where the spaces and their relations are found in both
pub reads_then : {A : Type 0} {states : A → State} {keeps : Spot → A → A → Type 0}
    {lands : A → ℕ → Spot → Type 0} {s t u : A} {refusal : Option Bad} → ((spot : Spot) (s t u : A) → keeps spot s t → keeps spot t u → keeps spot s u)
    → Reads states keeps lands s t None → Reads states keeps lands t u refusal → Reads states keeps lands s u refusal
reads_then join h k = Reads-join _ _ _ join _ _ _ _ h k

-- facts of a result
pub IfOk-map : {A E : Type 0} {P Q : A → Type 0} (r : Result A E) → ((value : A) → P value → Q value) → IfOk r P → IfOk r Q
IfOk-map (Ok value) f p = f value p
IfOk-map (Err e) f p = tt

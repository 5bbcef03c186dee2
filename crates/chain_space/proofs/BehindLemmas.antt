-- What calls of the base leave, as what calls of the space that holds it leave.
use Rattle.std.proofs.Common.{◌≡◌, ℕ, Option}
use Rattle.save_bytes.specs.declared.space.Bad.{Bad}
use Rattle.save_bytes.specs.State.{State}
use Rattle.save_bytes.specs.Spots.{Spot}
use Rattle.save_bytes.specs.Reads.{Reads}
use Rattle.chain_space.specs.declared.behind.ChainSpace.{ChainSpace}
use Rattle.chain_space.specs.Shown.{ShownLands}
use Rattle.chain_space.specs.ShownLaws.{CanShow, with_blocks}
use Rattle.chain_space.proofs.ViewLemmas.{view_reads}

module _ {S : Type 0} (states : S → State) (keeps : Spot → S → S → Type 0) (lands : S → ℕ → Spot
    → Type 0) (old new : ChainSpace S) where
  -- a call that only reads
  pub behind_reads : (refusal : Option Bad) → CanShow (states old.base.now).shape old.shown.info old.shown.blocks
      → (new.base.ghost_name ≡ old.base.ghost_name) → (same : new.shown ≡ old.shown)
      → Reads states keeps lands old.base.now new.base.now refusal
      → Reads (λ (v : ChainSpace S). with_blocks v.shown (states v.base.now))
      (λ spot (s t : ChainSpace S). (t.base.ghost_name ≡ s.base.ghost_name) ×
      (t.shown ≡ s.shown) × keeps spot s.base.now t.base.now)
      (λ (v : ChainSpace S). ShownLands states lands v.shown.info v.shown.first v.base.now) old new refusal
  behind_reads refusal room name same reads =
      let h = view_reads states keeps lands old.base.now new.base.now old.shown.info old.shown.first old.shown.blocks
      room refusal reads in
      record {
        stays = rw same h.stays;
        frame = (name, same, h.frame);
        sectors = λ number. (name, same, h.sectors number);
        spots = λ told spot. (name, same, h.spots told spot);
        reach = λ told. rw same (h.reach told);
      }

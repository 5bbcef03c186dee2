-- What calls of a base leave, as what calls of the space leave that holds it, and the other way round.
use Rattle.std.proofs.Common.{◌≡◌, ℕ, ◌+◌, ◌≤◌, List, length, Option, sym, subst}
use Rattle.save_bytes.specs.declared.space.Bad.{Bad}
use Rattle.save_bytes.specs.State.{State, CanPut}
use Rattle.save_bytes.specs.Refusals.{UnlessDisk, IfDone}
use Rattle.save_bytes.specs.Puts.{HasPut, Puts}
use Rattle.save_bytes.specs.Within.{ChangesWithin}
use Rattle.save_bytes.proofs.SpaceLemmas.{IfDone-map}
use Rattle.save_bytes.specs.Stays.{Stays}
use Rattle.save_bytes.specs.Spots.{Spot, LandsAsBefore}
use Rattle.save_bytes.specs.Reads.{Reads}
use Rattle.chain_space.specs.declared.laid.BlocksSpace.{BlocksSpace}
use Rattle.chain_space.specs.Laid.{Extra, IsLaidSite, laid_state, LaidLands, CanLay}
use Rattle.chain_space.specs.LaidHeld.{extra_in, laid}
use Rattle.chain_space.proofs.LaidLemmas.{laid_reads, laid_back, laid_changes}

module _ {S : Type 0} (states : S → State) (keeps : Spot → S → S → Type 0) (lands : S → ℕ → Spot
    → Type 0) (old new : BlocksSpace S) where
  -- how the space with the blocks keeps a spot, and where puts into it land
  abbrev LaidKeeps : Spot → BlocksSpace S → BlocksSpace S → Type 0
  LaidKeeps spot s t = (t.base.ghost_name ≡ s.base.ghost_name) ×
      (extra_in t ≡ extra_in s) × keeps spot s.base.now t.base.now

  abbrev HeldLands : BlocksSpace S → ℕ → Spot → Type 0
  HeldLands v = LaidLands states lands (extra_in v) v.base.now

  abbrev LandsLater : Option Bad → (ℕ → Spot → Type 0) → Type 0
  LandsLater refusal later = UnlessDisk refusal (LandsAsBefore (laid states old).shape.size (HeldLands old) later)

  -- a call that only reads
  pub held_reads : (refusal : Option Bad) → CanLay (extra_in old) (states old.base.now).shape
      → (new.base.ghost_name ≡ old.base.ghost_name) → extra_in new ≡ extra_in old
      → Reads states keeps lands old.base.now new.base.now refusal
      → Reads (laid states) LaidKeeps HeldLands old new refusal
  held_reads refusal room name same reads =
      let h = laid_reads states keeps lands (extra_in old) old.base.now new.base.now room refusal reads in
      record {
        stays = subst (λ (e : Extra). Stays (laid states old) (laid_state e (states new.base.now)) refusal)
            (sym same) h.stays;
        frame = (name, same, h.frame);
        sectors = λ number. (name, same, h.sectors number);
        spots = λ told spot. (name, same, h.spots told spot);
        reach = λ told. subst (λ (e : Extra). LandsLater refusal (LaidLands states lands e new.base.now)) (sym same)
            (h.reach told);
      }

  -- what only read the space has only read its base
  pub base_reads : (refusal : Option Bad) → CanLay (extra_in old) (states old.base.now).shape
      → (states new.base.now).shape ≡ (states old.base.now).shape
      → Reads (laid states) LaidKeeps HeldLands old new refusal
      → Reads states keeps lands old.base.now new.base.now refusal
  base_reads refusal room shape h =
      let same = h.frame.1 in
      laid_back states keeps lands (extra_in old) old.base.now new.base.now room shape refusal (record {
        stays = subst (λ (e : Extra). Stays (laid states old) (laid_state e
            (states new.base.now)) refusal) same h.stays;
        frame = h.frame.2;
        sectors = λ number. (h.sectors number).2;
        spots = λ told spot. (h.spots told spot).2;
        reach = λ told. subst (λ (e : Extra). LandsLater refusal (LaidLands states lands e new.base.now)) same
            (h.reach told);
      })

  -- what a put into the space changes in its base: the places of the bytes, and no other but that blank cells soften
  pub base_changes : (refusal : Option Bad) → CanLay (extra_in old) (states old.base.now).shape
      → (states new.base.now).shape ≡ (states old.base.now).shape → extra_in new ≡ extra_in old → (at : ℕ)
      → (bytes : List ℕ) → at + length bytes ≤ (laid states old).shape.size
      → Puts (laid states old) at bytes (laid states new) refusal → CanPut (laid states old) at (length bytes)
      → IfDone refusal (ChangesWithin (states old.base.now)
      (IsLaidSite (extra_in old) (states old.base.now).shape.size at (length bytes)) (states new.base.now).cells)
  base_changes refusal room shape same at bytes fits puts can =
      IfDone-map refusal (λ (put : HasPut (laid states old) at bytes (laid states new).cells).
      laid_changes (extra_in old) (states old.base.now) (states new.base.now) room shape at bytes fits
      (subst (λ (e : Extra). HasPut (laid states old) at bytes (laid_state e (states new.base.now)).cells) same put))
      (puts.done can)

-- What a lent piece shows, and what it leaves.
use Rattle.std.proofs.Common.{◌≡◌, ℕ, ◌+◌, List, IsTrue, Some, None, Ok, refl, sym, ◌∙◌, ap, subst, arith}
use Rattle.std.specs.Borrow.{Bor}
use Rattle.save_bytes.specs.declared.space.Bad.TheVariants.{Disk}
use Rattle.save_bytes.specs.Cells.{Byte}
use Rattle.save_bytes.specs.Answers.{IsPiece}
use Rattle.save_bytes.specs.Refusals.{Rose}
use Rattle.save_bytes.specs.Stays.{Stays}
use Rattle.save_bytes.specs.Reads.{Reads}
use Rattle.save_bytes.specs.Spots.{Spot, Place, Sector, Frame}
use Rattle.save_disk.specs.State as disks
use Rattle.save_disk.specs.Tells.{tells}
use Rattle.page_image.specs.declared.state.ImageState.{ImageState}
use Rattle.page_image.specs.declared.image.Image.{Image}
use Rattle.page_image.specs.Images.{IsHeldPiece, image_state}
use Rattle.page_image.specs.Spots.{LeavesTold, IsToldFor, ImageLands}
use Rattle.page_image.specs.Held.{shown, SameImageView, ImageKeeps}
use Rattle.page_image.specs.Laws.{SameImage-shape}

-- held bytes are a piece of the space
pub image_piece : (d : disks.State) (i : ImageState) (at most : ℕ) (piece : Bor (List ℕ))
    → IsHeldPiece d i at most piece.now
    → IsPiece (image_state d i) at most (Ok piece)
image_piece d i at most piece held = record {
  some = held.some;
  bounded = held.bounded;
  inside = held.inside;
  bytes = λ told k within. ap Byte (sym (held.bytes k within));
  damaged = λ told. tt;
  plain = λ plain. tt;
}

-- and a piece of the space before the page was brought
pub brought_piece : (d e : disks.State) (i j : ImageState) (at most : ℕ) (piece : Bor (List ℕ)) → LeavesTold d i e j
    → IsHeldPiece e j at most piece.now
    → IsPiece (image_state d i) at most (Ok piece)
brought_piece d e i j at most piece leaves held = record {
  some = held.some;
  bounded = held.bounded;
  inside = omega (arith, held.inside, (leaves Frame tt).0.len);
  bytes = λ told k within.
      ap Byte (sym (held.bytes k within
      ∙ ((leaves (Place (at + k)) told).1 (omega (arith, held.inside, (leaves Frame tt).0.len))).0));
  damaged = λ told. tt;
  plain = λ plain. tt;
}

-- a call that brings a page leaves the space as it is
module _ (d e : disks.State) (i j : ImageState) (leaves : LeavesTold d i e j) where
  pub brought_stays : tells e ≡ tells d → Stays (image_state d i) (image_state e j) None
  brought_stays told = record {
    space = record {
      shape = SameImage-shape d e i j (leaves Frame tt).0;
      faults = (leaves Frame tt).0.steady.disk;
      cause = tt;
      told = λ is. told ∙ is;
      twins = λ is. record { bottom = λ x h. refl; is_fixed = λ x h. refl };
    };
    cells = λ is x below. ap Byte ((leaves (Place x) is).1 below).0;
  }

  pub failed_stays : Rose d.counts.disk e.counts.disk → Stays (image_state d i) (image_state e j) (Some Disk)
  failed_stays rose = record {
    space = record {
      shape = SameImage-shape d e i j (leaves Frame tt).0;
      faults = (leaves Frame tt).0.steady.disk;
      cause = rose;
      told = λ is. tt;
      twins = λ is. tt;
    };
    cells = λ is. tt;
  }

-- where each read is told, each spot is
pub asked : (d : disks.State) → IsTrue (tells d) → (spot : Spot) → IsToldFor spot d
asked d is (Place x) = is
asked d is other = tt

-- and so it reads
module _ {D : Type 0} (states : D → disks.State) (s t : Image D) (same : SameImageView s t)
    (leaves : LeavesTold (states s.disk.now) s.image.now (states t.disk.now) t.image.now) where
  pub reads_done : tells (states t.disk.now) ≡ tells (states s.disk.now)
      → Reads (shown states) (ImageKeeps states) (λ view. ImageLands view.image.now.grain) s t None
  reads_done told = record {
    stays = brought_stays (states s.disk.now) (states t.disk.now) s.image.now t.image.now leaves told;
    frame = (same, leaves Frame tt);
    sectors = λ number. (same, leaves (Sector number) tt);
    spots = λ is spot. (same, leaves spot (asked (states s.disk.now) is spot));
    reach = λ is x below spot. subst (λ (grain : ℕ). ImageLands grain x spot) (leaves Frame tt).0.grain;
  }

  pub reads_failed : Rose (states s.disk.now).counts.disk (states t.disk.now).counts.disk
      → Reads (shown states) (ImageKeeps states) (λ view. ImageLands view.image.now.grain) s t (Some Disk)
  reads_failed rose = record {
    stays = failed_stays (states s.disk.now) (states t.disk.now) s.image.now t.image.now leaves rose;
    frame = (same, leaves Frame tt);
    sectors = λ number. (same, leaves (Sector number) tt);
    spots = λ is spot. (same, leaves spot (asked (states s.disk.now) is spot));
    reach = λ is. tt;
  }

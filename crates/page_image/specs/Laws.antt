-- The laws of a space, of an image.
use Rattle.std.specs.Prelude.{◌≡◌, ◌≢◌, ℕ, ◌^◌, ◌<◌, Bool, Option, Some, None, MatchOption, refl, ⊤}
use Rattle.std.proofs.Common.{◌∙◌, arith, ⊎_elim}
use Rattle.std.proofs.lemmas.Bool.{cases_Bool}
use Rattle.save_bytes.specs.Spots.{Spot, Place, Sector}
use Rattle.save_disk.specs.Trace.{Told}
use Rattle.save_disk.specs.State as disks
use Rattle.save_disk.specs.Writes.{WritesOnly}
use Rattle.save_disk.proofs.Telling.{steady_start, steady_join}
use Rattle.save_disk.proofs.Growth.{WritesOnly-quiet, WritesOnly-join, WritesTo-first, WritesTo-later}
use Rattle.page_image.specs.declared.state.ImageState.{ImageState}
use Rattle.page_image.specs.declared.image.Image.{Image}
use Rattle.page_image.specs.Images.{byte_of, is_changed, is_disk_of, shape_of, image_state}
use Rattle.page_image.specs.Spots.{SameImage, SameImageSpot, Leaves}
use Rattle.save_disk.specs.Keeps.{HoldsAt}
use Rattle.page_image.specs.Held.{ImageKeeps}

pub image_size_fits : (d : disks.State) (image : ImageState) → (image_state d image).shape.size < 2 ^ 64
image_size_fits d image = omega (arith, image.layout.most)

pub SameImage-same : (d : disks.State) (image : ImageState) → SameImage d image d image
SameImage-same d image = record {
  len = refl;
  grain = refl;
  frames = refl;
  steady = steady_start d;
  writes = WritesOnly-quiet (λ sector bytes. ⊤) d d refl;
  sound = refl;
  pending = λ sector changed clean. absurd (cc);
}

-- of the sector's reads as much is told
abbrev pub SureFrom : ℕ → Option Told → Option Told → Type 0
SureFrom number o p = MatchOption o (p ≡ None)
    (λ told. (next : Told) × (p ≡ Some next) × (next.sure number ≡ told.sure number))

pub sure_start : (number : ℕ) (o : Option Told) → SureFrom number o o
sure_start number None = refl
sure_start number (Some told) = (told, refl, refl)

sure_then : (number : ℕ) (o p q : Option Told) → SureFrom number o p → SureFrom number p q → SureFrom number o q
sure_then number None p q h k = rw h at k
sure_then number (Some told) p q (next, is, same) k = let later = rw is at k in (later.0, later.1, later.2 ∙ same)

pub SameImageSpot-same : (spot : Spot) (d : disks.State) (image : ImageState) → SameImageSpot spot d image d image
SameImageSpot-same (Place x) d image = λ inside.
    (refl, WritesOnly-quiet (HoldsAt image.grain x (byte_of d image x)) d d refl)
SameImageSpot-same (Sector number) d image = λ clean.
    (clean, WritesOnly-quiet (λ sector bytes. sector ≢ number) d d refl, sure_start number d.told)
SameImageSpot-same other d image = tt

pub Leaves-same : (spot : Spot) (d : disks.State) (image : ImageState) → Leaves spot d image d image
Leaves-same spot d image = (SameImage-same d image, SameImageSpot-same spot d image)

pub ImageKeeps-same : {D : Type 0} (states : D → disks.State) (spot : Spot) (s : Image D) → ImageKeeps states spot s s
ImageKeeps-same states spot s =
    (record { same_image = refl; same_disk = refl }, Leaves-same spot (states s.disk.now) s.image.now)

-- the same of another grain and byte that are equal to these
pub holds_as : (x : ℕ) (e f : disks.State) (grain other byte same : ℕ) → grain ≡ other → byte ≡ same
    → WritesOnly (HoldsAt grain x byte) e f → WritesOnly (HoldsAt other x same) e f
holds_as x e f grain other byte same p q writes = rw (← p, ← q) writes

module _ (d e f : disks.State) (i j k : ImageState) where
  pub SameImage-join : SameImage d i e j → SameImage e j f k → SameImage d i f k
  SameImage-join h g = record {
    len = g.len ∙ h.len;
    grain = g.grain ∙ h.grain;
    frames = g.frames ∙ h.frames;
    steady = steady_join d e f h.steady g.steady;
    writes = WritesOnly-join (λ sector bytes. ⊤) d e f h.writes g.writes;
    sound = g.sound ∙ h.sound;
    pending = λ sector changed clean.
        ⊎_elim
        (λ still. WritesTo-later sector (λ number bytes. ⊤) d e f h.writes (g.pending sector still clean))
        (λ written. WritesTo-first sector (λ number bytes. ⊤) d e f (h.pending sector changed written) g.writes)
        (cases_Bool (is_changed j sector));
  }

  pub SameImageSpot-join : (spot : Spot) → j.len ≡ i.len → j.grain ≡ i.grain → SameImageSpot spot d i e j
      → SameImageSpot spot e j f k
      → SameImageSpot spot d i f k
  SameImageSpot-join (Place x) len grain h g = λ inside.
      let first = h inside in
      let below : x < j.len = rw len inside in
      let second = g below in
      let later = holds_as x e f j.grain i.grain (byte_of e j x) (byte_of d i x) grain first.0 second.1 in
      (second.0 ∙ first.0, WritesOnly-join (HoldsAt i.grain x (byte_of d i x)) d e f first.1 later)
  SameImageSpot-join (Sector number) len grain h g = λ clean.
      let first = h clean in
      let second = g first.0 in (
        second.0,
        WritesOnly-join (λ sector bytes. sector ≢ number) d e f first.1 second.1,
        sure_then number d.told e.told f.told first.2 second.2,
      )
  SameImageSpot-join other len grain h g = tt

  pub Leaves-join : (spot : Spot) → Leaves spot d i e j → Leaves spot e j f k → Leaves spot d i f k
  Leaves-join spot h g = (SameImage-join h.0 g.0, SameImageSpot-join spot h.0.len h.0.grain h.1 g.1)

pub ImageKeeps-join : {D : Type 0} (states : D → disks.State) (spot : Spot) (s t u : Image D)
    → ImageKeeps states spot s t → ImageKeeps states spot t u → ImageKeeps states spot s u
ImageKeeps-join states spot s t u h g = (
  record { same_image = g.0.same_image ∙ h.0.same_image; same_disk = g.0.same_disk ∙ h.0.same_disk },
  Leaves-join (states s.disk.now) (states t.disk.now) (states u.disk.now) s.image.now t.image.now u.image.now spot h.1
      g.1,
)

-- a call leaves what no call changes
pub SameImage-shape : (d e : disks.State) (i j : ImageState) → SameImage d i e j
    → (image_state e j).shape ≡ (image_state d i).shape
SameImage-shape d e i j same = same_shape j.len i.len (is_disk_of e j) (is_disk_of d i) same.len same.sound
  where
    same_shape : (m n : ℕ) (a b : Bool) → m ≡ n → a ≡ b → shape_of m a ≡ shape_of n b
    same_shape m n a b len sound = rw (len, sound) refl

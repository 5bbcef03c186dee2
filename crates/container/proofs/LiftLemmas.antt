-- What a call on one part of an open image is, seen as a call on all of them.
use Rattle.std.proofs.Common.{◌≡◌, ◌≢◌, ℕ, ◌+◌, ◌^◌, ◌<◌, ◌≤◌, IsTrue, List, length, Option, Some, None, ◌∙◌}
use Rattle.std.proofs.Common.{ap, subst, arith, ⊎_elim}
use Rattle.std.proofs.lemmas.Bool.{cases_eq}
use Rattle.save_bytes.specs.declared.space.Bad.{Bad}
use Rattle.save_bytes.specs.Cells.{Byte}
use Rattle.save_bytes.specs.Writes.{IsWithin}
use Rattle.save_bytes.specs.State.{State, CanPut}
use Rattle.save_bytes.specs.Extents.{AreApart}
use Rattle.save_bytes.specs.Refusals.{Rose, OnDisk, UnlessDisk}
use Rattle.save_bytes.specs.Stays.{SameSpace, Stays}
use Rattle.save_bytes.specs.Spots.{Spot, Place, Mark, Hold, Misses, LandsAsBefore, MovesOnly}
use Rattle.save_bytes.proofs.SpaceLemmas.{UnlessDisk-always}
use Rattle.save_disk.specs.State as disks
use Rattle.dpfs_tree.specs.Picks.{bytes_of}
use Rattle.page_image.specs.declared.image.Image.{Image}
use Rattle.page_image.specs.Images.{image_state}
use Rattle.page_image.specs.Laws.{image_size_fits, SameImage-shape}
use Rattle.page_image.specs.Spots.{Leaves, ImageLands}
use Rattle.page_image.specs.Held.{ImageKeeps}
use Rattle.page_image.specs.Held.{shown as shown_image}
use Rattle.part_store.specs.declared.part.Part.{Part}
use Rattle.part_store.specs.Parts.{CanViewPart, part_state}
use Rattle.part_store.specs.Spots.{SamePart, PartSpot, PartLands}
use Rattle.container.specs.Parts.{SameSecond}
use Rattle.container.specs.Stores.{are_two, taken_of, state_of}
use Rattle.container.specs.Overs.{Over, over_state, OverKeeps, over_lands}
use Rattle.container.specs.StoreLaws.{part_shape, same_two, joined_shape}
use Rattle.container.proofs.TakenLemmas.{IsLeft, lands_within, taken_fits, left_stays, left_lands, tree_there}

-- the shape, the faults and their cause, whatever is told
module _ (base new : State) (table later : List ℕ) (refusal : Option Bad) (shape : new.shape ≡ base.shape)
    (kept : later ≡ table) (faults : base.faults ≤ new.faults) (cause : OnDisk refusal (Rose base.faults new.faults)) where
  pub store_space : (first next : Part) (second after : Option Part) → SamePart first next
      → SameSecond SamePart second after
      → SameSpace ⊥ (state_of base first second table) (state_of new next after later) refusal
  store_space first next None None same other = record {
    shape = part_shape base new first next table later shape same kept;
    faults = faults;
    cause = cause;
    told = λ none. absurd none;
    twins = λ none. absurd none;
  }
  store_space first next (Some second) (Some after) same other = record {
    shape = joined_shape (are_two first second) (are_two next after) (part_state base first table)
        (part_state base second table) (part_state new next later) (part_state new after later)
        (same_two first second next after same other)
        (part_shape base new first next table later shape same kept)
        (part_shape base new second after table later shape other kept);
    faults = faults;
    cause = cause;
    told = λ none. absurd none;
    twins = λ none. absurd none;
  }
  store_space first next None (Some after) same other = absurd other
  store_space first next (Some second) None same other = absurd other

-- the image as a call on a part sees it
module _ {D : Type 0} (states : D → disks.State) where
  abbrev pub image_lands : Image D → ℕ → Spot → Type 0
  image_lands view = ImageLands view.image.now.grain

  abbrev pub ImageOverKeeps : Spot → Over (Image D) → Over (Image D) → Type 0
  ImageOverKeeps = OverKeeps (ImageKeeps states)

  abbrev pub image_over_lands : Over (Image D) → ℕ → Spot → Type 0
  image_over_lands = over_lands (shown_image states) image_lands

  abbrev pub image_over : Over (Image D) → State
  image_over = over_state (shown_image states)

  abbrev pub image_of : Image D → State
  image_of view = image_state (states view.disk.now) view.image.now

  -- a call on a part
  module _ (v w : Over (Image D)) (can_view : CanViewPart (image_of v.base).shape v.part (length v.table)) where
    small : (image_of v.base).shape.size < 2 ^ 64
    small = image_size_fits (states v.base.disk.now) v.base.image.now

    -- leaves the bytes that the part doesn't take, if it puts
    byte_left : (at n : ℕ) (refusal : Option Bad) → MovesOnly ImageOverKeeps image_over_lands (image_over v) v at n w refusal
        → CanPut (image_over v) at n → (y : ℕ) → y < v.base.image.now.len
        → ¬ IsWithin v.part.at (taken_of v.part).size y → (image_of w.base).cells y ≡ (image_of v.base).cells y
    byte_left at n refusal moves can y below out =
        let tree = tree_there (image_of v.base) (image_of w.base) v.part v.table small can_view in
        let left = moves.spots can (Place y)
        (λ k less there. out (lands_within (image_of v.base).shape v.part v.part.dpfs.selector tree
        (bytes_of (image_of v.base).cells) v.base.image.now.grain (at + k) y there)) in
        ap Byte (left.3.1.1 below).0

    -- so it leaves those of another part
    pub other_left : (other : Part) → CanViewPart (image_of v.base).shape other (length v.table)
        → AreApart (taken_of v.part) (taken_of other) → (at n : ℕ) (refusal : Option Bad)
        → MovesOnly ImageOverKeeps image_over_lands (image_over v) v at n w refusal
        → CanPut (image_over v) at n → IsLeft (image_of v.base) (image_of w.base) other
    other_left other view apart at n refusal moves can y there =
        let tree = tree_there (image_of v.base) (image_of w.base) other v.table small view in
        let fits = taken_fits (image_of v.base).shape other other.dpfs.selector tree in
        byte_left at n refusal moves can y (omega (arith, there.1, fits))
        (λ here. apart y here.0 here.1 there.0 there.1)

    -- and all of them, if it reads
    pub all_left : (other : Part) → CanViewPart (image_of v.base).shape other (length v.table)
        → ((spot : Spot) → ImageOverKeeps spot v w) → IsLeft (image_of v.base) (image_of w.base) other
    all_left other view kept y there =
        let tree = tree_there (image_of v.base) (image_of w.base) other v.table small view in
        let fits = taken_fits (image_of v.base).shape other other.dpfs.selector tree in
        ap Byte ((kept (Place y)).3.1.1 (omega (arith, there.1, fits))).0

    -- the cells of another part stay then
    pub other_stays : (other : Part) → CanViewPart (image_of v.base).shape other (length v.table)
        → (refusal : Option Bad) → ImageOverKeeps Hold v w → (image_of v.base).faults ≤ (image_of w.base).faults
        → OnDisk refusal (Rose (image_of v.base).faults (image_of w.base).faults)
        → UnlessDisk refusal (IsTrue (image_of w.base).told) → IsLeft (image_of v.base) (image_of w.base) other
        → Stays (part_state (image_of v.base) other v.table) (part_state (image_of w.base) other w.table) refusal
    other_stays other view refusal hold faults cause told left =
        rw hold.1
        (left_stays (image_of v.base) (image_of w.base) other v.table small view refusal
        (SameImage-shape (states v.base.disk.now) (states w.base.disk.now) v.base.image.now w.base.image.now hold.3.1.0)
        faults cause (λ is. told) (λ is. UnlessDisk-always refusal left))

    -- and a put into it lands where it would have landed
    pub other_lands : (other : Part) → CanViewPart (image_of v.base).shape other (length v.table) → ImageOverKeeps Hold v w
        → IsLeft (image_of v.base) (image_of w.base) other
        → LandsAsBefore other.difi.ivfc4.size (PartLands (bytes_of (image_of v.base).cells) (image_lands v.base) other)
        (PartLands (bytes_of (image_of w.base).cells) (image_lands w.base) other)
    other_lands other view hold left =
        left_lands (image_of v.base) (image_of w.base) other v.table small view left (image_lands v.base) (image_lands w.base)
        (λ x below spot. subst (λ (grain : ℕ). ImageLands grain x spot) hold.3.1.0.grain)

    -- a put into the part itself too
    pub own_lands : SamePart v.part w.part
        → LandsAsBefore v.part.difi.ivfc4.size (image_over_lands v) (image_over_lands w)
        → LandsAsBefore v.part.difi.ivfc4.size (PartLands (bytes_of (image_of v.base).cells) (image_lands v.base) v.part)
        (PartLands (bytes_of (image_of w.base).cells) (image_lands w.base) w.part)
    own_lands same before x below (Mark number level block) (own, there) =
        (own ∙ same.number, before x below (Mark number level block) there)
    own_lands same before x below spot there = before x below spot there

    -- a spot that the call leaves, or a mark of no block of the part
    pub spot_left : (spot : Spot) (at n : ℕ) → ImageOverKeeps Hold v w
        → (Misses (image_over_lands v) at n spot → ImageOverKeeps spot v w)
        → ((k : ℕ) → k < n → ¬ PartLands (bytes_of (image_of v.base).cells) (image_lands v.base) v.part (at + k) spot)
        → PartSpot spot v.part w.part
        × Leaves spot (states v.base.disk.now) v.base.image.now (states w.base.disk.now) w.base.image.now
    spot_left (Mark number level block) at n hold left misses =
        ⊎_elim
        (λ (own : number ≡ v.part.number).
        let kept = left (λ k less there. misses k less (own, there)) in (kept.2, kept.3.1))
        (λ (foreign : number ≢ v.part.number). (λ own. absurd (foreign own), (hold.3.1.0, tt)))
        (cases_eq number v.part.number)
    spot_left spot at n hold left misses =
        let kept = left (λ k less there. misses k less there) in (kept.2, kept.3.1)

-- The laws on the spots of a partition.
use Rattle.std.proofs.Common.{◌≡◌, ℕ, refl, sym, ◌∙◌, ap}
use Rattle.difi.specs.declared.descriptor.Difi.{Difi}
use Rattle.save_bytes.specs.Spots.{Spot, Mark, Frame, LandsAsBefore}
use Rattle.save_bytes.specs.State.{Shape, State}
use Rattle.save_bytes.specs.Stays.{SameCells}
use Rattle.dpfs_tree.specs.declared.state.DpfsState.{DpfsState}
use Rattle.dpfs_tree.specs.Picks.{bytes_of}
use Rattle.dpfs_tree.specs.View.{HasContents, can_view_contents}
use Rattle.dpfs_tree.specs.Held.{ContentsLand}
use Rattle.dpfs_tree.specs.SameLaws.{lands_as_before}
use Rattle.ivfc_tree.specs.declared.state.IvfcState.{IvfcState}
use Rattle.ivfc_tree.specs.Marks.{AsManyMarks, IsMadeFor}
use Rattle.ivfc_tree.specs.ViewLaws.{is_made_for-true, true-is_made_for}
use Rattle.ivfc_tree.specs.View.{HasLevels}
use Rattle.ivfc_tree.specs.Held.{HashLands}
use Rattle.ivfc_tree.specs.KeepLaws.{is_made_for-many, AsManyMarks-same, AsManyMarks-join, HashLands-before}
use Rattle.part_store.specs.declared.part.Part.{Part}
use Rattle.part_store.specs.Parts.{contents_of, can_view_part}
use Rattle.part_store.specs.Spots.{SamePart, KeepsPuts, KeepsMarks, PartSpot, PartLands}

pub SamePart-same : (part : Part) → SamePart part part
SamePart-same part = record {
  number = refl;
  place = refl;
  descriptor = refl;
  selector = refl;
  copies = refl;
  hashes = AsManyMarks-same part.ivfc;
}

KeepsPuts-same : (state : IvfcState) → KeepsPuts state state
KeepsPuts-same state = record { many = AsManyMarks-same state; marks = λ level block. refl }

KeepsPuts-join : (a b c : IvfcState) → KeepsPuts a b → KeepsPuts b c → KeepsPuts a c
KeepsPuts-join a b c h k =
    record {
      many = AsManyMarks-join a b c h.many k.many;
      marks =
          λ level block. k.marks level block ∙ h.marks level block;
    }

pub KeepsMarks-same : (part : Part) → KeepsMarks part part
KeepsMarks-same part =
    record { number = refl; place = refl; descriptor = refl; copies = refl; hashes = KeepsPuts-same part.ivfc }

pub KeepsMarks-join : (a b c : Part) → KeepsMarks a b → KeepsMarks b c → KeepsMarks a c
KeepsMarks-join a b c h k = record {
  number = k.number ∙ h.number;
  place = k.place ∙ h.place;
  descriptor = k.descriptor ∙ h.descriptor;
  copies = k.copies ∙ h.copies;
  hashes = KeepsPuts-join a.ivfc b.ivfc c.ivfc h.hashes k.hashes;
}

-- where a part's cells hang on nothing that changed, it has as many marks, and each spot of it was left alone
pub KeepsMarks-part : (old new : Part) → KeepsMarks old new → SamePart old new
KeepsMarks-part old new kept = record {
  number = kept.number;
  place = kept.place;
  descriptor = kept.descriptor;
  selector = ap (λ (state : DpfsState). state.selector) kept.copies;
  copies = rw kept.copies refl;
  hashes = kept.hashes.many;
}

pub KeepsMarks-spot : (spot : Spot) (old new : Part) → KeepsMarks old new → PartSpot spot old new
KeepsMarks-spot (Mark number level block) old new kept = λ own.
    (λ here. rw kept.copies refl, λ here. kept.hashes.marks level block)
KeepsMarks-spot Frame old new kept = kept
KeepsMarks-spot spot old new kept = tt

pub PartSpot-same : (spot : Spot) (part : Part) → PartSpot spot part part
PartSpot-same (Mark number level block) part = λ own. (λ here. refl, λ here. refl)
PartSpot-same Frame part = KeepsMarks-same part
PartSpot-same spot part = tt

pub SamePart-join : (a b c : Part) → SamePart a b → SamePart b c → SamePart a c
SamePart-join a b c h k = record {
  number = k.number ∙ h.number;
  place = k.place ∙ h.place;
  descriptor = k.descriptor ∙ h.descriptor;
  selector = k.selector ∙ h.selector;
  copies = k.copies ∙ h.copies;
  hashes = AsManyMarks-join a.ivfc b.ivfc c.ivfc h.hashes k.hashes;
}

pub PartSpot-join : (spot : Spot) (a b c : Part) → SamePart a b → PartSpot spot a b → PartSpot spot b c → PartSpot spot a c
PartSpot-join (Mark number level block) a b c same h k = λ own.
    (let first = h own in
    let later = k (own ∙ sym same.number) in
    (λ here. later.0 here ∙ first.0 here, λ here. later.1 here ∙ first.1 here))
PartSpot-join Frame a b c same h k = KeepsMarks-join a b c h k
PartSpot-join spot a b c same h k = tt

-- a state that has as many marks is made for a tree as well
pub IsMadeFor-many : (difi : Difi) (old new : IvfcState) → AsManyMarks old new → IsMadeFor difi old → IsMadeFor difi new
IsMadeFor-many difi old new many made =
    true-is_made_for difi new (is_made_for-many difi old new many ∙ is_made_for-true difi old made)

-- and so does a part, over a base of the same shape
pub can_view_part-same : (base last : Shape) (old new : Part) (n : ℕ) → last ≡ base → SamePart old new
    → can_view_part last new n ≡ can_view_part base old n
unfolding can_view_part can_view_contents
can_view_part-same base last old new n shape same =
    rw (
      shape,
      same.place,
      same.descriptor,
      same.selector,
      same.copies,
      is_made_for-many old.difi old.ivfc new.ivfc
          same.hashes,
    ) refl

-- a put lands where it would have landed, where that is so in the base
module _ (base new : State) (part : Part) (tree : HasContents base.shape part.at part.difi part.dpfs.selector)
    (levels : HasLevels (contents_of base part).shape part.difi) (same : SameCells base new)
    (lands later : ℕ → Spot → Type 0) (as_before : LandsAsBefore base.shape.size lands later) where
  pub hashed_lands : LandsAsBefore part.difi.ivfc4.size
      (HashLands (ContentsLand (bytes_of base.cells) part.at part.difi part.dpfs.selector lands) part.difi)
      (HashLands (ContentsLand (bytes_of new.cells) part.at part.difi part.dpfs.selector later) part.difi)
  hashed_lands =
      HashLands-before (contents_of base part).shape part.difi levels _ _
      (lands_as_before base.shape part.at part.difi part.dpfs.selector tree (bytes_of base.cells) (bytes_of new.cells)
      (λ y h. rw (same y h) refl) lands later as_before)

  pub PartLands-before : LandsAsBefore part.difi.ivfc4.size (PartLands (bytes_of base.cells) lands part) (PartLands (bytes_of new.cells) later part)
  PartLands-before x below (Mark number level block) (own, there) = (own, hashed_lands x below (Mark number level block) there)
  PartLands-before x below spot there = hashed_lands x below spot there

-- nor do its marks change where a put lands
pub PartLands-same : (bytes : ℕ → ℕ) (lands : ℕ → Spot → Type 0) (old new : Part) → SamePart old new
    → (x : ℕ) (spot : Spot)
    → PartLands bytes lands new x spot → PartLands bytes lands old x spot
PartLands-same bytes lands old new same x (Mark number level block) (own, there) =
    (own ∙ same.number, rw (same.place, same.descriptor, same.selector) at there)
PartLands-same bytes lands old new same x spot there = rw (same.place, same.descriptor, same.selector) at there

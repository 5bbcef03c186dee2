-- The laws of a space on what is kept, of a view of a partition, where they hold of its base.
use Rattle.std.proofs.Common.{◌≡◌, ℕ, ◌^◌, ◌<◌, IsTrue, List, length, refl, ◌∙◌, arith}
use Rattle.save_bytes.specs.State.{State}
use Rattle.save_bytes.specs.Stays.{SameCells, SameTwins}
use Rattle.save_bytes.specs.Spots.{Spot, Mark, Frame, LandsAsBefore}
use Rattle.std.proofs.lemmas.Bool.{and_parts}
use Rattle.dpfs_tree.specs.Picks.{bytes_of}
use Rattle.dpfs_tree.specs.Held.{ContentsLand}
use Rattle.ivfc_tree.specs.Held.{HashLands}
use Rattle.ivfc_tree.specs.KeepLaws.{WhereKept}
use Rattle.dpfs_tree.specs.View.{HasContents}
use Rattle.dpfs_tree.specs.SameLaws.{view_cells as contents_same}
use Rattle.ivfc_tree.specs.View.{HasLevels, HasTree as HasHashes}
use Rattle.ivfc_tree.specs.ViewLaws.{level4_size, view_cells as hashed_same}
use Rattle.part_store.specs.declared.part.Part.{Part}
use Rattle.part_store.specs.declared.view.PartView.{PartView}
use Rattle.part_store.specs.Parts.{master_of, contents_of, part_state, CanViewPart}
use Rattle.part_store.specs.PartLaws.{contents_there, hashes_there, true-can_view_part}
use Rattle.part_store.specs.Spots.{SamePart, KeepsMarks}
use Rattle.part_store.specs.SpotLaws.{SamePart-same, SamePart-join, KeepsMarks-same, KeepsMarks-join}
use Rattle.part_store.specs.SpotLaws.{PartSpot-same, PartSpot-join}
use Rattle.part_store.specs.SpotLaws.{can_view_part-same, hashed_lands}
use Rattle.part_store.specs.Held.{part_lands, shown, SamePartView, PartOwn, PartKeeps}

module _ {S : Type 0} where
  SamePartView-same : (s : PartView S) → SamePartView s s
  SamePartView-same s =
      record {
        same_base = refl;
        same_part = refl;
        part = SamePart-same s.part.now;
        same_table = refl;
        table_len =
            refl;
      }

  SamePartView-join : (s t u : PartView S) → SamePartView s t → SamePartView t u → SamePartView s u
  SamePartView-join s t u h k = record {
    same_base = k.same_base ∙ h.same_base;
    same_part = k.same_part ∙ h.same_part;
    part = SamePart-join s.part.now t.part.now u.part.now h.part k.part;
    same_table = k.same_table ∙ h.same_table;
    table_len = k.table_len ∙ h.table_len;
  }

  PartOwn-same : (spot : Spot) (s : PartView S) → PartOwn spot s s
  PartOwn-same (Mark number level block) s = PartSpot-same (Mark number level block) s.part.now
  PartOwn-same Frame s = (KeepsMarks-same s.part.now, refl)
  PartOwn-same spot s = tt

  PartOwn-join : (spot : Spot) (s t u : PartView S) → SamePartView s t → PartOwn spot s t → PartOwn spot t u
      → PartOwn spot s u
  PartOwn-join (Mark number level block) s t u same h k =
      PartSpot-join (Mark number level block) s.part.now t.part.now u.part.now same.part h k
  PartOwn-join Frame s t u same h k = (KeepsMarks-join s.part.now t.part.now u.part.now h.0 k.0, k.1 ∙ h.1)
  PartOwn-join spot s t u same h k = tt

module _ {S : Type 0} (keeps : Spot → S → S → Type 0) where
  pub PartKeeps-same : ((spot : Spot) (s : S) → keeps spot s s) → (spot : Spot) (s : PartView S)
      → PartKeeps keeps spot s s
  PartKeeps-same same spot s = (SamePartView-same s, PartOwn-same spot s, same spot s.base.now)

  pub PartKeeps-join : ((spot : Spot) (s t u : S) → keeps spot s t → keeps spot t u → keeps spot s u)
      → (spot : Spot) (s t u : PartView S) → PartKeeps keeps spot s t → PartKeeps keeps spot t u
      → PartKeeps keeps spot s u
  PartKeeps-join join spot s t u h k = (
    SamePartView-join s t u h.0 k.0,
    PartOwn-join spot s t u h.0 h.1 k.1,
    join spot s.base.now t.base.now u.base.now h.2 k.2,
  )

-- a sound view has its tree in its base
module _ {S : Type 0} (states : S → State)
    (fits : (s : S) → IsTrue (states s).shape.sound → (states s).shape.size < 2 ^ 64)
    (s : PartView S) (sound : IsTrue (shown states s).shape.sound) where
  pub shown_can : CanViewPart (states s.base.now).shape s.part.now (length s.table.now)
  shown_can = true-can_view_part (states s.base.now).shape s.part.now (length s.table.now) sound

  pub shown_contents_there : HasContents
      (states s.base.now).shape s.part.now.at s.part.now.difi s.part.now.dpfs.selector
  shown_contents_there =
      contents_there (states s.base.now) s.part.now (length s.table.now)
      (fits s.base.now shown_can.contents.sound) shown_can

  pub shown_hashes : HasHashes (contents_of (states s.base.now) s.part.now).shape s.part.now.difi
      (length (master_of s.table.now s.part.now.difi))
  shown_hashes = hashes_there (states s.base.now) s.part.now s.table.now
      (fits s.base.now shown_can.contents.sound) shown_can

  pub shown_fits : s.part.now.difi.ivfc4.size < 2 ^ 64
  shown_fits =
      let levels = shown_hashes.levels in
      let inside = levels.inside 4 (omega arith, omega arith) in
      omega (arith, rw (level4_size s.part.now.difi) at inside, levels.small)

-- the same shape, where the base has the same
pub part_shape : {S : Type 0} (states : S → State) (s t : PartView S) → SamePartView s t
    → (states t.base.now).shape ≡ (states s.base.now).shape → (shown states t).shape ≡ (shown states s).shape
part_shape states s t same shape =
    let sound = can_view_part-same (states s.base.now).shape (states t.base.now).shape s.part.now t.part.now
    (length s.table.now)
    shape same.part in
    rw (same.table_len, sound, same.part.descriptor) refl

-- a part's cells are the same over a base with the same, where it keeps its marks
pub kept_cells : (base new : State) (part next : Part) (table : List ℕ) → KeepsMarks part next
    → HasContents base.shape part.at part.difi part.dpfs.selector
    → HasHashes (contents_of base part).shape part.difi (length (master_of table part.difi)) → SameCells base new
    → SameCells (part_state base part table) (part_state new next table)
kept_cells base new part next table kept contents hashes same =
    let below = contents_same base new part.at part.difi part.dpfs contents same in
    let there = hashed_same (contents_of base part) (contents_of new part) part.number
    (master_of table part.difi) part.difi
    part.ivfc next.ivfc hashes kept.hashes.marks below in
    rw (kept.number, kept.place, kept.descriptor, kept.copies) there

-- and puts land where they would have landed
pub kept_lands : (base new : State) (part next : Part) → SamePart part next
    → HasContents base.shape part.at part.difi part.dpfs.selector → HasLevels (contents_of base part).shape part.difi
    → SameCells base new → (lands later : ℕ → Spot → Type 0) → LandsAsBefore base.shape.size lands later
    → LandsAsBefore part.difi.ivfc4.size
    (HashLands (ContentsLand (bytes_of base.cells) part.at part.difi part.dpfs.selector lands) part.difi)
    (HashLands (ContentsLand (bytes_of new.cells) next.at next.difi next.dpfs.selector later) next.difi)
kept_lands base new part next kept contents levels same lands later as_before =
    rw (kept.place, kept.descriptor, kept.selector) (hashed_lands base new part contents levels same lands later as_before)

-- so the laws of the base give those of the view
module _ {S : Type 0} (states : S → State) (fits : (s : S) → IsTrue (states s).shape.sound → (states s).shape.size < 2 ^ 64)
    (keeps : Spot → S → S → Type 0) where
  pub PartKeeps-cells : WhereKept states keeps (λ s t. SameCells (states s) (states t) × SameTwins (states s) (states t))
      → WhereKept (shown states) (PartKeeps keeps)
      (λ s t. SameCells (shown states s) (shown states t) × SameTwins (shown states s) (shown states t))
  PartKeeps-cells law s t sound single told still kept =
      let can = shown_can states fits s sound in
      let below = law s.base.now t.base.now can.contents.sound can.contents.single (and_parts _ _ told).0 (and_parts _ _ still).0
      (λ spot. (kept spot).2) in
      let own = (kept Frame).1 in
      let there = kept_cells (states s.base.now) (states t.base.now) s.part.now t.part.now s.table.now own.0
      (shown_contents_there states fits s sound) (shown_hashes states fits s sound) below.0 in
      (rw own.1 there, record { bottom = λ x h. refl; is_fixed = λ x h. refl })

  pub PartKeeps-lands : (lands : S → ℕ → Spot → Type 0)
      → WhereKept states keeps (λ s t. LandsAsBefore (states s).shape.size (lands s) (lands t))
      → WhereKept states keeps (λ s t. SameCells (states s) (states t) × SameTwins (states s) (states t))
      → WhereKept (shown states) (PartKeeps keeps)
      (λ s t. LandsAsBefore (shown states s).shape.size (part_lands states lands s) (part_lands states lands t))
  PartKeeps-lands lands law cells s t sound single told still kept =
      let can = shown_can states fits s sound in
      let under = (and_parts _ _ told).0 in
      let later = (and_parts _ _ still).0 in
      let same = cells s.base.now t.base.now can.contents.sound can.contents.single under later (λ spot. (kept spot).2) in
      let below = law s.base.now t.base.now can.contents.sound can.contents.single under later (λ spot. (kept spot).2) in
      kept_lands (states s.base.now) (states t.base.now) s.part.now t.part.now (kept Frame).0.part
      (shown_contents_there states fits s sound) (shown_hashes states fits s sound).levels same.0 (lands s.base.now)
      (lands t.base.now) below

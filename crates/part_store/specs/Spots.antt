-- Which spots a call on a partition leaves alone of the partition itself, and which a put into it may touch.
use Rattle.std.specs.Prelude.{◌≡◌, ℕ, length}
use Rattle.save_bytes.specs.Spots.{Spot, Mark, Frame}
use Rattle.dpfs_tree.specs.Held.{SameState, ContentsLand}
use Rattle.ivfc_tree.specs.declared.state.IvfcState.{IvfcState}
use Rattle.ivfc_tree.specs.Levels.{IsLevel}
use Rattle.ivfc_tree.specs.Marks.{is_marked, SameMarks, AsManyMarks}
use Rattle.ivfc_tree.specs.Held.{HashLands}
use Rattle.part_store.specs.declared.part.Part.{Part}

-- the same number, place, descriptor and selector, and as many marks
pub record SamePart (old new : Part) : Type 0 where
  pub number : new.number ≡ old.number
  pub place : new.at ≡ old.at
  pub descriptor : new.difi ≡ old.difi
  pub selector : new.dpfs.selector ≡ old.dpfs.selector
  pub copies : length new.dpfs.touched.items ≡ length old.dpfs.touched.items
  pub hashes : AsManyMarks old.ivfc new.ivfc

-- of a hash tree the same blocks were put or cleared; what is remembered of the others is free
pub record KeepsPuts (old new : IvfcState) : Type 0 where
  pub many : AsManyMarks old new
  pub marks : SameMarks old new

-- all of a part that its cells hang on is as before; what is remembered of its hash paths is free
pub record KeepsMarks (old new : Part) : Type 0 where
  pub number : new.number ≡ old.number
  pub place : new.at ≡ old.at
  pub descriptor : new.difi ≡ old.difi
  pub copies : new.dpfs ≡ old.dpfs
  pub hashes : KeepsPuts old.ivfc new.ivfc

-- a block's mark was left alone, where the part has its number, or all of the part but what it remembers
abbrev pub PartSpot : Spot → Part → Part → Type 0
PartSpot (Mark number level block) old new = number ≡ old.number
    → SameState (Mark number level block) old.dpfs new.dpfs × (IsLevel level → is_marked new.ivfc level block ≡ is_marked old.ivfc level block)
PartSpot Frame old new = KeepsMarks old new
PartSpot spot old new = Unit {0}

-- a put at byte x of level four touches what the puts of its path touch in the contents, and marks under the part's own number
abbrev pub PartLands : (ℕ → ℕ) → (ℕ → Spot → Type 0) → Part → ℕ → Spot → Type 0
PartLands bytes lands part x (Mark number level block) =
    (number ≡ part.number) × HashLands (ContentsLand bytes part.at part.difi part.dpfs.selector lands) part.difi x (Mark number level block)
PartLands bytes lands part x spot = HashLands (ContentsLand bytes part.at part.difi part.dpfs.selector lands) part.difi x spot

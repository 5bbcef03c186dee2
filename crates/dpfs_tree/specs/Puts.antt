-- What a put into a view leaves: in its cells, its marks, and its base.
use Rattle.std.specs.Prelude.{◌≡◌, ◌≢◌, ℕ, ◌+◌, ◌-◌, ◌%◌, ◌^◌, ◌<◌, min, true, false, IsTrue, List, length, Option}
use Rattle.save_bytes.specs.declared.space.Bad.{Bad}
use Rattle.save_bytes.specs.Cells.{Cell, AreBytesAt}
use Rattle.save_bytes.specs.State.{State}
use Rattle.save_bytes.specs.Refusals.{IfDone}
use Rattle.save_bytes.specs.Spots.{Spot}
use Rattle.save_bytes.specs.Writes.{IsWithin, Writes}
use Rattle.difi.specs.declared.places.LevelPlace.{LevelPlace}
use Rattle.difi.specs.declared.descriptor.Difi.{Difi}
use Rattle.difi.specs.Contents.{view_size}
use Rattle.dpfs_tree.specs.declared.state.DpfsState.{DpfsState}
use Rattle.dpfs_tree.specs.declared.blocks.BlockCopies.{BlockCopies}
use Rattle.dpfs_tree.specs.Picks.{bytes_of, copy_place}
use Rattle.dpfs_tree.specs.Marks.{is_marked, other_place}
use Rattle.dpfs_tree.specs.View.{contents_state}
use Rattle.dpfs_tree.specs.Held.{IsBeside, MarksSpot, SameState}

-- where the block of a place lies in the copy that this bit chooses, and in the other one
pub record AreCopiesAt (part_at : ℕ) (level : LevelPlace) (at chosen : ℕ) (copies : BlockCopies) : Type 0 where
  pub skipped : copies.skipped ≡ at % 2 ^ level.log
  pub len : copies.len ≡ min (2 ^ level.log) (level.size - (at - at % 2 ^ level.log))
  pub from : copies.from ≡ copy_place part_at level chosen (at - at % 2 ^ level.log)
  pub to : copies.to ≡ copy_place part_at level (1 - chosen) (at - at % 2 ^ level.log)

-- a block was marked, and nothing else of the state changed
pub record IsMarked (block : ℕ) (old new : DpfsState) : Type 0 where
  pub marks : length new.touched.items ≡ length old.touched.items
  pub selector : new.selector ≡ old.selector
  pub marked : is_marked new.touched.items block ≡ true
  pub others : (other : ℕ) → other ≢ block → is_marked new.touched.items other ≡ is_marked old.touched.items other

-- each mark was cleared, and this selector was taken
pub record IsSettled (selector : ℕ) (old new : DpfsState) : Type 0 where
  pub marks : length new.touched.items ≡ length old.touched.items
  pub selects : new.selector ≡ selector
  pub unmarked : (block : ℕ) → is_marked new.touched.items block ≡ false

-- no mark changed but those of the blocks that a range meets
pub record MarksOnly (difi : Difi) (at n : ℕ) (old new : DpfsState) : Type 0 where
  pub marks : length new.touched.items ≡ length old.touched.items
  pub selector : new.selector ≡ old.selector
  pub spots : (spot : Spot) → ((k : ℕ) → k < n → ¬ MarksSpot difi (at + k) spot) → SameState spot old new

-- a place of the base that a put into a range of a view may write: of the range's blocks in the copies that are not
-- chosen, or of external level four
abbrev pub WritesIn : (ℕ → ℕ) → ℕ → Difi → ℕ → ℕ → ℕ → ℕ → Type 0
WritesIn bytes part_at difi selector at n place =
    (k : ℕ) × (y : ℕ) × (k < n) × (y < view_size difi) × IsBeside difi (at + k) y
    × (place ≡ other_place bytes part_at difi selector y)

-- the range holds the bytes, and all other cells are as before
pub record IsPut (size : ℕ) (old : ℕ → Cell) (at : ℕ) (bytes : List ℕ) (new : ℕ → Cell) : Type 0 where
  pub range : AreBytesAt new at bytes
  pub others : (x : ℕ) → x < size → ¬ IsWithin at (length bytes) x → new x ≡ old x

-- a call that puts bytes into a range of a view over a base
pub record PutsInto {A : Type 0} (states : A → State) (keeps : Spot → A → A → Type 0) (lands : A → ℕ → Spot → Type 0)
    (part_at : ℕ)
    (difi : Difi) (was now : DpfsState) (at : ℕ) (bytes : List ℕ) (old new : A) (refusal : Option Bad) : Type 0 where
  pub marks : MarksOnly difi at (length bytes) was now
  pub writes : Writes states keeps lands
      (WritesIn (bytes_of (states old).cells) part_at difi was.selector at (length bytes)) old new refusal
  pub put : IsTrue (states old).told
      → IfDone refusal (IsPut (view_size difi) (contents_state (states old) part_at difi was).cells at bytes
      (contents_state (states new) part_at difi now).cells)

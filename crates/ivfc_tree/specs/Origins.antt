-- How a hash tree has changed since the transaction began: what blocks that are not marked still tell of it.
use Rattle.std.specs.Prelude.{◌≡◌, ◌≢◌, ◌⊎◌, ℕ, suc, ◌+◌, ◌/◌, ◌<◌, ◌≤◌, Bool, true, false, List}
use Rattle.save_bytes.specs.Cells.{Cell}
use Rattle.save_bytes.specs.State.{Shape}
use Rattle.difi.specs.declared.descriptor.Difi.{Difi}
use Rattle.difi.specs.Places.{block_size}
use Rattle.ivfc_tree.specs.declared.path.BlockState.TheVariants.{Good, Blank as BlankAt}
use Rattle.ivfc_tree.specs.declared.state.IvfcState.{IvfcState}
use Rattle.ivfc_tree.specs.Levels.{level_of, HasBlock, parent_of}
use Rattle.ivfc_tree.specs.Marks.{is_marked}
use Rattle.ivfc_tree.specs.Paths.{own_state, marked_state, path_state}

-- Of a tree as the transaction began and as it is now: a block that is not marked tells by its entry and its bytes what
-- it told, where the path above it held. Below a marked block whose path did not hold, such a block is blank.
pub record CameFrom (difi : Difi) (marked : ℕ → ℕ → Bool) (was : ℕ → Cell) (was_master : List ℕ) (cells : ℕ → Cell)
    (master : List ℕ) : Type 0 where
  pub kept : (level block : ℕ) → HasBlock difi (suc level) block → marked (suc level) block ≡ false
      → path_state was was_master difi level (parent_of difi level block) ≡ Good
      → own_state cells master difi (suc level) block ≡ own_state was was_master difi (suc level) block
  pub zeroed : (level block : ℕ) → HasBlock difi (suc (suc level)) block → marked (suc (suc level)) block ≡ false
      → marked (suc level) (parent_of difi (suc level) block) ≡ true
      → (path_state was was_master difi (suc level) (parent_of difi (suc level) block) ≡ Good)
      ⊎ (own_state cells master difi (suc (suc level)) block ≡ BlankAt (suc (suc level)) block)

-- a transaction begins with a state in which each tree came from itself
abbrev pub IsAtOrigin : IvfcState → Type 0
IsAtOrigin state = (difi : Difi) (cells : ℕ → Cell) (master : List ℕ)
    → CameFrom difi (is_marked state) cells master cells master

-- a block tells what it told, and if the block above it was marked just now, that was good
pub record TellsSame (difi : Difi) (marked still : ℕ → ℕ → Bool) (cells : ℕ → Cell) (master : List ℕ) (new : ℕ → Cell)
    (new_master : List ℕ) (level block : ℕ) : Type 0 where
  pub own : own_state new new_master difi (suc level) block ≡ own_state cells master difi (suc level) block
  pub above : 1 ≤ level → marked level (parent_of difi level block) ≡ false
      → still level (parent_of difi level block) ≡ true
      → marked_state cells master difi marked level (parent_of difi level block) ≡ Good

-- the block above a block was no good, and was filled with zeros just now
pub record IsBared (difi : Difi) (marked : ℕ → ℕ → Bool) (cells : ℕ → Cell) (master : List ℕ) (new : ℕ → Cell)
    (new_master : List ℕ) (level block : ℕ) : Type 0 where
  pub below : 1 ≤ level
  pub above : marked level (parent_of difi level block) ≡ false
  pub spoilt : marked_state cells master difi marked level (parent_of difi level block) ≢ Good
  pub own : own_state new new_master difi (suc level) block ≡ BlankAt (suc level) block

-- what puts, clears and seals do to blocks that they do not mark
pub record MarksMore (difi : Difi) (marked still : ℕ → ℕ → Bool) (cells : ℕ → Cell) (master : List ℕ) (new : ℕ → Cell)
    (new_master : List ℕ) : Type 0 where
  pub more : (level block : ℕ) → still level block ≡ false → marked level block ≡ false
  pub unmarked : (level block : ℕ) → HasBlock difi (suc level) block → still (suc level) block ≡ false
      → TellsSame difi marked still cells master new new_master level block
      ⊎ IsBared difi marked cells master new new_master level block

-- a place of the base is that of a byte of level four in a marked block
abbrev pub InMarkedContents : Difi → (ℕ → ℕ → Bool) → ℕ → Type 0
InMarkedContents difi marked x = (y : ℕ) × (y < difi.ivfc4.size) × (marked 4 (y / block_size difi.ivfc4) ≡ true)
    × (x ≡ (level_of difi 4).at + y)

-- the base is as it was, but for marked blocks of level four: external ones are written in place
abbrev pub IsBack : Shape → Difi → (ℕ → ℕ → Bool) → (ℕ → Cell) → (ℕ → Cell) → Type 0
IsBack base difi marked was now = (x : ℕ) → x < base.size → ¬ InMarkedContents difi marked x → now x ≡ was x

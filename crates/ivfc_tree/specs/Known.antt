-- What a state remembers of blocks, and when that is true.
use Rattle.std.specs.Prelude.{◌≡◌, ℕ, zero, suc, ◌+◌, ◌<◌, ◌≤◌, Bool, true, false, ◌&&◌, ◌==◌, List, if◌then◌else◌}
use Rattle.std.specs.Prelude.{IsTrue, Option, Some, None, Result, Ok, IfOk, OnErr}
use Rattle.std.specs.Result.{result_err}
use Rattle.save_bytes.specs.declared.space.Bad.{Bad}
use Rattle.save_bytes.specs.Refusals.{UnlessDisk}
use Rattle.save_bytes.specs.Cells.{Cell}
use Rattle.save_bytes.specs.State.{State}
use Rattle.difi.specs.declared.descriptor.Difi.{Difi}
use Rattle.difi.specs.Places.{blocks_of}
use Rattle.ivfc_tree.specs.declared.marks.BlockMark.{BlockMark}
use Rattle.ivfc_tree.specs.declared.marks.BlockMark.TheVariants.{Unknown, Put, KnownGood, KnownBlank, KnownBad}
use Rattle.ivfc_tree.specs.declared.path.BlockState.{BlockState}
use Rattle.ivfc_tree.specs.declared.path.BlockState.TheVariants.{Good, Blank as BlankAt, Bad as BadAt}
use Rattle.ivfc_tree.specs.declared.state.IvfcState.{IvfcState}
use Rattle.ivfc_tree.specs.Levels.{level_of, HasBlock, parent_of}
use Rattle.ivfc_tree.specs.Marks.{mark_at, is_marked, SameMarks, AsManyMarks, IsSet}
use Rattle.ivfc_tree.specs.Paths.{own_state, block_state}

-- above a block that was put or cleared lies one that was
abbrev pub HasMarkedParents : Difi → IvfcState → Type 0
HasMarkedParents difi state = (upper block : ℕ) → 1 ≤ upper → HasBlock difi (suc upper) block
    → is_marked state (suc upper) block ≡ true → is_marked state upper (parent_of difi upper block) ≡ true

-- what a block's path comes to is what its mark says, where it says something
abbrev pub Agrees : BlockMark → ℕ → ℕ → BlockState → Type 0
Agrees Unknown level block found = Unit {0}
Agrees Put level block found = Unit {0}
Agrees KnownGood level block found = found ≡ Good
Agrees KnownBlank level block found = found ≡ BlankAt level block
Agrees KnownBad level block found = found ≡ BadAt level block

-- the marks go up to the top, and what they say is true
pub record Remembers (cells : ℕ → Cell) (master : List ℕ) (difi : Difi) (state : IvfcState) : Type 0 where
  pub closed : HasMarkedParents difi state
  pub agrees : (level block : ℕ) → HasBlock difi level block
      → Agrees (mark_at state level block) level block (block_state cells master difi state level block)

-- each number below another passes
unfoldable pub passes_below : (ℕ → Bool) → ℕ → Bool
passes_below test zero = true
passes_below test (suc n) = test n && passes_below test n

-- two states are the same
abbrev pub same_path : BlockState → BlockState → Bool
same_path Good Good = true
same_path (BlankAt level block) (BlankAt upper at) = (level == upper) && (block == at)
same_path (BadAt level block) (BadAt upper at) = (level == upper) && (block == at)
same_path found other = false

abbrev pub agrees_with : BlockMark → ℕ → ℕ → BlockState → Bool
agrees_with Unknown level block found = true
agrees_with Put level block found = true
agrees_with KnownGood level block found = same_path found Good
agrees_with KnownBlank level block found = same_path found (BlankAt level block)
agrees_with KnownBad level block found = same_path found (BadAt level block)

abbrev pub is_covered : Difi → IvfcState → ℕ → ℕ → Bool
is_covered difi state zero block = true
is_covered difi state (suc zero) block = true
is_covered difi state (suc (suc upper)) block =
    if is_marked state (suc (suc upper)) block
    then is_marked state (suc upper) (parent_of difi (suc upper) block)
    else true

abbrev pub is_right : (ℕ → Cell) → List ℕ → Difi → IvfcState → ℕ → ℕ → Bool
is_right cells master difi state level block =
    is_covered difi state level block
    && agrees_with (mark_at state level block) level block (block_state cells master difi state level block)

-- the same as a test
unfoldable pub remembers : (ℕ → Cell) → List ℕ → Difi → IvfcState → Bool
remembers cells master difi state =
    passes_below (is_right cells master difi state 1) (blocks_of (level_of difi 1))
    && (passes_below (is_right cells master difi state 2) (blocks_of (level_of difi 2))
    && (passes_below (is_right cells master difi state 3) (blocks_of (level_of difi 3))
    && passes_below (is_right cells master difi state 4) (blocks_of (level_of difi 4))))

-- the cells of a view are told where those of its base are, and what is remembered is true
abbrev pub is_told : State → List ℕ → Difi → IvfcState → Bool
is_told base master difi state = base.told && remembers base.cells master difi state

-- the fault that is recalled of the block above is one of the block
abbrev pub fault_of_path : Option BlockState → Option BlockState
fault_of_path None = None
fault_of_path (Some Good) = None
fault_of_path (Some (BlankAt level block)) = Some (BlankAt level block)
fault_of_path (Some (BadAt level block)) = Some (BadAt level block)

-- what a block's own mark says of its path, and where it says nothing
abbrev pub recalled_by : BlockMark → ℕ → ℕ → Option BlockState → Option BlockState
recalled_by Unknown level block above = fault_of_path above
recalled_by Put level block above = Some Good
recalled_by KnownGood level block above = Some Good
recalled_by KnownBlank level block above = Some (BlankAt level block)
recalled_by KnownBad level block above = Some (BadAt level block)

-- what a block's path comes to, as far as it follows from the marks alone
unfoldable pub recalled : Difi → IvfcState → ℕ → ℕ → Option BlockState
recalled difi state zero block = Some Good
recalled difi state (suc level) block =
    recalled_by (mark_at state (suc level) block) (suc level) block
    (recalled difi state level (parent_of difi level block))

-- nothing is counted where something is recalled
abbrev pub unless_recalled : Option BlockState → ℕ → ℕ
unless_recalled None n = n
unless_recalled (Some found) n = 0

-- how many blocks of the path up from a block have no state that follows from the marks
unfoldable pub unknown_on_path : Difi → IvfcState → ℕ → ℕ → ℕ
unknown_on_path difi state zero block = 0
unknown_on_path difi state (suc level) block =
    unless_recalled (recalled difi state (suc level) block)
    (1 + unknown_on_path difi state level (parent_of difi level block))

-- what a block's path comes to follows from the marks
abbrev pub IsRecalled : Difi → IvfcState → ℕ → ℕ → Type 0
IsRecalled difi state level block = (found : BlockState) × (recalled difi state level block ≡ Some found)

-- What a call that looks for a block's state leaves of a view's state: no block is put or cleared by it, and no mark
-- below the block changes. It hashes at most the blocks of the path whose state did not follow from the marks, and
-- from then on that of the block does; where it did before, nothing is hashed.
pub record Learns (difi : Difi) (level block : ℕ) (old new : IvfcState) (refusal : Option Bad) : Type 0 where
  pub marks : SameMarks old new
  pub many : AsManyMarks old new
  pub deeper : (l b : ℕ) → level < l → mark_at new l b ≡ mark_at old l b
  pub counted : old.hashed ≤ new.hashed
  pub few : new.hashed ≤ old.hashed + unknown_on_path difi old level block
  pub known : UnlessDisk refusal (IsRecalled difi new level block)
  pub again : IsRecalled difi old level block → new ≡ old

-- what a block's own entry and digest can tell of it
abbrev pub IsOwn : ℕ → ℕ → BlockState → Type 0
IsOwn level block Good = Unit {0}
IsOwn level block (BlankAt upper at) = (upper ≡ level) × (at ≡ block)
IsOwn level block (BadAt upper at) = (upper ≡ level) × (at ≡ block)

-- how that is kept
abbrev pub mark_for : BlockState → BlockMark
mark_for Good = KnownGood
mark_for (BlankAt level block) = KnownBlank
mark_for (BadAt level block) = KnownBad

-- at most one block more was hashed, and no mark changed
pub record CountsHash (old new : IvfcState) : Type 0 where
  pub marks : new.marks ≡ old.marks
  pub counted : old.hashed ≤ new.hashed
  pub few : new.hashed ≤ old.hashed + 1

-- a block's state was noted, and at most one block more was hashed
pub record Notes (level block : ℕ) (found : BlockState) (old new : IvfcState) : Type 0 where
  pub own : IsOwn level block found
  pub set : IsSet level block (mark_for found) old.marks new.marks
  pub counted : old.hashed ≤ new.hashed
  pub few : new.hashed ≤ old.hashed + 1

-- what looking at a block's entry and bytes leaves: what they tell is noted
pub record Looks (base : State) (master : List ℕ) (difi : Difi) (old new : IvfcState) (level block : ℕ)
    (result : Result BlockState Bad) : Type 0 where
  pub state : IsTrue base.told → IfOk result (λ found. found ≡ own_state base.cells master difi level block)
  pub notes : IfOk result (λ found. Notes level block found old new)
  pub counts : OnErr result (CountsHash old new)

-- What a call that tells a block's state answers and leaves. It answers as the marks do, where the state follows from
-- them, and then it does from then on.
pub record Finds (base now : State) (master : List ℕ) (difi : Difi) (old new : IvfcState) (level block : ℕ)
    (result : Result BlockState Bad) : Type 0 where
  pub state : IsTrue (is_told base master difi old)
      → IfOk result (λ found. found ≡ block_state base.cells master difi old level block)
  pub told : IsTrue (is_told base master difi old)
      → UnlessDisk (result_err result) (IsTrue (is_told now master difi new))
  pub recalls : IfOk result (λ found. recalled difi new level block ≡ Some found)
  pub again : (found : BlockState) → recalled difi old level block ≡ Some found → result ≡ Ok found
  pub learns : Learns difi level block old new (result_err result)

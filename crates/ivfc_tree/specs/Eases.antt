-- What becomes of a view's cells while the blocks that a range meets are made ready for a put.
use Rattle.std.specs.Prelude.{◌≡◌, ◌⊎◌, ℕ, ◌+◌, ◌/◌, ◌<◌, ◌≤◌, Bool, true, false, List}
use Rattle.save_bytes.specs.Cells.{Cell, Byte, Blank, Spoilt, IsBlank}
use Rattle.save_bytes.specs.CellNumbers.{value_of}
use Rattle.save_bytes.specs.Puts.{IsDeeper}
use Rattle.save_bytes.specs.Writes.{IsWithin}
use Rattle.difi.specs.declared.descriptor.Difi.{Difi}
use Rattle.difi.specs.Places.{block_size}
use Rattle.ivfc_tree.specs.declared.path.BlockState.{BlockState}
use Rattle.ivfc_tree.specs.declared.path.BlockState.TheVariants.{Good, Blank as BlankAt, Bad as BadAt}
use Rattle.ivfc_tree.specs.Levels.{level_of, HasBlock, block_begin, len_of}
use Rattle.ivfc_tree.specs.Origins.{CameFrom}
use Rattle.ivfc_tree.specs.Paths.{block_above, marked_state, cell_in}

-- the n bytes of level four from `at` on meet this block of it
abbrev pub MeetsBlock : Difi → ℕ → ℕ → ℕ → Type 0
MeetsBlock difi at n block = (k : ℕ) × (k < n) × (block ≡ (at + k) / block_size difi.ivfc4)

-- one of the n cells from `at` on is blank, and names this block
abbrev pub ShowsBlank : (ℕ → Cell) → ℕ → ℕ → ℕ → ℕ → ℕ → Type 0
ShowsBlank cells at n part level block = (k : ℕ) × (k < n) × (cells (at + k) ≡ Blank part level block)

-- What may become of the cell of byte x: it stays, or, where it is blank by the same block as one of the range, becomes
-- zero in a block that the range meets, or blank at a deeper level.
abbrev pub EasesFrom : Difi → (ℕ → Cell) → ℕ → ℕ → ℕ → Cell → Cell → Type 0
EasesFrom difi cells at n x (Byte value) new = new ≡ Byte value
EasesFrom difi cells at n x (Blank part level block) new = (new ≡ Blank part level block)
    ⊎ (ShowsBlank cells at n part level block
    × ((MeetsBlock difi at n (x / block_size difi.ivfc4) × (new ≡ Byte 0)) ⊎ IsDeeper part level new))
EasesFrom difi cells at n x (Spoilt part level block) new = new ≡ Spoilt part level block

-- so each cell did, and two that are blank by one block were so before
pub record Eases (difi : Difi) (at n : ℕ) (old new : ℕ → Cell) : Type 0 where
  pub each : (x : ℕ) → x < difi.ivfc4.size → EasesFrom difi old at n x (old x) (new x)
  pub joined : (x y : ℕ) → x < difi.ivfc4.size → y < difi.ivfc4.size → IsBlank (new x) → new x ≡ new y → old x ≡ old y

-- the cell of a byte of level four, where some blocks are marked
abbrev pub marked_cell : (ℕ → Cell) → ℕ → List ℕ → Difi → (ℕ → ℕ → Bool) → ℕ → Cell
marked_cell cells part master difi marked x =
    cell_in (marked_state cells master difi marked 4 (x / block_size difi.ivfc4)) part
    (value_of (cells ((level_of difi 4).at + x)))

-- one more block is marked, if it was not
pub record MarksOne (level block : ℕ) (marked still : ℕ → ℕ → Bool) : Type 0 where
  pub here : still level block ≡ true
  pub others : (l b : ℕ) → (l ≡ level → b ≡ block → ⊥) → still l b ≡ marked l b

-- each byte of a block became zero, and all others of the base are as before
pub record ZeroesBlock (size : ℕ) (difi : Difi) (level block : ℕ) (old new : ℕ → Cell) : Type 0 where
  pub zeros : (k : ℕ) → k < len_of difi level block → new (block_begin difi level block + k) ≡ Byte 0
  pub others : (x : ℕ) → x < size → ¬ IsWithin (block_begin difi level block) (len_of difi level block) x
      → new x ≡ old x

-- a block's state stays, unless it was blank by a block above it
abbrev pub StaysUnder : ℕ → BlockState → BlockState → Type 0
StaysUnder level Good new = new ≡ Good
StaysUnder level (BlankAt upper block) new = upper ≡ level → new ≡ BlankAt upper block
StaysUnder level (BadAt upper block) new = new ≡ BadAt upper block

-- the tree that it was as the transaction began, whichever that is, is one that it came from later too
abbrev pub CarriesOrigins : List ℕ → Difi → (ℕ → Cell) → (ℕ → ℕ → Bool) → (ℕ → Cell) → (ℕ → ℕ → Bool) → Type 0
CarriesOrigins master difi old marked new still = (was : ℕ → Cell) (was_master : List ℕ)
    → CameFrom difi marked was was_master old master → CameFrom difi still was was_master new master

-- Blocks were made ready for a put into a range: the cells eased, and each block that is not marked came to the same,
-- unless it was blank by a block above it.
pub record Prepares (master : List ℕ) (difi : Difi) (at n : ℕ) (old : ℕ → Cell) (marked : ℕ → ℕ → Bool) (new : ℕ → Cell)
    (still : ℕ → ℕ → Bool) : Type 0 where
  pub eases : (part : ℕ) → Eases difi at n (marked_cell old part master difi marked)
      (marked_cell new part master difi still)
  pub stays : (level block : ℕ) → HasBlock difi level block → still level block ≡ false
      → StaysUnder level (marked_state old master difi marked level block)
      (marked_state new master difi still level block)
  pub grows : (level block : ℕ) → marked level block ≡ true → still level block ≡ true
  pub origins : CarriesOrigins master difi old marked new still

-- Down to some level the path of a block of level four holds above another, from which on it is blank by the block
-- there.
pub record IsGoodTo (cells : ℕ → Cell) (master : List ℕ) (difi : Difi) (marked : ℕ → ℕ → Bool) (block last from : ℕ)
    : Type 0 where
  pub some : 1 ≤ from
  pub good : (level : ℕ) → 1 ≤ level → level < from → level ≤ last
      → marked_state cells master difi marked level (block_above difi 4 block level) ≡ Good
  pub blank : from ≤ last → marked_state cells master difi marked 4 block ≡ BlankAt from (block_above difi 4 block from)

-- A block was made ready: it is marked, and became zero where it is blank and was not marked. Nothing else changed.
pub record ReadiesBlock (size : ℕ) (difi : Difi) (level block : ℕ) (blank : Bool) (old : ℕ → Cell)
    (marked : ℕ → ℕ → Bool)
    (new : ℕ → Cell) (still : ℕ → ℕ → Bool) : Type 0 where
  pub marks : MarksOne level block marked still
  pub zeroed : marked level block ≡ false → blank ≡ true → ZeroesBlock size difi level block old new
  pub same : blank ≡ false → (x : ℕ) → x < size → new x ≡ old x

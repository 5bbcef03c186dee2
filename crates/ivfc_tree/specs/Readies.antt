-- What is written and marked where the blocks that a range meets are made ready for a put.
use Rattle.std.specs.Prelude.{◌≡◌, ◌⊎◌, ℕ, ◌+◌, ◌-◌, ◌*◌, ◌/◌, ◌<◌, ◌≤◌, min, true, List}
use Rattle.save_bytes.specs.Cells.{Cell}
use Rattle.save_bytes.specs.State.{State}
use Rattle.save_bytes.specs.Puts.{HasPut}
use Rattle.difi.specs.declared.descriptor.Difi.{Difi}
use Rattle.difi.specs.Places.{block_size}
use Rattle.ivfc_tree.specs.declared.marks.BlockMark.TheVariants.{Put}
use Rattle.ivfc_tree.specs.declared.path.BlockState.{BlockState}
use Rattle.ivfc_tree.specs.declared.path.BlockState.TheVariants.{Good, Blank as BlankAt, Bad as BadAt}
use Rattle.ivfc_tree.specs.declared.state.IvfcState.{IvfcState}
use Rattle.ivfc_tree.specs.Levels.{IsLevel, level_of}
use Rattle.ivfc_tree.specs.Marks.{mark_at, is_marked, AsManyMarks}
use Rattle.ivfc_tree.specs.Paths.{block_above, path_block, block_state}
use Rattle.ivfc_tree.specs.Known.{Remembers}
use Rattle.ivfc_tree.specs.View.{view_state, cell_of}
use Rattle.ivfc_tree.specs.Held.{IsOnPath}
use Rattle.ivfc_tree.specs.Eases.{MeetsBlock, CarriesOrigins, Prepares}

-- the path does not fail at a block that was written
abbrev pub IsUnspoiltPath : BlockState → Type 0
IsUnspoiltPath Good = Unit {0}
IsUnspoiltPath (BlankAt level block) = Unit {0}
IsUnspoiltPath (BadAt level block) = ⊥

-- no path of the n bytes of level four from `at` on does
abbrev pub HasNoSpoilt : (ℕ → Cell) → List ℕ → Difi → IvfcState → ℕ → ℕ → Type 0
HasNoSpoilt cells master difi state at n =
    (k : ℕ) → k < n → IsUnspoiltPath (block_state cells master difi state 4 ((at + k) / block_size difi.ivfc4))

-- the level from which on a path is blank; behind the last one where it holds
abbrev pub IsBlankFrom : BlockState → ℕ → Type 0
IsBlankFrom Good from = 4 < from
IsBlankFrom (BlankAt level block) from = from ≡ level
IsBlankFrom (BadAt level block) from = Unit {0}

-- a place of the base lies in a block of the path of a block of level four
abbrev pub PathSites : Difi → ℕ → ℕ → Type 0
PathSites difi block place = (level y : ℕ) × IsLevel level
    × ((y < (level_of difi level).size) × (y / block_size (level_of difi level) ≡ block_above difi 4 block level))
    × (place ≡ (level_of difi level).at + y)

-- or of the path of a byte of a range
abbrev pub RangeSites : Difi → ℕ → ℕ → ℕ → Type 0
RangeSites difi at n place =
    (k level y : ℕ) × (k < n) × IsLevel level × IsOnPath difi (at + k) level y × (place ≡ (level_of difi level).at + y)

-- a block lies on the path of a block of level four, or of a byte of a range
abbrev pub IsInPath : Difi → ℕ → ℕ → ℕ → Type 0
IsInPath difi block level other = other ≡ block_above difi 4 block level

abbrev pub IsInPaths : Difi → ℕ → ℕ → ℕ → ℕ → Type 0
IsInPaths difi at n level other = (k : ℕ) × (k < n) × (other ≡ path_block difi (at + k) level)

-- as many marks, and only some blocks were marked
pub record MarksWithin (blocks : ℕ → ℕ → Type 0) (old new : IvfcState) : Type 0 where
  pub many : AsManyMarks old new
  pub others : (level block : ℕ) → IsLevel level → ¬ blocks level block
      → is_marked new level block ≡ is_marked old level block

-- no mark changed, but some of the path of a block of level four say that they were put
pub record PutsPath (difi : Difi) (block last : ℕ) (old new : IvfcState) : Type 0 where
  pub many : AsManyMarks old new
  pub each : (level other : ℕ) → (mark_at new level other ≡ mark_at old level other)
      ⊎ ((mark_at new level other ≡ Put) × IsLevel level × (level ≤ last) × IsInPath difi block level other)

-- The path of a block of level four was made ready down to a level: the cells of any range that meets the block eased,
-- what is remembered is true, and each block of the path down to there is marked.
pub record ReadiesPath (master : List ℕ) (difi : Difi) (block last : ℕ) (old : ℕ → Cell) (was : IvfcState)
    (new : ℕ → Cell)
    (now : IvfcState) : Type 0 where
  pub prepares : (at n : ℕ) → at + n ≤ difi.ivfc4.size → MeetsBlock difi at n block
      → Prepares master difi at n old (is_marked was) new (is_marked now)
  pub remembers : Remembers new master difi now
  pub marked : (level : ℕ) → 1 ≤ level → level ≤ last → is_marked now level (block_above difi 4 block level) ≡ true

-- the blocks that a range meets were made ready, those of its first bytes at least
pub record ReadiesRange (master : List ℕ) (difi : Difi) (at n done : ℕ) (old : ℕ → Cell) (was : IvfcState)
    (new : ℕ → Cell)
    (now : IvfcState) : Type 0 where
  pub prepares : Prepares master difi at n old (is_marked was) new (is_marked now)
  pub remembers : Remembers new master difi now
  pub marked : (k : ℕ) → k < done → is_marked now 4 ((at + k) / block_size difi.ivfc4) ≡ true

-- how many bytes a block of level four has
abbrev pub contents_len : Difi → ℕ → ℕ
contents_len difi block = min (block_size difi.ivfc4) (difi.ivfc4.size - block * block_size difi.ivfc4)

-- Bytes were put into level four: the cells of a view of any part are those after a put, what is remembered is true,
-- and the tree came from where it came from before.
pub record PutsContents (base : State) (master : List ℕ) (difi : Difi) (was : IvfcState) (at : ℕ) (bytes : List ℕ)
    (new : ℕ → Cell)
    (now : IvfcState) : Type 0 where
  pub put : (part : ℕ) → HasPut (view_state base part master difi was) at bytes (cell_of new part master difi now)
  pub remembers : Remembers new master difi now
  pub origins : CarriesOrigins master difi base.cells (is_marked was) new (is_marked now)

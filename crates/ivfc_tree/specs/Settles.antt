-- What becomes of marks where a transaction ends.
use Rattle.std.specs.Prelude.{◌≡◌, ℕ, Bool, true, false, List, length, map}
use Rattle.save_bytes.specs.Cells.{Cell}
use Rattle.save_bytes.specs.State.{Shape}
use Rattle.difi.specs.declared.descriptor.Difi.{Difi}
use Rattle.ivfc_tree.specs.declared.marks.BlockMark.{BlockMark}
use Rattle.ivfc_tree.specs.declared.marks.BlockMark.TheVariants.{Unknown, Put, KnownGood, KnownBlank, KnownBad}
use Rattle.ivfc_tree.specs.declared.state.IvfcState.{IvfcState}
use Rattle.ivfc_tree.specs.Levels.{HasBlock}
use Rattle.ivfc_tree.specs.Marks.{level_marks, is_marked}
use Rattle.ivfc_tree.specs.Paths.{block_state}
use Rattle.ivfc_tree.specs.View.{HasTree}
use Rattle.ivfc_tree.specs.Known.{Remembers}
use Rattle.ivfc_tree.specs.Seals.{AreHashed}
use Rattle.ivfc_tree.specs.Origins.{CameFrom, IsBack}

-- a block that was put is known to be good, once its hashes are written
abbrev pub settled : BlockMark → BlockMark
settled Put = KnownGood
settled Unknown = Unknown
settled KnownGood = KnownGood
settled KnownBlank = KnownBlank
settled KnownBad = KnownBad

-- Where changes are dropped nothing is known of a block that was put. Nor is it of one that was found blank: the block
-- above it may have been filled with zeros.
abbrev pub dropped : BlockMark → BlockMark
dropped Put = Unknown
dropped Unknown = Unknown
dropped KnownGood = KnownGood
dropped KnownBlank = Unknown
dropped KnownBad = KnownBad

-- what becomes of a mark where the transaction is committed, or is not
abbrev pub ended : Bool → BlockMark → BlockMark
ended true mark = settled mark
ended false mark = dropped mark

-- each mark was turned, and no more of a state was changed
pub record TurnsMarks (turn : BlockMark → BlockMark) (old new : IvfcState) : Type 0 where
  pub marks : (level : ℕ) → level_marks new.marks level ≡ map turn (level_marks old.marks level)
  pub hashed : new.hashed ≡ old.hashed

-- What a state that was settled says of a tree: each block comes to what it came to, and what is remembered is true.
pub record SettlesTree (cells : ℕ → Cell) (master : List ℕ) (difi : Difi) (old new : IvfcState) : Type 0 where
  pub blocks : (level block : ℕ) → HasBlock difi level block
      → block_state cells master difi new level block ≡ block_state cells master difi old level block
  pub remembers : Remembers cells master difi new

-- So it is with each tree in which all blocks that were put are hashed.
abbrev pub SettlesHashed : IvfcState → IvfcState → Type 0
SettlesHashed old new = (base : Shape) (cells : ℕ → Cell) (master : List ℕ) (difi : Difi)
    → HasTree base difi (length master) → Remembers cells master difi old
    → AreHashed cells master difi (is_marked old) → SettlesTree cells master difi old new

-- What is remembered of a tree once changes are dropped is true of that which was there before them.
abbrev pub RemembersOrigin : IvfcState → IvfcState → Type 0
RemembersOrigin old new = (base : Shape) (was cells now : ℕ → Cell) (was_master master : List ℕ) (difi : Difi)
    → HasTree base difi (length was_master) → Remembers cells master difi old
    → CameFrom difi (is_marked old) was was_master cells master → IsBack base difi (is_marked old) was now
    → Remembers now was_master difi new

-- What is kept of blocks. Those that were put or cleared in the present transaction are marked: they count as good.
use Rattle.std.specs.Prelude.{◌≡◌, ℕ, Bool, true, false, ◌&&◌, ◌==◌, List, [], length, get_or, replicate, if◌then◌else◌}
use Rattle.difi.specs.declared.descriptor.Difi.{Difi}
use Rattle.difi.specs.Places.{blocks_of}
use Rattle.ivfc_tree.specs.declared.marks.BlockMark.{BlockMark}
use Rattle.ivfc_tree.specs.declared.marks.BlockMark.TheVariants.{Unknown, Put}
use Rattle.ivfc_tree.specs.declared.marks.Marks.{Marks}
use Rattle.ivfc_tree.specs.declared.state.IvfcState.{IvfcState}

-- what is kept of a level's blocks
abbrev pub level_marks : Marks → ℕ → List BlockMark
level_marks marks level =
    if level == 1 then marks.level1.items
    else (if level == 2 then marks.level2.items
    else (if level == 3 then marks.level3.items else (if level == 4 then marks.level4.items else [])))

-- of a block past the last nothing is kept
unfoldable pub mark_in : Marks → ℕ → ℕ → BlockMark
mark_in marks level block = get_or (level_marks marks level) block Unknown

abbrev pub mark_at : IvfcState → ℕ → ℕ → BlockMark
mark_at state = mark_in state.marks

-- the block was put or cleared
abbrev pub is_put : BlockMark → Bool
is_put Put = true
is_put mark = false

abbrev pub is_marked : IvfcState → ℕ → ℕ → Bool
is_marked state level block = is_put (mark_at state level block)

-- nothing is kept of any block of a descriptor's tree
pub record AreNew (difi : Difi) (marks : Marks) : Type 0 where
  pub level1 : marks.level1.items ≡ replicate (blocks_of difi.ivfc1) Unknown
  pub level2 : marks.level2.items ≡ replicate (blocks_of difi.ivfc2) Unknown
  pub level3 : marks.level3.items ≡ replicate (blocks_of difi.ivfc3) Unknown
  pub level4 : marks.level4.items ≡ replicate (blocks_of difi.ivfc4) Unknown

-- a state has a mark for each block
pub record IsMadeFor (difi : Difi) (state : IvfcState) : Type 0 where
  pub marks1 : length state.marks.level1.items ≡ blocks_of difi.ivfc1
  pub marks2 : length state.marks.level2.items ≡ blocks_of difi.ivfc2
  pub marks3 : length state.marks.level3.items ≡ blocks_of difi.ivfc3
  pub marks4 : length state.marks.level4.items ≡ blocks_of difi.ivfc4

-- the same as a test
abbrev pub is_made_for : Difi → IvfcState → Bool
is_made_for difi state =
    (length state.marks.level1.items == blocks_of difi.ivfc1)
    && ((length state.marks.level2.items == blocks_of difi.ivfc2)
    && ((length state.marks.level3.items == blocks_of difi.ivfc3)
    && (length state.marks.level4.items == blocks_of difi.ivfc4)))

-- nothing was put or cleared
abbrev pub HasNoMarks : IvfcState → Type 0
HasNoMarks state = (level block : ℕ) → is_marked state level block ≡ false

-- nor is anything remembered
abbrev pub IsEmpty : IvfcState → Type 0
IsEmpty state = (level block : ℕ) → mark_at state level block ≡ Unknown

-- the same blocks were put or cleared
abbrev pub SameMarks : IvfcState → IvfcState → Type 0
SameMarks old new = (level block : ℕ) → is_marked new level block ≡ is_marked old level block

-- as many marks of each level
abbrev pub AreAsMany : Marks → Marks → Type 0
AreAsMany old new = (level : ℕ) → length (level_marks new level) ≡ length (level_marks old level)

abbrev pub AsManyMarks : IvfcState → IvfcState → Type 0
AsManyMarks old new = AreAsMany old.marks new.marks

-- one mark was set, and no other was changed
pub record IsSet (level block : ℕ) (mark : BlockMark) (old new : Marks) : Type 0 where
  pub here : mark_in new level block ≡ mark
  pub others : (l b : ℕ) → (l ≡ level → b ≡ block → ⊥) → mark_in new l b ≡ mark_in old l b
  pub many : AreAsMany old new

-- a block was put or cleared: no other's mark was changed
abbrev pub MarksBlock : ℕ → ℕ → IvfcState → IvfcState → Type 0
MarksBlock level block old new = IsSet level block Put old.marks new.marks × (new.hashed ≡ old.hashed)

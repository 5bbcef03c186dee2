-- Blocks of level 3 that are marked as touched are read from the copy that is not chosen.
use Rattle.std.specs.Prelude.{◌≡◌, ℕ, zero, suc, ◌+◌, ◌-◌, ◌/◌, ◌%◌, ◌^◌, ◌<◌, min, Bool, true, false, ◌||◌, nat_lt}
use Rattle.std.specs.Prelude.{List, length, get_or, if◌then◌else◌}
use Rattle.difi.specs.declared.descriptor.Difi.{Difi}
use Rattle.difi.specs.Places.{blocks_of}
use Rattle.dpfs_tree.specs.declared.state.DpfsState.{DpfsState}
use Rattle.dpfs_tree.specs.Picks.{bit_of, copy_place, pick2, external_place}
use Rattle.difi.specs.Contents.{view_size}

-- a block past the last mark is not marked
abbrev pub is_marked : List Bool → ℕ → Bool
is_marked touched block = get_or touched block false

-- one of the n marks from one on is set
unfoldable pub some_marked : (ℕ → Bool) → ℕ → ℕ → Bool
some_marked marked from zero = false
some_marked marked from (suc n) = some_marked marked from n || marked (from + n)

-- the copy in which a block is read, by its mark and its bit
abbrev pub copy_read : Bool → ℕ → ℕ
copy_read marked bit = if marked then 1 - bit else bit

-- where byte x of a view lies in its base, by which blocks of level 3 are read from the copy that is not chosen
unfoldable pub place_by : (ℕ → ℕ) → ℕ → Difi → ℕ → (ℕ → Bool) → ℕ → ℕ
place_by bytes part_at difi selector marked x =
    if nat_lt x difi.dpfs3.size
    then copy_place part_at difi.dpfs3
    (copy_read (marked (x / 2 ^ difi.dpfs3.log)) (bit_of (pick2 bytes part_at difi selector) (x / 2 ^ difi.dpfs3.log)))
    x
    else external_place part_at difi x

-- and by the marks of a state
abbrev pub place_of : (ℕ → ℕ) → ℕ → Difi → DpfsState → ℕ → ℕ
place_of bytes part_at difi state = place_by bytes part_at difi state.selector (is_marked state.touched.items)

-- where a byte is written: in the copy that is not chosen, or in external level four
abbrev pub other_place : (ℕ → ℕ) → ℕ → Difi → ℕ → ℕ → ℕ
other_place bytes part_at difi selector = place_by bytes part_at difi selector (λ block. true)

-- how many bytes from a place on lie in one copy of one block, or in external level four
unfoldable pub run_of : Difi → ℕ → ℕ
run_of difi at =
    if nat_lt at difi.dpfs3.size
    then min (2 ^ difi.dpfs3.log - at % 2 ^ difi.dpfs3.log) (difi.dpfs3.size - at)
    else view_size difi - at

-- a state has a mark for each block of level 3, and selects a copy where the descriptor does
pub record IsMadeForContents (difi : Difi) (state : DpfsState) : Type 0 where
  pub marks : length state.touched.items ≡ blocks_of difi.dpfs3
  pub selector : difi.selector < 2 → state.selector < 2

-- a state with no mark, whose selector is the descriptor's
pub record IsFreshContents (difi : Difi) (state : DpfsState) : Type 0 where
  pub made : IsMadeForContents difi state
  pub selector : state.selector ≡ difi.selector
  pub unmarked : (block : ℕ) → is_marked state.touched.items block ≡ false

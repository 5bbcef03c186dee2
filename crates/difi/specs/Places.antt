-- Levels of blocks, and lists of ranges.
use Rattle.std.specs.Prelude.{ℕ, ◌*◌, ◌^◌, ◌/◌, Bool, not, ◌==◌, List}
use Rattle.std.specs.List.{list_any}
use Rattle.std.specs.Int.{div_ceil}
use Rattle.save_bytes.specs.declared.extent.Extent.{Extent}
use Rattle.save_bytes.specs.Extents.{lies_inside}
use Rattle.difi.specs.declared.places.LevelPlace.{LevelPlace}

abbrev pub some_empty : List Extent → Bool
some_empty extents = list_any (λ extent. extent.size == 0) extents

-- one of them does not lie inside 0 to an end
abbrev pub some_outside : List Extent → ℕ → Bool
some_outside extents end = list_any (λ extent. not (lies_inside extent 0 end)) extents

abbrev pub extent_of : LevelPlace → Extent
extent_of level = record { at = level.at; size = level.size }

-- both copies of a level: the second stands directly behind the first
abbrev pub copies_of : LevelPlace → Extent
copies_of level = record { at = level.at; size = 2 * level.size }

abbrev pub block_size : LevelPlace → ℕ
block_size level = 2 ^ level.log

-- the size divided by the block size, rounded up
abbrev pub blocks_of : LevelPlace → ℕ
blocks_of level = div_ceil level.size (block_size level)

-- the bytes of the 32-bit words with one bit for each block
abbrev pub bitmap_size : LevelPlace → ℕ
bitmap_size level = 4 * div_ceil (blocks_of level) 32

-- an entry has 32 bytes
abbrev pub entries_in : ℕ → ℕ
entries_in bytes = bytes / 32

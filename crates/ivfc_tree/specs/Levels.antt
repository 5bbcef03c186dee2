-- The levels of a hash tree: which bytes they have, their blocks, and the entry of each block.
use Rattle.std.specs.Prelude.{ℕ, ◌+◌, ◌-◌, ◌*◌, ◌/◌, ◌<◌, ◌≤◌, ◌==◌, min, List, ◌++◌, length, take, drop, replicate}
use Rattle.std.specs.Prelude.{if◌then◌else◌}
use Rattle.save_bytes.specs.Cells.{Cell}
use Rattle.save_bytes.specs.CellNumbers.{bytes_in}
use Rattle.difi.specs.declared.places.LevelPlace.{LevelPlace}
use Rattle.difi.specs.declared.descriptor.Difi.{Difi}
use Rattle.difi.specs.Places.{block_size, blocks_of}

-- there are four levels; the fourth has the contents
abbrev pub IsLevel : ℕ → Type 0
IsLevel level = (1 ≤ level) × (level ≤ 4)

-- where level four lies in the base: among the others, or, where it is external, behind all of the double-copy tree's
-- level 3
abbrev pub level4_of : Difi → LevelPlace
level4_of difi = if difi.external then record difi.ivfc4 { at = difi.dpfs3.size } else difi.ivfc4

-- where a level lies in the base
unfoldable pub level_of : Difi → ℕ → LevelPlace
level_of difi level =
    if level == 1 then difi.ivfc1
    else (if level == 2 then difi.ivfc2 else (if level == 3 then difi.ivfc3 else level4_of difi))

-- a level has a block of this number
pub record HasBlock (difi : Difi) (level block : ℕ) : Type 0 where
  pub in_tree : IsLevel level
  pub in_level : block < blocks_of (level_of difi level)

-- where a block begins in the base
abbrev pub block_begin : Difi → ℕ → ℕ → ℕ
block_begin difi level block = (level_of difi level).at + block * block_size (level_of difi level)

-- how many bytes of a block its level has
abbrev pub len_of : Difi → ℕ → ℕ → ℕ
len_of difi level block =
    min (block_size (level_of difi level)) ((level_of difi level).size - block * block_size (level_of difi level))

-- the bytes of a level
abbrev pub ivfc_level : (ℕ → Cell) → Difi → ℕ → List ℕ
ivfc_level cells difi level = bytes_in cells (level_of difi level).at (level_of difi level).size

-- the bytes of a block; the last of a level may be shorter than the block size
abbrev pub block_bytes : (ℕ → Cell) → Difi → ℕ → ℕ → List ℕ
block_bytes cells difi level block =
    take (block_size (level_of difi level))
    (drop (block * block_size (level_of difi level)) (ivfc_level cells difi level))

-- a block filled with zeros to the block size
unfoldable pub padded_block : (ℕ → Cell) → Difi → ℕ → ℕ → List ℕ
padded_block cells difi level block =
    block_bytes cells difi level block
    ++ replicate (block_size (level_of difi level) - length (block_bytes cells difi level block)) 0

-- where the entries of a level's blocks stand: in the level above, those of level 1 in the master hash
abbrev pub level_entries : (ℕ → Cell) → List ℕ → Difi → ℕ → List ℕ
level_entries cells master difi level = if level == 1 then master else ivfc_level cells difi (level - 1)

-- the 32 bytes that stand for a block
unfoldable pub hash_entry : (ℕ → Cell) → List ℕ → Difi → ℕ → ℕ → List ℕ
hash_entry cells master difi level block = take 32 (drop (32 * block) (level_entries cells master difi level))

-- the entry of a block that was never written
abbrev pub zero_entry : List ℕ
zero_entry = replicate 32 0

-- the block of a level in which the entry of a block of the next level lies
abbrev pub parent_of : Difi → ℕ → ℕ → ℕ
parent_of difi upper block = 32 * block / block_size (level_of difi upper)

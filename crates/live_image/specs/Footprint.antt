-- The sectors that a transaction may write.
use Rattle.std.specs.Prelude.{◌≡◌, ℕ, ◌+◌, ◌-◌, ◌*◌, ◌/◌, ◌^◌, ◌<◌, ◌≤◌, Bool, true, IsTrue, List, length}
use Rattle.std.specs.Prelude.{slice_index, Ok}
use Rattle.container_header.specs.declared.header.Header.{Header}
use Rattle.container_header.specs.Conditions.{reading as header_reading}
use Rattle.container_header.specs.Sound.{inactive_at}
use Rattle.difi.specs.declared.descriptor.Difi.{Difi}
use Rattle.difi.specs.Places.{block_size}
use Rattle.dpfs_tree.specs.Picks.{copy_place}
use Rattle.ivfc_tree.specs.Levels.{IsLevel, level_of}
use Rattle.ivfc_tree.specs.Held.{IsOnPath}
use Rattle.container.specs.Openings.{partition_of}
use Rattle.live_image.specs.Live.{copy1, copy2, copy3}
use Rattle.live_image.specs.Same.{HasPart, external_at}

-- a block of DPFS level 3 meets one of these level-four blocks, where level four is internal, or a block above one in
-- IVFC levels 1 to 3
pub record MeetsPath (difi : Difi) (blocks : ℕ → Bool) (block : ℕ) : Type 0 where
  pub four : ℕ
  pub level : ℕ
  pub at : ℕ
  pub in_four : four < difi.ivfc4.size
  pub touched : IsTrue (blocks (four / block_size difi.ivfc4))
  pub in_tree : IsLevel level
  pub on_path : IsOnPath difi four level at
  pub inside : (level_of difi level).at + at < difi.dpfs3.size
  pub there : ((level_of difi level).at + at) / 2 ^ difi.dpfs3.log ≡ block

-- a block of DPFS level 2 has the bit of such a block
pub record HasPathBit (difi : Difi) (blocks : ℕ → Bool) (block : ℕ) : Type 0 where
  pub bit : ℕ
  pub met : MeetsPath difi blocks bit
  pub there : 4 * (bit / 32) / 2 ^ difi.dpfs2.log ≡ block

-- a place of a part: in the copy not chosen of level 1, of a block of level 2 that has such a bit, or of such a block
-- of level 3; or in one of the level-four blocks, where level four is external
pub data MayWriteIn (image : List ℕ) (header : Header) (part : ℕ) (difi : Difi) (blocks : ℕ → Bool)
    (place : ℕ) : Type 0 where
  Bits1 : (x : ℕ) → x < difi.dpfs1.size
      → place ≡ copy_place (partition_of header part).at difi.dpfs1 (1 - copy1 difi x) x
      → MayWriteIn image header part difi blocks place
  Bits2 : (x : ℕ) → x < difi.dpfs2.size → HasPathBit difi blocks (x / 2 ^ difi.dpfs2.log)
      → place ≡ copy_place (partition_of header part).at difi.dpfs2
      (1 - copy2 (λ y. slice_index image y) (partition_of header part).at difi x) x
      → MayWriteIn image header part difi blocks place
  Contents : (x : ℕ) → x < difi.dpfs3.size → MeetsPath difi blocks (x / 2 ^ difi.dpfs3.log)
      → place ≡ copy_place (partition_of header part).at difi.dpfs3
      (1 - copy3 (λ y. slice_index image y) (partition_of header part).at difi x) x
      → MayWriteIn image header part difi blocks place
  External : (x : ℕ) → difi.external ≡ true → x < difi.ivfc4.size → IsTrue (blocks (x / block_size difi.ivfc4))
      → place ≡ external_at header part difi x → MayWriteIn image header part difi blocks place

-- a place of an image, for a set of level-four blocks of each part: in bytes 0 to 511, in the table that is not active,
-- or in a part
pub data MayWrite (image : List ℕ) (blocks : ℕ → ℕ → Bool) (place : ℕ) : Type 0 where
  Front : place < 512 → MayWrite image blocks place
  Table : (header : Header) → header_reading image ≡ Ok header → inactive_at header ≤ place
      → place < inactive_at header + header.table_size → MayWrite image blocks place
  InPart : (header : Header) (part : ℕ) (difi : Difi) → HasPart image header part difi
      → MayWriteIn image header part difi (blocks part) place → MayWrite image blocks place

-- a sector that has such a place
pub record write_footprint (grain : ℕ) (image : List ℕ) (blocks : ℕ → ℕ → Bool) (sector : ℕ) : Type 0 where
  pub place : ℕ
  pub begins : sector * grain ≤ place
  pub ends : place < sector * grain + grain
  pub inside : place < length image
  pub may : MayWrite image blocks place

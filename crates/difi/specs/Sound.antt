-- What a descriptor that was read keeps, as plain facts: no condition of it fails.
use Rattle.std.specs.Prelude.{◌≡◌, ℕ, ◌+◌, ◌*◌, ◌^◌, ◌<◌, ◌≤◌, true, false, List, take, drop, codes}
use Rattle.save_bytes.specs.declared.extent.Extent.{Extent}
use Rattle.save_bytes.specs.Extents.{AreApart}
use Rattle.difi.specs.declared.places.LevelPlace.{LevelPlace}
use Rattle.difi.specs.declared.descriptor.Difi.{Difi}
use Rattle.difi.specs.Places.{extent_of, copies_of, blocks_of, bitmap_size}
use Rattle.difi.specs.Fields.{word_at, ivfc_extent, dpfs_extent, ivfc_place, dpfs_place}
use Rattle.difi.specs.Conditions.{external_extent}

abbrev pub IsBetween : ℕ → ℕ → ℕ → Type 0
IsBetween low high n = (low ≤ n) × (n ≤ high)

-- the parts of the descriptor that are read, as places in it
abbrev pub difi_part : Extent
difi_part = record { at = 0; size = 0x44 }

abbrev pub ivfc_part : Difi → Extent
ivfc_part difi = record { at = difi.ivfc_at; size = 0x78 }

abbrev pub dpfs_part : Difi → Extent
dpfs_part difi = record { at = difi.dpfs_at; size = 0x50 }

-- the parts and the master hash lie inside the descriptor, apart from each other
pub record HasParts (difi : Difi) (size : ℕ) : Type 0 where
  pub ivfc : difi.ivfc_at + 0x78 ≤ size
  pub dpfs : difi.dpfs_at + 0x50 ≤ size
  pub master : difi.master.at + difi.master.size ≤ size
  pub difi_ivfc : AreApart difi_part (ivfc_part difi)
  pub difi_dpfs : AreApart difi_part (dpfs_part difi)
  pub difi_master : AreApart difi_part difi.master
  pub ivfc_dpfs : AreApart (ivfc_part difi) (dpfs_part difi)
  pub ivfc_master : AreApart (ivfc_part difi) difi.master
  pub dpfs_master : AreApart (dpfs_part difi) difi.master

-- the logarithms of the block sizes are in their ranges; DPFS level 1 is not read by blocks
pub record HasBlockSizes (difi : Difi) : Type 0 where
  pub dpfs2 : IsBetween 7 16 difi.dpfs2.log
  pub dpfs3 : IsBetween 7 16 difi.dpfs3.log
  pub ivfc1 : IsBetween 9 16 difi.ivfc1.log
  pub ivfc2 : IsBetween 9 16 difi.ivfc2.log
  pub ivfc3 : IsBetween 9 16 difi.ivfc3.log
  pub ivfc4 : IsBetween 9 16 difi.ivfc4.log

-- a level is not empty, and both its copies lie inside the partition
pub record IsPlaced (level : LevelPlace) (part_len : ℕ) : Type 0 where
  pub some : 0 < level.size
  pub inside : level.at + 2 * level.size ≤ part_len

-- the double-copy tree: each level has its copies, apart from the others', and a bit for each block of the next level
pub record HasCopies (difi : Difi) (part_len : ℕ) : Type 0 where
  pub level1 : IsPlaced difi.dpfs1 part_len
  pub level2 : IsPlaced difi.dpfs2 part_len
  pub level3 : IsPlaced difi.dpfs3 part_len
  pub bits1 : bitmap_size difi.dpfs2 ≤ difi.dpfs1.size
  pub bits2 : bitmap_size difi.dpfs3 ≤ difi.dpfs2.size
  pub apart12 : AreApart (copies_of difi.dpfs1) (copies_of difi.dpfs2)
  pub apart13 : AreApart (copies_of difi.dpfs1) (copies_of difi.dpfs3)
  pub apart23 : AreApart (copies_of difi.dpfs2) (copies_of difi.dpfs3)

-- the hash tree: no level is empty, those in DPFS level 3 lie inside it and apart, and there is an entry of 32 bytes
-- for each block
pub record HasHashLevels (difi : Difi) : Type 0 where
  pub some1 : 0 < difi.ivfc1.size
  pub some2 : 0 < difi.ivfc2.size
  pub some3 : 0 < difi.ivfc3.size
  pub some4 : 0 < difi.ivfc4.size
  pub inside1 : difi.ivfc1.at + difi.ivfc1.size ≤ difi.dpfs3.size
  pub inside2 : difi.ivfc2.at + difi.ivfc2.size ≤ difi.dpfs3.size
  pub inside3 : difi.ivfc3.at + difi.ivfc3.size ≤ difi.dpfs3.size
  pub inside4 : difi.external ≡ false → difi.ivfc4.at + difi.ivfc4.size ≤ difi.dpfs3.size
  pub apart12 : AreApart (extent_of difi.ivfc1) (extent_of difi.ivfc2)
  pub apart13 : AreApart (extent_of difi.ivfc1) (extent_of difi.ivfc3)
  pub apart23 : AreApart (extent_of difi.ivfc2) (extent_of difi.ivfc3)
  pub apart14 : difi.external ≡ false → AreApart (extent_of difi.ivfc1) (extent_of difi.ivfc4)
  pub apart24 : difi.external ≡ false → AreApart (extent_of difi.ivfc2) (extent_of difi.ivfc4)
  pub apart34 : difi.external ≡ false → AreApart (extent_of difi.ivfc3) (extent_of difi.ivfc4)
  pub entries1 : 32 * blocks_of difi.ivfc1 ≤ difi.master.size
  pub entries2 : 32 * blocks_of difi.ivfc2 ≤ difi.ivfc1.size
  pub entries3 : 32 * blocks_of difi.ivfc3 ≤ difi.ivfc2.size
  pub entries4 : 32 * blocks_of difi.ivfc4 ≤ difi.ivfc3.size

-- external level four lies inside the partition, apart from the levels of two copies
pub record HasExternalLevel (difi : Difi) (part_len : ℕ) : Type 0 where
  pub inside : difi.external_at + difi.ivfc4.size ≤ part_len
  pub apart1 : AreApart (external_extent difi) (copies_of difi.dpfs1)
  pub apart2 : AreApart (external_extent difi) (copies_of difi.dpfs2)
  pub apart3 : AreApart (external_extent difi) (copies_of difi.dpfs3)

-- the selector names a copy, and both trees are laid out soundly in a partition of a length
pub record HasSoundLevels (difi : Difi) (part_len : ℕ) : Type 0 where
  pub selector : difi.selector < 2
  pub block_sizes : HasBlockSizes difi
  pub copies : HasCopies difi part_len
  pub hash_levels : HasHashLevels difi
  pub external_level : difi.external ≡ true → HasExternalLevel difi part_len

-- a descriptor of a size, for a partition of a length, on which no condition fails
pub record IsSoundDifi (difi : Difi) (size part_len : ℕ) : Type 0 where
  pub parts : HasParts difi size
  pub levels : HasSoundLevels difi part_len

-- the size of a pair of copies is a number of 64 bits
pub record CopiesFit (difi : Difi) : Type 0 where
  pub level1 : 2 * difi.dpfs1.size < 2 ^ 64
  pub level2 : 2 * difi.dpfs2.size < 2 ^ 64
  pub level3 : 2 * difi.dpfs3.size < 2 ^ 64

-- the bytes at a place are a descriptor: its three parts have their names and versions, and DIFI gives the other two no
-- less
-- than what is read of them, inside the descriptor
pub record IsDescriptor (table : List ℕ) (place size : ℕ) : Type 0 where
  pub difi_name : take 4 (drop place table) ≡ codes "DIFI"
  pub difi_version : word_at table (place + 4) ≡ 0x10000
  pub ivfc_name : take 4 (drop (ivfc_place table place) table) ≡ codes "IVFC"
  pub ivfc_version : word_at table (ivfc_place table place + 4) ≡ 0x20000
  pub dpfs_name : take 4 (drop (dpfs_place table place) table) ≡ codes "DPFS"
  pub dpfs_version : word_at table (dpfs_place table place + 4) ≡ 0x10000
  pub ivfc_long : 0x78 ≤ (ivfc_extent table place).size
  pub ivfc_inside : (ivfc_extent table place).at + (ivfc_extent table place).size ≤ size
  pub dpfs_long : 0x50 ≤ (dpfs_extent table place).size
  pub dpfs_inside : (dpfs_extent table place).at + (dpfs_extent table place).size ≤ size

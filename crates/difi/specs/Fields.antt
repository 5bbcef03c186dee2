-- The fields of a descriptor as they stand in a table. It begins with DIFI, which says where in the descriptor the
-- other two parts stand, IVFC and DPFS. Those have the levels of the hash tree and of the double-copy tree.
use Rattle.std.specs.Prelude.{ℕ, ◌+◌, Bool, not, ◌==◌, List, take, drop, slice_index, bytes_eq}
use Rattle.save_bytes.specs.Fields.{number_at}
use Rattle.save_bytes.specs.declared.extent.Extent.{Extent}
use Rattle.difi.specs.declared.places.LevelPlace.{LevelPlace}
use Rattle.difi.specs.declared.descriptor.Difi.{Difi}

-- the four bytes from a place on are these letters
abbrev pub has_name : List ℕ → ℕ → List ℕ → Bool
has_name table at name = bytes_eq (take 4 (drop at table)) name

-- a 32-bit field, and a 64-bit one
abbrev pub word_at : List ℕ → ℕ → ℕ
word_at table at = number_at 4 table at

abbrev pub long_at : List ℕ → ℕ → ℕ
long_at table at = number_at 8 table at

-- an offset field and the size field behind it
abbrev pub extent_at : List ℕ → ℕ → Extent
extent_at table at = record { at = long_at table at; size = long_at table (at + 8) }

-- a level's offset, its size, and the logarithm of its block size
abbrev pub level_at : List ℕ → ℕ → LevelPlace
level_at table at = record { at = long_at table at; size = long_at table (at + 8); log = word_at table (at + 16) }

-- DIFI stands at the descriptor's own place. These three are relative to it: the other two parts, and the master hash
abbrev pub ivfc_extent : List ℕ → ℕ → Extent
ivfc_extent table place = extent_at table (place + 0x08)

abbrev pub dpfs_extent : List ℕ → ℕ → Extent
dpfs_extent table place = extent_at table (place + 0x18)

abbrev pub master_extent : List ℕ → ℕ → Extent
master_extent table place = extent_at table (place + 0x28)

abbrev pub selector_at : List ℕ → ℕ → ℕ
selector_at table place = slice_index table (place + 0x39)

-- where the other two parts stand in the table
abbrev pub ivfc_place : List ℕ → ℕ → ℕ
ivfc_place table place = place + (ivfc_extent table place).at

abbrev pub dpfs_place : List ℕ → ℕ → ℕ
dpfs_place table place = place + (dpfs_extent table place).at

-- the fields of the descriptor at a place of a table
unfoldable pub fields : List ℕ → ℕ → Difi
fields table place = record {
  place = place;
  ivfc_at = (ivfc_extent table place).at;
  dpfs_at = (dpfs_extent table place).at;
  master = master_extent table place;
  external = not (slice_index table (place + 0x38) == 0);
  external_at = long_at table (place + 0x3C);
  selector = selector_at table place;
  ivfc1 = level_at table (ivfc_place table place + 0x10);
  ivfc2 = level_at table (ivfc_place table place + 0x28);
  ivfc3 = level_at table (ivfc_place table place + 0x40);
  ivfc4 = level_at table (ivfc_place table place + 0x58);
  dpfs1 = level_at table (dpfs_place table place + 0x08);
  dpfs2 = level_at table (dpfs_place table place + 0x20);
  dpfs3 = level_at table (dpfs_place table place + 0x38);
}

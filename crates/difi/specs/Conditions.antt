-- Which conditions of a descriptor fail, in the order in which a fault is named.
use Rattle.std.specs.Prelude.{ℕ, ◌+◌, Bool, ◌&&◌, ◌||◌, not, ◌==◌, nat_lt, List, [], ◌∷◌, ◌++◌, take, codes, Result, Ok}
use Rattle.std.specs.Prelude.{Err, if◌then◌else◌}
use Rattle.std.specs.List.{list_any}
use Rattle.save_bytes.specs.declared.extent.Extent.{Extent}
use Rattle.save_bytes.specs.Extents.{is_outside, lies_inside, overlap, some_overlap}
use Rattle.difi.specs.declared.places.LevelPlace.{LevelPlace}
use Rattle.difi.specs.declared.descriptor.Difi.{Difi}
use Rattle.difi.specs.declared.fault.DifiFault.{DifiFault}
use Rattle.difi.specs.declared.fault.DifiFault.TheVariants.{Magic, Version, Layout}
use Rattle.difi.specs.Places.{some_empty, some_outside, extent_of, copies_of, blocks_of, bitmap_size, entries_in}
use Rattle.difi.specs.Fields.{has_name, word_at, ivfc_extent, dpfs_extent, master_extent, selector_at, ivfc_place}
use Rattle.difi.specs.Fields.{dpfs_place, fields}

-- the bytes of each part that are read
abbrev pub difi_size : ℕ
difi_size = 0x44

abbrev pub ivfc_size : ℕ
ivfc_size = 0x78

abbrev pub dpfs_size : ℕ
dpfs_size = 0x50

-- the parts and the master hash, as places in the descriptor
abbrev pub parts : ℕ → ℕ → Extent → List Extent
parts ivfc_at dpfs_at master =
    record { at = 0; size = difi_size }
    ∷ record { at = ivfc_at; size = ivfc_size }
    ∷ record { at = dpfs_at; size = dpfs_size }
    ∷ master
    ∷ []

-- a part does not lie inside the descriptor, or is shorter than what is read of it
abbrev pub is_bad_part : Extent → ℕ → ℕ → Bool
is_bad_part part least size = not (lies_inside part 0 size) || nat_lt part.size least

-- whether each condition on DIFI fails: its name and version, the two parts and the master hash inside the
-- descriptor, all of them apart, and the selector
unfoldable pub difi_tests : List ℕ → ℕ → ℕ → List (DifiFault × Bool)
difi_tests table place size =
    (Magic 1, not (has_name table place (codes "DIFI")))
    ∷ (Version 1, not (word_at table (place + 4) == 0x10000))
    ∷ (Layout 1, is_bad_part (ivfc_extent table place) ivfc_size size)
    ∷ (Layout 2, is_bad_part (dpfs_extent table place) dpfs_size size)
    ∷ (Layout 3, not (lies_inside (master_extent table place) 0 size))
    ∷ (
      Layout 4,
      some_overlap
          (parts (ivfc_extent table place).at (dpfs_extent table place).at (master_extent table place)),
    )
    ∷ (Layout 5, nat_lt 1 (selector_at table place))
    ∷ []

-- whether the other two parts have their names and versions
unfoldable pub name_tests : List ℕ → ℕ → ℕ → List (DifiFault × Bool)
name_tests table ivfc dpfs =
    (Magic 2, not (has_name table ivfc (codes "IVFC")))
    ∷ (Version 2, not (word_at table (ivfc + 4) == 0x20000))
    ∷ (Magic 3, not (has_name table dpfs (codes "DPFS")))
    ∷ (Version 3, not (word_at table (dpfs + 4) == 0x10000))
    ∷ []

-- a block of DPFS level 2 or 3 has 2 ^ 7 to 2 ^ 16 bytes, one of an IVFC level 2 ^ 9 to 2 ^ 16
unfoldable pub has_bad_log : Difi → Bool
has_bad_log difi =
    is_outside 7 16 difi.dpfs2.log || is_outside 7 16 difi.dpfs3.log || is_outside 9 16 difi.ivfc1.log
    || is_outside 9 16 difi.ivfc2.log || is_outside 9 16 difi.ivfc3.log || is_outside 9 16 difi.ivfc4.log

-- a level of two copies is empty, or its copies do not lie inside the partition
abbrev pub has_no_place : LevelPlace → ℕ → Bool
has_no_place level part_len = (level.size == 0) || not (lies_inside (copies_of level) 0 part_len)

unfoldable pub has_bad_copies : Difi → ℕ → Bool
has_bad_copies difi part_len = has_no_place difi.dpfs1 part_len || has_no_place difi.dpfs2 part_len || has_no_place
    difi.dpfs3 part_len

-- a level has no bit for some block of the next
unfoldable pub has_short_bitmap : Difi → Bool
has_short_bitmap difi = nat_lt difi.dpfs1.size (bitmap_size difi.dpfs2) || nat_lt difi.dpfs2.size
    (bitmap_size difi.dpfs3)

-- the three pairs of copies in the partition
abbrev pub pairs : Difi → List Extent
pairs difi = copies_of difi.dpfs1 ∷ copies_of difi.dpfs2 ∷ copies_of difi.dpfs3 ∷ []

unfoldable pub has_overlapping_copies : Difi → Bool
has_overlapping_copies difi = some_overlap (pairs difi)

abbrev pub hash_levels : Difi → List Extent
hash_levels difi = extent_of difi.ivfc1 ∷ extent_of difi.ivfc2 ∷ extent_of difi.ivfc3 ∷ extent_of difi.ivfc4 ∷ []

abbrev pub inner_count : Difi → ℕ
inner_count difi = if difi.external then 3 else 4

-- the IVFC levels in DPFS level 3: all but level 4 where that is external
abbrev pub inner_levels : Difi → List Extent
inner_levels difi = take (inner_count difi) (hash_levels difi)

-- an IVFC level is empty, or one of those in DPFS level 3 does not lie inside it
unfoldable pub has_bad_level : Difi → Bool
has_bad_level difi = some_empty (hash_levels difi) || some_outside (inner_levels difi) difi.dpfs3.size

unfoldable pub has_overlapping_levels : Difi → Bool
has_overlapping_levels difi = some_overlap (inner_levels difi)

-- level four where it is external: a range of the partition
abbrev pub external_extent : Difi → Extent
external_extent difi = record { at = difi.external_at; size = difi.ivfc4.size }

-- external level four does not lie inside the partition, or overlaps a DPFS level's copies
unfoldable pub has_bad_external : Difi → ℕ → Bool
has_bad_external difi part_len =
    difi.external && (not (lies_inside (external_extent difi) 0 part_len) || list_any (overlap (external_extent difi))
    (pairs difi))

-- the master hash or an IVFC level has no entry for some block of the level below it
unfoldable pub has_too_few_entries : Difi → Bool
has_too_few_entries difi =
    nat_lt (entries_in difi.master.size) (blocks_of difi.ivfc1) || nat_lt (entries_in difi.ivfc1.size)
    (blocks_of difi.ivfc2)
    || nat_lt (entries_in difi.ivfc2.size) (blocks_of difi.ivfc3) || nat_lt (entries_in difi.ivfc3.size)
    (blocks_of difi.ivfc4)

-- whether each condition on the levels fails, for a partition of a length
unfoldable pub level_tests : Difi → ℕ → List (DifiFault × Bool)
level_tests difi part_len =
    (Layout 6, has_bad_log difi)
    ∷ (Layout 7, has_bad_copies difi part_len)
    ∷ (Layout 8, has_short_bitmap difi)
    ∷ (Layout 9, has_overlapping_copies difi)
    ∷ (Layout 10, has_bad_level difi)
    ∷ (Layout 11, has_overlapping_levels difi)
    ∷ (Layout 12, has_bad_external difi part_len)
    ∷ (Layout 13, has_too_few_entries difi)
    ∷ []

-- the fault of the first test that fails
abbrev pub verdict : List (DifiFault × Bool) → Result (Unit {0}) DifiFault
verdict [] = Ok tt
verdict (test ∷ tests) = if test.1 then Err test.0 else verdict tests

-- all of them, in the order in which a fault is named
unfoldable pub tests : List ℕ → ℕ → ℕ → ℕ → List (DifiFault × Bool)
tests table place size part_len =
    difi_tests table place size
    ++ (name_tests table (ivfc_place table place) (dpfs_place table place)
    ++ level_tests (fields table place) part_len)

abbrev pub with_value : {A : Type 0} → A → Result (Unit {0}) DifiFault → Result A DifiFault
with_value value (Ok _) = Ok value
with_value value (Err fault) = Err fault

-- the descriptor of a size at a place of a table, for a partition of a length, or its first fault
unfoldable pub reading : List ℕ → ℕ → ℕ → ℕ → Result Difi DifiFault
reading table place size part_len = with_value (fields table place) (verdict (tests table place size part_len))

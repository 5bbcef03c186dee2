-- The places of an image on which it stands while it is open, over its whole list of bytes.
use Rattle.std.specs.Prelude.{ℕ, ◌+◌, ◌-◌, ◌/◌, ◌^◌, Bool, false, ◌&&◌, ◌||◌, ◌==◌, nat_lt, nat_le, List, slice_index}
use Rattle.std.specs.Prelude.{Result, Ok, Err}
use Rattle.container_header.specs.declared.header.Header.{Header}
use Rattle.container_header.specs.declared.fault.HeaderFault.{HeaderFault}
use Rattle.container_header.specs.Conditions.{reading as header_reading}
use Rattle.container_header.specs.Sound.{active_at}
use Rattle.difi.specs.declared.places.LevelPlace.{LevelPlace}
use Rattle.difi.specs.declared.descriptor.Difi.{Difi}
use Rattle.difi.specs.declared.fault.DifiFault.{DifiFault}
use Rattle.dpfs_tree.specs.Picks.{bit_of, copy_place, pick1, pick2}
use Rattle.container.specs.Openings.{active_table, partition_of, part_reading}

-- the place is one of so many from a place on
abbrev pub lies_from : ℕ → ℕ → ℕ → Bool
lies_from at size place = nat_le at place && nat_lt place (at + size)

-- the place lies in a copy of a level, at a byte that is read from this copy
abbrev pub in_chosen_copy : ℕ → LevelPlace → (ℕ → ℕ) → ℕ → ℕ → Bool
in_chosen_copy part_at level copy_of copy place =
    lies_from (copy_place part_at level copy 0) level.size place
    && (copy_of (place - copy_place part_at level copy 0) == copy)

-- the same of either copy, where a function tells for each byte of the level from which of them it is read
unfoldable pub live_level : ℕ → LevelPlace → (ℕ → ℕ) → ℕ → Bool
live_level part_at level copy_of place =
    in_chosen_copy part_at level copy_of 0 place || in_chosen_copy part_at level copy_of 1 place

-- DPFS level 1: the descriptor's selector chooses the copy of all of it
abbrev pub copy1 : Difi → ℕ → ℕ
copy1 difi x = difi.selector

-- DPFS level 2: the chosen level 1 has a bit for each of its blocks
abbrev pub copy2 : (ℕ → ℕ) → ℕ → Difi → ℕ → ℕ
copy2 bytes part_at difi x = bit_of (pick1 bytes part_at difi difi.selector) (x / 2 ^ difi.dpfs2.log)

-- DPFS level 3: the chosen level 2 has a bit for each of its blocks
abbrev pub copy3 : (ℕ → ℕ) → ℕ → Difi → ℕ → ℕ
copy3 bytes part_at difi x = bit_of (pick2 bytes part_at difi difi.selector) (x / 2 ^ difi.dpfs3.log)

-- a partition's double-copy tree: of each level the bytes that are chosen, and not their other copies
abbrev pub live_tree : (ℕ → ℕ) → ℕ → Difi → ℕ → Bool
live_tree bytes part_at difi place =
    live_level part_at difi.dpfs1 (copy1 difi) place
    || (live_level part_at difi.dpfs2 (copy2 bytes part_at difi) place
    || live_level part_at difi.dpfs3 (copy3 bytes part_at difi) place)

-- a partition whose descriptor has no fault; external level four is not live
abbrev pub live_part : (ℕ → ℕ) → ℕ → Result Difi DifiFault → ℕ → Bool
live_part bytes part_at (Ok difi) place = live_tree bytes part_at difi place
live_part bytes part_at (Err fault) place = false

-- a part of an image by its number, and its descriptor in the active table
abbrev pub live_of : List ℕ → Header → ℕ → ℕ → Bool
live_of image header part place =
    live_part (λ x. slice_index image x) (partition_of header part).at
    (part_reading (active_table image header) header part) place

-- behind the first 512 bytes: the active table, and each part
abbrev pub live_behind : List ℕ → Result Header HeaderFault → ℕ → Bool
live_behind image (Ok header) place =
    lies_from (active_at header) header.table_size place
    || (live_of image header 0 place || ((header.parts == 2) && live_of image header 1 place))
live_behind image (Err fault) place = false

-- The tag and the header, which are bytes 0 to 511 whatever a sector has; the active table; and of each part the chosen
-- copy of DPFS level 1, of every block of level 2 and of every block of level 3.
unfoldable pub live_places : List ℕ → ℕ → Bool
live_places image place = nat_lt place 512 || live_behind image (header_reading image) place

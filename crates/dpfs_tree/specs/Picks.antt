-- Which bytes of a base a double-copy tree chooses: three equations, over all bytes.
use Rattle.std.specs.Prelude.{ℕ, ◌+◌, ◌-◌, ◌*◌, ◌/◌, ◌%◌, ◌^◌, nat_lt, if◌then◌else◌}
use Rattle.save_bytes.specs.Cells.{Cell}
use Rattle.save_bytes.specs.CellNumbers.{value_of}
use Rattle.difi.specs.declared.places.LevelPlace.{LevelPlace}
use Rattle.difi.specs.declared.descriptor.Difi.{Difi}

-- a base read as bytes
abbrev pub bytes_of : (ℕ → Cell) → ℕ → ℕ
bytes_of cells x = value_of (cells x)

-- the number in bytes 4 * n to 4 * n + 3, the lowest byte first
unfoldable pub word_of_bits : (ℕ → ℕ) → ℕ → ℕ
word_of_bits bytes n = bytes (4 * n) + 256 * (bytes (4 * n + 1) + 256 * (bytes (4 * n + 2) + 256 * bytes (4 * n + 3)))

-- bit k of a level: 32 in a word, the highest of them first
unfoldable pub bit_of : (ℕ → ℕ) → ℕ → ℕ
bit_of bytes k = word_of_bits bytes (k / 32) / 2 ^ (31 - k % 32) % 2

-- where byte x of a copy of a level lies: copy 1 stands directly behind copy 0
abbrev pub copy_place : ℕ → LevelPlace → ℕ → ℕ → ℕ
copy_place part_at level copy x = part_at + level.at + copy * level.size + x

-- byte x of the chosen level 1: the selector chooses its copy
unfoldable pub pick1 : (ℕ → ℕ) → ℕ → Difi → ℕ → ℕ → ℕ
pick1 bytes part_at difi selector x = bytes (copy_place part_at difi.dpfs1 selector x)

-- byte x of the chosen level 2: level 1 has a bit for each of its blocks
unfoldable pub pick2 : (ℕ → ℕ) → ℕ → Difi → ℕ → ℕ → ℕ
pick2 bytes part_at difi selector x =
    bytes (copy_place part_at difi.dpfs2 (bit_of (pick1 bytes part_at difi selector) (x / 2 ^ difi.dpfs2.log)) x)

-- byte x of the chosen level 3: level 2 has a bit for each of its blocks
unfoldable pub pick3 : (ℕ → ℕ) → ℕ → Difi → ℕ → ℕ → ℕ
pick3 bytes part_at difi selector x =
    bytes (copy_place part_at difi.dpfs3 (bit_of (pick2 bytes part_at difi selector) (x / 2 ^ difi.dpfs3.log)) x)

-- where byte x of a view lies from level 3's end on: in external level four
abbrev pub external_place : ℕ → Difi → ℕ → ℕ
external_place part_at difi x = part_at + difi.external_at + (x - difi.dpfs3.size)

-- byte x of a view: the chosen level 3, then external level four
unfoldable pub chosen : (ℕ → ℕ) → ℕ → Difi → ℕ → ℕ → ℕ
chosen bytes part_at difi selector x =
    if nat_lt x difi.dpfs3.size then pick3 bytes part_at difi selector x else bytes (external_place part_at difi x)

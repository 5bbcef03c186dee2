-- Fields of a format: little-endian numbers at places of a list of bytes.
use Rattle.std.specs.Prelude.{ℕ, ◌+◌, List, ◌++◌, length, take, drop}
use Rattle.byteorder.specs.Endian.{little_from}

-- the number in the n bytes from a place on, the lowest byte first
unfoldable pub number_at : ℕ → List ℕ → ℕ → ℕ
number_at n bytes at = little_from at n bytes

-- the list with a piece in place of as many bytes from a place on
abbrev pub with_bytes : List ℕ → ℕ → List ℕ → List ℕ
with_bytes bytes at piece = take at bytes ++ piece ++ drop (at + length piece) bytes

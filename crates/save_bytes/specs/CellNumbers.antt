-- Numbers that stand in cells.
use Rattle.std.specs.Prelude.{ℕ, zero, suc, List, [], ◌∷◌}
use Rattle.save_bytes.specs.Fields.{number_at}
use Rattle.save_bytes.specs.Cells.{Cell, Byte, Blank, Spoilt}

-- the value of a byte, and 0 for a cell that is none
abbrev pub value_of : Cell → ℕ
value_of (Byte value) = value
value_of (Blank part level block) = 0
value_of (Spoilt part level block) = 0

-- the values of the n cells from a place on
unfoldable pub bytes_in : (ℕ → Cell) → ℕ → ℕ → List ℕ
bytes_in cells at zero = []
bytes_in cells at (suc n) = value_of (cells at) ∷ bytes_in cells (suc at) n

-- the number in the n cells from a place on, the lowest byte first
abbrev pub number_in : ℕ → (ℕ → Cell) → ℕ → ℕ
number_in n cells at = number_at n (bytes_in cells at n) 0

-- Words of bits in which some bits are turned.
use Rattle.std.specs.Prelude.{◌≡◌, ℕ, zero, suc, ◌+◌, ◌*◌, ◌<◌, ◌≤◌, Bool, if◌then◌else◌, bit_xor}
use Rattle.save_bytes.specs.Cells.{Cell}
use Rattle.save_bytes.specs.CellNumbers.{number_in}

-- the number whose i bits are those of the flags from one on, the highest bit first
unfoldable pub mask_of : (ℕ → Bool) → ℕ → ℕ → ℕ
mask_of flags from zero = 0
mask_of flags from (suc i) = 2 * mask_of flags from i + (if flags (from + i) then 1 else 0)

-- so many words from one place on are those that were at another, with the bits turned that have a flag; the first of
-- them
-- is word `first` of its level
abbrev pub AreTurned : (ℕ → Bool) → (ℕ → Cell) → ℕ → ℕ → ℕ → ℕ → (ℕ → Cell) → Type 0
AreTurned flags old from to first count new = (i : ℕ) → i < count
    → number_in 4 new (to + 4 * i) ≡ bit_xor (number_in 4 old (from + 4 * i)) (mask_of flags (32 * (first + i)) 32)

-- a block of bits was copied with some of them turned; what lies behind its words was copied as it is
pub record IsTurned (flags : ℕ → Bool) (old : ℕ → Cell) (from to len first count : ℕ) (new : ℕ → Cell) : Type 0 where
  pub words : AreTurned flags old from to first count new
  pub rest : (k : ℕ) → 4 * count ≤ k → k < len → new (to + k) ≡ old (from + k)

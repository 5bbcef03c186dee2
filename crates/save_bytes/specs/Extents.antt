-- Ranges of bytes. Offsets and sizes are whole numbers: no sum wraps.
use Rattle.std.specs.Prelude.{ℕ, ◌+◌, ◌<◌, ◌≤◌, Bool, false, ◌&&◌, ◌||◌, nat_lt, nat_le, max, min, List, [], ◌∷◌}
use Rattle.std.specs.List.{list_any}
use Rattle.save_bytes.specs.declared.extent.Extent.{Extent}

-- n is not one of the numbers from low to high
abbrev pub is_outside : ℕ → ℕ → ℕ → Bool
is_outside low high n = nat_lt n low || nat_lt high n

-- the beginning and the end of a range lie in the range from low to high
pub record LiesInside (extent : Extent) (low high : ℕ) : Type 0 where
  pub begins : low ≤ extent.at
  pub ends : extent.at + extent.size ≤ high

-- the same as a test
abbrev pub lies_inside : Extent → ℕ → ℕ → Bool
lies_inside extent low high = nat_le low extent.at && nat_le (extent.at + extent.size) high

-- no place lies in both
abbrev pub AreApart : Extent → Extent → Type 0
AreApart one other = (x : ℕ) → one.at ≤ x → x < one.at + one.size → other.at ≤ x → x < other.at + other.size → ⊥

-- some place lies in both: the later beginning is before the earlier end
abbrev pub overlap : Extent → Extent → Bool
overlap one other = nat_lt (max one.at other.at) (min (one.at + one.size) (other.at + other.size))

-- two of them overlap
abbrev pub some_overlap : List Extent → Bool
some_overlap [] = false
some_overlap (extent ∷ extents) = list_any (overlap extent) extents || some_overlap extents

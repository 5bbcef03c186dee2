-- What a space means: one cell for each of its places.
use Rattle.std.specs.Prelude.{◌≡◌, ℕ, ◌+◌, ◌<◌, ◌≤◌, List, length, slice_index, ⊤}

-- A byte, or no byte: never written, or spoilt. Then the topmost block at fault is named by its part, level and number.
pub data Cell : Type 0 where
  Byte : (value : ℕ) → Cell
  Blank : (part level block : ℕ) → Cell
  Spoilt : (part level block : ℕ) → Cell

-- the cell is a byte
abbrev pub IsByte : Cell → Type 0
IsByte (Byte value) = ⊤
IsByte (Blank part level block) = ⊥
IsByte (Spoilt part level block) = ⊥

-- the cell was never written
abbrev pub IsBlank : Cell → Type 0
IsBlank (Byte value) = ⊥
IsBlank (Blank part level block) = ⊤
IsBlank (Spoilt part level block) = ⊥

-- the cell is not spoilt: it may be written
abbrev pub IsUnspoilt : Cell → Type 0
IsUnspoilt (Byte value) = ⊤
IsUnspoilt (Blank part level block) = ⊤
IsUnspoilt (Spoilt part level block) = ⊥

-- the cell is not spoilt, or at level four alone: its whole block may be cleared
abbrev pub IsClearable : Cell → Type 0
IsClearable (Byte value) = ⊤
IsClearable (Blank part level block) = ⊤
IsClearable (Spoilt part level block) = 4 ≤ level

-- the cell is no byte, and names this block
abbrev pub Blames : Cell → ℕ → ℕ → ℕ → Type 0
Blames (Byte value) p l b = ⊥
Blames (Blank part level block) p l b = (part ≡ p) × (level ≡ l) × (block ≡ b)
Blames (Spoilt part level block) p l b = (part ≡ p) × (level ≡ l) × (block ≡ b)

-- both are bytes, or both are the same
abbrev pub IsAlike : Cell → Cell → Type 0
IsAlike (Byte value) other = IsByte other
IsAlike (Blank part level block) other = other ≡ Blank part level block
IsAlike (Spoilt part level block) other = other ≡ Spoilt part level block

-- the cells from a place on are these bytes
abbrev pub AreBytesAt : (ℕ → Cell) → ℕ → List ℕ → Type 0
AreBytesAt cells at bytes = (k : ℕ) → k < length bytes → cells (at + k) ≡ Byte (slice_index bytes k)

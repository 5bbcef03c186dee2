-- What becomes of cells where some places are written, in any number of puts.
use Rattle.std.specs.Prelude.{◌≡◌, ◌⊎◌, ℕ, ◌<◌}
use Rattle.save_bytes.specs.Cells.{Cell, Byte, Blank, Spoilt}
use Rattle.save_bytes.specs.State.{State}
use Rattle.save_bytes.specs.Puts.{IsDeeper}

-- what may become of a cell that is not written: it stays, or, where blank, becomes zero or blank at a deeper level
abbrev pub MaySoften : Cell → Cell → Type 0
MaySoften (Byte value) new = new ≡ Byte value
MaySoften (Blank part level block) new = (new ≡ Blank part level block) ⊎ ((new ≡ Byte 0) ⊎ IsDeeper part level new)
MaySoften (Spoilt part level block) new = new ≡ Spoilt part level block

-- the place is one of those that were written, or a twin of one
abbrev pub IsIn : State → (ℕ → Type 0) → ℕ → Type 0
IsIn s Written x = (y : ℕ) × (y < s.shape.size) × Written y × (s.bottom x ≡ s.bottom y)

-- the cells of all other places have softened at most
abbrev pub ChangesWithin : State → (ℕ → Type 0) → (ℕ → Cell) → Type 0
ChangesWithin s Written new = (x : ℕ) → x < s.shape.size → ¬ IsIn s Written x → MaySoften (s.cells x) (new x)

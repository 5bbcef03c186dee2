-- What a put leaves.
use Rattle.std.specs.Prelude.{◌≡◌, ◌≢◌, ◌⊎◌, ℕ, ◌+◌, ◌<◌, List, length, slice_index, Option}
use Rattle.save_bytes.specs.declared.space.Bad.{Bad}
use Rattle.save_bytes.specs.Cells.{Cell, Byte, Blank, Spoilt, IsBlank}
use Rattle.save_bytes.specs.State.{State, CanPut}
use Rattle.save_bytes.specs.Refusals.{IfDone, IfDamaged}
use Rattle.save_bytes.specs.Stays.{SameSpace, SameCells}

-- a place lies in a block that the n places from `at` on meet
abbrev pub IsMet : State → ℕ → ℕ → ℕ → Type 0
IsMet s at n x = (k : ℕ) × (k < n) × (s.shape.block_start (s.bottom x) ≡ s.shape.block_start (s.bottom (at + k)))

-- one of the n cells from `at` on is blank, and names this block
abbrev pub HasBlank : State → ℕ → ℕ → ℕ → ℕ → ℕ → Type 0
HasBlank s at n part level block = (k : ℕ) × (k < n) × (s.cells (at + k) ≡ Blank part level block)

-- the cell is blank, and names a block of a deeper level
abbrev pub IsDeeper : ℕ → ℕ → Cell → Type 0
IsDeeper part level cell = (deeper block : ℕ) × (level < deeper) × (cell ≡ Blank part deeper block)

-- What becomes of a blank cell that is not written. In a block that the range meets it becomes zero. Elsewhere it stays,
-- or, where the range had a cell that was blank by the same block, becomes blank by one of a deeper level.
pub record SoftensBlank (was : State) (at n x part level block : ℕ) (new : Cell) : Type 0 where
  pub met : IsMet was at n x → new ≡ Byte 0
  pub unmet : ¬ IsMet was at n x → (new ≡ Blank part level block) ⊎ (HasBlank was at n part level block × IsDeeper part level new)

-- what becomes of a cell that is not written: it stays unless it is blank
abbrev pub SoftensFrom : State → ℕ → ℕ → ℕ → Cell → Cell → Type 0
SoftensFrom was at n x (Byte value) new = new ≡ Byte value
SoftensFrom was at n x (Blank part level block) new = SoftensBlank was at n x part level block new
SoftensFrom was at n x (Spoilt part level block) new = new ≡ Spoilt part level block

abbrev pub Softens : State → ℕ → ℕ → ℕ → Cell → Type 0
Softens was at n x new = SoftensFrom was at n x (was.cells x) new

-- Bytes were put at a place: the range and the twins of its places hold them, and all other cells softened. Two cells
-- that are blank by one block were so before.
pub record HasPut (was : State) (at : ℕ) (bytes : List ℕ) (new : ℕ → Cell) : Type 0 where
  pub written : (x k : ℕ) → x < was.shape.size → k < length bytes → was.bottom x ≡ was.bottom (at + k) → new x ≡ Byte (slice_index bytes k)
  pub others : (x : ℕ) → x < was.shape.size → ((k : ℕ) → k < length bytes → was.bottom x ≢ was.bottom (at + k)) → Softens was at (length bytes) x (new x)
  pub joined : (x y : ℕ) → x < was.shape.size → y < was.shape.size → IsBlank (new x) → new x ≡ new y → was.cells x ≡ was.cells y

-- A call that puts bytes at a place, where it may be made there. Refused for a damaged cell it changed no cell.
pub record Puts (old : State) (at : ℕ) (bytes : List ℕ) (new : State) (refusal : Option Bad) : Type 0 where
  pub space : SameSpace (CanPut old at (length bytes)) old new refusal
  pub done : CanPut old at (length bytes) → IfDone refusal (HasPut old at bytes new.cells)
  pub damaged : CanPut old at (length bytes) → IfDamaged refusal (λ part level block. SameCells old new)

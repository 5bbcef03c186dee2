-- Which answer of a space comes when.
use Rattle.std.specs.Prelude.{◌≡◌, ℕ, ◌+◌, ◌<◌, ◌≤◌, IsTrue, List, length, Result, Option, IfOk}
use Rattle.std.specs.Result.{result_err}
use Rattle.std.specs.Borrow.{Bor}
use Rattle.save_bytes.specs.declared.space.Bad.{Bad}
use Rattle.save_bytes.specs.Cells.{Cell, Spoilt, IsByte, IsUnspoilt, IsClearable, Blames, AreBytesAt}
use Rattle.save_bytes.specs.State.{State}
use Rattle.save_bytes.specs.Refusals.{IfDone, IfDamaged, NeverDamaged}

-- A piece has at least one byte and at most so many, none past the end, and they are the cells from the place on.
-- Or the cell at the place is no byte, and is named.
pub record IsPiece (s : State) (at most : ℕ) (result : Result (Bor (List ℕ)) Bad) : Type 0 where
  pub some : IfOk result (λ piece. 1 ≤ length piece.now)
  pub bounded : IfOk result (λ piece. length piece.now ≤ most)
  pub inside : IfOk result (λ piece. at + length piece.now ≤ s.shape.size)
  pub bytes : IsTrue s.told → IfOk result (λ piece. AreBytesAt s.cells at piece.now)
  pub damaged : IsTrue s.told → IfDamaged (result_err result) (Blames (s.cells at))
  pub plain : IsTrue s.shape.plain → NeverDamaged (result_err result)

-- the first of the n cells from a place on that is no byte names this block
pub record IsFirstFault (cells : ℕ → Cell) (at n part level block : ℕ) : Type 0 where
  pub k : ℕ
  pub within : k < n
  pub fault : Blames (cells (at + k)) part level block
  pub before : (j : ℕ) → j < k → IsByte (cells (at + j))

-- the n cells from a place on are all bytes, or the first that is none is named
pub record IsRead (s : State) (at n : ℕ) (refusal : Option Bad) : Type 0 where
  pub done : IsTrue s.told → IfDone refusal ((k : ℕ) → k < n → IsByte (s.cells (at + k)))
  pub damaged : IsTrue s.told → IfDamaged refusal (IsFirstFault s.cells at n)
  pub plain : IsTrue s.shape.plain → NeverDamaged refusal

-- the first of the n cells from a place on that is spoilt names this block
pub record IsFirstSpoilt (cells : ℕ → Cell) (at n part level block : ℕ) : Type 0 where
  pub k : ℕ
  pub within : k < n
  pub spoilt : cells (at + k) ≡ Spoilt part level block
  pub before : (j : ℕ) → j < k → IsUnspoilt (cells (at + j))

-- none of the n cells from a place on is spoilt, or the first that is so is named
pub record IsReady (s : State) (at n : ℕ) (refusal : Option Bad) : Type 0 where
  pub done : IsTrue s.told → IfDone refusal ((k : ℕ) → k < n → IsUnspoilt (s.cells (at + k)))
  pub damaged : IsTrue s.told → IfDamaged refusal (IsFirstSpoilt s.cells at n)
  pub plain : IsTrue s.shape.plain → NeverDamaged refusal

-- the cells of a place's block are not spoilt above level four, or the block at fault is named
pub record IsClearReady (s : State) (at : ℕ) (refusal : Option Bad) : Type 0 where
  pub done : IsTrue s.told → IfDone refusal (IsClearable (s.cells at))
  pub damaged : IsTrue s.told → IfDamaged refusal (λ part level block. (s.cells at ≡ Spoilt part level block) × (level < 4))
  pub plain : IsTrue s.shape.plain → NeverDamaged refusal

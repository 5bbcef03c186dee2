-- What a contract sees of a space, and where its calls may be made.
use Rattle.std.specs.Prelude.{◌≡◌, ℕ, ◌+◌, ◌<◌, ◌≤◌, Bool, false, IsTrue}
use Rattle.save_bytes.specs.Cells.{Cell}

-- what no call changes
pub record Shape : Type 0 where
  -- how many places there are
  pub size : ℕ
  -- it lies on the spaces below it as it should
  pub sound : Bool
  -- no call answers that a cell is damaged
  pub plain : Bool
  -- the first place for writing
  pub first : ℕ
  -- there may be twins or fixed places
  pub doubled : Bool
  -- where the block begins, and how long it is, in which damage spreads at a place of the bottom
  pub block_start : ℕ → ℕ
  pub block_len : ℕ → ℕ

-- what a contract sees of a space at one moment
pub record State : Type 0 where
  pub shape : Shape
  -- the next three mean something: only a call that answers `Disk` may end it, or a put that is not made as it should
  pub told : Bool
  pub cells : ℕ → Cell
  -- each place's place at the bottom: two places that have the same one are twins
  pub bottom : ℕ → ℕ
  -- the places by which the space finds its bytes
  pub is_fixed : ℕ → Bool
  -- the count of faults of the disk below
  pub faults : ℕ

-- the n places from a place on lie in a sound space
pub record IsInside (shape : Shape) (at n : ℕ) : Type 0 where
  pub sound : IsTrue shape.sound
  pub inside : at + n ≤ shape.size

-- the n places from a place on lie in a sound space, behind its first place for writing
pub record IsWritable (shape : Shape) (at n : ℕ) : Type 0 where
  pub inside : IsInside shape at n
  pub behind_first : shape.first ≤ at

-- A put into the n places from a place on keeps its promises: the cells are told, no two of the places are twins, and
-- none is fixed. It may be made elsewhere too, and then comes to nothing that is known.
pub record CanPut (s : State) (at n : ℕ) : Type 0 where
  pub told : IsTrue s.told
  pub apart : (j k : ℕ) → j < n → k < n → s.bottom (at + j) ≡ s.bottom (at + k) → j ≡ k
  pub free : (k : ℕ) → k < n → s.is_fixed (at + k) ≡ false

-- no two places are twins, and none is fixed
pub record HasNoTwins (s : State) : Type 0 where
  pub apart : (x y : ℕ) → s.bottom x ≡ s.bottom y → x ≡ y
  pub free : (x : ℕ) → s.is_fixed x ≡ false

-- The blocks in which damage spreads.
use Rattle.std.specs.Prelude.{◌≡◌, ℕ, ◌+◌, ◌<◌, ◌≤◌, false}
use Rattle.save_bytes.specs.Cells.{IsAlike}
use Rattle.save_bytes.specs.State.{Shape, State}

-- each place may be written, and is its own bottom
pub record IsGround (s : State) : Type 0 where
  pub first : s.shape.first ≡ 0
  pub single : s.shape.doubled ≡ false
  pub bottom : (x : ℕ) → s.bottom x ≡ x

-- each place lies in its block, and the blocks follow each other from 0 to the length
pub record HasBlocks (shape : Shape) : Type 0 where
  pub starts : (x : ℕ) → x < shape.size → shape.block_start x ≤ x
  pub ends : (x : ℕ) → x < shape.size → x < shape.block_start x + shape.block_len x
  pub inside : (x : ℕ) → x < shape.size → shape.block_start x + shape.block_len x ≤ shape.size
  pub same_start : (x y : ℕ) → x < shape.size → shape.block_start x ≤ y → y < shape.block_start x + shape.block_len x
      → shape.block_start y ≡ shape.block_start x
  pub same_len : (x y : ℕ) → x < shape.size → shape.block_start x ≤ y → y < shape.block_start x + shape.block_len x → shape.block_len y ≡ shape.block_len x

-- the cells of one block are all bytes or all the same
abbrev pub HasAlikeBlocks : State → Type 0
HasAlikeBlocks s = (x y : ℕ) → x < s.shape.size → y < s.shape.size → s.shape.block_start x ≡ s.shape.block_start y → IsAlike (s.cells x) (s.cells y)

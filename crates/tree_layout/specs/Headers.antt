-- What a store begins with, and where its header is damaged.
use Rattle.std.specs.Prelude.{◌≡◌, ℕ, ◌<◌, ◌≤◌}
use Rattle.save_bytes.specs.Cells.{Cell, IsByte}
use Rattle.save_bytes.specs.CellNumbers.{number_in}
use Rattle.save_bytes.specs.Answers.{IsFirstFault}
use Rattle.tree_model.specs.declared.kind.TreeKind.{TreeKind}
use Rattle.tree_rules.specs.Information.{IsLettered, header_len}

-- The store is no filesystem of this kind: it is too short for a header, or begins with eight bytes of something else.
pub data IsOther (kind : TreeKind) (size : ℕ) (cells : ℕ → Cell) : Type 0 where
  IsTooShort : size < header_len → IsOther kind size cells
  BeginsElse : header_len ≤ size → ((x : ℕ) → x < 8 → IsByte (cells x)) → ¬ IsLettered kind cells
      → IsOther kind size cells

-- the store has the header of this kind of filesystem, which says that the information begins at this place
pub record HasHeader (kind : TreeKind) (size : ℕ) (cells : ℕ → Cell) (at : ℕ) : Type 0 where
  pub fits : header_len ≤ size
  pub lettered : IsLettered kind cells
  pub read : (x : ℕ) → x < header_len → IsByte (cells x)
  pub place : at ≡ number_in 8 cells 8

-- a cell of the header is no byte: the first of the eight at its front, or, where these are as they should be, the
-- first behind them
pub data HasBadHeader (kind : TreeKind) (size : ℕ) (cells : ℕ → Cell) (part level block : ℕ) : Type 0 where
  AtFront : header_len ≤ size → IsFirstFault cells 0 8 part level block → HasBadHeader kind size cells part level block
  BehindFront : header_len ≤ size → IsLettered kind cells → IsFirstFault cells 8 24 part level block
      → HasBadHeader kind size cells part level block

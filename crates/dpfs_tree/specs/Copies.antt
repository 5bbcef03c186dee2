-- Bytes of a base that are copied to another place of it, and a block that is put into its other copy.
use Rattle.std.specs.Prelude.{◌≡◌, ℕ, ◌+◌, ◌^◌, ◌<◌, ◌≤◌, Bool, if◌then◌else◌, IsTrue, IsFalse, List, length}
use Rattle.save_bytes.specs.Cells.{Cell, AreBytesAt}
use Rattle.save_bytes.specs.State.{Shape}
use Rattle.save_bytes.specs.Writes.{IsWithin}

-- a range of a base may be copied to another that may be written: they lie apart
pub record CanCopy (shape : Shape) (from to n : ℕ) : Type 0 where
  pub sound : IsTrue shape.sound
  pub plain : IsTrue shape.plain
  pub single : IsFalse shape.doubled
  pub small : shape.size < 2 ^ 64
  pub first : shape.first ≤ to
  pub from_inside : from + n ≤ shape.size
  pub to_inside : to + n ≤ shape.size
  pub apart : (x : ℕ) → IsWithin from n x → ¬ IsWithin to n x

-- the n cells from one place on are those that were at another
abbrev pub IsCopied : (ℕ → Cell) → ℕ → ℕ → ℕ → (ℕ → Cell) → Type 0
IsCopied old from to n new = (k : ℕ) → k < n → new (to + k) ≡ old (from + k)

-- so are the n cells of a block but for some
abbrev pub IsCopiedAround : (ℕ → Cell) → ℕ → ℕ → ℕ → ℕ → ℕ → (ℕ → Cell) → Type 0
IsCopiedAround old from to len skipped n new = (k : ℕ) → k < len → ¬ IsWithin skipped n k
    → new (to + k) ≡ old (from + k)

-- Bytes were put into a block's other copy, behind its first ones. What lies around them is what it was, or, where the
-- block
-- was not marked, what the chosen copy has.
pub record IsFilled (old : ℕ → Cell) (from to len skipped : ℕ) (bytes : List ℕ) (marked : Bool) (new : ℕ → Cell) : Type
    0 where
  pub range : AreBytesAt new (to + skipped) bytes
  pub around : IsCopiedAround old (if marked then to else from) to len skipped (length bytes) new

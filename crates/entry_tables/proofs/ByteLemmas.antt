-- Bytes that were read, as fields.
use Rattle.std.proofs.Common.{◌≡◌, ℕ, ◌+◌, ◌<◌, ◌≤◌, List, length, take, drop, sym, ◌∙◌, ap, arith, get_or-take, get_or-drop, length-drop}
use Rattle.std.proofs.lemmas.List.{length-take-le}
use Rattle.save_bytes.specs.Fields.{number_at}
use Rattle.save_bytes.specs.Cells.{Cell, AreBytesAt}
use Rattle.save_bytes.specs.CellNumbers.{bytes_in, number_in}
use Rattle.save_bytes.proofs.FieldLemmas.{number_at-drop, number_at-take}
use Rattle.save_bytes.proofs.CellLemmas.{bytes_in-is, number_in-is}

-- a part of bytes that were read
part_long : (n k : ℕ) (bytes : List ℕ) → k + n ≤ length bytes → length (take n (drop k bytes)) ≡ n
part_long n k bytes fits = length-take-le n (drop k bytes) (omega (arith, length-drop k bytes))

part_read : (n : ℕ) (cells : ℕ → Cell) (at k place : ℕ) (bytes : List ℕ) → AreBytesAt cells at bytes
    → k + n ≤ length bytes → place ≡ at + k → AreBytesAt cells place (take n (drop k bytes))
part_read n cells at k place bytes are fits there j h =
    let within : j < n = omega (arith, part_long n k bytes fits) in
    let spot : place + j ≡ at + (k + j) = omega arith in
    rw (get_or-take n (drop k bytes) j 0 within, get_or-drop, spot) (are (k + j) (omega arith))

-- a number in bytes that were read is the one in their cells
pub field_is : (n : ℕ) (cells : ℕ → Cell) (at k place : ℕ) (bytes : List ℕ) → AreBytesAt cells at bytes
    → k + n ≤ length bytes → place ≡ at + k → number_at n bytes k ≡ number_in n cells place
field_is n cells at k place bytes are fits there =
    sym (number_at-drop n bytes k)
    ∙ sym (number_at-take n n (drop k bytes) 0 (omega arith))
    ∙ number_in-is n cells place (take n (drop k bytes)) (part_long n k bytes fits) (part_read n cells at k place bytes are fits there)

-- so are bytes themselves
pub part_is : (n : ℕ) (cells : ℕ → Cell) (at k place : ℕ) (bytes : List ℕ) → AreBytesAt cells at bytes
    → k + n ≤ length bytes → place ≡ at + k → take n (drop k bytes) ≡ bytes_in cells place n
part_is n cells at k place bytes are fits there =
    sym (bytes_in-is cells place (take n (drop k bytes)) (part_read n cells at k place bytes are fits there))
    ∙ ap (bytes_in cells place) (part_long n k bytes fits)

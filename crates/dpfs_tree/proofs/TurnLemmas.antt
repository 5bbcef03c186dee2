-- Words of which some bits are turned.
use Rattle.std.proofs.Common.{◌≡◌, ℕ, zero, suc, ◌+◌, ◌*◌, ◌^◌, ◌<◌, ◌≤◌, Bool, true}
use Rattle.std.proofs.Common.{false, if◌then◌else◌, List, length, bit_xor, refl, sym, ◌∙◌, ap, arith, ⊎_elim}
use Rattle.std.proofs.Math.Nat.{pow-suc}
use Rattle.std.proofs.lemmas.Bool.{cases_lt}
use Rattle.save_bytes.specs.Fields.{number_at}
use Rattle.save_bytes.specs.Cells.{Cell, AreBytesAt}
use Rattle.save_bytes.specs.CellNumbers.{number_in}
use Rattle.save_bytes.proofs.CellLemmas.{bytes_in-same, number_in-is}
use Rattle.dpfs_tree.specs.Copies.{IsCopied}
use Rattle.dpfs_tree.specs.Turns.{mask_of, AreTurned, IsTurned}
use Rattle.dpfs_tree.proofs.CopyLemmas.{StaysBut}

flag_small : (flag : Bool) → (if flag then 1 else 0) ≤ 1
flag_small true = omega arith
flag_small false = omega arith

-- a number of i bits is below the power
pub mask_of-lt : (flags : ℕ → Bool) (from i : ℕ) → mask_of flags from i < 2 ^ i
unfolding mask_of
mask_of-lt flags from zero = omega arith
mask_of-lt flags from (suc i) = omega (arith, mask_of-lt flags from i, flag_small (flags (from + i)), pow-suc 2 i)

-- one bit more
pub mask_of-more : (flags : ℕ → Bool) (from i : ℕ) → mask_of flags from (i + 1) ≡ 2 * mask_of flags from i
    + (if flags (from + i) then 1 else 0)
unfolding mask_of
mask_of-more flags from i = let next : i + 1 ≡ suc i = omega arith in ap (mask_of flags from) next

-- the same number where the cells are the same
pub number_in-same : (one other : ℕ → Cell) (i j : ℕ) → ((k : ℕ) → k < 4 → one (i + k) ≡ other (j + k))
    → number_in 4 one i ≡ number_in 4 other j
number_in-same one other i j same = rw (bytes_in-same one other i j 4 same) refl

-- the words behind are as they were
abbrev pub AreWaiting : (ℕ → Cell) → ℕ → ℕ → ℕ → (ℕ → Cell) → Type 0
AreWaiting old at done count now = (i : ℕ) → done ≤ i → i < count
    → number_in 4 now (at + 4 * i) ≡ number_in 4 old (at + 4 * i)

module _ (flags : ℕ → Bool) (old now new : ℕ → Cell) (size at first count done : ℕ) (fits : at + 4 * count ≤ size)
    (less : done < count)
    (stays : StaysBut size (at + 4 * done) 4 now new) where
  -- one word more was turned
  pub turned_more : AreTurned flags old at at first done now → AreWaiting old at done count now
      → number_in 4 new (at + 4 * done) ≡ bit_xor (number_in 4 now (at + 4 * done))
      (mask_of flags (32 * (first + done)) 32)
      → AreTurned flags old at at first (done + 1) new
  turned_more turned waiting word i below =
      ⊎_elim
      (λ (before : i < done).
      number_in-same new now (at + 4 * i) (at + 4 * i)
      (λ k small. stays (at + 4 * i + k) (omega (arith, fits, less)) (λ within. omega (arith, within.0, before, small)))
      ∙ turned i before)
      (λ (from : done ≤ i).
      let here : done ≡ i = omega (arith, from, below) in
      let was = waiting done (omega arith) less in
      rw here at (word ∙ ap (λ (w : ℕ). bit_xor w (mask_of flags (32 * (first + done)) 32)) was))
      (cases_lt i done)

  pub waiting_less : AreWaiting old at done count now → AreWaiting old at (done + 1) count new
  waiting_less waiting i from below =
      number_in-same new now (at + 4 * i) (at + 4 * i)
      (λ k small. stays (at + 4 * i + k) (omega (arith, fits, below, small)) (λ within. omega (arith, within.1, from)))
      ∙ waiting i (omega arith) below

-- a word that was written with some bits turned
pub word_turned : (cells : ℕ → Cell) (at turned : ℕ) (field : List ℕ) → length field ≡ 4 → number_at 4 field 0 ≡ turned
    → AreBytesAt cells at field → number_in 4 cells at ≡ turned
word_turned cells at turned field len is are = sym (number_in-is 4 cells at field len are) ∙ is

-- words that were turned after they were copied
pub block_turned : (flags : ℕ → Bool) (old now new : ℕ → Cell) (size from to len first count : ℕ) → to + len ≤ size
    → 4 * count ≤ len
    → IsCopied old from to len now → AreTurned flags now to to first count new → StaysBut size to (4 * count) now new
    → IsTurned flags old from to len first count new
block_turned flags old now new size from to len first count fits inside copied turned stays = record {
  words = λ i less.
      (let same = number_in-same now old (to + 4 * i) (from + 4 * i)
      (λ k small.
      (let there : to + (4 * i + k) ≡ to + 4 * i + k = omega arith in
      let source : from + (4 * i + k) ≡ from + 4 * i + k = omega arith in
      rw (there, source) at (copied (4 * i + k) (omega (arith, inside, less, small))))) in
      turned i less ∙ ap (λ (w : ℕ). bit_xor w (mask_of flags (32 * (first + i)) 32)) same);
  rest = λ k behind less. stays (to + k) (omega arith) (λ within. omega (arith, within.1, behind)) ∙ copied k less;
}

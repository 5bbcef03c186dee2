-- Copies within a base, one after another.
use Rattle.std.proofs.Common.{◌≡◌, ℕ, ◌+◌, ◌-◌, ◌<◌, ◌≤◌, ◌∙◌, arith, ⊎_elim}
use Rattle.std.proofs.lemmas.Bool.{cases_lt}
use Rattle.save_bytes.specs.Cells.{Cell}
use Rattle.save_bytes.specs.Writes.{IsWithin}
use Rattle.dpfs_tree.specs.Copies.{IsCopied, IsCopiedAround}

-- the cells that are in no range are as before
abbrev pub StaysBut : ℕ → ℕ → ℕ → (ℕ → Cell) → (ℕ → Cell) → Type 0
StaysBut size at n old new = (x : ℕ) → x < size → ¬ IsWithin at n x → new x ≡ old x

module _ (old now new : ℕ → Cell) (size from to n : ℕ) (from_inside : from + n ≤ size) (to_inside : to + n ≤ size)
    (apart : (x : ℕ) → IsWithin from n x → ¬ IsWithin to n x) where
  -- the next bytes of a range were copied
  pub copied_more : (done m : ℕ) → done + m ≤ n → IsCopied old from to done now → StaysBut size to n old now
      → IsCopied now (from + done) (to + done) m new → StaysBut size (to + done) m now new
      → IsCopied old from to (done + m) new
  copied_more done m fits copied stays next then_stays k less =
      ⊎_elim
      (λ (front : k < done). then_stays (to + k) (omega arith) (λ within. omega (arith, within.0, front))
      ∙ copied k front)
      (λ (behind : done ≤ k).
      let there : to + done + (k - done) ≡ to + k = omega arith in
      let source : from + done + (k - done) ≡ from + k = omega arith in
      let is : new (to + k) ≡ now (from + k) = rw (there, source) at (next (k - done) (omega arith)) in
      is ∙ stays (from + k) (omega arith) (apart (from + k) (omega arith, omega arith)))
      (cases_lt k done)

  -- what lies before a range and what lies behind it were copied
  pub copied_around : (skipped m : ℕ) → skipped + m ≤ n → IsCopied old from to skipped now
      → StaysBut size to skipped old now
      → IsCopied now (from + (skipped + m)) (to + (skipped + m)) (n - (skipped + m)) new
      → StaysBut size (to + (skipped + m)) (n - (skipped + m)) now new → IsCopiedAround old from to n skipped m new
  copied_around skipped m fits copied stays next then_stays k less out =
      ⊎_elim
      (λ (front : k < skipped). then_stays (to + k) (omega arith) (λ within. omega (arith, within.0, front))
      ∙ copied k front)
      (λ (from_there : skipped ≤ k).
      ⊎_elim
      (λ (inside : k < skipped + m). absurd (out (from_there, inside)))
      (λ (behind : skipped + m ≤ k).
      let there : to + (skipped + m) + (k - (skipped + m)) ≡ to + k = omega arith in
      let source : from + (skipped + m) + (k - (skipped + m)) ≡ from + k = omega arith in
      let is : new (to + k) ≡ now (from + k) = rw (there, source) at (next (k - (skipped + m)) (omega arith)) in
      is ∙ stays (from + k) (omega arith)
      (λ within. apart (from + k) (omega arith, omega arith) (within.0, omega (arith, within.1))))
      (cases_lt k (skipped + m)))
      (cases_lt k skipped)

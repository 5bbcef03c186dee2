-- Bits of the words of a set.
use Rattle.std.proofs.Common.{◌≡◌, ◌≢◌, ℕ, ◌*◌, ◌/◌, ◌%◌, ◌^◌, ◌<◌, List, length}
use Rattle.std.proofs.Common.{ap, ◌∙◌, arith, ⊎_elim, get_or, set, bit_or, w64, replicate}
use Rattle.std.proofs.lemmas.Bool.{cases_eq, cases_lt}
use Rattle.std.proofs.lemmas.List.{get_or_read, get_or-set_same, get_or-set_other, get_or-replicate, get_or_past}
use Rattle.std.proofs.lemmas.List.{length-replicate}
use Rattle.std.proofs.lemmas.Nat.Bits.{bit_at_set_same, bit_at_set_other, bit_at-zero}
use Rattle.std.proofs.lemmas.Nat.{mod_below}
use Rattle.std.proofs.Math.Nat.{div-add-mod'}
use Rattle.std.specs.Int.{bit_at}

-- the bit of an entry in these words
abbrev pub entry_bit : List ℕ → ℕ → ℕ
entry_bit words entry = bit_at (get_or words (entry / 64) 0) (entry % 64)

-- a word with one bit more
abbrev with_bit : ℕ → ℕ → ℕ
with_bit word k = bit_or word (1 * 2 ^ k % 2 ^ 64)

module _ (words : List ℕ) (entry word : ℕ) (inside : entry / 64 < length words)
    (read : word ≡ get_or words (entry / 64) word) where
  abbrev pub after : List ℕ
  after = set words (entry / 64) (with_bit word (entry % 64))

  pub set_same : entry_bit after entry ≡ 1
  set_same =
      rw (get_or-set_same words (entry / 64) (with_bit word (entry % 64)) 0 inside)
      (bit_at_set_same w64 word (entry % 64) (mod_below entry 64 (omega arith)))

  pub set_other : (other : ℕ) → other ≢ entry → entry_bit after other ≡ entry_bit words other
  set_other other apart =
      ⊎_elim
      (λ (same : other / 64 ≡ entry / 64).
      let bit : other % 64 ≢ entry % 64 = λ equal.
      apart (omega (arith, same, equal, div-add-mod' other 64, div-add-mod' entry 64)) in
      rw (same, get_or-set_same words (entry / 64) (with_bit word (entry % 64)) 0 inside)
      (bit_at_set_other w64 word (entry % 64) (mod_below entry 64 (omega arith)) (other % 64) bit
      ∙ ap (λ (w : ℕ). bit_at w (other % 64)) (get_or_read words (entry / 64) word inside read 0)))
      (λ (different : other / 64 ≢ entry / 64).
      ap (λ (w : ℕ). bit_at w (other % 64)) (get_or-set_other words (entry / 64) (other / 64)
      (with_bit word (entry % 64)) 0 different))
      (cases_eq (other / 64) (entry / 64))

pub none_set : (n entry : ℕ) → entry_bit (replicate n 0) entry ≡ 0
none_set n entry =
    ⊎_elim
    (λ (below : entry / 64 < n). rw (get_or-replicate {A = ℕ} n (entry / 64) 0 0 below) (bit_at-zero (entry % 64)))
    (λ past. rw (get_or_past {X = ℕ} (replicate n 0) (entry / 64) 0 (omega (arith, past, length-replicate {A = ℕ} n 0)))
    (bit_at-zero (entry % 64)))
    (cases_lt (entry / 64) n)

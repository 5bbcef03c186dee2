-- Marks that are looked for.
use Rattle.std.proofs.Common.{◌≡◌, ℕ, zero, suc, ◌+◌, ◌<◌, ◌≤◌, Bool, true, false, List, length, refl, arith, ⊎_elim}
use Rattle.std.proofs.lemmas.Bool.{cases_lt, or_left, or_right, or_parts, or_cases}
use Rattle.std.proofs.lemmas.List.{get_or_past}
use Rattle.save_bytes.specs.Writes.{IsWithin}
use Rattle.dpfs_tree.specs.Marks.{is_marked, some_marked}

-- none is set
pub some_marked-none : (marked : ℕ → Bool) (from n : ℕ) → ((j : ℕ) → j < n → marked (from + j) ≡ false)
    → some_marked marked from n ≡ false
unfolding some_marked
some_marked-none marked from zero none = refl
some_marked-none marked from (suc n) none =
    rw (some_marked-none marked from n (λ j less. none j (omega (arith, less))), none n (omega arith)) refl

-- one is set
pub some_marked-one : (marked : ℕ → Bool) (from n j : ℕ) → j < n → marked (from + j) ≡ true
    → some_marked marked from n ≡ true
unfolding some_marked
some_marked-one marked from zero j less is = absurd (omega (arith, less))
some_marked-one marked from (suc n) j less is =
    ⊎_elim
    (λ (before : j < n). or_left _ _ (some_marked-one marked from n j before is))
    (λ (last : n ≤ j).
    let here : j ≡ n = omega (arith, last, less) in
    let flag : marked (from + n) ≡ true = rw here at is in
    or_right _ _ flag)
    (cases_lt j n)

-- so where none is, it is none of them
pub some_marked-not : (marked : ℕ → Bool) (from n k : ℕ) → some_marked marked from n ≡ false → IsWithin from n k
    → marked k ≡ false
unfolding some_marked
some_marked-not marked from zero k none within = absurd (omega (arith, within.0, within.1))
some_marked-not marked from (suc n) k none within =
    let parts = or_parts _ _ none in
    ⊎_elim
    (λ (before : k < from + n). some_marked-not marked from n k parts.0 (within.0, before))
    (λ (last : from + n ≤ k). let here : k ≡ from + n = omega (arith, last, within.1) in rw here parts.1)
    (cases_lt k (from + n))

found_more : (marked : ℕ → Bool) (from n : ℕ) → (k : ℕ) × IsWithin from n k × (marked k ≡ true)
    → (k : ℕ) × IsWithin from (suc n) k × (marked k ≡ true)
found_more marked from n (k, within, is) = (k, (within.0, omega (arith, within.1)), is)

-- and where one is, it can be named
pub some_marked-found : (marked : ℕ → Bool) (from n : ℕ) → some_marked marked from n ≡ true → (k : ℕ)
    × IsWithin from n k × (marked k ≡ true)
unfolding some_marked
some_marked-found marked from zero some = cc
some_marked-found marked from (suc n) some =
    ⊎_elim
    (λ (front : some_marked marked from n ≡ true). found_more marked from n (some_marked-found marked from n front))
    (λ (last : marked (from + n) ≡ true). (from + n, (omega arith, omega arith), last))
    (or_cases (some_marked marked from n) (marked (from + n)) some)

-- past the last there is none
pub some_marked-past : (touched : List Bool) (from n : ℕ) → length touched ≤ from
    → some_marked (is_marked touched) from n ≡ false
some_marked-past touched from n past =
    some_marked-none (is_marked touched) from n (λ j less. get_or_past touched (from + j) false (omega (arith, past)))

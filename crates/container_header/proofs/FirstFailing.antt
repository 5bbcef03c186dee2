-- The test that is named is met, and none before it.
use Rattle.std.proofs.Common.{◌≡◌, ℕ, zero, suc, ◌+◌, ◌<◌, ◌≤◌, Bool, true, false, Some, List, [], ◌∷◌, slice_get, refl}
use Rattle.std.proofs.Common.{ap, ◌∙◌, arith, zero-add}
use Rattle.container_header.specs.Conditions.{first_failing}

-- a test that is named has at least the first one's number
first_failing-le : (n c : ℕ) (tests : List Bool) → first_failing n tests ≡ Some c → n ≤ c
first_failing-le n c [] e = cc
first_failing-le n c (true ∷ tests) e = let same : n ≡ c = cc in omega arith
first_failing-le n c (false ∷ tests) e = let rest = first_failing-le (n + 1) c tests e in omega arith

-- none of the front is met
abbrev NoneBefore : List Bool → ℕ → Type 0
NoneBefore tests k = (i : ℕ) → i < k → slice_get tests i ≡ Some false

one_more : (tests : List Bool) (k : ℕ) → NoneBefore tests k → NoneBefore (false ∷ tests) (suc k)
one_more tests k h zero l = refl
one_more tests k h (suc i) l = h i (omega arith)

one_less : (test : Bool) (tests : List Bool) (k : ℕ) → NoneBefore (test ∷ tests) (suc k) → NoneBefore tests k
one_less test tests k h = λ i l. h (suc i) (omega arith)

pub first_from : (n k : ℕ) (tests : List Bool) → first_failing n tests ≡ Some (k + n) → (slice_get tests k ≡ Some true)
    × NoneBefore tests k
first_from n k [] e = cc
first_from n zero (true ∷ tests) e = (refl, λ i l. absurd (omega arith))
first_from n (suc k) (true ∷ tests) e = let same : n ≡ suc k + n = cc in absurd (omega arith)
first_from n zero (false ∷ tests) e = let late = first_failing-le (n + 1) (0 + n) tests e in absurd (omega arith)
first_from n (suc k) (false ∷ tests) e =
    let number : suc k + n ≡ k + (n + 1) = omega arith in
    let rest = first_from (n + 1) k tests (e ∙ ap (λ (c : ℕ). Some c) number) in
    (rest.0, one_more tests k rest.1)

pub first_to : (n k : ℕ) (tests : List Bool) → slice_get tests k ≡ Some true → NoneBefore tests k
    → first_failing n tests ≡ Some (k + n)
first_to n k [] met none = cc
first_to n zero (true ∷ tests) met none = rw zero-add refl
first_to n zero (false ∷ tests) met none = cc
first_to n (suc k) (true ∷ tests) met none = let bad : Some true ≡ Some false = none 0 (omega arith) in cc
first_to n (suc k) (false ∷ tests) met none =
    let number : k + (n + 1) ≡ suc k + n = omega arith in
    first_to (n + 1) k tests met (one_less false tests k none) ∙ ap (λ (c : ℕ). Some c) number

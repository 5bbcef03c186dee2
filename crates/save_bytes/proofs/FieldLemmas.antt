-- Laws of the numbers at places of a list of bytes.
use Rattle.std.proofs.Common.{◌≡◌, ℕ, zero, suc, ◌+◌, ◌^◌, ◌<◌, ◌≤◌, List, ◌++◌, length, get_or, take, drop, refl}
use Rattle.std.proofs.Common.{◌∙◌, ap, arith, append_assoc, add-zero, zero-add, [], ◌-◌, get_or-take, get_or-drop}
use Rattle.std.proofs.Common.{length-take-le}
use Rattle.std.proofs.Math.Nat.{add-suc, suc-add}
use Rattle.std.proofs.lemmas.List.{append-nil, drop-drop, drop_all, length-take, get_or-append-add, take_rest}
use Rattle.std.proofs.lemmas.List.{get_or_append_left}
use Rattle.byteorder.specs.Endian.{little_from, little_bytes}
use Rattle.byteorder.specs.Numbers.{little_number-reads_back}
use borrow.Rule.Slice.PartMut.{put_mid}
use Rattle.save_bytes.specs.Fields.{number_at, with_bytes}

-- two lists with the same bytes in the field have the same number there
little_from-same : (n i j : ℕ) (xs ys : List ℕ) → ((k : ℕ) → k < n → get_or xs (i + k) 0 ≡ get_or ys (j + k) 0) → little_from i n xs ≡ little_from j n ys
little_from-same zero i j xs ys same = refl
little_from-same (suc n) i j xs ys same =
    let first : get_or xs i 0 ≡ get_or ys j 0 = simp add-zero at (same 0 (omega arith)) in
    let rest : little_from (suc i) n xs ≡ little_from (suc j) n ys =
    little_from-same n (suc i) (suc j) xs ys (λ k h. simp (add-suc, ← suc-add) at (same (suc k) (omega arith))) in
    cc

behind : (xs ys : List ℕ) (n k : ℕ) → length xs ≡ n → get_or (xs ++ ys) (n + k) 0 ≡ get_or ys k 0
behind xs ys n k long = rw (← long) (get_or-append-add xs ys k 0)

pub number_at-same : (n : ℕ) (xs ys : List ℕ) (i j : ℕ) → ((k : ℕ) → k < n → get_or xs (i + k) 0 ≡ get_or ys (j + k) 0) → number_at n xs i ≡ number_at n ys j
unfolding number_at
number_at-same n xs ys i j same = little_from-same n i j xs ys same

pub number_at-drop : (n : ℕ) (xs : List ℕ) (at : ℕ) → number_at n (drop at xs) 0 ≡ number_at n xs at
number_at-drop n xs at = number_at-same n (drop at xs) xs 0 at (λ k h. rw (zero-add, get_or-drop))

-- a front has the fields that lie in it
pub number_at-take : (n m : ℕ) (xs : List ℕ) (at : ℕ) → at + n ≤ m → number_at n (take m xs) at ≡ number_at n xs at
number_at-take n m xs at fits = number_at-same n (take m xs) xs at at (λ k h. get_or-take m xs (at + k) 0 (omega arith))

-- and the first of two lists those that lie in it
pub number_at-append : (n : ℕ) (xs ys : List ℕ) (at : ℕ) → at + n ≤ length xs
    → number_at n (xs ++ ys) at ≡ number_at n xs at
number_at-append n xs ys at fits = number_at-same n (xs ++ ys) xs at at (λ k h.
    get_or_append_left xs ys 0 (at + k) (omega arith))

-- what was put is read again
pub number_at-put : (n x : ℕ) (xs : List ℕ) (at : ℕ) → at ≤ length xs → x < 256 ^ n → number_at n (with_bytes xs at (little_bytes n x)) at ≡ x
unfolding number_at
number_at-put n x xs at fits small =
    let long : length (take at xs) ≡ at = length-take-le at xs fits in
    let piece = little_bytes n x in
    let rest = drop (at + length piece) xs in
    let moved : little_from at n (with_bytes xs at piece) ≡ little_from 0 n (piece ++ rest) =
    little_from-same n at 0 (with_bytes xs at piece) (piece ++ rest)
    (λ k h. rw (append_assoc (take at xs) piece rest, zero-add) (behind (take at xs) (piece ++ rest) at k long))
    in
    moved ∙ little_number-reads_back n x rest small

-- what a field's read gives of the rest of the list
pub field_read : (n : ℕ) (xs : List ℕ) (at : ℕ) → little_from 0 n (take (length xs - at) (drop at xs)) ≡ number_at n xs at
unfolding number_at
field_read n xs at = rw take_rest (number_at-drop n xs at)

-- what a field's write leaves in the whole
pub field_put : (at n : ℕ) (xs piece part : List ℕ) → length piece ≡ n → at + n ≤ length xs
    → part ≡ piece ++ drop n (take (at + n - at) (drop at xs))
    → put_mid at (at + n - at) xs part ≡ with_bytes xs at piece
field_put at n xs piece part long fits is =
    let k : at + n - at ≡ n = omega arith in
    let none : drop n (take (at + n - at) (drop at xs)) ≡ [] =
    drop_all n (take (at + n - at) (drop at xs)) (omega (arith, length-take (at + n - at) (drop at xs))) in
    let whole : part ≡ piece = is ∙ ap (λ (l : List ℕ). piece ++ l) none ∙ append-nil piece in
    rw (k, whole, long, drop-drop, append_assoc) refl

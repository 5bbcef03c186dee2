-- Cells that are bytes, and the numbers in them.
use Rattle.std.proofs.Common.{◌≡◌, ℕ, zero, suc, ◌+◌, ◌-◌, ◌<◌, ◌≤◌, List, [], ◌∷◌, ◌++◌, length, take, drop, refl}
use Rattle.std.proofs.Common.{sym, ◌∙◌, ap, arith, rules, ⊎_elim, add-zero, length-append}
use Rattle.std.proofs.Math.Nat.{add-suc, suc-add, zero-add}
use Rattle.std.proofs.Math.Seq.{take-append_seam, drop-append_seam}
use Rattle.std.proofs.lemmas.List.{get_or_append_left, get_or-append_right, length-take-le, places, same_lists}
use Rattle.std.proofs.lemmas.Bool.{cases_lt}
use borrow.Rule.Slice.PartMut.{put_mid}
use Rattle.save_bytes.specs.Fields.{number_at}
use Rattle.save_bytes.specs.Cells.{Cell, Byte, AreBytesAt}
use Rattle.save_bytes.specs.CellNumbers.{value_of, bytes_in, number_in}

-- bytes behind bytes
pub AreBytesAt-append : (cells : ℕ → Cell) (at : ℕ) (xs ys : List ℕ) → AreBytesAt cells at xs
    → AreBytesAt cells (at + length xs) ys → AreBytesAt cells at (xs ++ ys)
AreBytesAt-append cells at xs ys front back k within =
    let in_back : length xs ≤ k → k - length xs < length ys = λ behind. omega (arith, length-append xs ys) in
    ⊎_elim
    (λ below. rw (get_or_append_left xs ys 0 k below) (front k below))
    (λ behind.
    let place : at + k ≡ at + length xs + (k - length xs) = omega arith in
    let there = back (k - length xs) (in_back behind) in
    rw (get_or-append_right xs ys (length xs) k 0 refl behind, place) there)
    (cases_lt k (length xs))

take-put_mid_more : (done n : ℕ) (out part : List ℕ) → done ≤ length out → length part ≡ length out - done
    → n ≤ length part → take (done + n) (put_mid done (length out - done) out part) ≡ take done out ++ take n part
take-put_mid_more done n out part inside long fits = same_lists _ _ (search (rules, places)) (λ k d h. grind (arith, places))

-- a copy of the next n bytes, after which the cells are as before
pub copy_more : (old mid : ℕ → Cell) (size at done n : ℕ) (out part : List ℕ) → at + length out ≤ size
    → ((x : ℕ) → x < size → mid x ≡ old x) → length part ≡ length out - done → done ≤ length out → n ≤ length part
    → AreBytesAt old at (take done out) → AreBytesAt mid (at + done) (take n part)
    → AreBytesAt old at (take (done + n) (put_mid done (length out - done) out part))
copy_more old mid size at done n out part fits same long inside some front next =
    let shorter : length (take done out) ≡ done = length-take-le done out inside in
    let in_part : (k : ℕ) → k < length (take n part) → k < length part = λ k h. omega (arith, length-take-le n part some) in
    let back : AreBytesAt old (at + length (take done out)) (take n part) =
    λ k within. rw shorter (sym (same (at + done + k) (omega (arith, in_part k within))) ∙ next k within) in
    rw (take-put_mid_more done n out part inside long some) (AreBytesAt-append old at (take done out) (take n part) front back)

-- the values of cells that are bytes
pub bytes_in-is : (cells : ℕ → Cell) (at : ℕ) (bytes : List ℕ) → AreBytesAt cells at bytes → bytes_in cells at (length bytes) ≡ bytes
unfolding bytes_in
bytes_in-is cells at [] are = refl
bytes_in-is cells at (x ∷ xs) are =
    let first : cells at ≡ Byte x = simp add-zero at (are 0 (omega arith)) in
    let rest : bytes_in cells (suc at) (length xs) ≡ xs = bytes_in-is cells (suc at) xs (λ k h. simp (add-suc, ← suc-add) at (are (suc k) (omega arith))) in
    rw (first, rest) refl

-- the number in cells that are bytes
pub number_in-is : (n : ℕ) (cells : ℕ → Cell) (at : ℕ) (bytes : List ℕ) → length bytes ≡ n → AreBytesAt cells at bytes
    → number_at n bytes 0 ≡ number_in n cells at
number_in-is n cells at bytes long are = ap (λ (l : List ℕ). number_at n l 0) (sym (bytes_in-is cells at bytes are) ∙ ap (bytes_in cells at) long)

-- the values of n cells are n
pub length-bytes_in : (cells : ℕ → Cell) (at n : ℕ) → length (bytes_in cells at n) ≡ n
unfolding bytes_in
length-bytes_in cells at zero = refl
length-bytes_in cells at (suc n) = ap suc (length-bytes_in cells (suc at) n)

-- the same values where the cells are the same
pub bytes_in-same : (one other : ℕ → Cell) (i j n : ℕ) → ((k : ℕ) → k < n → one (i + k) ≡ other (j + k)) → bytes_in one i n ≡ bytes_in other j n
unfolding bytes_in
bytes_in-same one other i j zero same = refl
bytes_in-same one other i j (suc n) same =
    let first : one i ≡ other j = simp add-zero at (same 0 (omega arith)) in
    rw (first, bytes_in-same one other (suc i) (suc j) n (λ k h. simp (add-suc, ← suc-add) at (same (suc k) (omega (arith, h))))) refl

-- the values of cells and those of the cells behind them
pub bytes_in-append : (cells : ℕ → Cell) (at m n : ℕ) → bytes_in cells at (m + n) ≡ bytes_in cells at m ++ bytes_in cells (at + m) n
unfolding bytes_in
bytes_in-append cells at zero n = rw (add-zero at, zero-add n) refl
bytes_in-append cells at (suc m) n =
    rw (suc-add m n, add-suc at m)
    (ap (λ (l : List ℕ). value_of (cells at) ∷ l) (rw (suc-add at m) at (bytes_in-append cells (suc at) m n)))

drop_front : (xs ys : List ℕ) (n : ℕ) → length xs ≡ n → drop n (xs ++ ys) ≡ ys
drop_front xs ys n long = ap (λ (k : ℕ). drop k (xs ++ ys)) (sym long) ∙ drop-append_seam xs ys

take_front : (xs ys : List ℕ) (n : ℕ) → length xs ≡ n → take n (xs ++ ys) ≡ xs
take_front xs ys n long = ap (λ (k : ℕ). take k (xs ++ ys)) (sym long) ∙ take-append_seam xs ys

-- a part of the values of cells
pub bytes_in-part : (cells : ℕ → Cell) (at size from n : ℕ) → from + n ≤ size → take n (drop from (bytes_in cells at size)) ≡ bytes_in cells (at + from) n
bytes_in-part cells at size from n fits =
    let parts : size ≡ from + (n + (size - (from + n))) = omega (arith, fits) in
    let rest : List ℕ = bytes_in cells (at + from + n) (size - (from + n)) in
    let split : bytes_in cells at size ≡ bytes_in cells at from ++ (bytes_in cells (at + from) n ++ rest) =
    ap (bytes_in cells at) parts ∙ bytes_in-append cells at from (n + (size - (from + n)))
    ∙ ap (λ (l : List ℕ). bytes_in cells at from ++ l) (bytes_in-append cells (at + from) n (size - (from + n)))
    in
    ap (λ (l : List ℕ). take n (drop from l)) split
    ∙ ap (λ (l : List ℕ). take n l) (drop_front _ _ from (length-bytes_in cells at from))
    ∙ take_front _ _ n (length-bytes_in cells (at + from) n)

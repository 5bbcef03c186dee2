-- Bytes that are put one behind another into zeros, and what is read of them.
use Rattle.std.proofs.Common.{◌≡◌, ℕ, ◌+◌, ◌-◌, ◌^◌, ◌<◌, ◌≤◌, List, ◌++◌, length, replicate, take, drop, get_or, refl}
use Rattle.std.proofs.Common.{sym, ◌∙◌, ap}
use Rattle.std.proofs.Common.{[], arith, append_assoc, zero-add, length-append}
use Rattle.std.proofs.lemmas.List.{append-nil, take-replicate, drop-replicate, get_or-append-add, get_or-replicate}
use Rattle.std.proofs.lemmas.List.{length-replicate}
use Rattle.byteorder.specs.Numbers.{little_number-reads_back}
use Rattle.std.proofs.Math.Seq.{take-append-add, drop-append-add, take-append_seam, drop-append_seam}
use Rattle.byteorder.specs.Endian.{little_bytes}
use Rattle.save_bytes.specs.Fields.{number_at, with_bytes}
use Rattle.save_bytes.proofs.FieldLemmas.{number_at-same}

-- a piece that is put into zeros behind what there is, past a gap
pub put_behind : (xs piece : List ℕ) (at gap n rest : ℕ) → at ≡ length xs + gap → n ≡ gap + length piece + rest
    → with_bytes (xs ++ replicate n 0) at piece ≡ xs ++ replicate gap 0 ++ piece ++ replicate rest 0
put_behind xs piece at gap n rest there long =
    let front : take at (xs ++ replicate n 0) ≡ xs ++ replicate gap 0 =
    rw there (take-append-add xs (replicate n 0) gap
    ∙ ap (λ (l : List ℕ). xs ++ l) (take-replicate gap n 0 (omega (arith, long)))) in
    let place : at + length piece ≡ length xs + (gap + length piece) = omega (arith, there) in
    let left : n - (gap + length piece) ≡ rest = omega (arith, long) in
    let back : drop (at + length piece) (xs ++ replicate n 0) ≡ replicate rest 0 =
    rw place (drop-append-add xs (replicate n 0) (gap + length piece)
    ∙ drop-replicate (gap + length piece) n 0 ∙ ap (λ (k : ℕ). replicate k 0) left) in
    ap (λ (l : List ℕ). l ++ piece ++ drop (at + length piece) (xs ++ replicate n 0)) front
    ∙ ap (λ (l : List ℕ). xs ++ replicate gap 0 ++ piece ++ l) back

-- without one
pub put_next : (xs piece : List ℕ) (at n rest : ℕ) → at ≡ length xs → n ≡ length piece + rest
    → with_bytes (xs ++ replicate n 0) at piece ≡ xs ++ piece ++ replicate rest 0
put_next xs piece at n rest there long =
    put_behind xs piece at 0 n rest (omega (arith, there)) (omega (arith, long))
    ∙ ap (λ (l : List ℕ). l ++ piece ++ replicate rest 0) (append-nil xs)

-- a number at the end of a list
pub number_last : (n x : ℕ) (xs : List ℕ) (at : ℕ) → at ≡ length xs → x < 256 ^ n
    → number_at n (xs ++ little_bytes n x) at ≡ x
unfolding number_at
number_last n x xs at there small =
    number_at-same n (xs ++ little_bytes n x) (little_bytes n x ++ []) at 0
    (λ k less. rw (there, zero-add, append-nil) (get_or-append-add xs (little_bytes n x) k 0))
    ∙ little_number-reads_back n x [] small

zeros_read : number_at 4 (replicate 4 0) 0 ≡ 0
unfolding number_at
zeros_read = refl

-- and zeros there
pub zero_last : (n : ℕ) (xs : List ℕ) (at off : ℕ) → at ≡ length xs + off → off + 4 ≤ n
    → number_at 4 (xs ++ replicate n 0) at ≡ 0
zero_last n xs at off there fits =
    number_at-same 4 (xs ++ replicate n 0) (replicate 4 0) at 0
    (λ k less.
    (let place : at + k ≡ length xs + (off + k) = omega (arith, there) in
    let below : off + k < n = omega (arith, fits, less) in
    let zero_here : get_or (replicate n 0) (off + k) 0 ≡ 0 = get_or-replicate n (off + k) 0 0 below in
    let zeros : get_or (replicate 4 0) (0 + k) 0 ≡ 0 = rw zero-add (get_or-replicate 4 k 0 0 less) in
    rw place (get_or-append-add xs (replicate n 0) (off + k) 0 ∙ zero_here ∙ sym zeros)))
    ∙ zeros_read

-- a piece in the middle of a list
pub piece_within : (xs piece ys : List ℕ) (at n : ℕ) → at ≡ length xs → n ≡ length piece
    → take n (drop at (xs ++ piece ++ ys)) ≡ piece
piece_within xs piece ys at n there long =
    rw (append_assoc xs piece ys, there, drop-append_seam xs (piece ++ ys), long) (take-append_seam piece ys)

-- the bytes of a directory, and of a file, as they are put one behind another
pub dir_written : (p name s l : List ℕ) → length p ≡ 4 → length name ≡ 16 → length s ≡ 4 → length l ≡ 4
    → with_bytes (with_bytes (with_bytes (with_bytes (replicate 0x28 0) 0 p) 4 name) 0x14 s) 0x24 l
    ≡ p ++ name ++ s ++ replicate 12 0 ++ l
dir_written p name s l four sixteen four_more four_last =
    let one : with_bytes (replicate 0x28 0) 0 p ≡ p ++ replicate 36 0 = put_next [] p 0 0x28 36 refl (omega arith) in
    let two : with_bytes (p ++ replicate 36 0) 4 name ≡ (p ++ name) ++ replicate 20 0 =
    put_next p name 4 36 20 (omega arith) (omega arith) in
    let long : length (p ++ name) ≡ 20 = omega (arith, length-append p name) in
    let three : with_bytes ((p ++ name) ++ replicate 20 0) 0x14 s ≡ ((p ++ name) ++ s) ++ replicate 16 0 =
    put_next (p ++ name) s 0x14 20 16 (omega arith) (omega arith) in
    let longer : length ((p ++ name) ++ s) ≡ 24 = omega (arith, length-append (p ++ name) s) in
    let four_is : with_bytes (((p ++ name) ++ s) ++ replicate 16 0) 0x24 l
    ≡ p ++ name ++ s ++ replicate 12 0 ++ l ++ replicate 0 0 =
    put_behind ((p ++ name) ++ s) l 0x24 12 16 0 (omega arith) (omega arith) in
    ap (λ (b : List ℕ). with_bytes (with_bytes (with_bytes b 4 name) 0x14 s) 0x24 l) one
    ∙ ap (λ (b : List ℕ). with_bytes (with_bytes b 0x14 s) 0x24 l) two
    ∙ ap (λ (b : List ℕ). with_bytes b 0x24 l) three ∙ four_is
    ∙ append-nil _

pub file_written : (p name s start wide l : List ℕ) → length p ≡ 4 → length name ≡ 16 → length s ≡ 4
    → length start ≡ 4 → length wide ≡ 8 → length l ≡ 4
    → with_bytes (with_bytes (with_bytes (with_bytes (with_bytes (with_bytes (replicate 0x30 0) 0 p) 4 name) 0x14 s)
    0x1C start) 0x20 wide) 0x2C l
    ≡ p ++ name ++ s ++ replicate 4 0 ++ start ++ wide ++ replicate 4 0 ++ l
file_written p name s start wide l four sixteen four_more four_start eight four_last =
    let one : with_bytes (replicate 0x30 0) 0 p ≡ p ++ replicate 44 0 = put_next [] p 0 0x30 44 refl (omega arith) in
    let two : with_bytes (p ++ replicate 44 0) 4 name ≡ (p ++ name) ++ replicate 28 0 =
    put_next p name 4 44 28 (omega arith) (omega arith) in
    let long : length (p ++ name) ≡ 20 = omega (arith, length-append p name) in
    let three : with_bytes ((p ++ name) ++ replicate 28 0) 0x14 s ≡ ((p ++ name) ++ s) ++ replicate 24 0 =
    put_next (p ++ name) s 0x14 28 24 (omega arith) (omega arith) in
    let longer : length ((p ++ name) ++ s) ≡ 24 = omega (arith, length-append (p ++ name) s) in
    let four_is : with_bytes (((p ++ name) ++ s) ++ replicate 24 0) 0x1C start
    ≡ p ++ name ++ s ++ replicate 4 0 ++ start ++ replicate 16 0 =
    put_behind ((p ++ name) ++ s) start 0x1C 4 24 16 (omega arith) (omega arith) in
    let begun : length (p ++ name ++ s ++ replicate 4 0 ++ start) ≡ 32 =
    omega (
      arith,
      length-append (((p ++ name) ++ s) ++ replicate 4 0) start,
      length-append ((p ++ name) ++ s) (replicate 4 0),
      length-replicate {A = ℕ} 4 0,
    ) in
    let five : with_bytes (p ++ name ++ s ++ replicate 4 0 ++ start ++ replicate 16 0) 0x20 wide
    ≡ p ++ name ++ s ++ replicate 4 0 ++ start ++ wide ++ replicate 8 0 =
    put_next (p ++ name ++ s ++ replicate 4 0 ++ start) wide 0x20 16 8 (omega arith) (omega arith) in
    let nearly : length (p ++ name ++ s ++ replicate 4 0 ++ start ++ wide) ≡ 40 =
    omega (arith, length-append (p ++ name ++ s ++ replicate 4 0 ++ start) wide) in
    let six : with_bytes (p ++ name ++ s ++ replicate 4 0 ++ start ++ wide ++ replicate 8 0) 0x2C l
    ≡ p ++ name ++ s ++ replicate 4 0 ++ start ++ wide ++ replicate 4 0 ++ l ++ replicate 0 0 =
    put_behind (p ++ name ++ s ++ replicate 4 0 ++ start ++ wide) l 0x2C 4 8 0 (omega arith) (omega arith) in
    ap (λ (b : List ℕ). with_bytes (with_bytes (with_bytes (with_bytes (with_bytes b 4 name) 0x14 s) 0x1C start)
    0x20 wide) 0x2C l) one
    ∙ ap (λ (b : List ℕ). with_bytes (with_bytes (with_bytes (with_bytes b 0x14 s) 0x1C start) 0x20 wide) 0x2C l) two
    ∙ ap (λ (b : List ℕ). with_bytes (with_bytes (with_bytes b 0x1C start) 0x20 wide) 0x2C l) three
    ∙ ap (λ (b : List ℕ). with_bytes (with_bytes b 0x20 wide) 0x2C l) four_is
    ∙ ap (λ (b : List ℕ). with_bytes b 0x2C l) five ∙ six
    ∙ append-nil _

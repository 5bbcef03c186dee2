-- What is read of an image for tests.
use Rattle.std.proofs.Common.{◌≡◌, ℕ, suc, ◌+◌, ◌-◌, ◌*◌, ◌/◌, ◌%◌, ◌^◌, ◌≤◌, List, length, slice_index, take, refl}
use Rattle.std.proofs.Common.{sym, ◌∙◌, ap, arith}
use Rattle.std.proofs.Common.{Result, Ok, Err, IfOk}
use Rattle.std.proofs.lemmas.List.{append-nil}
use Rattle.save_bytes.specs.Fields.{number_at}
use Rattle.container_header.specs.declared.header.Header.{Header}
use Rattle.container_header.specs.declared.fault.HeaderFault.{HeaderFault}
use Rattle.container_header.specs.Conditions.{first_bytes, reading}
use Rattle.container_header.specs.Sound.{IsHeaderOf}
use Rattle.container_header.proofs.HeaderRead.{reading-ok}
use Rattle.dpfs_tree.specs.Picks.{word_of_bits, bit_of}

-- a bit of the number in four bytes
number_at-word : (image : List ℕ) (from n : ℕ)
    → number_at 4 image (from + 4 * n) ≡ word_of_bits (λ x. slice_index image (from + x)) n
unfolding number_at word_of_bits
number_at-word image from n =
    let one : suc (from + 4 * n) ≡ from + (4 * n + 1) = omega arith in
    let two : suc (suc (from + 4 * n)) ≡ from + (4 * n + 2) = omega arith in
    let three : suc (suc (suc (from + 4 * n))) ≡ from + (4 * n + 3) = omega arith in
    rw (three, two, one) (omega arith)

pub bit_of-number : (image : List ℕ) (from k word : ℕ) → word ≡ number_at 4 image (from + 4 * (k / 32))
    → word / 2 ^ (31 - k % 32) % 2 ≡ bit_of (λ x. slice_index image (from + x)) k
unfolding bit_of
bit_of-number image from k word is = ap (λ (n : ℕ). n / 2 ^ (31 - k % 32) % 2) (is ∙ number_at-word image from (k / 32))

-- of an image that is long enough
pub first_bytes-front : (image : List ℕ) → 512 ≤ length image → take 512 image ≡ first_bytes image
first_bytes-front image long =
    let none : 512 - length image ≡ 0 = omega arith in
    rw (none, append-nil (take 512 image)) refl

-- a header that was read is the image's
pub header_if_ok : (image : List ℕ) (read : Result Header HeaderFault) → read ≡ reading image
    → IfOk read (λ header. IsHeaderOf header image)
header_if_ok image (Ok header) is = reading-ok image header (sym is)
header_if_ok image (Err fault) is = tt

-- The bits of a block that was copied with some of them turned.
use Rattle.std.proofs.Common.{◌≡◌, ℕ, zero, suc, ◌+◌, ◌-◌, ◌*◌, ◌/◌, ◌%◌, ◌^◌, ◌<◌}
use Rattle.std.proofs.Common.{◌≤◌, Bool, true, false, bit_xor, refl, sym, ◌∙◌, ap, arith, ⊎_elim, if◌then◌else◌}
use Rattle.std.proofs.lemmas.Bool.{cases_lt, lt-ltb, le-ltb}
use Rattle.std.proofs.lemmas.Nat.{div-add-mod', mod_below}
use Rattle.std.proofs.lemmas.Nat.Bits.{bit_at_xor, bit_at-suc, bit_at_lowest}
use Rattle.std.specs.Int.{bit_at}
use Rattle.save_bytes.specs.Cells.{Cell}
use Rattle.save_bytes.specs.CellNumbers.{number_in}
use Rattle.difi.specs.declared.descriptor.Difi.{Difi}
use Rattle.difi.specs.Places.{blocks_of}
use Rattle.difi.specs.Contents.{view_size}
use Rattle.difi.proofs.PlaceLemmas.{block_below}
use Rattle.dpfs_tree.specs.declared.state.DpfsState.{DpfsState}
use Rattle.dpfs_tree.specs.Picks.{bytes_of, word_of_bits, bit_of, pick2, pick3, chosen}
use Rattle.dpfs_tree.specs.Marks.{is_marked, copy_read, place_by, place_of}
use Rattle.dpfs_tree.specs.Turns.{mask_of, AreTurned}
use Rattle.dpfs_tree.proofs.BitLemmas.{number_in-word}

flag_bit : (flag : Bool) (m : ℕ) → (2 * m + (if flag then 1 else 0)) % 2 ≡ (if flag then 1 else 0)
flag_bit true m = omega arith
flag_bit false m = omega arith

flag_half : (flag : Bool) (m : ℕ) → (2 * m + (if flag then 1 else 0)) / 2 ≡ m
flag_half true m = omega arith
flag_half false m = omega arith

-- a bit of a mask is its flag's
pub mask_bit : (flags : ℕ → Bool) (from i j : ℕ) → j < i → bit_at (mask_of flags from i) (i - 1 - j)
    ≡ (if flags (from + j) then 1 else 0)
unfolding mask_of
mask_bit flags from zero j less = absurd (omega arith)
mask_bit flags from (suc i) j less =
    ⊎_elim
    (λ (before : j < i).
    let place : suc i - 1 - j ≡ suc (i - 1 - j) = omega arith in
    ap (bit_at (2 * mask_of flags from i + (if flags (from + i) then 1 else 0))) place
    ∙ bit_at-suc (2 * mask_of flags from i + (if flags (from + i) then 1 else 0)) (i - 1 - j)
    ∙ ap (λ (n : ℕ). bit_at n (i - 1 - j)) (flag_half (flags (from + i)) (mask_of flags from i))
    ∙ mask_bit flags from i j before)
    (λ (last : i ≤ j).
    let here : j ≡ i = omega (arith, last, less) in
    let place : suc i - 1 - j ≡ 0 = omega (arith, here) in
    ap (bit_at (2 * mask_of flags from i + (if flags (from + i) then 1 else 0))) place
    ∙ bit_at_lowest (2 * mask_of flags from i + (if flags (from + i) then 1 else 0))
    ∙ flag_bit (flags (from + i)) (mask_of flags from i)
    ∙ ap (λ (k : ℕ). if flags (from + k) then 1 else 0) (sym here))
    (cases_lt j i)

bit_read : (flag : Bool) (bit : ℕ) → bit < 2 → (bit + (if flag then 1 else 0)) % 2 ≡ copy_read flag bit
bit_read true bit small = omega arith
bit_read false bit small = omega arith

-- a bit of a word of which some bits are turned
pub word_bit : (flags : ℕ → Bool) (word from j : ℕ) → j < 32
    → bit_at (bit_xor word (mask_of flags from 32)) (31 - j) ≡ copy_read (flags (from + j)) (bit_at word (31 - j))
word_bit flags word from j less =
    let mask : bit_at (mask_of flags from 32) (31 - j) ≡ (if flags (from + j) then 1 else 0) =
    mask_bit flags from 32 j less in
    bit_at_xor word (mask_of flags from 32) (31 - j)
    ∙ ap (λ (b : ℕ). (bit_at word (31 - j) + b) % 2) mask
    ∙ bit_read (flags (from + j)) (bit_at word (31 - j)) (mod_below (word / 2 ^ (31 - j)) 2 (omega arith))

-- the bits of a level's copies, where a block of it was copied so
pub turned_bit : (flags : ℕ → Bool) (old new : ℕ → Cell) (from to first count k : ℕ)
    → AreTurned flags old (from + 4 * first) (to + 4 * first) first count new → 32 * first ≤ k
    → k < 32 * (first + count)
    → bit_of (λ x. bytes_of new (to + x)) k ≡ copy_read (flags k) (bit_of (λ x. bytes_of old (from + x)) k)
unfolding bit_of
turned_bit flags old new from to first count k turned low high =
    let split = div-add-mod' k 32 in
    let rest : k % 32 < 32 = mod_below k 32 (omega arith) in
    let i : ℕ = k / 32 - first in
    let word_new : to + 4 * first + 4 * i ≡ to + 4 * (k / 32) = omega (arith, split, rest, low) in
    let word_old : from + 4 * first + 4 * i ≡ from + 4 * (k / 32) = omega (arith, split, rest, low) in
    let number : 32 * (first + i) ≡ 32 * (k / 32) = omega (arith, split, rest, low) in
    let is = turned i (omega (arith, split, rest, high, low)) in
    let words : word_of_bits (λ x. bytes_of new (to + x)) (k / 32)
    ≡ bit_xor (word_of_bits (λ x. bytes_of old (from + x)) (k / 32)) (mask_of flags (32 * (k / 32)) 32) =
    sym (number_in-word new to (k / 32)) ∙ ap (number_in 4 new) (sym word_new) ∙ is
    ∙ ap (λ (n : ℕ). bit_xor (number_in 4 old (from + 4 * first + 4 * i)) (mask_of flags n 32)) number
    ∙ ap (λ (p : ℕ). bit_xor (number_in 4 old p) (mask_of flags (32 * (k / 32)) 32)) word_old
    ∙ ap (λ (w : ℕ). bit_xor w (mask_of flags (32 * (k / 32)) 32)) (number_in-word old from (k / 32)) in
    let flag : 32 * (k / 32) + k % 32 ≡ k = omega (arith, split) in
    ap (λ (w : ℕ). bit_at w (31 - k % 32)) words
    ∙ word_bit flags (word_of_bits (λ x. bytes_of old (from + x)) (k / 32)) (32 * (k / 32)) (k % 32) rest
    ∙ ap (λ (n : ℕ). copy_read (flags n) (bit_at (word_of_bits (λ x. bytes_of old (from + x)) (k / 32)) (31 - k % 32)))
    flag

-- where each block's bit was turned exactly if the block is marked, the bytes that are chosen then are the view's
pub sealed_chosen : (old new : ℕ → ℕ) (part_at : ℕ) (difi : Difi) (state : DpfsState) (selector : ℕ)
    → ((k : ℕ) → k < blocks_of difi.dpfs3 → bit_of (pick2 new part_at difi selector) k
    ≡ copy_read (is_marked state.touched.items k) (bit_of (pick2 old part_at difi state.selector) k))
    → ((x : ℕ) → x < view_size difi → new (place_of old part_at difi state x) ≡ old (place_of old part_at difi state x))
    → (x : ℕ) → x < view_size difi → chosen new part_at difi selector x ≡ old (place_of old part_at difi state x)
unfolding chosen pick3 place_by
sealed_chosen old new part_at difi state selector bits same x inside =
    ⊎_elim
    (λ (below : x < difi.dpfs3.size).
    let bit = bits (x / 2 ^ difi.dpfs3.log) (block_below x difi.dpfs3.size difi.dpfs3.log below) in
    let there : chosen new part_at difi selector x ≡ new (place_of old part_at difi state x) =
    rw (lt-ltb x difi.dpfs3.size below, bit) refl in
    there ∙ same x inside)
    (λ (behind : difi.dpfs3.size ≤ x).
    let there : chosen new part_at difi selector x ≡ new (place_of old part_at difi state x) =
    rw (le-ltb x difi.dpfs3.size behind) refl in
    there ∙ same x inside)
    (cases_lt x difi.dpfs3.size)

-- The bits that are read, as bits of the chosen levels.
use Rattle.std.proofs.Common.{◌≡◌, ℕ, suc, ◌+◌, ◌-◌, ◌*◌, ◌/◌, ◌%◌, ◌^◌, ◌<◌, ◌≤◌, refl, ◌∙◌, ap, arith, add-zero}
use Rattle.save_bytes.specs.Fields.{number_at}
use Rattle.save_bytes.specs.Cells.{Cell}
use Rattle.save_bytes.specs.CellNumbers.{bytes_in, number_in}
use Rattle.difi.specs.declared.descriptor.Difi.{Difi}
use Rattle.difi.specs.Places.{blocks_of, bitmap_size}
use Rattle.dpfs_tree.specs.Picks.{bytes_of, word_of_bits, bit_of, pick1, pick2}
use Rattle.difi.proofs.PlaceLemmas.{block_below}
use Rattle.dpfs_tree.specs.SameLaws.{bit_of-same, word_inside}
use Rattle.dpfs_tree.proofs.PickLemmas.{word_in_block}

-- the number in four cells is their word
pub number_in-word : (cells : ℕ → Cell) (from n : ℕ) → number_in 4 cells (from + 4 * n)
    ≡ word_of_bits (λ x. bytes_of cells (from + x)) n
unfolding number_at bytes_in word_of_bits
number_in-word cells from n =
    let one : suc (from + 4 * n) ≡ from + (4 * n + 1) = omega arith in
    let two : suc (suc (from + 4 * n)) ≡ from + (4 * n + 2) = omega arith in
    let three : suc (suc (suc (from + 4 * n))) ≡ from + (4 * n + 3) = omega arith in
    rw (three, two, one, add-zero) refl

pub bit_of-number : (cells : ℕ → Cell) (from k number : ℕ) → number ≡ number_in 4 cells (from + 4 * (k / 32))
    → number / 2 ^ (31 - k % 32) % 2 ≡ bit_of (λ x. bytes_of cells (from + x)) k
unfolding bit_of
bit_of-number cells from k number is = ap (λ (n : ℕ). n / 2 ^ (31 - k % 32) % 2)
    (is ∙ number_in-word cells from (k / 32))

-- a bit of a copy of level 1 is one of the chosen level 1 where the selector chooses that copy
pub bit_of-pick1 : (bytes : ℕ → ℕ) (part_at : ℕ) (difi : Difi) (selector from k : ℕ)
    → from ≡ part_at + difi.dpfs1.at + selector * difi.dpfs1.size
    → bit_of (λ x. bytes (from + x)) k ≡ bit_of (pick1 bytes part_at difi selector) k
unfolding pick1
bit_of-pick1 bytes part_at difi selector from k is = rw is refl

-- a bit of a copy of level 2 is one of the chosen level 2 where level 1 chooses that copy for its word's block
pub bit_of-pick2 : (bytes : ℕ → ℕ) (part_at : ℕ) (difi : Difi) (selector from copy k : ℕ) → 7 ≤ difi.dpfs2.log
    → from ≡ part_at + difi.dpfs2.at + copy * difi.dpfs2.size
    → copy ≡ bit_of (pick1 bytes part_at difi selector) (4 * (k / 32) / 2 ^ difi.dpfs2.log)
    → bit_of (λ x. bytes (from + x)) k ≡ bit_of (pick2 bytes part_at difi selector) k
unfolding pick2
bit_of-pick2 bytes part_at difi selector from copy k least is chosen =
    bit_of-same _ _ k (λ i h. rw (is, chosen, word_in_block (k / 32) i difi.dpfs2.log least h) refl)

-- the word of a level 3 block's bit lies in a block of level 2
pub word_block_below : (difi : Difi) (block : ℕ) → block < blocks_of difi.dpfs3
    → bitmap_size difi.dpfs3 ≤ difi.dpfs2.size
    → 4 * (block / 32) / 2 ^ difi.dpfs2.log < blocks_of difi.dpfs2
word_block_below difi block h enough =
    block_below (4 * (block / 32)) difi.dpfs2.size difi.dpfs2.log
    (omega (arith, word_inside block (blocks_of difi.dpfs3) h, enough))

-- bits stay where the cells do
pub bit_of-stays : (old new : ℕ → Cell) (size from k : ℕ) → ((x : ℕ) → x < size → new x ≡ old x)
    → from + (4 * (k / 32) + 4) ≤ size → bit_of (λ x. bytes_of new (from + x)) k
    ≡ bit_of (λ x. bytes_of old (from + x)) k
bit_of-stays old new size from k same fits =
    bit_of-same _ _ k (λ i h. rw (same (from + (4 * (k / 32) + i)) (omega (arith, fits, h))) refl)

-- Where chosen bytes lie.
use Rattle.std.proofs.Common.{◌≡◌, ℕ, ◌+◌, ◌-◌, ◌*◌, ◌/◌, ◌%◌, ◌^◌, ◌<◌, ◌≤◌, min, Bool}
use Rattle.std.proofs.Common.{true, false, List, replicate, cond, ltb, refl, sym, ◌∙◌, ap, arith, ⊎_elim}
use Rattle.std.proofs.lemmas.Nat.{pow_pos, pow-add, div-add-mod', div-mul-add, mod_below}
use Rattle.std.proofs.lemmas.List.{get_or-replicate, get_or_past, length-replicate}
use Rattle.std.proofs.lemmas.Bool.{cases_lt, lt-ltb, le-ltb}
use Rattle.difi.specs.declared.descriptor.Difi.{Difi}
use Rattle.dpfs_tree.specs.declared.state.DpfsState.{DpfsState}
use Rattle.dpfs_tree.specs.Picks.{bit_of, pick2, pick3, external_place, chosen}
use Rattle.difi.specs.Contents.{view_size}
use Rattle.dpfs_tree.specs.Marks.{is_marked, copy_read, place_by, place_of, run_of}

cond_out : (f : ℕ → ℕ) (b : Bool) (p q : ℕ) → f (cond b p q) ≡ cond b (f p) (f q)
cond_out f true p q = refl
cond_out f false p q = refl

-- marks that are all clear
pub unmarked : (touched : List Bool) (n : ℕ) → touched ≡ replicate n false → (block : ℕ)
    → is_marked touched block ≡ false
unmarked touched n clear block =
    rw clear
    (⊎_elim (λ (within : block < n). get_or-replicate n block false false within)
    (λ (past : n ≤ block). get_or_past (replicate n false) block false (omega (arith, length-replicate n false, past)))
    (cases_lt block n))

-- with no mark the bytes at their places are the chosen ones
pub place_of-chosen : (bytes : ℕ → ℕ) (part_at : ℕ) (difi : Difi) (state : DpfsState) (x : ℕ)
    → ((block : ℕ) → is_marked state.touched.items block ≡ false)
    → bytes (place_of bytes part_at difi state x) ≡ chosen bytes part_at difi state.selector x
unfolding place_by chosen pick3
place_of-chosen bytes part_at difi state x unmarked =
    cond_out bytes (ltb x difi.dpfs3.size) _ _ ∙ rw (unmarked (x / 2 ^ difi.dpfs3.log)) refl

-- places of one block
pub same_block : (at k size : ℕ) → 0 < size → k < size - at % size → (at + k) / size ≡ at / size
same_block at k size some h =
    let split = div-add-mod' at size in
    let place : at + k ≡ at / size * size + (at % size + k) = omega arith in
    rw place (div-mul-add (at / size) size (at % size + k) (omega arith))

four_in : (m i c p r : ℕ) → r + 4 * p ≡ 4 * m → r < 4 * c → i < 4 → i < 4 * c - r
four_in m i c p r split below h = omega arith

-- a power of two is four times one
pub four_parts : (log : ℕ) → 2 ≤ log → 2 ^ log ≡ 4 * 2 ^ (log - 2)
four_parts log least = let parts : 2 + (log - 2) ≡ log = omega arith in ap (λ n. 2 ^ n) (sym parts)
    ∙ pow-add 2 2 (log - 2)

-- the bytes of a word lie in one block
pub word_in_block : (m i log : ℕ) → 7 ≤ log → i < 4 → (4 * m + i) / 2 ^ log ≡ 4 * m / 2 ^ log
word_in_block m i log least h =
    let four = four_parts log (omega arith) in
    let c = 2 ^ (log - 2) in
    let some : 0 < 2 ^ log = pow_pos log in
    let split = div-add-mod' (4 * m) (2 ^ log) in
    let inside = mod_below (4 * m) (2 ^ log) some in
    same_block (4 * m) i (2 ^ log) some
    (rw four (four_in m i c (4 * m / (4 * c) * c) (4 * m % (4 * c)) (omega (arith, rw four at split))
    (omega (arith, rw four at inside)) h))

-- a run lies in one piece
pub place_of-run : (bytes : ℕ → ℕ) (part_at : ℕ) (difi : Difi) (state : DpfsState) (at k : ℕ) → k < run_of difi at
    → place_of bytes part_at difi state (at + k) ≡ place_of bytes part_at difi state at + k
unfolding place_by run_of
place_of-run bytes part_at difi state at k h =
    ⊎_elim
    (λ (below : at < difi.dpfs3.size).
    let run : k < min (2 ^ difi.dpfs3.log - at % 2 ^ difi.dpfs3.log) (difi.dpfs3.size - at) =
    rw (lt-ltb at difi.dpfs3.size below) at h in
    let block = same_block at k (2 ^ difi.dpfs3.log) (pow_pos difi.dpfs3.log) (omega (arith, run)) in
    rw (lt-ltb (at + k) difi.dpfs3.size (omega (arith, run)), lt-ltb at difi.dpfs3.size below, block) (omega arith))
    (λ (behind : difi.dpfs3.size ≤ at).
    rw (le-ltb (at + k) difi.dpfs3.size (omega (arith, behind)), le-ltb at difi.dpfs3.size behind)
    (omega (arith, behind)))
    (cases_lt at difi.dpfs3.size)

-- the place of a byte of level 3, by its block's copy
pub place_of-copy : (bytes : ℕ → ℕ) (part_at : ℕ) (difi : Difi) (state : DpfsState) (at chosen copy from : ℕ)
    → at < difi.dpfs3.size → chosen ≡ bit_of (pick2 bytes part_at difi state.selector) (at / 2 ^ difi.dpfs3.log)
    → copy ≡ copy_read (is_marked state.touched.items (at / 2 ^ difi.dpfs3.log)) chosen
    → from ≡ part_at + difi.dpfs3.at + copy * difi.dpfs3.size → from + at ≡ place_of bytes part_at difi state at
unfolding place_by
place_of-copy bytes part_at difi state at chosen copy from below by_bit by_mark begins =
    rw (lt-ltb at difi.dpfs3.size below, ← by_bit, ← by_mark, begins) refl

-- the place of a byte behind level 3
pub place_of-external : (bytes : ℕ → ℕ) (part_at : ℕ) (difi : Difi) (state : DpfsState) (at : ℕ) → difi.dpfs3.size ≤ at
    → external_place part_at difi at ≡ place_of bytes part_at difi state at
unfolding place_by
place_of-external bytes part_at difi state at behind = rw (le-ltb at difi.dpfs3.size behind) refl

-- how far a run may go
pub record IsRun (difi : Difi) (at run : ℕ) : Type 0 where
  pub some : 0 < run
  pub in_view : at + run ≤ view_size difi
  pub in_level3 : at < difi.dpfs3.size → run ≤ difi.dpfs3.size - at

pub run_of-is : (difi : Difi) (at : ℕ) → at < view_size difi → IsRun difi at (run_of difi at)
unfolding run_of
run_of-is difi at inside =
    ⊎_elim
    (λ (below : at < difi.dpfs3.size).
    let block = pow_pos difi.dpfs3.log in
    let rest = mod_below at (2 ^ difi.dpfs3.log) block in
    rw (lt-ltb at difi.dpfs3.size below)
    (record { some = omega (arith, rest, below); in_view = omega (arith, below); in_level3 = λ _. omega arith }))
    (λ (behind : difi.dpfs3.size ≤ at). rw (le-ltb at difi.dpfs3.size behind)
    (record {
      some = omega (arith, inside);
      in_view = omega (arith, inside);
      in_level3 =
          λ below. absurd (omega (arith, behind, below));
    }))
    (cases_lt at difi.dpfs3.size)

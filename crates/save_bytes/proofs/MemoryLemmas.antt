-- What a write to a part of the bytes does to a space in memory, and the laws of one.
use Rattle.std.proofs.Common.{◌≡◌, ◌≢◌, ℕ, ◌+◌, ◌-◌, ◌*◌, ◌/◌, ◌<◌, ◌≤◌, ◌⊎◌, List, length, get_or, refl, sym, ◌∙◌}
use Rattle.std.proofs.Common.{ap, arith, None, ⊎_elim, inl, inr, rules, min, replicate}
use Rattle.std.proofs.lemmas.List.{places, length-replicate}
use Rattle.std.proofs.Math.Nat.{div-mul-le_self}
use Rattle.std.proofs.lemmas.Bool.{cases_lt}
use Rattle.save_bytes.specs.Fields.{with_bytes}
use Rattle.save_bytes.specs.declared.memory.MemSpace.{MemSpace}
use Rattle.save_bytes.specs.Cells.{Byte}
use Rattle.save_bytes.specs.State.{CanPut}
use Rattle.save_bytes.specs.Stays.{SameSpace}
use Rattle.save_bytes.specs.Puts.{Puts}
use Rattle.save_bytes.specs.Spots.{Spot, Place, Misses, MovesOnly}
use Rattle.save_bytes.specs.Memory.{memory_shape, bytes_state, memory_state, SameMemory, SameSpot, MemoryKeeps, MemoryLands}

-- a place that is none of the n from a place on lies before them or behind
apart_sides : (at n x : ℕ) → ((k : ℕ) → k < n → x ≢ at + k) → (x < at) ⊎ (at + n ≤ x)
apart_sides at n x apart = ⊎_elim inl (λ above. ⊎_elim (λ below. absurd (apart (x - at) (omega arith) (omega arith))) inr (cases_lt x (at + n))) (cases_lt x at)

with_bytes_before : (xs piece : List ℕ) (at x : ℕ) → at + length piece ≤ length xs → x < at → get_or (with_bytes xs at piece) x 0 ≡ get_or xs x 0
with_bytes_before xs piece at x fits before = grind (arith, places)

with_bytes_behind : (xs piece : List ℕ) (at x : ℕ) → at + length piece ≤ length xs → at + length piece ≤ x → get_or (with_bytes xs at piece) x 0 ≡ get_or xs x 0
with_bytes_behind xs piece at x fits behind = grind (arith, places)

with_bytes_inside : (xs piece : List ℕ) (at k : ℕ) → at + length piece ≤ length xs → k < length piece
    → get_or (with_bytes xs at piece) (at + k) 0 ≡ get_or piece k 0
with_bytes_inside xs piece at k fits within = grind (arith, places)

with_bytes_outside : (xs piece : List ℕ) (at x : ℕ) → at + length piece ≤ length xs
    → ((k : ℕ) → k < length piece → x ≢ at + k) → get_or (with_bytes xs at piece) x 0 ≡ get_or xs x 0
with_bytes_outside xs piece at x fits apart =
    ⊎_elim (with_bytes_before xs piece at x fits) (with_bytes_behind xs piece at x fits)
    (apart_sides at (length piece) x apart)

length-with_bytes : (xs piece : List ℕ) (at : ℕ) → at + length piece ≤ length xs → length (with_bytes xs at piece) ≡ length xs
length-with_bytes xs piece at fits = search (rules, places)

-- xs with a piece in place of as many bytes from a place on are ys
pub record IsWrite (xs : List ℕ) (at : ℕ) (piece ys : List ℕ) : Type 0 where
  pub fits : at + length piece ≤ length xs
  pub is : ys ≡ with_bytes xs at piece

module _ (xs : List ℕ) (at : ℕ) (piece ys : List ℕ) (write : IsWrite xs at piece ys) where
  same_size : length ys ≡ length xs
  same_size = ap length write.is ∙ length-with_bytes xs piece at write.fits

  outside : (x : ℕ) → ((k : ℕ) → k < length piece → x ≢ at + k) → get_or ys x 0 ≡ get_or xs x 0
  outside x apart = rw write.is (with_bytes_outside xs piece at x write.fits apart)

  inside : (k : ℕ) → k < length piece → get_or ys (at + k) 0 ≡ get_or piece k 0
  inside k within = rw write.is (with_bytes_inside xs piece at k write.fits within)

  same_space : (P : Type 0) (block : ℕ) → SameSpace P (bytes_state xs block) (bytes_state ys block) None
  same_space P block = record {
    shape = ap (λ size. memory_shape size block) same_size;
    faults = omega arith;
    cause = tt;
    told = λ told. refl;
    twins = λ told. record { bottom = λ x h. refl; is_fixed = λ x h. refl };
  }

  -- the piece was put into the space
  pub bytes_put : (block : ℕ) → Puts (bytes_state xs block) at piece (bytes_state ys block) None
  bytes_put block = record {
    space = same_space (CanPut (bytes_state xs block) at (length piece)) block;
    done = λ told. record {
      written = λ x k h within e. rw e (ap Byte (inside k within));
      others = λ x h apart. ap Byte (outside x apart);
      joined = λ x y h i blank e. absurd blank;
    };
    damaged = λ told. tt;
  }

same_spot : (s t : MemSpace) (at : ℕ) (piece : List ℕ) → IsWrite s.bytes.now at piece t.bytes.now → (spot : Spot)
    → Misses MemoryLands at (length piece) spot → SameSpot spot s t
same_spot s t at piece write (Place place) misses = outside s.bytes.now at piece t.bytes.now write place (λ k h e. misses k h (sym e))
same_spot s t at piece write other misses = tt

-- no place outside the piece was touched
pub bytes_moved : (s t : MemSpace) (at n : ℕ) (piece : List ℕ) → length piece ≡ n
    → t.bytes.ghost_name ≡ s.bytes.ghost_name → t.block ≡ s.block → IsWrite s.bytes.now at piece t.bytes.now
    → MovesOnly MemoryKeeps (λ _. MemoryLands) (memory_state s) s at n t None
bytes_moved s t at n piece long same_reference same_block write =
    let same : SameMemory s t = record {
      same_reference = same_reference;
      same_size = same_size s.bytes.now at piece t.bytes.now write;
      same_block =
          same_block;
    } in
    record {
      hold = (same, tt);
      spots = λ told spot misses. (same, same_spot s t at piece write spot (rw long misses));
      damaged = λ told. tt;
      reach = λ told x h spot lands. lands;
    }

-- zeros in place of the block of a place
pub block_cleared : (xs ys : List ℕ) (block at start len : ℕ) → at < length xs → start ≡ at / block * block
    → len ≡ min block (length xs - at / block * block) → ys ≡ with_bytes xs start (replicate len 0)
    → IsWrite xs (at / block * block) (replicate (min block (length xs - at / block * block)) 0) ys
block_cleared xs ys block at start len within start_is len_is is = record {
  fits = rw length-replicate (omega (arith, div-mul-le_self at block));
  is = rw (start_is, len_is) at is;
}

-- The laws of a space, of one in memory.
use Rattle.std.specs.Prelude.{◌≡◌, ℕ, ◌+◌, ◌-◌, ◌*◌, ◌/◌, ◌^◌, ◌<◌, ◌≤◌, IsTrue, length, refl}
use Rattle.std.proofs.Common.{◌∙◌, ap, min, arith, rules, tests}
use Rattle.std.proofs.Math.Nat.{div-mul-le_self, lt-div-mul-add}
use Rattle.std.proofs.lemmas.Nat.{div-mul-add}
use Rattle.save_bytes.specs.declared.memory.MemSpace.{MemSpace}
use Rattle.save_bytes.specs.Blocks.{HasBlocks}
use Rattle.save_bytes.specs.Spots.{Spot, Place}
use Rattle.save_bytes.specs.Memory.{memory_shape, memory_state, SameMemory, SameSpot, MemoryKeeps}

pub memory_size_fits : (s : MemSpace) → IsTrue (memory_state s).shape.sound → length s.bytes.now < 2 ^ 64
memory_size_fits s sound = search (rules, tests)

SameSpot-same : (spot : Spot) (s : MemSpace) → SameSpot spot s s
SameSpot-same (Place at) s = refl
SameSpot-same other s = tt

pub MemoryKeeps-same : (spot : Spot) (s : MemSpace) → MemoryKeeps spot s s
MemoryKeeps-same spot s = (record { same_reference = refl; same_size = refl; same_block = refl }, SameSpot-same spot s)

SameSpot-join : (spot : Spot) (s t u : MemSpace) → SameSpot spot s t → SameSpot spot t u → SameSpot spot s u
SameSpot-join (Place at) s t u h k = k ∙ h
SameSpot-join other s t u h k = tt

pub MemoryKeeps-join : (spot : Spot) (s t u : MemSpace) → MemoryKeeps spot s t → MemoryKeeps spot t u → MemoryKeeps spot s u
MemoryKeeps-join spot s t u h k = (
  record {
    same_reference = k.0.same_reference ∙ h.0.same_reference;
    same_size = k.0.same_size ∙ h.0.same_size;
    same_block = k.0.same_block ∙ h.0.same_block;
  },
  SameSpot-join spot s t u h.1 k.1,
)

pub SameMemory-shape : (s t : MemSpace) → SameMemory s t → (memory_state t).shape ≡ (memory_state s).shape
SameMemory-shape s t same = rw (same.same_size, same.same_block) refl

-- places of one block have one quotient
same_quotient : (x y block : ℕ) → x / block * block ≤ y → y < x / block * block + block → y / block ≡ x / block
same_quotient x y block low high =
    let rest : y ≡ x / block * block + (y - x / block * block) = omega arith in
    rw rest (div-mul-add (x / block) block (y - x / block * block) (omega arith))

pub memory_blocks : (size block : ℕ) → IsTrue (memory_shape size block).sound → HasBlocks (memory_shape size block)
memory_blocks size block sound =
    let some : 0 < block = search (rules, tests) in
    record {
      starts = λ x h. div-mul-le_self x block;
      ends = λ x h. omega (arith, div-mul-le_self x block, lt-div-mul-add {a = x} some);
      inside = λ x h. omega (arith, div-mul-le_self x block);
      same_start = λ x y h low high. ap (λ q. q * block) (same_quotient x y block low (omega arith));
      same_len = λ x y h low high. ap (λ q. min block (size - q * block)) (same_quotient x y block low (omega arith));
    }

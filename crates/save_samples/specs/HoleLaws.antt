-- The laws of a space, of a floor with holes.
use Rattle.std.specs.Prelude.{◌≡◌, ℕ, ◌*◌, ◌/◌, ◌^◌, ◌<◌, IsTrue, length, refl}
use Rattle.std.proofs.Math.Nat.{mul-div_cancel}
use Rattle.std.proofs.Common.{◌∙◌, sym, ap, rules, tests, slice_index_or, slice_index}
use Rattle.save_bytes.specs.Blocks.{HasBlocks, HasAlikeBlocks}
use Rattle.save_bytes.specs.Cells.{IsByte, IsAlike}
use Rattle.save_bytes.specs.Stays.{SameCells, SameTwins}
use Rattle.save_bytes.specs.Spots.{Spot, Place, Sector, Mark, Frame, Hold}
use Rattle.save_bytes.specs.MemoryLaws.{memory_blocks}
use Rattle.save_samples.specs.declared.holes.Hole.{Hole}
use Rattle.save_samples.specs.declared.holes.Hole.TheVariants.{Filled, NeverWritten, Broken}
use Rattle.save_samples.specs.declared.holes.HoleSpace.{HoleSpace}
use Rattle.save_samples.specs.Holes.{hole_cell, hole_shape, hole_state, SameHoles, SameHoleSpot, HoleKeeps, HoleLands}

pub hole_size_fits : (s : HoleSpace) → IsTrue (hole_state s).shape.sound → length s.bytes.now < 2 ^ 64
hole_size_fits s sound = search (rules, tests)

pub hole_plain : (s : HoleSpace) → IsTrue (hole_state s).shape.plain → IsTrue (hole_state s).told → (x : ℕ)
    → IsByte ((hole_state s).cells x)
hole_plain s plain told x = absurd (cc plain)

SameHoleSpot-same : (spot : Spot) (s : HoleSpace) → SameHoleSpot spot s s
SameHoleSpot-same (Place at) s = refl
SameHoleSpot-same other s = tt

SameHoles-same : (s : HoleSpace) → SameHoles s s
SameHoles-same s =
    record { same_bytes = refl; same_size = refl; same_block = refl; same_holes = refl; same_count = refl }

pub HoleKeeps-same : (spot : Spot) (s : HoleSpace) → HoleKeeps spot s s
HoleKeeps-same spot s = (SameHoles-same s, SameHoleSpot-same spot s)

SameHoleSpot-join : (spot : Spot) (s t u : HoleSpace) → SameHoleSpot spot s t → SameHoleSpot spot t u
    → SameHoleSpot spot s u
SameHoleSpot-join (Place at) s t u h k = k ∙ h
SameHoleSpot-join other s t u h k = tt

pub SameHoles-join : (s t u : HoleSpace) → SameHoles s t → SameHoles t u → SameHoles s u
SameHoles-join s t u h k = record {
  same_bytes = k.same_bytes ∙ h.same_bytes;
  same_size = k.same_size ∙ h.same_size;
  same_block = k.same_block ∙ h.same_block;
  same_holes = k.same_holes ∙ h.same_holes;
  same_count = k.same_count ∙ h.same_count;
}

pub HoleKeeps-join : (spot : Spot) (s t u : HoleSpace) → HoleKeeps spot s t → HoleKeeps spot t u → HoleKeeps spot s u
HoleKeeps-join spot s t u h k = (SameHoles-join s t u h.0 k.0, SameHoleSpot-join spot s t u h.1 k.1)

pub SameHoles-shape : (s t : HoleSpace) → SameHoles s t → (hole_state t).shape ≡ (hole_state s).shape
SameHoles-shape s t same = rw (same.same_size, same.same_block, same.same_count) refl

pub hole_cells_kept : (s t : HoleSpace) → ((spot : Spot) → HoleKeeps spot s t)
    → SameCells (hole_state s) (hole_state t) × SameTwins (hole_state s) (hole_state t)
hole_cells_kept s t kept = (
  λ x inside.
      (kept (Place x)).1,
  record { bottom = λ x inside. refl; is_fixed = λ x inside. refl },
)

pub hole_blocks : (size block holes : ℕ) → IsTrue (hole_shape size block holes).sound
    → HasBlocks (hole_shape size block holes)
hole_blocks size block holes sound =
    let blocks = memory_blocks size block (search (rules, tests)) in
    record {
      starts = blocks.starts;
      ends = blocks.ends;
      inside = blocks.inside;
      same_start = blocks.same_start;
      same_len = blocks.same_len;
    }

-- blocks that begin at one place have one number
pub same_number : (block one other : ℕ) → 0 < block → one * block ≡ other * block → other ≡ one
same_number block one other some same =
    sym (mul-div_cancel other some) ∙ ap (λ x. x / block) (sym same) ∙ mul-div_cancel one some

alike : (hole : Hole) (one other number : ℕ) → IsAlike (hole_cell hole one number) (hole_cell hole other number)
alike Filled one other number = tt
alike (NeverWritten level) one other number = refl
alike (Broken level) one other number = refl

pub hole_alike : (s : HoleSpace) → IsTrue (hole_state s).told → HasAlikeBlocks (hole_state s)
hole_alike s told x y in_x in_y same =
    let some : 0 < s.block = search (rules, tests) in
    let number : y / s.block ≡ x / s.block = same_number s.block (x / s.block) (y / s.block) some same in
    rw number (alike (slice_index_or s.holes.now (x / s.block) Filled) (slice_index s.bytes.now x)
    (slice_index s.bytes.now y) (x / s.block))

pub hole_lands_kept : (s t : HoleSpace) → SameHoles s t → (x : ℕ) (spot : Spot) → HoleLands t x spot
    → HoleLands s x spot
hole_lands_kept s t same x (Place at) lands = rw same.same_block at lands
hole_lands_kept s t same x (Sector number) lands = lands
hole_lands_kept s t same x (Mark part level block) lands = lands
hole_lands_kept s t same x Frame lands = lands
hole_lands_kept s t same x Hold lands = lands

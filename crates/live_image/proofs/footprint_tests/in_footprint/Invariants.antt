use Rattle.std.proofs.Common.{◌≡◌, ℕ, ◌/◌, ◌<◌}
use Rattle.live_image.specs.Footprint.{MayWrite}
use Rattle.live_image.proofs.MayWriteLemmas.{each}
use Rattle.live_image.proofs.footprint_tests.in_footprint.Given as goal

abbrev pub invariant-loop-place : goal.invariant-loop-place
invariant-loop-place l =
    (k : ℕ) → k < l.place → k / l.grain ≡ l.sector → MayWrite l.image (each l.touched.0 l.touched.1) k → ⊥

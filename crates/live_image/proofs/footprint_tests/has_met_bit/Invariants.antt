use Rattle.std.proofs.Common.{◌≡◌, ℕ, ◌*◌, ◌/◌, ◌^◌, ◌<◌, eqb}
use Rattle.live_image.specs.Footprint.{MeetsPath}
use Rattle.live_image.proofs.footprint_tests.has_met_bit.Given as goal

abbrev pub invariant-loop-bit : goal.invariant-loop-bit
invariant-loop-bit l =
    (k : ℕ) → k < l.bit → MeetsPath l.difi (λ n. eqb n l.touched) k → 4 * (k / 32) / 2 ^ l.difi.dpfs2.log ≡ l.block → ⊥

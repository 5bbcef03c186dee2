use Rattle.std.proofs.Common.{◌≡◌, ℕ, ◌+◌, ◌/◌, ◌^◌, ◌<◌}
use Rattle.difi.specs.Places.{block_size}
use Rattle.live_image.proofs.footprint_tests.meets.Given as goal

abbrev pub invariant-loop-y : goal.invariant-loop-y
invariant-loop-y l =
    (k : ℕ) → k < l.y → (k / block_size l.place ≡ l.of_level) × ((l.place.at + k < l.difi.dpfs3.size)
    × ((l.place.at + k) / 2 ^ l.difi.dpfs3.log ≡ l.block)) → ⊥

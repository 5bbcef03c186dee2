use Rattle.std.proofs.Common.{◌≤◌}
use Rattle.live_image.proofs.live_tests.live_in_sector.Given as goal

abbrev pub invariant-loop-place : goal.invariant-loop-place
invariant-loop-place l = l.count ≤ l.place

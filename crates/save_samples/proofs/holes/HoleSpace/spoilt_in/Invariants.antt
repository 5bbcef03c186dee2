use Rattle.std.proofs.Common.{ℕ, ◌+◌, ◌<◌}
use Rattle.save_bytes.specs.Cells.{IsUnspoilt}
use Rattle.save_samples.specs.Holes.{hole_state}
use Rattle.save_samples.proofs.holes.HoleSpace.spoilt_in.Given as goal

abbrev pub invariant-loop-k : goal.invariant-loop-k
invariant-loop-k l = (j : ℕ) → j < l.k → IsUnspoilt ((hole_state l.self).cells (l.at + j))

use Rattle.std.proofs.Common.{◌+◌, ◌≤◌}
use Rattle.save_mount.specs.Counts.{IsCountOf}
use Rattle.save_mount.proofs.LostLemmas.{IsOutBelow}
use Rattle.save_mount.proofs.mounting.lost_in.Given as goal

abbrev pub invariant-loop-entry : goal.invariant-loop-entry
invariant-loop-entry l = record {
  few : l.lost + 1 ≤ l.entry;
  lost : IsCountOf (IsOutBelow l.held l.entry) l.lost;
}

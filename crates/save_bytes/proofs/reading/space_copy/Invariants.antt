use Rattle.std.proofs.Common.{◌-◌, ◌≤◌, IsTrue, None, length, take}
use Rattle.save_bytes.specs.Cells.{AreBytesAt}
use Rattle.save_bytes.specs.Reads.{Reads}
use Rattle.save_bytes.proofs.reading.space_copy.Given as goal

abbrev pub invariant-loop-done : goal.invariant-loop-done
invariant-loop-done g l = record {
  within : l.done ≤ length l.out;
  bytes : IsTrue (g.S.Space.state l.initial.space).told → AreBytesAt (g.S.Space.state l.initial.space).cells l.at (take l.done l.out);
  reads : Reads g.S.Space.state g.S.Space.keeps g.S.Space.lands l.initial.space l.space None;
}

abbrev pub decreases-loop-done : goal.decreases-loop-done
decreases-loop-done g l = length l.initial.out - l.done

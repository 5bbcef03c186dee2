use Rattle.std.proofs.Common.{◌≡◌, ◌-◌, ◌≤◌, IsTrue, length, take, drop}
use Rattle.save_disk.specs.State.{IsQuiet, IsSteady}
use Rattle.save_disk.specs.Tells.{tells, image_told}
use Rattle.container.proofs.reading.read_part.Given as goal

abbrev pub invariant-loop-done : goal.invariant-loop-done
invariant-loop-done g l = record {
  within : l.done ≤ length l.out;
  bytes : IsTrue (tells (g.D.Disk.state l.initial.disk)) → take l.done l.out ≡ take l.done (drop l.at (image_told (g.D.Disk.state l.initial.disk)));
  quiet : IsQuiet (g.D.Disk.state l.initial.disk) (g.D.Disk.state l.disk);
  steady : IsSteady (g.D.Disk.state l.initial.disk) (g.D.Disk.state l.disk);
}

abbrev pub decreases-loop-done : goal.decreases-loop-done
decreases-loop-done g l = length l.initial.out - l.done

use Rattle.std.proofs.Common.{◌-◌, ◌≤◌, None, length, take}
use Rattle.dpfs_tree.specs.Puts.{PutsInto}
use Rattle.dpfs_tree.proofs.write.put_in.Given as goal

abbrev pub invariant-loop-done : goal.invariant-loop-done
invariant-loop-done g l = record {
  within : l.done ≤ length l.bytes;
  into : PutsInto g.S.Space.state g.S.Space.keeps g.S.Space.lands l.part_at l.difi l.fn.state l.state l.at
      (take l.done l.bytes)
      l.fn.base l.base None;
}

abbrev pub decreases-loop-done : goal.decreases-loop-done
decreases-loop-done g l = length l.initial.bytes - l.done

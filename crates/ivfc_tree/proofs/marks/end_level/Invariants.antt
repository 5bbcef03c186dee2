use Rattle.std.proofs.Common.{◌≡◌, ◌++◌, map, take, drop}
use Rattle.ivfc_tree.specs.Settles.{ended}
use Rattle.ivfc_tree.proofs.marks.end_level.Given as goal

abbrev pub invariant-loop-mark : goal.invariant-loop-mark
invariant-loop-mark l =
    l.marks ≡ map (ended l.committed) (take l.mark-index l.initial.marks) ++ drop l.mark-index l.initial.marks

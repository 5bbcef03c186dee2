use Rattle.std.proofs.Common.{◌≡◌, drop}
use Rattle.save_bytes.specs.Extents.{some_overlap}
use Rattle.save_bytes.proofs.extent.some_overlap.Given as goal

abbrev pub invariant-loop-i : goal.invariant-loop-i
invariant-loop-i l = some_overlap (drop l.i l.extents) ≡ some_overlap l.extents

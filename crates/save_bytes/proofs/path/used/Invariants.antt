use Rattle.std.proofs.Common.{◌≡◌, ◌≤◌, take}
use Rattle.save_bytes.specs.Paths.{last_used}
use Rattle.save_bytes.proofs.path.used.Given as goal

abbrev pub invariant-loop-i : goal.invariant-loop-i
invariant-loop-i l = (l.used ≡ last_used (take l.i l.bytes)) × (l.used ≤ l.i)

use Rattle.std.proofs.Common.{◌≡◌}
use Rattle.page_image.specs.Images.{IsDiskOf}
use Rattle.page_image.proofs.longest_tests.marks_shown.Given as goal

abbrev pub invariant-loop-i : goal.invariant-loop-i
invariant-loop-i g l = record { disk_of : IsDiskOf (g.D.Disk.state l.disk) l.state; len : l.state.len ≡ 67108864 }

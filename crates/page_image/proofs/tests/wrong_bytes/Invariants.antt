use Rattle.std.proofs.Common.{◌≡◌}
use Rattle.save_disk.specs.MemDesks.{state_of}
use Rattle.page_image.specs.Images.{IsDiskOf}
use Rattle.page_image.proofs.tests.wrong_bytes.Given as goal

abbrev pub invariant-loop-i : goal.invariant-loop-i
invariant-loop-i l = record { disk_of : IsDiskOf (state_of l.desk) l.state; len : l.state.len ≡ 100000 }

use Rattle.std.proofs.Common.{◌≡◌}
use Rattle.save_disk.specs.MemDesks.{state_of}
use Rattle.page_image.specs.Images.{IsDiskOf}
use Rattle.page_image.proofs.tests.pages_changed.Given as goal

abbrev pub invariant-loop-page : goal.invariant-loop-page
invariant-loop-page l = record { disk_of : IsDiskOf (state_of l.desk) l.state; len : l.state.len ≡ 100000 }

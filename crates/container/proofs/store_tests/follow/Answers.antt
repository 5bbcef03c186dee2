use Rattle.save_bytes.specs.Spots.{Frame}
use Rattle.page_image.proofs.DiskLemmas.{kept_disk}
use Rattle.page_image.proofs.LeaveLemmas.{quiet_leaves}
use Rattle.container.proofs.store_tests.follow.Goals as goal

pub change_and_read-requires-clause-disk : goal.change_and_read-requires-clause-disk
change_and_read-requires-clause-disk g c =
    let before = c.copy_twice.ensures.disk in
    kept_disk _ _ _ _
    (quiet_leaves (g.D.Disk.state c.copy_twice.new.disk) (g.D.Disk.state c.len-2.new.self) c.copy_twice.new.container.image
    (g.met.D.Disk.sound c.copy_twice.new.disk) before c.len-2.ensures.quiet c.len-2.ensures.steady Frame tt).0 before

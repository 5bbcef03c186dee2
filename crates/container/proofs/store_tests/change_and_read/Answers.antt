use Rattle.std.proofs.Common.{rules}
use Rattle.save_bytes.specs.Spots.{Hold}
use Rattle.page_image.proofs.DiskLemmas.{kept_disk}
use Rattle.container.proofs.HeldLemmas.{leaves_as}
use Rattle.container.proofs.store_tests.change_and_read.Goals as goal

pub store-requires-2 : goal.store-requires-2
store-requires-2 g c =
    let kept = leaves_as g.D.Disk.state Hold c.store.result c.change.new.store c.args.container.now c.container-1.given.0 c.args.disk.now c.disk-1.given.0
    (search rules) (search rules) (search rules) (search rules) c.change.ensures.hold in
    kept_disk _ _ _ _ kept.0 c.requires.disk

use Rattle.std.proofs.Common.{rules}
use Rattle.save_disk.specs.MemDesks.{state_of}
use Rattle.page_image.proofs.DiskLemmas.{kept_disk}
use Rattle.page_image.proofs.tests.flush.Goals as goal

pub returns-clause-disk_of : goal.returns-clause-disk_of
returns-clause-disk_of c =
    let kept = c.flush.ensures.frame.1.0 in
    kept_disk (state_of c.args.desk.now) _ c.args.state.now _ (search rules) c.requires

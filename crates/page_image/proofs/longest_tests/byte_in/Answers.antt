use Rattle.std.proofs.Common.{rules}
use Rattle.page_image.proofs.DiskLemmas.{kept_disk}
use Rattle.page_image.proofs.longest_tests.byte_in.Goals as goal

pub returns-clause-disk_of : goal.returns-clause-disk_of
returns-clause-disk_of g c =
    let kept = c.read_one.ensures.reads.frame.1.0 in
    kept_disk (g.D.Disk.state c.args.disk.now) _ c.args.state.now _ (search rules) c.requires.disk_of

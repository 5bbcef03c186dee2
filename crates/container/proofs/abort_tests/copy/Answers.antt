use Rattle.std.proofs.Common.{rules}
use Rattle.save_bytes.specs.Spots.{Frame}
use Rattle.container.proofs.HeldLemmas.{disk_behind, whole_behind}
use Rattle.container.proofs.abort_tests.copy.Goals as goal

pub returns-clause-disk : goal.returns-clause-disk
returns-clause-disk g c =
    disk_behind g.D.Disk.state Frame c.store-store.result c.copy.new.self c.args.container.now
    c.container-2-1.given.0 c.args.disk.now c.disk-2-1.given.0 (search rules) (search rules) (search rules) (search rules)
    c.copy.ensures.reads.frame c.requires.disk

pub returns-clause-whole : goal.returns-clause-whole
returns-clause-whole g c =
    whole_behind g.D.Disk.state Frame c.store-store.result c.copy.new.self c.args.container.now
    c.container-2-1.given.0 c.args.disk.now c.disk-2-1.given.0 (search rules) (search rules) (search rules) (search rules)
    c.copy.ensures.reads.frame c.requires.whole

use Rattle.std.proofs.Common.{refl}
use Rattle.std.specs.Result.{result_err}
use Rattle.container.proofs.HeldLemmas.{store_reads}
use Rattle.container.proofs.store.Store.status.Goals as goal

pub returns-clause-reads : goal.returns-clause-reads
returns-clause-reads g c =
    let done = c.tell_status.ensures in
    store_reads g.D.Disk.state c.args.self.now _
    (result_err c.tell_status.result) refl refl done.kept done.reads done.stays c.requires.sound

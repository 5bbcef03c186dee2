use Rattle.std.proofs.Common.{refl}
use Rattle.std.specs.Result.{result_err}
use Rattle.container.proofs.HeldLemmas.{store_reads}
use Rattle.container.proofs.store.Store.locate.Goals as goal

pub returns-clause-reads : goal.returns-clause-reads
returns-clause-reads g c =
    let done = c.locate_in.ensures in
    store_reads g.D.Disk.state c.args.self.now _
    (result_err c.locate_in.result) refl refl done.kept done.reads done.stays c.requires.inside.sound

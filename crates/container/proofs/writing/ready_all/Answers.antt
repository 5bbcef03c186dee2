use Rattle.std.proofs.Common.{arith}
use Rattle.std.specs.Result.{result_err}
use Rattle.save_bytes.proofs.CallLemmas.{Reads-join}
use Rattle.container.specs.StoreHeld.{store_of}
use Rattle.container.specs.Overs.{opened_state, OpenedKeeps, opened_lands}
use Rattle.container.proofs.OverLemmas.{OpenedKeeps-join}
use Rattle.container.proofs.CallLemmas.{ready_both}
use Rattle.container.proofs.writing.ready_all.Goals as goal

pub returns-in-Ok-clause-ready : goal.returns-in-Ok-clause-ready
returns-in-Ok-clause-ready g c =
    let states = g.D.Disk.state in
    let later = c.ready_in-2.new in
    let first = c.in-Ok.ensures in
    ready_both (store_of (states c.args.disk.now) c.args.container.now) (store_of (states later.disk) later.container)
    c.args.at c.difi.result.now.ivfc4.size c.args.n (result_err c.ready_in-in-Ok.result) (omega arith) (omega arith)
    (omega (arith, c.requires.inside)) first.ready first.reads.stays c.ready_in-in-Ok.ensures.ready

pub returns-in-Ok-clause-reads : goal.returns-in-Ok-clause-reads
returns-in-Ok-clause-reads g c =
    let states = g.D.Disk.state in
    Reads-join (opened_state states) (OpenedKeeps states) (opened_lands states) (OpenedKeeps-join states) _ _ _
    (result_err c.ready_in-in-Ok.result) c.in-Ok.ensures.reads c.ready_in-in-Ok.ensures.reads

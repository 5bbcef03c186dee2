use Rattle.std.proofs.Common.{rules}
use Rattle.std.specs.Result.{result_err}
use Rattle.container.specs.StoreHeld.{store_lands}
use Rattle.save_top.proofs.FillLemmas.{shown_store, store_quiet, store_steady}
use Rattle.save_top.proofs.peek.fill.Goals as goal

pub returns-clause-bytes : goal.returns-clause-bytes
returns-clause-bytes g c = λ told.
    let same = shown_store g.D.Disk.state c.store-store.result _ _ c.store-store.ensures.holds in
    let bytes = rw same at c.copy.ensures.bytes in
    bytes told

pub returns-clause-quiet : goal.returns-clause-quiet
returns-clause-quiet g c = λ clean.
    let states = g.D.Disk.state in
    let holds = c.store-store.ensures.holds in
    let quiet = store_quiet states (store_lands states) c.store-store.result c.copy.new.self (result_err c.copy.result)
    (rw holds.container_now clean) c.copy.ensures.reads in
    let still = rw holds.disk_now at quiet in
    search rules

pub returns-clause-steady : goal.returns-clause-steady
returns-clause-steady g c =
    let states = g.D.Disk.state in
    let holds = c.store-store.ensures.holds in
    let steady = store_steady states (store_lands states) c.store-store.result c.copy.new.self (result_err c.copy.result) c.copy.ensures.reads in
    let still = rw holds.disk_now at steady in
    search rules

use Rattle.std.proofs.Common.{rules}
use Rattle.container.specs.StoreHeld.{store_lands}
use Rattle.save_fs.specs.Faults.{disk_in}
use Rattle.save_session.proofs.StoreLemmas.{store_shown, reads_through}
use Rattle.save_session.proofs.store.list_store.Goals as goal

pub returns-clause-rows : goal.returns-clause-rows
returns-clause-rows g c =
    let same = store_shown g.D.Disk.state c.store-store.result _ _ c.store-store.ensures.holds in
    rw same at c.list.ensures.rows

pub returns-clause-reads : goal.returns-clause-reads
returns-clause-reads g c =
    let states = g.D.Disk.state in
    let holds = c.store-store.ensures.holds in
    let reads = reads_through states (store_lands states) c.store-store.result c.list.new.store
    (disk_in c.list.result) (rw holds.container_now c.requires.whole)
    (rw (holds.container_now, holds.disk_now) c.requires.disk) c.list.ensures.reads in
    let through = rw (holds.container_now, holds.disk_now) at reads in
    search rules

use Rattle.std.proofs.Common.{rules}
use Rattle.container.specs.StoreHeld.{store_lands}
use Rattle.save_fs.specs.Faults.{disk_in}
use Rattle.save_session.proofs.StoreLemmas.{reads_through}
use Rattle.save_session.proofs.store.get_piece_store.Goals as goal

pub returns-clause-reads : goal.returns-clause-reads
returns-clause-reads g c =
    let states = g.D.Disk.state in
    let holds = c.store-store.ensures.holds in
    let reads = reads_through states (store_lands states) c.store-store.result c.get_piece.new.store
    (disk_in c.get_piece.result) (rw holds.container_now c.requires.whole)
    (rw (holds.container_now, holds.disk_now) c.requires.disk) c.get_piece.ensures.reads in
    let through = rw (holds.container_now, holds.disk_now) at reads in
    search rules

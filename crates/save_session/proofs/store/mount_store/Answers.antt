use Rattle.std.proofs.Common.{rules}
use Rattle.save_mount.specs.Causes.{refusal_in}
use Rattle.container.specs.StoreHeld.{store_lands}
use Rattle.save_session.proofs.StoreLemmas.{store_roomy, store_shown, reads_through}
use Rattle.save_session.proofs.store.mount_store.Goals as goal

pub mount-requires : goal.mount-requires
mount-requires g c =
    let states = g.D.Disk.state in
    let same = store_shown states c.store-store.result _ _ c.store-store.ensures.holds in
    let roomy = store_roomy (states c.args.disk.now) c.args.container.now c.requires.whole in
    let sound = rw same at (c.store-store.ensures.sound c.requires.whole) in
    rw (same, c.split-split.ensures)
    (record { sound = sound; first = roomy.zero; small = roomy.small; inside = roomy.inside })

pub returns-clause-mounted : goal.returns-clause-mounted
returns-clause-mounted g c =
    let same = store_shown g.D.Disk.state c.store-store.result _ _ c.store-store.ensures.holds in
    rw (same, c.split-split.ensures) at c.mount.ensures.mounted

pub returns-clause-exact : goal.returns-clause-exact
returns-clause-exact g c =
    let same = store_shown g.D.Disk.state c.store-store.result _ _ c.store-store.ensures.holds in
    rw (same, c.split-split.ensures) at c.mount.ensures.exact

pub returns-clause-not_save : goal.returns-clause-not_save
returns-clause-not_save g c =
    let same = store_shown g.D.Disk.state c.store-store.result _ _ c.store-store.ensures.holds in
    rw same at c.mount.ensures.not_save

pub returns-clause-reads : goal.returns-clause-reads
returns-clause-reads g c =
    let states = g.D.Disk.state in
    let holds = c.store-store.ensures.holds in
    let reads = reads_through states (store_lands states) c.store-store.result c.mount.new.store
    (refusal_in c.mount.result) (rw holds.container_now c.requires.whole)
    (rw (holds.container_now, holds.disk_now) c.requires.disk) c.mount.ensures.reads in
    let through = rw (holds.container_now, holds.disk_now) at reads in
    search rules

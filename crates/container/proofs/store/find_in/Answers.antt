use Rattle.container.proofs.HeldLemmas.{disk_of_store}
use Rattle.container.proofs.store.find_in.Goals as goal

pub view-view-requires : goal.view-view-requires
view-view-requires g c =
    let container = c.args.container.now in
    let parts = container.parts in
    disk_of_store (g.D.Disk.state c.args.disk.now) container.image parts.first parts.second container.table.items c.requires.inside.sound

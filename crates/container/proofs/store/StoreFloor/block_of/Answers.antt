use Rattle.page_image.specs.Images.{image_state}
use Rattle.container.specs.StoreLaws.{first_view, second_view}
use Rattle.container.proofs.store.StoreFloor.block_of.Goals as goal

pub block_in-start-requires-clause-log : goal.block_in-start-requires-clause-log
block_in-start-requires-clause-log g c =
    let store = c.args.self.now in
    let container = store.container.now in
    let view = second_view (image_state (g.D.Disk.state store.disk.now) container.image) container.parts.first
    container.table.items container.parts.second c.in-Some.second c.in-Some.is c.requires.sound in
    rw c.difi-in-Some.ensures view.contents.partition.levels.block_sizes.ivfc4.1

pub block_in-requires-clause-log : goal.block_in-requires-clause-log
block_in-requires-clause-log g c =
    let store = c.args.self.now in
    let container = store.container.now in
    let view = first_view (image_state (g.D.Disk.state store.disk.now) container.image) container.parts.first
    container.table.items container.parts.second c.requires.sound in
    rw c.difi-in_default.ensures view.contents.partition.levels.block_sizes.ivfc4.1

use Rattle.part_store.specs.ViewLaws.{shown_can}
use Rattle.part_store.proofs.view.PartViewFloor.block_of.Goals as goal

pub block_size-size-requires : goal.block_size-size-requires
block_size-size-requires g c =
    let space = g.S.Space in
    let can = shown_can space.state g.met.S.Space.size_fits c.args.self.now c.requires.sound in
    can.contents.partition.levels.block_sizes.ivfc4.1

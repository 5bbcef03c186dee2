use Rattle.ivfc_tree.specs.KeepLaws.{shown_can}
use Rattle.ivfc_tree.proofs.view.IvfcViewFloor.block_of.Goals as goal

pub block_size-size-requires : goal.block_size-size-requires
block_size-size-requires g c =
    let space = g.S.Space in
    (shown_can space.state g.met.S.Space.size_fits c.args.self.now c.requires.sound).block_sizes.ivfc4.1

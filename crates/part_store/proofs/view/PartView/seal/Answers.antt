use Rattle.part_store.specs.ViewLaws.{shown_can}
use Rattle.part_store.proofs.view.PartView.seal.Goals as goal

pub seal_in-requires : goal.seal_in-requires
seal_in-requires g c = shown_can g.S.Space.state g.met.S.Space.size_fits c.args.self.now c.requires

use Rattle.dpfs_tree.specs.ViewLaws.{shown_tree}
use Rattle.dpfs_tree.proofs.PieceLemmas.{bytes_ready}
use Rattle.dpfs_tree.proofs.view.DpfsViewSpace.ready.Goals as goal

pub returns-clause-ready : goal.returns-clause-ready
returns-clause-ready g c =
    let view = c.args.self.now in
    let tree = shown_tree g.S.Space.state g.met.S.Space.size_fits view c.requires.sound in
    bytes_ready _ c.args._at c.args._n (λ told x. g.met.S.Space.plain_bytes view.base.now tree.plain told _)

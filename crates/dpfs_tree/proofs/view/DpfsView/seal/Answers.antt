use Rattle.std.specs.Result.{result_err}
use Rattle.dpfs_tree.specs.Picks.{bytes_of}
use Rattle.dpfs_tree.specs.Seals.{SealWrites}
use Rattle.dpfs_tree.specs.ViewLaws.{shown_tree, shown_made}
use Rattle.dpfs_tree.proofs.SpareLemmas.{seal_spares, writes_spare}
use Rattle.dpfs_tree.proofs.view.DpfsView.seal.Goals as goal

pub seal_in-requires-clause-tree : goal.seal_in-requires-clause-tree
seal_in-requires-clause-tree g c =
    shown_tree g.S.Space.state g.met.S.Space.size_fits c.args.self.now c.requires

pub seal_in-requires-clause-made : goal.seal_in-requires-clause-made
seal_in-requires-clause-made g c =
    shown_made g.S.Space.state g.met.S.Space.size_fits c.args.self.now c.requires

pub returns-clause-spares : goal.returns-clause-spares
returns-clause-spares g c =
    let space = g.S.Space in
    let view = c.args.self.now in
    let base = space.state view.base.now in
    let tree = shown_tree space.state g.met.S.Space.size_fits view c.requires in
    writes_spare space.state space.keeps space.lands view.part_at view.difi.now view.state.now.selector
    (SealWrites (bytes_of base.cells) view.part_at view.difi.now view.state.now) view.base.now c.seal_in.new.base
    (result_err c.seal_in.result)
    (seal_spares base.shape view.part_at view.difi.now view.state.now tree (bytes_of base.cells))
    c.seal_in.ensures.writes

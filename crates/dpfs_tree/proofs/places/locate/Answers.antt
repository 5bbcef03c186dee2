use Rattle.dpfs_tree.specs.ViewLaws.{contents_tree}
use Rattle.std.proofs.Common.{arith}
use Rattle.dpfs_tree.proofs.PieceLemmas.{located}
use Rattle.dpfs_tree.proofs.places.locate.Goals as goal

pub place_at-requires-clause-tree : goal.place_at-requires-clause-tree
place_at-requires-clause-tree g c =
    contents_tree (g.S.Space.state c.args.base.now).shape c.args.part_at c.args.difi.now c.args.state.now
    (g.met.S.Space.size_fits c.args.base.now) c.requires.inside.sound

pub run_at-requires-clause-log : goal.run_at-requires-clause-log
run_at-requires-clause-log g c =
    (contents_tree (g.S.Space.state c.args.base.now).shape c.args.part_at c.args.difi.now c.args.state.now
    (g.met.S.Space.size_fits c.args.base.now) c.requires.inside.sound).log3.1

pub run_at-requires-clause-small : goal.run_at-requires-clause-small
run_at-requires-clause-small g c =
    let tree = contents_tree (g.S.Space.state c.args.base.now).shape c.args.part_at c.args.difi.now c.args.state.now
    (g.met.S.Space.size_fits c.args.base.now) c.requires.inside.sound in
    omega (arith, tree.view_fits, tree.small)

pub returns-clause-located : goal.returns-clause-located
returns-clause-located g c =
    located (g.S.Space.state c.args.base.now) c.args.part_at c.args.difi.now c.args.state.now c.args.at c.args.most
    c.in-Ok.place c.min-run.result c.requires.some c.requires.inside.inside (rw c.run_at.ensures at c.min-run.ensures)
    c.in-Ok.ensures.in_base c.in-Ok.ensures.place

use Rattle.std.proofs.Common.{arith}
use Rattle.dpfs_tree.specs.ViewLaws.{shown_tree}
use Rattle.dpfs_tree.proofs.view.DpfsViewSpace.len.Goals as goal

pub returns : goal.returns
returns g c = λ sound.
    let tree = shown_tree g.S.Space.state g.met.S.Space.size_fits c.args.self.now sound in
    c.view_len.ensures (omega (arith, tree.view_fits, tree.small))

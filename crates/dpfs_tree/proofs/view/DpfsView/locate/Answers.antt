use Rattle.std.proofs.Common.{refl}
use Rattle.std.specs.Result.{result_err}
use Rattle.dpfs_tree.specs.ViewLaws.{shown_tree}
use Rattle.dpfs_tree.proofs.SameLemmas.{contents_read}
use Rattle.dpfs_tree.proofs.view.DpfsView.locate.Goals as goal

pub returns-clause-reads : goal.returns-clause-reads
returns-clause-reads g c =
    let space = g.S.Space in
    let view = c.args.self.now in
    let tree = shown_tree space.state g.met.S.Space.size_fits view c.requires.inside.sound in
    contents_read space.state space.keeps space.lands view _ (result_err c.locate.result)
    (record { same_base = refl; same_place = refl; same_difi = refl; same_state = refl; marks = refl; selector = refl })
    refl tree c.locate.ensures.reads

use Rattle.std.proofs.Common.{length, refl}
use Rattle.std.specs.Result.{result_err}
use Rattle.part_store.specs.PartLaws.{true-can_view_part}
use Rattle.part_store.proofs.AboveLemmas.{part_read}
use Rattle.part_store.proofs.view.PartView.locate.Goals as goal

pub find-requires-clause-view : goal.find-requires-clause-view
find-requires-clause-view g c =
    let view = c.args.self.now in
    true-can_view_part (g.S.Space.state view.base.now).shape view.part.now (length view.table.now) c.requires.inside.sound

pub returns-clause-reads : goal.returns-clause-reads
returns-clause-reads g c =
    let space = g.S.Space in
    part_read space.state space.keeps space.lands c.args.self.now _
    (result_err c.find.result) g.met.S.Space.size_fits refl refl refl
    c.find.ensures.left c.requires.inside.sound

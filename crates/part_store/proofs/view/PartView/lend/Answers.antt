use Rattle.std.proofs.Common.{refl, sym, subst, IsTrue}
use Rattle.std.specs.Result.{result_err}
use Rattle.save_bytes.specs.State.{Shape}
use Rattle.part_store.specs.ViewLaws.{shown_can}
use Rattle.part_store.proofs.PartLemmas.{told_below, found_inside, found_piece}
use Rattle.part_store.proofs.AboveLemmas.{reads_then_base, part_read, part_left}
use Rattle.part_store.proofs.view.PartView.lend.Goals as goal

pub piece-requires-clause-inside : goal.piece-requires-clause-inside
piece-requires-clause-inside g c =
    let states = g.S.Space.state in
    let can = shown_can states g.met.S.Space.size_fits c.args.self.now c.requires.inside.sound in
    let shape = c.in-Ok.ensures.base.stays.space.shape in
    found_inside _ (states c.locate.new.self.base.now) c.args.at c.args.most c.in-Ok.run'.0 c.in-Ok.run'.1
    (subst (λ (shape : Shape). IsTrue shape.sound) (sym shape) can.contents.sound) c.in-Ok.ensures.found

pub returns : goal.returns
returns g c =
    let space = g.S.Space in
    let laws = g.met.S.Space in
    let view = c.args.self.now in
    let first = view.base.now in
    let later = c.locate.new.self in
    let before = c.in-Ok.ensures in
    let same = before.reads.frame.0 in
    let stays = before.base.stays.space in
    let can = shown_can space.state laws.size_fits view c.requires.inside.sound in
    let left = reads_then_base space.state space.keeps space.lands laws.keeps_join laws.size_fits first later.base.now
    c.piece.follows.lender-at-none view.part.now later.part.now view.table.now later.table.now
    (result_err c.piece.result) can
    (part_left space.state space.keeps space.lands view later _ before.reads before.base)
    c.piece.follows.holds-at-none in (
      (
        refl,
        λ _. tt,
        (
          part_read space.state space.keeps space.lands view _
              (result_err c.piece.result) laws.size_fits same.same_base same.same_part
              same.same_table left c.requires.inside.sound,
          left.reads,
        ),
      ),
      record {
        piece = found_piece _ (space.state later.base.now) c.args.at c.args.most c.in-Ok.run'.0 c.in-Ok.run'.1
            (subst (λ (shape : Shape). IsTrue shape.plain) (sym stays.shape) can.contents.plain)
            (λ told. stays.told (told_below (space.state first) view.part.now view.table.now told)) before.found
            c.piece.result
            c.piece.ensures.piece;
        after = tt;
      },
    )

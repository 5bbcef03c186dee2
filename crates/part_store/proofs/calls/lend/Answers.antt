use Rattle.std.proofs.Common.{refl, subst, sym, IsTrue}
use Rattle.std.specs.Result.{result_err}
use Rattle.save_bytes.specs.State.{Shape}
use Rattle.part_store.proofs.PartLemmas.{told_below, found_inside, found_piece}
use Rattle.part_store.proofs.AboveLemmas.{reads_then_base}
use Rattle.part_store.proofs.calls.lend.Goals as goal

pub piece-requires-clause-inside : goal.piece-requires-clause-inside
piece-requires-clause-inside g c =
    let shape = c.in-Ok.ensures.left.reads.stays.space.shape in
    found_inside _ (g.S.Space.state c.find.new.base) c.args.at c.args.most c.in-Ok.run'.0 c.in-Ok.run'.1
    (subst (λ (shape : Shape). IsTrue shape.sound) (sym shape) c.requires.view.contents.sound) c.in-Ok.ensures.found

pub returns : goal.returns
returns g c =
    let space = g.S.Space in
    let states = space.state in
    let base = c.args.base.now in
    let part = c.args.part.now in
    let found = c.in-Ok.ensures in
    let stays = found.left.reads.stays.space in
    let last = c.piece.follows.lender-at-none in (
      (
        refl,
        λ _. tt,
        reads_then_base states space.keeps space.lands g.met.S.Space.keeps_join g.met.S.Space.size_fits base
            c.find.new.base last part
            c.find.new.part c.args.table.now c.find.new.table (result_err c.piece.result) c.requires.view found.left
            c.piece.follows.holds-at-none,
      ),
      record {
        piece = found_piece _ (states c.find.new.base) c.args.at c.args.most c.in-Ok.run'.0 c.in-Ok.run'.1
            (subst (λ (shape : Shape). IsTrue shape.plain) (sym stays.shape) c.requires.view.contents.plain)
            (λ told. stays.told (told_below (states base) part c.args.table.now told)) found.found c.piece.result
            c.piece.ensures.piece;
        after = tt;
      },
    )

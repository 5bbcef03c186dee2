use Rattle.std.proofs.Common.{refl}
use Rattle.std.specs.Result.{result_err}
use Rattle.dpfs_tree.specs.ViewLaws.{shown_tree}
use Rattle.dpfs_tree.proofs.PieceLemmas.{run_inside, view_piece}
use Rattle.save_bytes.proofs.CallLemmas.{Reads-join}
use Rattle.dpfs_tree.proofs.SameLemmas.{contents_read}
use Rattle.dpfs_tree.proofs.view.DpfsViewSpace.piece.Goals as goal

pub piece-requires-clause-inside : goal.piece-requires-clause-inside
piece-requires-clause-inside g c =
    let states = g.S.Space.state in
    let view = c.args.self.now in
    let tree = shown_tree states g.met.S.Space.size_fits view c.requires.inside.sound in
    let run = c.in-Ok.run' in
    run_inside (states view.base.now) view.part_at view.difi.now view.state.now c.args.at
    (states c.locate.new.self.base.now) c.args.most
    run.0 run.1 c.in-Ok.ensures.located c.in-Ok.ensures.base.stays tree.sound

pub returns : goal.returns
returns g c =
    let space = g.S.Space in
    let view = c.args.self.now in
    let mid = c.locate.new.self in
    let base = space.state view.base.now in
    let last = c.piece.follows.lender-at-none in
    let refusal = result_err c.piece.result in
    let tree = shown_tree space.state g.met.S.Space.size_fits view c.requires.inside.sound in
    let first = c.in-Ok.ensures in
    let same = first.reads.frame.0 in
    let run = c.in-Ok.run' in
    let reads = Reads-join space.state space.keeps space.lands g.met.S.Space.keeps_join view.base.now mid.base.now last
    refusal first.base
    c.piece.follows.holds-at-none in (
      (
        refl,
        λ _. tt,
        contents_read space.state space.keeps space.lands view _ refusal
            (record {
              same_base = same.same_base;
              same_place = same.same_place;
              same_difi = same.same_difi;
              same_state = same.same_state;
              marks = same.marks;
              selector = same.selector;
            })
            first.reads.frame.1 tree reads,
      ),
      record {
        piece = view_piece base view.part_at view.difi.now view.state.now c.args.at (space.state mid.base.now)
            c.args.most
            run.0 run.1 first.located first.base.stays tree.plain c.piece.result c.piece.ensures.piece;
        after = tt;
      },
    )

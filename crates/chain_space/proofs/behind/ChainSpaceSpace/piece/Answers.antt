use Rattle.std.proofs.Common.{refl, sym, subst, arith}
use Rattle.std.specs.Result.{result_err}
use Rattle.save_bytes.specs.State.{Shape, IsInside}
use Rattle.save_bytes.proofs.CallLemmas.{reads_then}
use Rattle.chain_space.specs.ShownLaws.{can_show-facts}
use Rattle.chain_space.proofs.BehindLemmas.{behind_reads}
use Rattle.chain_space.proofs.PieceLemmas.{view_piece}
use Rattle.chain_space.proofs.behind.ChainSpaceSpace.piece.Goals as goal

pub piece-requires-clause-inside : goal.piece-requires-clause-inside
piece-requires-clause-inside g c =
    let states = g.S.Space.state in
    let space = c.args.self.now in
    let room = can_show-facts (states space.base.now).shape space.shown.info space.shown.blocks c.requires.inside.sound
    in
    let located = c.in-Ok.ensures.located in
    let here : IsInside (states space.base.now).shape c.in-Ok.run'.0 1 =
    record { sound = room.table.sound; inside = omega (arith, located.in_base, located.some) } in
    subst (λ (shape : Shape). IsInside shape c.in-Ok.run'.0 1) (sym c.in-Ok.ensures.reads.stays.space.shape) here

pub returns : goal.returns
returns g c =
    let base = g.S.Space in
    let space = c.args.self.now in
    let shown = space.shown in
    let last = c.piece.follows.lender-at-none in
    let refusal = result_err c.piece.result in
    let room = can_show-facts (base.state space.base.now).shape shown.info shown.blocks c.requires.inside.sound in
    let reads = reads_then g.met.S.Space.keeps_join c.in-Ok.ensures.reads c.piece.follows.holds-at-none in (
      (
        refl,
        λ _. tt,
        behind_reads base.state base.keeps base.lands space
            (record space { base = record space.base { now = last } }) refusal room refl refl reads,
      ),
      record {
        piece = view_piece (base.state space.base.now) (base.state c.locate.new.base) shown.info shown.first
            shown.blocks c.args.at
            c.args.most c.in-Ok.run'.0 c.in-Ok.run'.1 c.in-Ok.ensures.located c.in-Ok.ensures.reads.stays c.piece.result
            c.piece.ensures.piece;
        after = tt;
      },
    )

use Rattle.std.proofs.Common.{refl, arith}
use Rattle.std.specs.Result.{result_err}
use Rattle.chain_space.specs.LaidHeld.{extra_in}
use Rattle.chain_space.proofs.LaidLemmas.{can_lay-facts, laid_piece}
use Rattle.chain_space.proofs.LaidHeldLemmas.{held_reads}
use Rattle.chain_space.proofs.laid.BlocksSpaceSpace.piece.Goals as goal

pub piece-requires-clause-inside : goal.piece-requires-clause-inside
piece-requires-clause-inside g c =
    let space = c.args.self.now in
    let room = can_lay-facts (extra_in space) (g.S.Space.state space.base.now).shape c.requires.inside.sound in
    let run = c.laid_run-place.ensures in
    record { sound = room.sound; inside = omega (arith, run.in_base, run.some) }

pub returns : goal.returns
returns g c =
    let base = g.S.Space in
    let space = c.args.self.now in
    let last = c.piece.follows.lender-at-none in
    let room = can_lay-facts (extra_in space) (base.state space.base.now).shape c.requires.inside.sound in (
      (
        refl,
        λ _. tt,
        held_reads base.state base.keeps base.lands space
            (record space { base = record space.base { now = last } }) (result_err c.piece.result) room refl refl
            c.piece.follows.holds-at-none,
      ),
      record {
        piece = laid_piece (extra_in space) (base.state space.base.now) c.args.at c.args.most c.laid_run-place.result.0
            c.laid_run-place.result.1 c.laid_run-place.ensures c.piece.result c.piece.ensures.piece;
        after = tt;
      },
    )

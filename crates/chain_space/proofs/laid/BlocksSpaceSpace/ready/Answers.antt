use Rattle.std.proofs.Common.{refl}
use Rattle.std.specs.Result.{result_err}
use Rattle.chain_space.specs.LaidHeld.{extra_in}
use Rattle.chain_space.proofs.LaidLemmas.{can_lay-facts}
use Rattle.chain_space.proofs.LaidHeldLemmas.{held_reads}
use Rattle.chain_space.proofs.laid.BlocksSpaceSpace.ready.Goals as goal

pub returns-clause-reads : goal.returns-clause-reads
returns-clause-reads g c =
    let space = c.args.self.now in
    let room = can_lay-facts (extra_in space) (g.S.Space.state space.base.now).shape c.requires.sound in
    held_reads g.S.Space.state g.S.Space.keeps g.S.Space.lands space _ (result_err c.ready_laid.result) room refl refl
    c.ready_laid.ensures.reads

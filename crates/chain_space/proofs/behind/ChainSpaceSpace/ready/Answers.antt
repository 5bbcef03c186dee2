use Rattle.std.proofs.Common.{refl}
use Rattle.std.specs.Result.{result_err}
use Rattle.chain_space.specs.ShownLaws.{can_show-facts}
use Rattle.chain_space.proofs.BehindLemmas.{behind_reads}
use Rattle.chain_space.proofs.behind.ChainSpaceSpace.ready.Goals as goal

pub returns-clause-reads : goal.returns-clause-reads
returns-clause-reads g c =
    let base = g.S.Space in
    let space = c.args.self.now in
    let room = can_show-facts (base.state space.base.now).shape space.shown.info space.shown.blocks c.requires.sound in
    behind_reads base.state base.keeps base.lands space _ (result_err c.ready_runs.result) room refl refl
    c.ready_runs.ensures.reads

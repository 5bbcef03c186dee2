use Rattle.std.proofs.Common.{rules}
use Rattle.std.specs.Result.{result_err}
use Rattle.container.proofs.OverLemmas.{over_reads}
use Rattle.container.proofs.over.clear_ready_over.Goals as goal

pub returns-clause-reads : goal.returns-clause-reads
returns-clause-reads g c =
    let space = g.S.Space in
    over_reads space.state space.keeps space.lands c.new-view.result c.clear_ready.new.self (result_err c.clear_ready.result) _ _
    (search rules) (search rules) c.clear_ready.ensures.reads

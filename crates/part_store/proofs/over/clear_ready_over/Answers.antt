use Rattle.std.proofs.Common.{rules}
use Rattle.std.specs.Result.{result_err}
use Rattle.part_store.proofs.UnderLemmas.{reads_down}
use Rattle.part_store.proofs.over.clear_ready_over.Goals as goal

pub returns-clause-reads : goal.returns-clause-reads
returns-clause-reads g c =
    let space = g.S.Space in
    let holds = c.new-view.ensures.holds in
    let left = reads_down space.state space.keeps space.lands c.new-view.result c.clear_ready.new.self
    (result_err c.clear_ready.result) c.clear_ready.ensures.reads in
    let there = rw (holds.base_now, holds.same_part, holds.same_difi, holds.master_now, holds.state_now) at left in
    search rules

use Rattle.std.proofs.Common.{arith, rules}
use Rattle.std.specs.Result.{result_err}
use Rattle.part_store.proofs.AboveLemmas.{reads_part}
use Rattle.part_store.proofs.calls.status.Goals as goal

pub returns-clause-left : goal.returns-clause-left
returns-clause-left g c =
    let space = g.S.Space in
    let laws = g.met.S.Space in
    let holds = c.new-contents.ensures.holds in
    let left = reads_part space.state space.keeps space.lands laws.keeps_hold laws.keeps_shape laws.keeps_cells
    laws.keeps_lands
    c.args.base.now c.args.part.now c.args.table.now c.requires.view c.new-contents.result c.status_over.new.contents
    c.status_over.new.state
    c.status_over.new.master _
    (result_err c.status_over.result) holds.base_now holds.same_place holds.same_difi holds.state_now (omega arith)
    c.status_over.ensures.left in
    search rules

use Rattle.std.proofs.Common.{length, rules}
use Rattle.std.specs.Result.{result_err}
use Rattle.part_store.proofs.UnderLemmas.{moves_down, came_down}
use Rattle.part_store.proofs.over.put_over.Goals as goal

pub returns-clause-moves : goal.returns-clause-moves
returns-clause-moves g c =
    let space = g.S.Space in
    let holds = c.new-view.ensures.holds in
    let left = moves_down space.state space.keeps space.lands c.new-view.result c.put.new.self
    (result_err c.put.result) c.args.at (length c.args.bytes.now) c.put.ensures.moves in
    let there = rw (holds.base_now, holds.same_part, holds.same_difi, holds.master_now, holds.state_now) at left in
    search rules

pub returns-clause-came : goal.returns-clause-came
returns-clause-came g c =
    let holds = c.new-view.ensures.holds in
    let left = came_down g.S.Space.state c.new-view.result c.put.new.self
    (result_err c.put.result) c.put.ensures.moves.hold.0.same_difi
    c.put.ensures.came in
    let there = rw (holds.base_now, holds.same_difi, holds.master_now, holds.state_now) at left in
    search rules

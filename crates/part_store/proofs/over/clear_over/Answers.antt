use Rattle.std.proofs.Common.{rules}
use Rattle.std.specs.Result.{result_err}
use Rattle.ivfc_tree.specs.Held.{shown}
use Rattle.part_store.proofs.UnderLemmas.{moves_down, came_down}
use Rattle.part_store.proofs.over.clear_over.Goals as goal

pub returns-clause-moves : goal.returns-clause-moves
returns-clause-moves g c =
    let space = g.S.Space in
    let holds = c.new-view.ensures.holds in
    let block = (shown space.state c.new-view.result).shape in
    let left = moves_down space.state space.keeps space.lands c.new-view.result c.clear.new.self
    (result_err c.clear.result) (block.block_start c.args.at) (block.block_len c.args.at) c.clear.ensures.moves in
    let there = rw (holds.base_now, holds.same_part, holds.same_difi, holds.master_now, holds.state_now) at left in
    search rules

pub returns-clause-came : goal.returns-clause-came
returns-clause-came g c =
    let holds = c.new-view.ensures.holds in
    let left = came_down g.S.Space.state c.new-view.result c.clear.new.self
    (result_err c.clear.result) c.clear.ensures.moves.hold.0.same_difi
    c.clear.ensures.came in
    let there = rw (holds.base_now, holds.same_difi, holds.master_now, holds.state_now) at left in
    search rules

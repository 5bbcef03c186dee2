use Rattle.std.proofs.Common.{length, rules}
use Rattle.std.specs.Result.{result_err}
use Rattle.container.proofs.OverLemmas.{over_moves}
use Rattle.container.proofs.over.put_over.Goals as goal

pub returns-clause-moves : goal.returns-clause-moves
returns-clause-moves g c =
    let space = g.S.Space in
    over_moves space.state space.keeps space.lands c.new-view.result c.put.new.self (result_err c.put.result) _ _
    (search rules) (search rules) c.args.at (length c.args.bytes.now) c.put.ensures.table c.put.ensures.moves

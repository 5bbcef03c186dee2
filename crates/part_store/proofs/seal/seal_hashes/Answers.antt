use Rattle.std.proofs.Common.{rules}
use Rattle.std.specs.Result.{result_err}
use Rattle.part_store.proofs.SealLemmas.{seals_down}
use Rattle.part_store.proofs.seal.seal_hashes.Goals as goal

pub returns : goal.returns
returns g c =
    let space = g.S.Space in
    let holds = c.new-view.ensures.holds in
    let left = seals_down space.state space.keeps space.lands c.new-view.result c.seal.new.self
    (result_err c.seal.result) c.seal.ensures in
    let there = rw (holds.base_now, holds.same_part, holds.same_difi, holds.master_now, holds.state_now) at left in
    search rules

use Rattle.std.proofs.Common.{◌≡◌, ◌+◌, ◌-◌, arith, rules}
use Rattle.std.specs.Result.{result_err}
use Rattle.part_store.proofs.PartLemmas.{found_part}
use Rattle.part_store.proofs.AboveLemmas.{reads_part}
use Rattle.part_store.proofs.calls.find.Goals as goal

pub returns-clause-found : goal.returns-clause-found
returns-clause-found g c =
    let holds = c.new-contents.ensures.holds in
    let difi = c.args.part.now.difi in
    let states = g.S.Space.state in
    let size : difi.place + difi.master.at + difi.master.size - (difi.place + difi.master.at) ≡ difi.master.size = omega arith in
    let found = found_part (states c.args.base.now) (states c.find_in.new.contents.base.now) c.args.part.now
    c.args.table.now c.args.at c.args.most c.find_in.result
    (rw (holds.base_now, holds.same_place, holds.same_difi, holds.state_now, size) at c.find_in.ensures.found) in
    search rules

pub returns-clause-left : goal.returns-clause-left
returns-clause-left g c =
    let space = g.S.Space in
    let laws = g.met.S.Space in
    let holds = c.new-contents.ensures.holds in
    let left = reads_part space.state space.keeps space.lands laws.keeps_hold laws.keeps_shape laws.keeps_cells
    laws.keeps_lands
    c.args.base.now c.args.part.now c.args.table.now c.requires.view c.new-contents.result c.find_in.new.contents
    c.find_in.new.state
    c.find_in.new.master _
    (result_err c.find_in.result) holds.base_now holds.same_place holds.same_difi holds.state_now (omega arith)
    c.find_in.ensures.left in
    search rules

use Rattle.std.proofs.Common.{◌*◌, ◌/◌, ◌-◌, min, subst, rules}
use Rattle.std.specs.Result.{result_err}
use Rattle.save_bytes.specs.Spots.{MovesOnly}
use Rattle.difi.specs.Places.{block_size}
use Rattle.part_store.specs.declared.part.Part.{Part}
use Rattle.part_store.specs.Held.{shown, PartKeeps, part_lands}
use Rattle.container.proofs.OverLemmas.{over_moves}
use Rattle.container.proofs.over.clear_over.Goals as goal

pub returns-clause-moves : goal.returns-clause-moves
returns-clause-moves g c =
    let space = g.S.Space in
    let view = c.new-view.result in
    let start : Part → _ = λ part. c.args.at / block_size part.difi.ivfc4 * block_size part.difi.ivfc4 in
    let len : Part → _ = λ part. min (block_size part.difi.ivfc4) (part.difi.ivfc4.size - start part) in
    let Moved : Part → Type 0 = λ part. MovesOnly (PartKeeps space.keeps) (part_lands space.state space.lands)
    (shown space.state view) view (start part) (len part) c.clear.new.self (result_err c.clear.result) in
    over_moves space.state space.keeps space.lands view c.clear.new.self (result_err c.clear.result) _ _
    (search rules) (search rules) (start c.args.part.now) (len c.args.part.now)
    c.clear.ensures.table
    (subst Moved c.new-view.ensures.holds.part_now c.clear.ensures.moves)

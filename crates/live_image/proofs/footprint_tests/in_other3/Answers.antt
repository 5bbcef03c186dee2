use Rattle.std.proofs.Common.{◌-◌, arith, sym, ◌∙◌}
use Rattle.difi.proofs.PlaceLemmas.{block_below}
use Rattle.live_image.proofs.LevelLemmas.{lies_where}
use Rattle.live_image.proofs.footprint_tests.in_other3.Goals as goal

pub level3_copy-requires-clause-block : goal.level3_copy-requires-clause-block
level3_copy-requires-clause-block c =
    let level = c.args.difi.now.dpfs3 in
    let there = lies_where c.copy_start-start.result level.size c.args.place
    (sym c.lies_from.ensures ∙ c.if-not-lies_from.false) in
    block_below (c.args.place - c.copy_start-start.result) level.size level.log (omega (arith, there.0, there.1))

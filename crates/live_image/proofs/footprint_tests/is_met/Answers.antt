use Rattle.std.proofs.Common.{arith}
use Rattle.std.proofs.lemmas.Bool.{false≢true}
use Rattle.live_image.proofs.FootprintTestLemmas.{met_there}
use Rattle.live_image.proofs.footprint_tests.is_met.Goals as goal

pub returns-then-touched-block_count : goal.returns-then-touched-block_count
returns-then-touched-block_count c = (
  λ no. absurd (false≢true no),
  λ met.
      let there = met_there c.args.difi.now c.args.touched c.args.block met in
      absurd (omega (arith, there, c.if-touched-block_count.true, c.block_count.ensures)),
)

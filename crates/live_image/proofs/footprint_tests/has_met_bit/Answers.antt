use Rattle.std.proofs.Common.{arith}
use Rattle.std.proofs.lemmas.Bool.{false≢true}
use Rattle.live_image.proofs.FootprintTestLemmas.{met_inside}
use Rattle.live_image.proofs.footprint_tests.has_met_bit.Goals as goal

pub returns : goal.returns
returns c = (
  λ no. absurd (false≢true no),
  λ met.
      let there = met_inside c.args.difi.now c.args.touched met.bit met.met in
      absurd (c.loop-bit.invariant met.bit (omega (arith, there, c.loop-bit-test.false)) met.met met.there),
)

use Rattle.live_image.proofs.TestLemmas.{bit_of-number}
use Rattle.live_image.proofs.live_tests.bit_at.Goals as goal

pub returns-clause-bit : goal.returns-clause-bit
returns-clause-bit c = bit_of-number c.args.image.now c.args.from c.args.k c.u32_at-word.result c.u32_at-word.ensures

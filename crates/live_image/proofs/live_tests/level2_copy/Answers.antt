use Rattle.std.proofs.Common.{◌∙◌, slice_index}
use Rattle.dpfs_tree.proofs.BitLemmas.{bit_of-pick1}
use Rattle.live_image.proofs.live_tests.level2_copy.Goals as goal

pub returns-clause-bit : goal.returns-clause-bit
returns-clause-bit c =
    c.bit_at.ensures.bit
    ∙ bit_of-pick1 (λ x. slice_index c.args.image.now x) c.args.partition.now.at c.args.difi.now
    c.args.difi.now.selector
    c.copy_start.result c.args.block c.copy_start.ensures

use Rattle.std.proofs.Common.{◌∙◌, slice_index}
use Rattle.dpfs_tree.proofs.BitLemmas.{bit_of-pick2, word_block_below}
use Rattle.live_image.proofs.live_tests.level3_copy.Goals as goal

pub level2_copy-copy-requires-clause-block : goal.level2_copy-copy-requires-clause-block
level2_copy-copy-requires-clause-block c =
    word_block_below c.args.difi.now c.args.block c.requires.block c.requires.placed.levels.copies.bits2

pub returns-clause-bit : goal.returns-clause-bit
returns-clause-bit c =
    c.bit_at.ensures.bit
    ∙ bit_of-pick2 (λ x. slice_index c.args.image.now x) c.args.partition.now.at c.args.difi.now
    c.args.difi.now.selector
    c.copy_start.result c.level2_copy-copy.result c.args.block c.requires.placed.levels.block_sizes.dpfs2.0
    c.copy_start.ensures
    c.level2_copy-copy.ensures.bit

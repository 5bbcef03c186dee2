use Rattle.std.proofs.Common.{sym, subst, arith}
use Rattle.save_bytes.specs.State.{Shape}
use Rattle.difi.proofs.PlaceLemmas.{block_below}
use Rattle.dpfs_tree.specs.Copies.{CanCopy}
use Rattle.dpfs_tree.proofs.BlockLemmas.{can_copy_block, run_in_block}
use Rattle.dpfs_tree.proofs.StepLemmas.{block_refused, block_put}
use Rattle.dpfs_tree.proofs.write.put_block.Goals as goal

pub level3_copy-requires-clause-block : goal.level3_copy-requires-clause-block
level3_copy-requires-clause-block g c = block_below c.args.at c.args.difi.now.dpfs3.size c.args.difi.now.dpfs3.log
    c.requires.below

pub fill_block-requires-clause-copies : goal.fill_block-requires-clause-copies
fill_block-requires-clause-copies g c =
    let copies = c.block_copies-copies.result in
    subst (λ (shape : Shape). CanCopy shape copies.from copies.to copies.len)
    (sym c.in-Ok.ensures.reads.stays.space.shape)
    (can_copy_block c.args.part_at c.args.difi.now.dpfs3 c.args.at c.in-Ok.chosen copies c.block_copies-copies.ensures
    c.requires.below (g.S.Space.state c.args.base.now).shape c.args.difi.now c.args.state.now.selector c.requires.tree
    c.requires.tree.level3 c.in-Ok.ensures.one_of_two)

pub fill_block-requires-clause-inside : goal.fill_block-requires-clause-inside
fill_block-requires-clause-inside g c =
    run_in_block c.args.part_at c.args.difi.now c.args.at c.in-Ok.chosen c.block_copies-copies.result
    c.block_copies-copies.ensures
    c.requires.below _ c.requires.inside

pub returns-in-Err-fill_block : goal.returns-in-Err-fill_block
returns-in-Err-fill_block g c =
    let space = g.S.Space in
    block_refused space.state space.keeps space.lands g.met.S.Space.keeps_join g.met.S.Space.keeps_hold c.args.base.now
    c.level3_copy.new.base c.fill_block.new.base c.args.part_at c.args.difi.now c.args.state.now c.args.at
    c.args.bytes.now
    c.requires.tree c.requires.some c.in-Ok.chosen c.block_copies-copies.result c.requires.below
    c.in-Ok.ensures.one_of_two
    c.block_copies-copies.ensures (rw c.selector.ensures at c.in-Ok.ensures.bit) c.in-Ok.ensures.reads
    c.in-Err-fill_block.bad
    c.in-Err-fill_block.ensures.writes

pub mark-requires : goal.mark-requires
mark-requires g c =
    let below = block_below c.args.at c.args.difi.now.dpfs3.size c.args.difi.now.dpfs3.log c.requires.below in
    omega (arith, below, c.requires.made.marks)

pub returns : goal.returns
returns g c =
    let space = g.S.Space in
    let inside = run_in_block c.args.part_at c.args.difi.now c.args.at c.in-Ok.chosen c.block_copies-copies.result
    c.block_copies-copies.ensures c.requires.below _ c.requires.inside in
    block_put space.state space.keeps space.lands g.met.S.Space.keeps_join g.met.S.Space.keeps_hold c.args.base.now
    c.level3_copy.new.base c.fill_block.new.base c.args.part_at c.args.difi.now c.args.state.now c.args.at
    c.args.bytes.now
    c.requires.tree c.requires.some c.in-Ok.chosen c.block_copies-copies.result c.requires.below
    c.in-Ok.ensures.one_of_two
    c.block_copies-copies.ensures (rw c.selector.ensures at c.in-Ok.ensures.bit) c.in-Ok.ensures.reads c.mark.new.self
    inside
    c.mark.ensures c.in-Ok-fill_block.ensures.writes (rw c.touched-marked.ensures at c.in-Ok-fill_block.ensures.filled)

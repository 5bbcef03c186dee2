use Rattle.std.proofs.Common.{◌≡◌, ℕ, ◌+◌, ◌*◌, ◌/◌, IfOk, ◌∙◌, subst, arith}
use Rattle.std.specs.Result.{result_err}
use Rattle.difi.specs.Places.{blocks_of}
use Rattle.dpfs_tree.specs.Picks.{bytes_of}
use Rattle.dpfs_tree.specs.SameLaws.{word_inside, in_copy}
use Rattle.dpfs_tree.proofs.BitLemmas.{bit_of-pick2, bit_of-stays, word_block_below}
use Rattle.save_bytes.proofs.CallLemmas.{Reads-join}
use Rattle.dpfs_tree.proofs.bits.level3_copy.Goals as goal

pub level2_copy-requires-clause-block : goal.level2_copy-requires-clause-block
level2_copy-requires-clause-block g c = word_block_below c.args.difi.now c.args.block c.requires.block
    c.requires.tree.bits2

pub returns-clause-bit : goal.returns-clause-bit
returns-clause-bit g c = λ told.
    let space = g.S.Space in
    let old = space.state c.args.base.now in
    let mid = space.state c.level2_copy.new.base in
    let difi = c.args.difi.now in
    let tree = c.requires.tree in
    let from = c.copy_start-level2.result in
    let word = word_inside c.args.block (blocks_of difi.dpfs3) c.requires.block in
    let fits = in_copy (c.args.part_at + difi.dpfs2.at) difi.dpfs2.size c.in-Ok.copy (4 * (c.args.block / 32) + 4)
    old.shape.size c.in-Ok.ensures.one_of_two (omega (arith, word, tree.bits2)) tree.level2 in
    let stays = c.in-Ok.ensures.reads.stays in
    let kept = bit_of-stays old.cells mid.cells old.shape.size from c.args.block (stays.cells told)
    (omega (arith, fits, c.copy_start-level2.ensures)) in
    let is = bit_of-pick2 (bytes_of old.cells) c.args.part_at difi c.args.selector from c.in-Ok.copy c.args.block
    tree.log2.0 c.copy_start-level2.ensures (c.in-Ok.ensures.bit told) in
    subst (λ (n : ℕ). IfOk c.bit_at.result (λ copy. copy ≡ n)) (kept ∙ is)
    (c.bit_at.ensures.bit (stays.space.told told))

pub returns-clause-reads : goal.returns-clause-reads
returns-clause-reads g c =
    let space = g.S.Space in
    Reads-join space.state space.keeps space.lands g.met.S.Space.keeps_join c.args.base.now c.level2_copy.new.base
    c.bit_at.new.base (result_err c.bit_at.result) c.in-Ok.ensures.reads c.bit_at.ensures.reads

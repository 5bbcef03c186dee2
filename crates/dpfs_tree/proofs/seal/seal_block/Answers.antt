use Rattle.std.proofs.Common.{ℕ, ◌*◌, ◌/◌, refl, ap}
use Rattle.std.specs.Result.{result_err}
use Rattle.dpfs_tree.proofs.Level2Lemmas.{marked_block_below, seals_copy, seals_block, seals_there}
use Rattle.dpfs_tree.proofs.seal.seal_block.Goals as goal

pub level2_copy-requires-clause-block : goal.level2_copy-requires-clause-block
level2_copy-requires-clause-block g c =
    marked_block_below (g.S.Space.state c.args.base.now).shape c.args.part_at c.args.difi.now c.args.state.now
    c.requires.tree c.args.block
    c.requires.made c.requires.touched

pub turn_block-requires-clause-copies : goal.turn_block-requires-clause-copies
turn_block-requires-clause-copies g c =
    seals_copy g.S.Space.state g.S.Space.keeps g.S.Space.lands g.met.S.Space.keeps_join g.met.S.Space.keeps_hold
    c.args.base.now
    c.level2_copy.new.base c.level2_copy.new.base c.args.part_at c.args.difi.now c.args.state.now c.requires.tree
    c.requires.made
    c.args.block (c.args.block * c.block_size.result) c.in-Ok.chosen c.requires.touched
    (ap (λ (z : ℕ). c.args.block * z) c.block_size.ensures) c.block_copies-copies.result c.block_copies-copies.ensures
    c.in-Ok.ensures.one_of_two c.in-Ok.ensures.reads (rw c.selector.ensures at c.in-Ok.ensures.bit)

pub returns-clause-sealed : goal.returns-clause-sealed
returns-clause-sealed g c =
    seals_block g.S.Space.state g.S.Space.keeps g.S.Space.lands g.met.S.Space.keeps_join g.met.S.Space.keeps_hold
    c.args.base.now
    c.level2_copy.new.base c.turn_block.new.base c.args.part_at c.args.difi.now c.args.state.now c.requires.tree
    c.requires.made
    c.args.block (c.args.block * c.block_size.result) c.in-Ok.chosen c.requires.touched
    (ap (λ (z : ℕ). c.args.block * z) c.block_size.ensures) c.block_copies-copies.result c.block_copies-copies.ensures
    c.in-Ok.ensures.one_of_two c.in-Ok.ensures.reads (rw c.selector.ensures at c.in-Ok.ensures.bit)
    (result_err c.turn_block.result) (c.args.block * c.block_size.result / 4) c.min-count.result c.words.result refl
    c.words.ensures
    c.min-count.ensures c.turn_block.ensures.turned

pub returns-clause-writes : goal.returns-clause-writes
returns-clause-writes g c =
    seals_there g.S.Space.state g.S.Space.keeps g.S.Space.lands g.met.S.Space.keeps_join g.met.S.Space.keeps_hold
    c.args.base.now
    c.level2_copy.new.base c.turn_block.new.base c.args.part_at c.args.difi.now c.args.state.now c.requires.tree
    c.requires.made
    c.args.block (c.args.block * c.block_size.result) c.in-Ok.chosen c.requires.touched
    (ap (λ (z : ℕ). c.args.block * z) c.block_size.ensures) c.block_copies-copies.result c.block_copies-copies.ensures
    c.in-Ok.ensures.one_of_two c.in-Ok.ensures.reads (rw c.selector.ensures at c.in-Ok.ensures.bit)
    (result_err c.turn_block.result) c.turn_block.ensures.writes

use Rattle.std.proofs.Common.{ℕ, ◌-◌, ◌∙◌, ap, arith}
use Rattle.std.specs.Int.{div_ceil}
use Rattle.std.specs.Result.{result_err}
use Rattle.save_bytes.specs.Writes.{IsWithin}
use Rattle.save_bytes.proofs.SpaceLemmas.{IfDone-map}
use Rattle.save_bytes.proofs.WriteLemmas.{Writes-wider}
use Rattle.dpfs_tree.specs.Turns.{IsTurned}
use Rattle.dpfs_tree.specs.Seals.{has_mark, SealsLevel1}
use Rattle.dpfs_tree.proofs.SealedLemmas.{level1_sealed}
use Rattle.dpfs_tree.proofs.seal.seal_level1.Goals as goal

pub returns-clause-sealed : goal.returns-clause-sealed
returns-clause-sealed g c = λ told.
    let old = g.S.Space.state c.args.base.now in
    let new = g.S.Space.state c.turn_block.new.base in
    let difi = c.args.difi.now in
    let state = c.args.state.now in
    let from = c.copy_start-from.result in
    let to = c.copy_start-to.result in
    let words = c.div_ceil-words.result in
    IfDone-map (result_err c.turn_block.result)
    (λ (turned : IsTurned (has_mark c.bits_in.result state) old.cells from to difi.dpfs1.size 0 words new.cells).
    level1_sealed old.shape c.args.part_at difi state c.requires.tree old.cells new.cells from to words
    (rw c.selector-selector.ensures at c.copy_start-from.ensures)
    (rw c.selector-selector.ensures at c.copy_start-to.ensures)
    (c.div_ceil-words.ensures ∙ ap (λ (n : ℕ). div_ceil n 32) c.level2_blocks.ensures)
    (rw c.bits_in.ensures.value at turned.words))
    (c.turn_block.ensures.turned told)

pub returns-clause-writes : goal.returns-clause-writes
returns-clause-writes g c =
    let space = g.S.Space in
    let size = c.args.difi.now.dpfs1.size in
    let to = c.copy_start-to.result in
    Writes-wider space.state space.keeps space.lands (IsWithin to size)
    (SealsLevel1 c.args.part_at c.args.difi.now c.args.state.now.selector)
    c.args.base.now c.turn_block.new.base (result_err c.turn_block.result)
    (λ told x inside within. (
      x - to,
      omega (arith, within.0, within.1),
      omega (arith, within.0, rw c.selector-selector.ensures at c.copy_start-to.ensures),
    ))
    c.turn_block.ensures.writes

use Rattle.std.proofs.Common.{◌*◌, ap, arith}
use Rattle.std.specs.Result.{result_err}
use Rattle.save_bytes.specs.State.{Shape}
use Rattle.save_bytes.specs.Writes.{IsWithin}
use Rattle.dpfs_tree.specs.Turns.{AreTurned}
use Rattle.save_bytes.proofs.SpaceLemmas.{IfDone-both}
use Rattle.save_bytes.proofs.WriteLemmas.{writes_both}
use Rattle.dpfs_tree.proofs.CopyLemmas.{StaysBut}
use Rattle.dpfs_tree.proofs.TurnLemmas.{block_turned}
use Rattle.dpfs_tree.proofs.turns.turn_block.Goals as goal

pub returns-clause-turned : goal.returns-clause-turned
returns-clause-turned g c = λ told.
    let old = g.S.Space.state c.args.base.now in
    let now = g.S.Space.state c.copy_range.new.base in
    let new = g.S.Space.state c.turn_words.new.base in
    let flags = g.T.Turns.flags c.args.turns.now in
    let first = c.in-Ok.ensures in
    let size = ap (λ (shape : Shape). shape.size) first.writes.space.shape in
    let told_now = first.writes.space.told told in
    let count = c.args.count in
    IfDone-both (result_err c.turn_words.result)
    (λ (turned : AreTurned flags now.cells c.args.to c.args.to c.args.first count new.cells).
    λ (stays : StaysBut now.shape.size c.args.to (4 * count) now.cells new.cells).
    block_turned flags old.cells now.cells new.cells now.shape.size c.args.from c.args.to c.args.len c.args.first count
    (omega (arith, c.requires.copies.to_inside, size)) c.requires.inside (first.copied told) turned stays)
    (c.turn_words.ensures.turned told_now) (c.turn_words.ensures.writes.others told_now)

pub returns-clause-writes : goal.returns-clause-writes
returns-clause-writes g c =
    let space = g.S.Space in
    writes_both space.state space.keeps space.lands g.met.S.Space.keeps_join (IsWithin c.args.to c.args.len)
    (IsWithin c.args.to (4 * c.args.count)) (IsWithin c.args.to c.args.len) c.args.base.now c.copy_range.new.base
    c.turn_words.new.base (result_err c.turn_words.result) (λ x there. there)
    (λ x there. (there.0, omega (arith, there.1, c.requires.inside))) c.in-Ok.ensures.writes c.turn_words.ensures.writes

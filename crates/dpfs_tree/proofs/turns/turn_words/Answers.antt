use Rattle.std.proofs.Common.{◌+◌, ◌*◌, None, ap, arith}
use Rattle.save_bytes.specs.State.{Shape}
use Rattle.save_bytes.specs.Writes.{IsWithin}
use Rattle.save_bytes.proofs.WriteLemmas.{writes_both, within_part}
use Rattle.dpfs_tree.proofs.TurnLemmas.{turned_more, waiting_less}
use Rattle.dpfs_tree.proofs.turns.turn_words.Goals as goal

pub loop-done-preserved : goal.loop-done-preserved
loop-done-preserved g c =
    let space = g.S.Space in
    let before = c.loop-done.invariant in
    let old = space.state c.args.base.now in
    let now = (space.state c.loop-done.base).cells in
    let new = (space.state c.turn_word.new.base).cells in
    let size = ap (λ (shape : Shape). shape.size) before.writes.space.shape in
    let done = c.loop-done.done in
    let at = c.args.at in
    let flags = g.T.Turns.flags c.args.turns.now in
    let step = c.in-Ok.ensures in
    let inside = c.requires.writable.inside.inside in
    record {
      within = omega (arith, c.loop-done-test.true);
      turned = λ told.
          (let told_now = before.writes.space.told told in
          turned_more flags old.cells now new old.shape.size at c.args.first c.args.count done inside
          c.loop-done-test.true
          (λ x below out. step.writes.others told_now x (omega (arith, below, size)) out) (before.turned told)
          (before.waiting told)
          (rw c.mask.ensures at (step.turned told_now)));
      waiting = λ told.
          (let told_now = before.writes.space.told told in
          waiting_less flags old.cells now new old.shape.size at c.args.first c.args.count done inside
          c.loop-done-test.true
          (λ x below out. step.writes.others told_now x (omega (arith, below, size)) out) (before.waiting told));
      writes = writes_both space.state space.keeps space.lands g.met.S.Space.keeps_join (IsWithin at (4 * c.args.count))
          (IsWithin (at + 4 * done) 4) (IsWithin at (4 * c.args.count)) c.args.base.now c.loop-done.base
          c.turn_word.new.base None
          (λ x there. there) (within_part at (4 * c.args.count) (4 * done) 4 (omega (arith, c.loop-done-test.true)))
          before.writes
          step.writes;
    }

use Rattle.std.proofs.Common.{◌+◌, ◌≤◌, None, ap, arith}
use Rattle.save_bytes.specs.State.{Shape}
use Rattle.save_bytes.specs.Writes.{IsWithin}
use Rattle.save_bytes.proofs.WriteLemmas.{writes_both, within_part}
use Rattle.dpfs_tree.proofs.CopyLemmas.{copied_more}
use Rattle.dpfs_tree.proofs.copy.copy_range.Goals as goal

pub loop-done-preserved : goal.loop-done-preserved
loop-done-preserved g c =
    let space = g.S.Space in
    let before = c.loop-done.invariant in
    let old = space.state c.args.base.now in
    let size = ap (λ (shape : Shape). shape.size) before.writes.space.shape in
    let done = c.loop-done.done in
    let part = c.min-part.result in
    let fits : done + part ≤ c.args.n = omega (arith, c.min-part.ensures, before.within) in
    let step = c.in-Ok.ensures in
    record {
      within = fits;
      copied = λ told.
          (let now_told = before.writes.space.told told in
          copied_more old.cells (space.state c.loop-done.base).cells (space.state c.copy_few.new.base).cells
          old.shape.size c.args.from
          c.args.to c.args.n c.requires.from_inside c.requires.to_inside c.requires.apart done part fits
          (before.copied told)
          (before.writes.others told) (step.copied now_told)
          (λ x below out. step.writes.others now_told x (omega (arith, below, size)) out));
      writes = writes_both space.state space.keeps space.lands g.met.S.Space.keeps_join (IsWithin c.args.to c.args.n)
          (IsWithin (c.args.to + done) part) (IsWithin c.args.to c.args.n) c.args.base.now c.loop-done.base
          c.copy_few.new.base None
          (λ x there. there) (within_part c.args.to c.args.n done part fits) before.writes step.writes;
    }

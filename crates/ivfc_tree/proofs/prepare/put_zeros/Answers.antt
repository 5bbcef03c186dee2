use Rattle.std.proofs.Common.{◌+◌, ◌≤◌, None, ap, arith}
use Rattle.save_bytes.specs.State.{Shape}
use Rattle.save_bytes.specs.Writes.{IsWithin}
use Rattle.save_bytes.proofs.WriteLemmas.{writes_both, within_part}
use Rattle.ivfc_tree.proofs.FillLemmas.{zeros_more}
use Rattle.ivfc_tree.proofs.prepare.put_zeros.Goals as goal

pub loop-done-preserved : goal.loop-done-preserved
loop-done-preserved g c =
    let space = g.S.Space in
    let before = c.loop-done.invariant in
    let old = space.state c.args.base.now in
    let size = ap (λ (shape : Shape). shape.size) before.writes.space.shape in
    let done = c.loop-done.done in
    let part = c.min-part.result in
    let fits : done + part ≤ c.args.n = omega (arith, c.min-part.ensures, before.within) in
    let step = c.in-Ok.ensures in
    record {
      within = fits;
      zeros = λ told.
          (let now_told = before.writes.space.told told in
          zeros_more (space.state c.loop-done.base).cells (space.state c.put_few_zeros.new.base).cells old.shape.size
          c.args.at done part
          c.args.n c.requires.writable.inside.inside fits (before.zeros told)
          (λ x below out. step.writes.others now_told x (omega (arith, below, size)) out) (step.zeros now_told));
      writes = writes_both space.state space.keeps space.lands g.met.S.Space.keeps_join (IsWithin c.args.at c.args.n)
          (IsWithin (c.args.at + done) part) (IsWithin c.args.at c.args.n) c.args.base.now c.loop-done.base
          c.put_few_zeros.new.base None
          (λ x there. there) (within_part c.args.at c.args.n done part fits) before.writes step.writes;
    }

use Rattle.std.proofs.Common.{ℕ, ◌+◌, ◌-◌, ap, arith}
use Rattle.std.specs.Result.{result_err}
use Rattle.save_bytes.specs.State.{Shape}
use Rattle.save_bytes.specs.Writes.{IsWithin}
use Rattle.dpfs_tree.specs.Copies.{IsCopied}
use Rattle.save_bytes.proofs.SpaceLemmas.{IfDone-both}
use Rattle.save_bytes.proofs.WriteLemmas.{writes_both, within_part}
use Rattle.dpfs_tree.proofs.CopyLemmas.{copied_around, StaysBut}
use Rattle.dpfs_tree.proofs.copy.copy_around.Goals as goal

pub returns-clause-copied : goal.returns-clause-copied
returns-clause-copied g c = λ told.
    let old = g.S.Space.state c.args.base.now in
    let now = g.S.Space.state c.copy_range.new.base in
    let new = g.S.Space.state c.copy_range-2.new.base in
    let first = c.in-Ok.ensures in
    let size = ap (λ (shape : Shape). shape.size) first.writes.space.shape in
    let told_now = first.writes.space.told told in
    let behind : ℕ = c.args.skipped + c.args.n in
    let copies = c.requires.copies in
    IfDone-both (result_err c.copy_range-2.result)
    (λ (next : IsCopied now.cells (c.args.from + behind) (c.args.to + behind) (c.args.len - behind) new.cells).
    λ (stays : StaysBut now.shape.size (c.args.to + behind) (c.args.len - behind) now.cells new.cells).
    copied_around old.cells now.cells new.cells old.shape.size c.args.from c.args.to c.args.len copies.from_inside
    copies.to_inside
    copies.apart c.args.skipped c.args.n c.requires.inside (first.copied told) (first.writes.others told) next
    (λ x below. stays x (omega (arith, below, size))))
    (c.copy_range-2.ensures.copied told_now) (c.copy_range-2.ensures.writes.others told_now)

pub returns-clause-writes : goal.returns-clause-writes
returns-clause-writes g c =
    let space = g.S.Space in
    let behind : ℕ = c.args.skipped + c.args.n in
    writes_both space.state space.keeps space.lands g.met.S.Space.keeps_join (IsWithin c.args.to c.args.skipped)
    (IsWithin (c.args.to + behind) (c.args.len - behind)) (IsWithin c.args.to c.args.len) c.args.base.now
    c.copy_range.new.base
    c.copy_range-2.new.base (result_err c.copy_range-2.result)
    (λ x there. (there.0, omega (arith, there.1, c.requires.inside)))
    (within_part c.args.to c.args.len behind (c.args.len - behind) (omega (arith, c.requires.inside)))
    c.in-Ok.ensures.writes c.copy_range-2.ensures.writes

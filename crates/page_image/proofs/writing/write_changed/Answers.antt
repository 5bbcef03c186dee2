use Rattle.std.proofs.Common.{sym}
use Rattle.page_image.proofs.CountLemmas.{out_none}
use Rattle.page_image.proofs.WriteLemmas.{on_err, wrote_this, wrote_this_or_none}
use Rattle.page_image.proofs.FrameLemmas.{changed_parts}
use Rattle.page_image.proofs.writing.write_changed.Goals as goal

pub copy_sector-requires-clause-there : goal.copy_sector-requires-clause-there
copy_sector-requires-clause-there g c = (changed_parts c.args.image.now _ (sym c.if-not-is_changed.ensures)).1

pub unmark-requires-clause-there : goal.unmark-requires-clause-there
unmark-requires-clause-there g c = (changed_parts c.args.image.now _ (sym c.if-not-is_changed.ensures)).1

pub returns-then-not-is_changed-clause-done : goal.returns-then-not-is_changed-clause-done
returns-then-not-is_changed-clause-done g c = out_none (g.D.Disk.state c.args.disk.now) c.args.image.now

pub returns-in_err-write-clause-failed : goal.returns-in_err-write-clause-failed
returns-in_err-write-clause-failed g c =
    let state = g.D.Disk.state in
    on_err c.from_residual.result
    (wrote_this_or_none (state c.args.disk.now) c.args.image.now _ _
    (record { changed = sym c.if-not-is_changed.ensures; bytes = c.copy_sector.ensures (state c.args.disk.now) })
    (g.met.D.Disk.sound c.args.disk.now) c.requires.disk_of (state c.write.new.self) c.write.ensures.steady
    c.in_err-write.ensures.failed)

pub returns-clause-done : goal.returns-clause-done
returns-clause-done g c =
    let state = g.D.Disk.state in
    wrote_this (state c.args.disk.now) c.args.image.now c.args.sector c.copy_sector.new.out
    (record { changed = sym c.if-not-is_changed.ensures; bytes = c.copy_sector.ensures (state c.args.disk.now) })
    (g.met.D.Disk.sound c.args.disk.now) c.requires.disk_of (state c.write.new.self) c.unmark.new.self
    c.write.ensures.steady
    c.unmark.ensures c.in_ok-write.ensures.written

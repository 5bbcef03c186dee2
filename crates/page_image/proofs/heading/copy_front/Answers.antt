use Rattle.std.proofs.Common.{sym}
use Rattle.std.proofs.lemmas.Result.{IfOk-weaker}
use Rattle.save_disk.specs.State.{IsRead}
use Rattle.page_image.specs.Fronts.{IsSector0}
use Rattle.page_image.proofs.FrontLemmas.{sector0_held, sector0_read}
use Rattle.page_image.proofs.heading.copy_front.Goals as goal

pub returns-then-is_held-clause-front : goal.returns-then-is_held-clause-front
returns-then-is_held-clause-front g c =
    let d = g.D.Disk.state c.args.disk.now in
    sector0_held d c.args.image.now c.copy_sector.new.out (c.copy_sector.ensures d)

pub returns-else-is_held-clause-front : goal.returns-else-is_held-clause-front
returns-else-is_held-clause-front g c =
    let d = g.D.Disk.state c.args.disk.now in
    IfOk-weaker c.read.result (λ done. IsRead d 0 c.read.new.out) (λ done. IsSector0 d c.args.image.now c.read.new.out)
    (λ done. sector0_read d c.args.image.now c.read.new.out (g.met.D.Disk.sound c.args.disk.now) c.requires.disk_of
    (sym c.if-is_held.ensures))
    c.read.ensures.value

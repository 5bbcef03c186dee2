use Rattle.std.proofs.Common.{◌≡◌, ◌+◌, length, arith}
use Rattle.std.proofs.lemmas.List.{places}
use Rattle.std.proofs.lemmas.Result.{IfOk-weaker}
use Rattle.save_disk.specs.State.{IsRead}
use Rattle.page_image.proofs.ReadLemmas.{sector_read}
use Rattle.page_image.proofs.fetching.read_sector.Goals as goal

pub returns-clause-read : goal.returns-clause-read
returns-clause-read g c = λ before.
    let disk = g.D.Disk.state c.args.disk.now in
    let grain = c.args.grain in
    let long : length c.read.new.out ≡ grain = grind (arith, places) in
    let step = sector_read disk grain c.args.first c.args.sector c.args.bytes.now c.read.new.out
    (g.met.D.Disk.sound c.args.disk.now) c.requires.grain in
    IfOk-weaker c.read.result (λ done. IsRead disk (c.args.first + c.args.sector) c.read.new.out) _
    (λ done read. step c.requires.inside long read before) c.read.ensures.value

use Rattle.std.proofs.Common.{◌≡◌, ◌<◌, length, get_or, refl, sym, ◌∙◌, arith, rules, add-zero}
use Rattle.save_bytes.specs.Cells.{Byte}
use Rattle.save_bytes.proofs.SpaceLemmas.{can_put}
use Rattle.save_disk.specs.Trace.{image_now}
use Rattle.page_image.specs.Images.{byte_of}
use Rattle.page_image.proofs.DiskLemmas.{told_byte, kept_disk, disk_of-true}
use Rattle.page_image.proofs.tests.store.Goals as goal

pub returns-in-Ok-flush : goal.returns-in-Ok-flush
returns-in-Ok-flush g c = λ sure told is.
    let at = c.args.at in
    let new = c.flush.new.self.image.now in
    let mid = c.put.new.self.image.now in
    let m = g.D.Disk.state c.put.new.self.disk.now in
    let e = g.D.Disk.state c.flush.new.self.disk.now in
    let put = c.in-Ok.ensures in
    let flush = c.in-Ok-flush.ensures in
    let kept = put.moves.hold.1.0 in
    let one : length c.args.bytes ≡ 1 = search rules in
    let below : at < new.len = omega (arith, kept.len, flush.frame.1.0.len, c.requires.inside.inside, one) in
    let can = can_put _ at (length c.args.bytes) (record { apart = λ x y same. same; free = λ x. refl }) sure in
    let disk_of = kept_disk m e mid new flush.frame.1.0
    (kept_disk _ m _ mid kept (disk_of-true _ _ c.requires.inside.sound)) in
    let stored : get_or (image_now told) at 0 ≡ byte_of e new at =
    flush.stored told is at (omega (arith, c.requires.behind_first)) below
    (told_byte e new told at (g.met.D.Disk.sound c.flush.new.self.disk.now) disk_of
    (flush.told ∙ put.puts.space.told can) is below) in
    let same : Byte (byte_of e new at) ≡ Byte (byte_of m mid at) =
    flush.cells at (omega (arith, kept.len, c.requires.inside.inside, one)) in
    let done = put.puts.done can in
    let written : Byte (byte_of m mid at) ≡ Byte (get_or c.args.bytes 0 0) =
    done.written at 0 (omega (arith, c.requires.inside.inside, one)) (omega arith) (sym (add-zero at)) in
    cc

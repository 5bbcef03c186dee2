use Rattle.std.proofs.Common.{ℕ, ◌+◌, List, get_or, ◌∙◌, ap, arith, zero-add}
use Rattle.std.proofs.lemmas.Result.{on_ok_weaker}
use Rattle.save_bytes.specs.Cells.{Byte}
use Rattle.page_image.proofs.DiskLemmas.{disk_of-true}
use Rattle.page_image.proofs.FrameLemmas.{byte_front}
use Rattle.page_image.proofs.image.Image.write_header.Goals as goal

pub write_front-requires : goal.write_front-requires
write_front-requires g c = disk_of-true _ _ c.requires

pub returns-clause-header : goal.returns-clause-header
returns-clause-header g c =
    let e = g.D.Disk.state c.write_front.new.disk in
    let j = c.write_front.new.image in
    on_ok_weaker c.write_front.result
    (λ is k within.
    ap Byte
    (byte_front e j (0 + k) (omega (arith, c.told-header, within))
    ∙ ap (λ (x : ℕ). get_or j.header x 0) (zero-add k) ∙ ap (λ (l : List ℕ). get_or l k 0) is))
    c.write_front.ensures.header

use Rattle.std.proofs.Common.{ℕ, ◌+◌, List, get_or, ◌∙◌, sym, ap, arith, zero-add}
use Rattle.save_bytes.specs.Cells.{Byte}
use Rattle.page_image.proofs.FrameLemmas.{byte_front}
use Rattle.page_image.proofs.image.Image.header.Goals as goal

pub returns : goal.returns
returns g c = λ k within.
    let i = c.args.self.now.image.now in
    ap Byte
    (byte_front (g.D.Disk.state c.args.self.now.disk.now) i (0 + k) (omega (arith, c.header.ensures.len, within))
    ∙ ap (λ (x : ℕ). get_or i.header x 0) (zero-add k) ∙ ap (λ (l : List ℕ). get_or l k 0) (sym c.header.ensures.value))

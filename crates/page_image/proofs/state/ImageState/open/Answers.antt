use Rattle.std.proofs.Common.{◌/◌, ℕ, List, IsTrue, get_or, sym, ◌∙◌, ap, subst}
use Rattle.page_image.proofs.DiskLemmas.{opened}
use Rattle.page_image.proofs.state.ImageState.open.Goals as goal

pub returns-in-Some-clause-opened : goal.returns-in-Some-clause-opened
returns-in-Some-clause-opened g c =
    let d = g.D.Disk.state c.args.disk.now in
    let e = g.D.Disk.state c.read_front.new.disk in
    let image = c.in-Some.image in
    let parts = c.in-Some.ensures in
    let done = c.in-Ok.ensures in
    opened e image (g.met.D.Disk.sound c.read_front.new.disk)
    (done.steady.size ∙ sym c.requires.size ∙ sym parts.len)
    (done.steady.grain ∙ sym c.grain-grain.ensures.value ∙ sym parts.grain) parts.none
    (λ k below told is sure.
    ap (λ (l : List ℕ). get_or l k 0) parts.header
    ∙ done.read k below told (sym done.quiet ∙ is) (subst (λ (n : ℕ). IsTrue (told.sure (k / n))) parts.grain sure))

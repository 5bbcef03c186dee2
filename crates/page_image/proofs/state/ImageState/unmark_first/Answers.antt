use Rattle.std.proofs.Common.{◌≡◌, ◌*◌, ◌/◌, sym, ◌∙◌, ap, arith}
use Rattle.std.proofs.Math.Nat.{zero-mul}
use Rattle.page_image.specs.Images.{is_held}
use Rattle.page_image.proofs.StateLemmas.{unmarked_unheld}
use Rattle.page_image.proofs.state.ImageState.unmark_first.Goals as goal

pub returns-else-is_held : goal.returns-else-is_held
returns-else-is_held c =
    let i = c.args.self.now in
    let zero : 0 * i.grain / 4096 ≡ 0 = omega (arith, zero-mul i.grain) in
    unmarked_unheld i (ap (is_held i) zero ∙ sym c.if-is_held.ensures)

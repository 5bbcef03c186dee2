use Rattle.std.proofs.Common.{◌≡◌, ◌*◌, ◌/◌, ◌+◌, ◌%◌, ℕ, true, refl, sym, ◌∙◌, ap, arith}
use Rattle.std.proofs.Math.Nat.{zero-mul}
use Rattle.page_image.specs.Images.{frame_of, is_held}
use Rattle.page_image.proofs.StateLemmas.{marked}
use Rattle.page_image.proofs.state.ImageState.mark_first.Goals as goal

pub returns-then-is_held : goal.returns-then-is_held
returns-then-is_held c =
    let i = c.args.self.now in
    let zero : 0 ≡ 0 * i.grain = sym (zero-mul i.grain) in
    marked i _ refl refl refl refl 0 c.mark_at-i.result true
    (ap (λ (n : ℕ). is_held i (n / 4096)) (sym zero) ∙ sym c.if-is_held.ensures)
    (c.mark_at-i.ensures.is ∙ ap (λ (n : ℕ). frame_of i (n / 4096) * 8 + n % 4096 / 512) zero)
    (omega (arith, c.mark_at-i.ensures.fits)) refl refl
    (record { len = refl; grain = refl; header = refl; frames = refl; slots = refl }) refl refl

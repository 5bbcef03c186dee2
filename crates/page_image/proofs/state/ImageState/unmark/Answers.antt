use Rattle.std.proofs.Common.{false, refl, arith}
use Rattle.page_image.proofs.StateLemmas.{unmarked}
use Rattle.page_image.proofs.state.ImageState.unmark.Goals as goal

pub returns : goal.returns
returns c =
    unmarked c.args.self.now _ refl refl refl refl c.args.sector c.mark_at-i.result false c.requires.there
    c.mark_at-i.ensures.is (omega arith) refl refl
    (record { len = refl; grain = refl; header = refl; frames = refl; slots = refl }) refl

use Rattle.std.proofs.Common.{ℕ, List, get_or, ◌∙◌, ap}
use Rattle.page_image.proofs.FrameLemmas.{sector_of_later, sector_of_first}
use Rattle.page_image.proofs.state.ImageState.copy_sector.Goals as goal

pub returns-then-sector-eq0 : goal.returns-then-sector-eq0
returns-then-sector-eq0 c = λ disk.
    sector_of_first disk c.args.self.now c.args.sector c.byte_at.result c.put_front.new.out c.requires.there
    c.byte_at.ensures.is
    (c.put_front.ensures.len ∙ c.copy_from_slice.ensures.len ∙ c.requires.whole) c.if-sector-eq0.true
    c.put_front.ensures.front
    (λ k below behind. c.put_front.ensures.behind k behind
    ∙ ap (λ (l : List ℕ). get_or l k 0) c.copy_from_slice.ensures.after ∙ c.part.ensures.bytes k below)

pub returns-else-sector-eq0 : goal.returns-else-sector-eq0
returns-else-sector-eq0 c = λ disk.
    sector_of_later disk c.args.self.now c.args.sector c.byte_at.result c.copy_from_slice.new.self c.requires.there
    c.byte_at.ensures.is
    (c.copy_from_slice.ensures.len ∙ c.requires.whole) c.if-sector-eq0.false
    (λ k below. ap (λ (l : List ℕ). get_or l k 0) c.copy_from_slice.ensures.after ∙ c.part.ensures.bytes k below)

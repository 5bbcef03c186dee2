use Rattle.std.proofs.Common.{ℕ, List, get_or, ◌∙◌, ap, get_or-take}
use Rattle.page_image.proofs.opening.take_front.Goals as goal

pub returns : goal.returns
returns c = λ k below. ap (λ (l : List ℕ). get_or l k 0) c.copy_from_slice.ensures.after
    ∙ get_or-take 512 c.args.sector.now k 0 below

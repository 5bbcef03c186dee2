use Rattle.page_image.proofs.FrameLemmas.{none_held}
use Rattle.page_image.proofs.opening.blank.Goals as goal

pub returns-clause-none : goal.returns-clause-none
returns-clause-none c = λ page. none_held _ c.in-Ok.ensures.none page

use Rattle.container_header.proofs.FirstFailing.{first_from, first_to}
use Rattle.container_header.proofs.laws.named_condition_is_the_first.Goals as goal

pub returns : goal.returns
returns c = λ tests k. (first_from 1 k tests, λ h. first_to 1 k tests h.0 h.1)

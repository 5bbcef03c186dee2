use Rattle.container.proofs.OpensLemmas.{no_fault, opens_without_fault}
use Rattle.container.proofs.laws.opens_exactly_where_no_fault_is_found.Goals as goal

pub returns : goal.returns
returns c = λ sign image. (no_fault sign image, opens_without_fault sign image)

use Rattle.live_image.proofs.laws.opening_stays.Goals as goal
use Rattle.live_image.proofs.OpeningLemmas.{fault_same, opens_same}

pub returns-clause-opens : goal.returns-clause-opens
returns-clause-opens c = opens_same

pub returns-clause-fault : goal.returns-clause-fault
returns-clause-fault c = fault_same

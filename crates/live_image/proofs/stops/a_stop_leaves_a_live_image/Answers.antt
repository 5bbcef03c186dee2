use Rattle.live_image.proofs.OpeningLemmas.{opens_same}
use Rattle.live_image.proofs.StopLemmas.{stop_agrees}
use Rattle.live_image.proofs.stops.a_stop_leaves_a_live_image.Goals as goal

pub returns-clause-agrees : goal.returns-clause-agrees
returns-clause-agrees c = stop_agrees

pub returns-clause-opens : goal.returns-clause-opens
returns-clause-opens c = λ sign image grain start events some keeps opens left leaves.
    (opens_same image left (stop_agrees image grain start events some keeps left leaves) sign).0 opens

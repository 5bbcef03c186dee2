use Rattle.live_image.proofs.StopLemmas.{commit_agrees, commit_opens}
use Rattle.live_image.proofs.stops.a_commit_leaves_a_live_image.Goals as goal

pub returns-clause-agrees : goal.returns-clause-agrees
returns-clause-agrees c = λ image grain start events writes sector bytes some keeps holds.
    commit_agrees image grain start events some keeps writes sector bytes holds

pub returns-clause-opens : goal.returns-clause-opens
returns-clause-opens c = λ sign image grain start events writes sector bytes some keeps holds old new.
    commit_opens image grain start events some keeps writes sector bytes holds sign old new

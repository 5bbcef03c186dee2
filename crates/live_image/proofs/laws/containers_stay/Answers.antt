use Rattle.live_image.proofs.ContainerLemmas.{open_same, cells_stay}
use Rattle.live_image.proofs.laws.containers_stay.Goals as goal

pub returns-clause-opened : goal.returns-clause-opened
returns-clause-opened c = open_same

pub returns-clause-cells : goal.returns-clause-cells
returns-clause-cells c = cells_stay

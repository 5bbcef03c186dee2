use Rattle.live_image.proofs.laws.internal_level_four_stays.Goals as goal
use Rattle.live_image.proofs.CellLemmas.{internal_cell_same, internal_path_same}

pub returns-clause-cells : goal.returns-clause-cells
returns-clause-cells c = internal_cell_same

pub returns-clause-paths : goal.returns-clause-paths
returns-clause-paths c = internal_path_same

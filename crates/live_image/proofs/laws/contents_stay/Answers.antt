use Rattle.live_image.proofs.laws.contents_stay.Goals as goal
use Rattle.live_image.proofs.CellLemmas.{contents_same, upper_path_same}

pub returns-clause-contents : goal.returns-clause-contents
returns-clause-contents c = contents_same

pub returns-clause-paths : goal.returns-clause-paths
returns-clause-paths c = upper_path_same

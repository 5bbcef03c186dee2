use Rattle.difi.proofs.PlaceLemmas.{block_begins}
use Rattle.live_image.proofs.CellLemmas.{external_path_same, external_cell_same}
use Rattle.live_image.proofs.laws.external_blocks_stay.Goals as goal

pub returns-clause-cells : goal.returns-clause-cells
returns-clause-cells c = external_cell_same

pub returns-clause-path : goal.returns-clause-path
returns-clause-path c = λ image other same header part difi has external block alike there.
    external_path_same image other same header part difi has external block alike
    (block_begins block difi.ivfc4.size difi.ivfc4.log there)

use Rattle.std.proofs.Common.{arith}
use Rattle.live_image.proofs.RowLemmas.{has_cells_at_each_stop}
use Rattle.live_image.proofs.stop_tests.cells_outlast_a_write_that_holds_the_live_bytes.Goals as goal

pub returns-clause-narrow : goal.returns-clause-narrow
returns-clause-narrow c = has_cells_at_each_stop 512 (omega arith)

pub returns-clause-wide : goal.returns-clause-wide
returns-clause-wide c = has_cells_at_each_stop 4096 (omega arith)

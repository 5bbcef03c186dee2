use Rattle.std.proofs.Common.{arith}
use Rattle.live_image.proofs.RowLemmas.{live_after_two_stops}
use Rattle.live_image.proofs.stop_tests.live_bytes_outlast_two_stops.Goals as goal

pub returns-clause-narrow : goal.returns-clause-narrow
returns-clause-narrow c = live_after_two_stops 512 (omega arith)

pub returns-clause-wide : goal.returns-clause-wide
returns-clause-wide c = live_after_two_stops 4096 (omega arith)

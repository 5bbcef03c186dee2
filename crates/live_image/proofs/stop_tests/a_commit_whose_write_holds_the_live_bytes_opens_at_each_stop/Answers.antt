use Rattle.std.proofs.Common.{arith}
use Rattle.live_image.proofs.RowLemmas.{opens_at_each_stop}
use Rattle.live_image.proofs.stop_tests.a_commit_whose_write_holds_the_live_bytes_opens_at_each_stop.Goals as goal

pub returns-clause-narrow : goal.returns-clause-narrow
returns-clause-narrow c = opens_at_each_stop 512 (omega arith)

pub returns-clause-wide : goal.returns-clause-wide
returns-clause-wide c = opens_at_each_stop 4096 (omega arith)

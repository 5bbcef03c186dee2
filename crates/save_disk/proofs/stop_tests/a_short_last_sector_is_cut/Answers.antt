use Rattle.std.proofs.Common.{arith}
use Rattle.save_disk.proofs.Rows.{short_sector}
use Rattle.save_disk.proofs.stop_tests.a_short_last_sector_is_cut.Goals as goal

pub returns-clause-narrow : goal.returns-clause-narrow
returns-clause-narrow c = short_sector 512 (omega arith)

pub returns-clause-wide : goal.returns-clause-wide
returns-clause-wide c = short_sector 4096 (omega arith)

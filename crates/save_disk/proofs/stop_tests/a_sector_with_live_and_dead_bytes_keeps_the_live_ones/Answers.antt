use Rattle.std.proofs.Common.{arith}
use Rattle.save_disk.proofs.Rows.{holds_live_bytes, loses_a_live_byte}
use Rattle.save_disk.proofs.stop_tests.a_sector_with_live_and_dead_bytes_keeps_the_live_ones.Goals as goal

pub returns-clause-holds : goal.returns-clause-holds
returns-clause-holds c = holds_live_bytes 512 (omega arith)

pub returns-clause-holds_wide : goal.returns-clause-holds_wide
returns-clause-holds_wide c = holds_live_bytes 4096 (omega arith)

pub returns-clause-loses : goal.returns-clause-loses
returns-clause-loses c = loses_a_live_byte 512 (omega arith)

pub returns-clause-loses_wide : goal.returns-clause-loses_wide
returns-clause-loses_wide c = loses_a_live_byte 4096 (omega arith)

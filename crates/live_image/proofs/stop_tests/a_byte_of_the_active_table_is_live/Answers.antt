use Rattle.std.proofs.Common.{arith}
use Rattle.live_image.proofs.RowLemmas.{loses_a_table_byte}
use Rattle.live_image.proofs.stop_tests.a_byte_of_the_active_table_is_live.Goals as goal

pub returns-clause-narrow : goal.returns-clause-narrow
returns-clause-narrow c = loses_a_table_byte 512 (omega arith)

pub returns-clause-wide : goal.returns-clause-wide
returns-clause-wide c = loses_a_table_byte 4096 (omega arith)

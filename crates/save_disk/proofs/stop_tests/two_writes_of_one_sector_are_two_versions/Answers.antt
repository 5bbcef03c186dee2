use Rattle.std.proofs.Common.{arith}
use Rattle.save_disk.proofs.Rows.{either_write, synced_or_later}
use Rattle.save_disk.proofs.stop_tests.two_writes_of_one_sector_are_two_versions.Goals as goal

pub returns-clause-unsynced : goal.returns-clause-unsynced
returns-clause-unsynced c = either_write 512 (omega arith)

pub returns-clause-unsynced_wide : goal.returns-clause-unsynced_wide
returns-clause-unsynced_wide c = either_write 4096 (omega arith)

pub returns-clause-synced : goal.returns-clause-synced
returns-clause-synced c = synced_or_later 512 (omega arith)

pub returns-clause-synced_wide : goal.returns-clause-synced_wide
returns-clause-synced_wide c = synced_or_later 4096 (omega arith)

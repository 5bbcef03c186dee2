use Rattle.save_disk.proofs.Kept.{synced_keeps}
use Rattle.save_disk.proofs.laws.a_sync_keeps_all.Goals as goal

pub returns : goal.returns
returns c = λ places grain start events fits none. synced_keeps places grain start events fits none

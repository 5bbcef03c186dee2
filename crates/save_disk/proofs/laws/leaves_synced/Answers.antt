use Rattle.save_disk.proofs.Kept.{synced_leaves}
use Rattle.save_disk.proofs.laws.leaves_synced.Goals as goal

pub returns : goal.returns
returns c = λ grain start events image some fits none. synced_leaves grain start events image some fits none

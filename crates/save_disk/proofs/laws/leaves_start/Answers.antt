use Rattle.save_disk.proofs.Sectors.{unwritten_leaves, unwritten_may_leave}
use Rattle.save_disk.proofs.laws.leaves_start.Goals as goal

pub returns : goal.returns
returns c = λ grain start events image some none.
    (unwritten_leaves grain start events image some none, unwritten_may_leave grain start events image none)

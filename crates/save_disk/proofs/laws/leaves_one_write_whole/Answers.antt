use Rattle.save_disk.proofs.Commits.{one_write_leaves}
use Rattle.save_disk.proofs.laws.leaves_one_write_whole.Goals as goal

pub returns : goal.returns
returns c = λ grain start events sector bytes image some fits kept leaves.
    one_write_leaves grain start events sector bytes image some fits kept leaves

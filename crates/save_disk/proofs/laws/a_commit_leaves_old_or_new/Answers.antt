use Rattle.save_disk.proofs.Commits.{commit_leaves}
use Rattle.save_disk.proofs.laws.a_commit_leaves_old_or_new.Goals as goal

pub returns : goal.returns
returns c = λ places image grain start events writes sector bytes some keeps holds. commit_leaves places image grain
    start events writes sector bytes some keeps holds

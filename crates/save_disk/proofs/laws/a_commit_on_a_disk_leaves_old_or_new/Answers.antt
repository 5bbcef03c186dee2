use Rattle.save_disk.proofs.Going.{commit_on_disk}
use Rattle.save_disk.proofs.laws.a_commit_on_a_disk_leaves_old_or_new.Goals as goal

pub returns : goal.returns
returns c = λ places image before after told writes sector bytes begins first sound keeps holds goes. commit_on_disk
    places image before after told writes sector bytes begins first sound keeps holds goes

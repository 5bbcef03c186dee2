use Rattle.save_disk.proofs.Commits.{held_leaves}
use Rattle.save_disk.proofs.laws.writes_that_hold_are_safe.Goals as goal

pub returns : goal.returns
returns c = λ places image grain start events added some keeps holds.
    held_leaves places image grain start events added some keeps holds

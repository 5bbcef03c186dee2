use Rattle.save_disk.proofs.Kept.{keeps_now, kept_leaves}
use Rattle.save_disk.proofs.laws.a_stop_leaves_kept_places.Goals as goal

pub returns-clause-stopped : goal.returns-clause-stopped
returns-clause-stopped c = λ places image grain start events some keeps left leaves.
    kept_leaves places image grain start events some keeps left leaves

pub returns-clause-now : goal.returns-clause-now
returns-clause-now c = λ places image grain start events fits keeps.
    keeps_now places image grain start events fits keeps

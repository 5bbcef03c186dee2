use Rattle.save_disk.proofs.Kept.{keeps_more}
use Rattle.save_disk.proofs.laws.more_events_keep.Goals as goal

pub returns : goal.returns
returns c = λ places image grain start events added fits holds keeps.
    keeps_more places image grain start events added fits holds keeps

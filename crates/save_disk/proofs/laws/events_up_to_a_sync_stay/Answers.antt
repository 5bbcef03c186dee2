use Rattle.save_disk.proofs.Moments.{until_sync-more, synced-until}
use Rattle.save_disk.proofs.laws.events_up_to_a_sync_stay.Goals as goal

pub returns-clause-stay : goal.returns-clause-stay
returns-clause-stay c = λ events more n few. until_sync-more events more n few

pub returns-clause-last : goal.returns-clause-last
returns-clause-last c = λ events. synced-until events

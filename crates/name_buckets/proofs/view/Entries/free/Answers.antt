use Rattle.std.proofs.Common.{refl}
use Rattle.name_buckets.proofs.HeldLemmas.{entries_read}
use Rattle.name_buckets.proofs.view.Entries.free.Goals as goal

pub returns-clause-reads : goal.returns-clause-reads
returns-clause-reads g c = entries_read _ _ _ _ _ c.requires _ refl refl refl c.free_in.ensures.reads

use Rattle.std.proofs.Common.{refl}
use Rattle.name_buckets.proofs.HeldLemmas.{entries_read}
use Rattle.name_buckets.proofs.view.Entries.find.Goals as goal

pub returns-clause-found : goal.returns-clause-found
returns-clause-found g c = rw c.info-info.ensures at c.find_in.ensures.found

pub returns-clause-cause : goal.returns-clause-cause
returns-clause-cause g c = rw c.info-info.ensures at c.find_in.ensures.cause

pub returns-clause-reads : goal.returns-clause-reads
returns-clause-reads g c = entries_read _ _ _ _ _ c.requires _ refl refl refl c.find_in.ensures.reads

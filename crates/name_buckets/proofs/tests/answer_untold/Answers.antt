use Rattle.std.proofs.Common.{refl, ap, lit≤}
use Rattle.entry_tables.specs.declared.table.TableInfo.{TableInfo}
use Rattle.entry_tables.specs.declared.table.EntryKind.TheVariants.{Dir, File}
use Rattle.name_buckets.proofs.tests.answer_untold.Goals as goal

pub new-entries-requires : goal.new-entries-requires
new-entries-requires c Dir = record { sound = refl; first = refl; some = lit≤ tt; buckets = lit≤ tt; zero = lit≤ tt }
new-entries-requires c File = record { sound = refl; first = refl; some = lit≤ tt; buckets = lit≤ tt; zero = lit≤ tt }

pub answer-requires-clause-buckets : goal.answer-requires-clause-buckets
answer-requires-clause-buckets c Dir = ap (λ (info : TableInfo). info.buckets) c.new-entries.ensures.holds.same_dirs
answer-requires-clause-buckets c File = ap (λ (info : TableInfo). info.buckets) c.new-entries.ensures.holds.same_files

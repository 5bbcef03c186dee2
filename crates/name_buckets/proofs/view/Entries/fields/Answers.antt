use Rattle.std.proofs.Common.{refl}
use Rattle.entry_tables.specs.declared.table.EntryKind.TheVariants.{File}
use Rattle.name_buckets.proofs.HeldLemmas.{entries_read}
use Rattle.name_buckets.proofs.view.Entries.fields.Goals as goal

pub returns-clause-reads : goal.returns-clause-reads
returns-clause-reads g c = entries_read _ _ _ _ _ c.requires _ refl refl refl c.fields_in.ensures.reads

pub fields_in-requires : goal.fields_in-requires
fields_in-requires g c = c.requires File

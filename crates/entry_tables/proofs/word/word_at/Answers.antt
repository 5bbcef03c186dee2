use Rattle.std.proofs.Common.{arith}
use Rattle.entry_tables.specs.declared.table.EntryKind.TheVariants.{Dir}
use Rattle.entry_tables.proofs.word.word_at.Goals as goal

pub part_at-requires-in-First-clause-table : goal.part_at-requires-in-First-clause-table
part_at-requires-in-First-clause-table c = let room = c.requires Dir in omega (arith, room.zero)

use Rattle.std.proofs.Common.{None}
use Rattle.save_bytes.specs.Reads.{Reads}
use Rattle.entry_tables.specs.Layout.{TellsEntryTable}
use Rattle.entry_tables.specs.Tables.{table_in}
use Rattle.name_buckets.proofs.FreeLemmas.{HasFollowed}
use Rattle.name_buckets.proofs.free.free_in.Given as goal

abbrev pub invariant-loop-freed : goal.invariant-loop-freed
invariant-loop-freed g l = record {
  reads : Reads g.S.Space.state g.S.Space.keeps g.S.Space.lands l.fn.space l.space None;
  followed : TellsEntryTable (g.S.Space.state l.fn.space) l.kind l.info
      → HasFollowed l.kind (table_in (g.S.Space.state l.fn.space).cells l.kind l.info) l.freed l.from;
}

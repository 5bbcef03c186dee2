use Rattle.std.proofs.Common.{None}
use Rattle.save_bytes.specs.Reads.{Reads}
use Rattle.entry_tables.specs.Tables.{table_in}
use Rattle.entry_tables.specs.Layout.{TellsEntryTable}
use Rattle.entry_tables.specs.Hash.{bucket_number}
use Rattle.name_buckets.proofs.FindLemmas.{HasPassed}
use Rattle.name_buckets.proofs.find.find_in.Given as goal

abbrev pub invariant-loop-step : goal.invariant-loop-step
invariant-loop-step g l =
    let old = g.S.Space.state l.fn.space in
    record {
      reads : Reads g.S.Space.state g.S.Space.keeps g.S.Space.lands l.fn.space l.space None;
      passed : TellsEntryTable old l.kind l.info → HasPassed l.kind (table_in old.cells l.kind l.info) l.parent l.name.0
          (bucket_number l.parent l.name.0 l.info.buckets) l._step l.entry;
    }

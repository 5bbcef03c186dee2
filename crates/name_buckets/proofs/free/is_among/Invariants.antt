use Rattle.std.proofs.Common.{◌≡◌, ℕ, List, length, None}
use Rattle.save_bytes.specs.Reads.{Reads}
use Rattle.entry_tables.specs.Layout.{HasCounts, TellsEntryTable}
use Rattle.entry_tables.specs.Tables.{table_in}
use Rattle.entry_tables.specs.Fails.{IsFreedFront}
use Rattle.name_buckets.proofs.FreeLemmas.{HasCompared}
use Rattle.name_buckets.proofs.free.is_among.Given as goal

abbrev pub invariant-loop-step : goal.invariant-loop-step
invariant-loop-step g l =
    let old = g.S.Space.state l.fn.space in
    record {
      reads : Reads g.S.Space.state g.S.Space.keeps g.S.Space.lands l.fn.space l.space None;
      compared : TellsEntryTable old l.kind l.info → HasCounts old.cells l.info → (front : List ℕ) (last : ℕ)
          → IsFreedFront l.kind (table_in old.cells l.kind l.info) front last → length front ≡ l.steps
          → HasCompared front l.entry l._step l.from;
    }

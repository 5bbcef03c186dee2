use Rattle.std.specs.List.{All}
use Rattle.entry_tables.specs.Tables.{Tables}
use Rattle.entry_tables.specs.Rules.{IsOrderly}
use Rattle.entry_audit.specs.Read.{AreReadTables}
use Rattle.tree_rows.specs.Rows.{IsEntryRow, AddsRows}
use Rattle.tree_rows.proofs.rows.add_rows.Given as goal

abbrev pub invariant-loop-entry : goal.invariant-loop-entry
invariant-loop-entry l =
    (t : Tables) → AreReadTables t l.read → IsOrderly t → All (IsEntryRow l.kind t) l.fn.found.entries
    → AddsRows l.kind t l.entries l.entry l.fn.found.entries l.found.entries

use Rattle.std.proofs.Common.{ℕ, ◌<◌}
use Rattle.entry_tables.specs.declared.table.EntryKind.TheVariants.{Dir}
use Rattle.entry_tables.specs.Tables.{Tables}
use Rattle.entry_tables.specs.Used.{named_entries}
use Rattle.entry_audit.specs.Read.{IsReadTable}
use Rattle.entry_audit.specs.Placed.{IsShallow}
use Rattle.entry_audit.proofs.placed.too_deep.Given as goal

abbrev pub invariant-loop-entry : goal.invariant-loop-entry
invariant-loop-entry l =
    (t : Tables) → IsReadTable Dir t l.dirs → IsReadTable l.kind t l.table → (e : ℕ) → e < l.entry
    → named_entries l.kind (t.table l.kind) e → IsShallow (t.table Dir) ((t.table l.kind).parent e)

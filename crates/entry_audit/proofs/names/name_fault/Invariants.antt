use Rattle.std.specs.BTreeMap.{get}
use Rattle.entry_tables.specs.Tables.{Tables}
use Rattle.entry_audit.specs.Read.{IsReadTable}
use Rattle.entry_audit.proofs.NameLemmas.{key_cmp, HasNames}
use Rattle.entry_audit.proofs.names.name_fault.Given as goal

abbrev pub invariant-loop-entry : goal.invariant-loop-entry
invariant-loop-entry l =
    (t : Tables) → IsReadTable l.kind t l.table → HasNames l.kind (t.table l.kind) (get key_cmp l.names) l.entry

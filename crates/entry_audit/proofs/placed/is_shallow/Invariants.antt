use Rattle.entry_tables.specs.declared.table.EntryKind.TheVariants.{Dir}
use Rattle.entry_tables.specs.Tables.{Tables}
use Rattle.entry_tables.specs.Used.{used_entries}
use Rattle.entry_audit.specs.Read.{IsReadTable}
use Rattle.entry_audit.specs.Placed.{HaveUsedParents}
use Rattle.entry_audit.proofs.PlaceLemmas.{HasRisen}
use Rattle.entry_audit.proofs.placed.is_shallow.Given as goal

abbrev pub invariant-loop-passed : goal.invariant-loop-passed
invariant-loop-passed l = record {
  risen : (t : Tables) → IsReadTable Dir t l.dirs → HasRisen (t.table Dir) l.dir l._passed l.at;
  used : (t : Tables) → IsReadTable Dir t l.dirs → HaveUsedParents t Dir → used_entries (t.table Dir) l.dir
      → used_entries (t.table Dir) l.at;
}

use Rattle.entry_tables.specs.declared.table.EntryKind.TheVariants.{Dir}
use Rattle.entry_tables.specs.Tables.{Tables}
use Rattle.entry_tables.specs.Rules.{IsOrderly}
use Rattle.entry_audit.specs.Read.{IsReadTable}
use Rattle.tree_model.specs.Trees.{Names}
use Rattle.tree_rules.specs.Reading.{IsDirAt}
use Rattle.tree_rows.proofs.PathLemmas.{IsRisen}
use Rattle.tree_rows.proofs.paths.names_up.Given as goal

abbrev pub invariant-loop-risen : goal.invariant-loop-risen
invariant-loop-risen l =
    (t : Tables) (path : Names) → IsReadTable Dir t l.dirs → IsOrderly t → (h : IsDirAt t path l.dir)
    → IsRisen (t.table Dir) h.1.rising l.at l.names.items l._risen

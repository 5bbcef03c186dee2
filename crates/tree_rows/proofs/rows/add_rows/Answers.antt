use Rattle.entry_tables.specs.Tables.{Tables}
use Rattle.tree_rows.proofs.RowLemmas.{AddsRows-other, AddsRows-more}
use Rattle.tree_rows.proofs.rows.add_rows.Goals.{in-Some+in-Ok, in_default}
use Rattle.tree_rows.proofs.rows.add_rows.Goals as goal

pub loop-entry-preserved : goal.loop-entry-preserved
loop-entry-preserved c = λ (t : Tables) read orderly true_rows.
    let before = c.loop-entry.invariant t read orderly true_rows in
    let pair = c.in_ok-key.ensures t read orderly in
    elim c.match-branch-2.branch [
      | in-Some+in-Ok w ↦ rw (w.found-is, w.in-Ok.ensures.entries)
          (AddsRows-more c.args.kind t orderly c.args.entries c.loop-entry.entry c.args.found.now.entries
          c.loop-entry.found.entries before (w.in-Some.key, w.in-Some.row) (rw w.in-Some.is at pair))
      | in_default w ↦ rw w.found-is
          (AddsRows-other c.args.kind t orderly c.args.entries c.loop-entry.entry c.args.found.now.entries
          c.loop-entry.found.entries before (rw w.in_default.is at pair))
    ]

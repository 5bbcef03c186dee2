use Rattle.std.proofs.Common.{◌≡◌, None}
use Rattle.save_bytes.specs.Reads.{Reads}
use Rattle.entry_tables.specs.Tables.{tables_in}
use Rattle.entry_tables.specs.Changes.{CanChangeTables}
use Rattle.entry_changes.specs.Lists.{list_kind, HasList}
use Rattle.entry_changes.proofs.WalkLemmas.{HasWalked}
use Rattle.entry_changes.proofs.WayLemmas.{AreReadBelow}
use Rattle.entry_changes.proofs.list.word_before.Given as goal

abbrev pub invariant-loop-step : goal.invariant-loop-step
invariant-loop-step g l =
    let old = g.S.Space.state l.fn.space in
    let t = tables_in old.cells l.dirs l.files in
    record {
      reads : Reads g.S.Space.state g.S.Space.keeps g.S.Space.lands l.fn.space l.space None;
      walked : CanChangeTables old l.dirs l.files → HasList t l.list → (t.table (list_kind l.list)).count ≡ l.count
          → HasWalked t l.list l.entry l._step l.word;
      read : CanChangeTables old l.dirs l.files → HasList t l.list → (t.table (list_kind l.list)).count ≡ l.count
          → AreReadBelow old.cells l.dirs l.files l.list l.entry l._step;
    }

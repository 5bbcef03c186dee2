use Rattle.std.proofs.Common.{None}
use Rattle.entry_tables.specs.Layout.{HasEntryTables}
use Rattle.entry_tables.specs.Changes.{CanSetAll, IsSite, ChangesAt}
use Rattle.entry_tables.proofs.EditLemmas.{AreSetSoFar}
use Rattle.entry_tables.proofs.word.set_words.Given as goal

abbrev pub invariant-loop-edit : goal.invariant-loop-edit
invariant-loop-edit g l = record {
  laid : HasEntryTables (g.S.Space.state l.space).shape l.dirs l.files;
  set : CanSetAll (g.S.Space.state l.initial.space) l.dirs l.files l.edits
      → AreSetSoFar (g.S.Space.state l.initial.space) (g.S.Space.state l.space) l.dirs l.files l.edits l.edit-index;
  changes : ChangesAt g.S.Space.state g.S.Space.keeps g.S.Space.lands
      (CanSetAll (g.S.Space.state l.initial.space) l.dirs l.files l.edits) (IsSite l.dirs l.files l.edits)
      l.initial.space l.space None;
}

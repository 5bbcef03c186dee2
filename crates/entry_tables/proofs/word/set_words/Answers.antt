use Rattle.std.proofs.Common.{None, Some, sym, subst}
use Rattle.save_bytes.specs.State.{Shape}
use Rattle.save_bytes.specs.Spots.{Hold}
use Rattle.entry_tables.specs.declared.table.EntryKind.TheVariants.{Dir}
use Rattle.entry_tables.specs.Layout.{HasEntryTables}
use Rattle.entry_tables.specs.Changes.{IsSite}
use Rattle.entry_tables.proofs.CauseLemmas.{passed_error}
use Rattle.entry_tables.proofs.ChangeLemmas.{ChangesAt-same}
use Rattle.entry_tables.proofs.EditLemmas.{none_set, one_more_set, all_set, this_may, set_never, set_changes}
use Rattle.entry_tables.proofs.word.set_words.Goals as goal

pub loop-edit-init : goal.loop-edit-init
loop-edit-init g c = record {
  laid = c.requires;
  set = none_set (g.S.Space.state c.args.space.now) c.args.dirs c.args.files c.args.edits.now;
  changes = ChangesAt-same g.S.Space.state g.S.Space.keeps g.S.Space.lands
      (IsSite c.args.dirs c.args.files c.args.edits.now) c.args.space.now
      (g.met.S.Space.keeps_same Hold c.args.space.now) (λ spot. g.met.S.Space.keeps_same spot c.args.space.now)
      (λ all. (all.can.tells Dir).told);
}

pub set_word-requires : goal.set_word-requires
set_word-requires g c = c.loop-edit.invariant.laid

pub returns-in_err-set_word-clause-never : goal.returns-in_err-set_word-clause-never
returns-in_err-set_word-clause-never g c = λ all.
    rw (passed_error _ _ c.from_residual.ensures.1)
    (set_never g.S.Space.state g.S.Space.keeps g.S.Space.lands c.args.dirs c.args.files c.args.edits.now
    c.args.space.now
    c.loop-edit.space c.set_word.new.space c.loop-edit.edit-index _ c.loop-edit-test.true c.loop-edit.invariant.set
    (Some c.in_err-set_word.field-0.0) c.in_err-set_word.ensures.ready all)

pub returns-in_err-set_word-clause-changes : goal.returns-in_err-set_word-clause-changes
returns-in_err-set_word-clause-changes g c =
    rw (passed_error _ _ c.from_residual.ensures.1)
    (set_changes g.S.Space.state g.S.Space.keeps g.S.Space.lands c.args.dirs c.args.files c.args.edits.now
    c.args.space.now c.loop-edit.space c.set_word.new.space c.loop-edit.edit-index _ c.loop-edit-test.true
    c.loop-edit.invariant.set (Some c.in_err-set_word.field-0.0) g.met.S.Space.keeps_join
    (set_never g.S.Space.state g.S.Space.keeps g.S.Space.lands c.args.dirs c.args.files c.args.edits.now
    c.args.space.now
    c.loop-edit.space c.set_word.new.space c.loop-edit.edit-index _ c.loop-edit-test.true c.loop-edit.invariant.set
    (Some c.in_err-set_word.field-0.0) c.in_err-set_word.ensures.ready)
    c.loop-edit.invariant.changes c.in_err-set_word.ensures.changes)

pub loop-edit-preserved : goal.loop-edit-preserved
loop-edit-preserved g c = record {
  laid = subst (λ (shape : Shape). HasEntryTables shape c.args.dirs c.args.files)
      (sym c.in_ok-set_word.ensures.changes.space.shape) c.loop-edit.invariant.laid;
  set = λ all.
      (let may = this_may g.S.Space.state g.S.Space.keeps g.S.Space.lands c.args.dirs c.args.files c.args.edits.now
      c.args.space.now c.loop-edit.space c.set_word.new.space c.loop-edit.edit-index _ c.loop-edit-test.true
      c.loop-edit.invariant.set all in
      one_more_set (g.S.Space.state c.args.space.now) (g.S.Space.state c.loop-edit.space)
      (g.S.Space.state c.set_word.new.space) c.args.dirs c.args.files c.args.edits.now c.loop-edit.edit-index _
      c.loop-edit.invariant.laid c.loop-edit-test.true (c.loop-edit.invariant.set all)
      (c.in_ok-set_word.ensures.set may.0 may.1) (c.in_ok-set_word.ensures.changes.within may));
  changes = set_changes g.S.Space.state g.S.Space.keeps g.S.Space.lands c.args.dirs c.args.files c.args.edits.now
      c.args.space.now c.loop-edit.space c.set_word.new.space c.loop-edit.edit-index _ c.loop-edit-test.true
      c.loop-edit.invariant.set None g.met.S.Space.keeps_join (λ all. tt)
      c.loop-edit.invariant.changes c.in_ok-set_word.ensures.changes;
}

pub returns-clause-set : goal.returns-clause-set
returns-clause-set g c = λ all.
    all_set (g.S.Space.state c.args.space.now) (g.S.Space.state c.loop-edit.space) c.args.dirs c.args.files
    c.args.edits.now c.loop-edit.edit-index c.loop-edit-test.false (c.loop-edit.invariant.set all)

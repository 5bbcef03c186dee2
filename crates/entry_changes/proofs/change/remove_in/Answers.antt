use Rattle.std.proofs.Common.{Some, None, sym, subst}
use Rattle.save_bytes.proofs.SpaceLemmas.{IfDamaged-never}
use Rattle.save_bytes.specs.State.{Shape}
use Rattle.entry_tables.specs.declared.table.EntryKind.TheVariants.{Dir}
use Rattle.entry_tables.specs.Tables.{tables_in}
use Rattle.entry_tables.specs.Layout.{HasEntryTables}
use Rattle.entry_tables.proofs.CauseLemmas.{passed_on, passed_error, plain_stays}
use Rattle.entry_changes.specs.Lacks.{IsRemovalSite}
use Rattle.entry_changes.proofs.PlanLemmas.{change_bad_cause}
use Rattle.entry_changes.proofs.TakenLemmas.{reads_change, taken_out, planned_later, removal_changes}
use Rattle.entry_changes.proofs.ExactLemmas.{removal_bytes_later}
use Rattle.entry_changes.proofs.change.remove_in.Goals as goal

pub returns-in_err-edits-clause-changes : goal.returns-in_err-edits-clause-changes
returns-in_err-edits-clause-changes g c =
    let s = g.S.Space.state c.args.space.now in
    rw (passed_error _ c.in_err-edits.field-0.0 c.from_residual.ensures.1)
    (reads_change g.S.Space.state g.S.Space.keeps g.S.Space.lands
    (IsRemovalSite (tables_in s.cells c.args.dirs c.args.files) c.args.dirs c.args.files c.args.kind c.args.entry)
    c.args.space.now c.removal.new.space _ (λ p. (p.0.tells Dir).told)
    (g.met.S.Space.keeps_hold c.args.space.now c.removal.new.space c.in_err-edits.ensures.reads.frame)
    c.in_err-edits.ensures.cause.plain c.in_err-edits.ensures.reads)

pub set_words-requires : goal.set_words-requires
set_words-requires g c =
    subst (λ (shape : Shape). HasEntryTables shape c.args.dirs c.args.files)
    (sym c.in_ok-edits.ensures.reads.stays.space.shape) c.requires

pub returns-in_err-set_words-clause-cause : goal.returns-in_err-set_words-clause-cause
returns-in_err-set_words-clause-cause g c =
    let s = g.S.Space.state c.args.space.now in
    let t = g.S.Space.state c.removal.new.space in
    let bad = c.in_err-set_words.field-0.0 in
    let read = c.in_ok-edits.ensures.reads.stays in
    rw (passed_on _ bad c.from_residual-in_err-set_words.ensures.1)
    (change_bad_cause s c.args.dirs c.args.files _ _ bad
    (λ can may. IfDamaged-never (Some bad) _ (c.in_err-set_words.ensures.never
    (planned_later s t c.args.dirs c.args.files c.requires read c.args.kind c.args.entry c.in-Some.edits
    (rw c.in-Some.is at c.in_ok-edits.ensures.plan) (can, may))))
    (λ is. c.in_err-set_words.ensures.changes.plain (plain_stays s.shape t.shape read.space.shape is)))

pub returns-in_err-set_words-clause-changes : goal.returns-in_err-set_words-clause-changes
returns-in_err-set_words-clause-changes g c =
    rw (passed_on _ c.in_err-set_words.field-0.0 c.from_residual-in_err-set_words.ensures.1)
    (removal_changes g.S.Space.state g.S.Space.keeps g.S.Space.lands g.met.S.Space.keeps_join c.args.space.now
    c.removal.new.space c.set_words.new.space c.args.dirs c.args.files c.requires
    (g.met.S.Space.keeps_hold c.args.space.now c.removal.new.space c.in_ok-edits.ensures.reads.frame)
    c.in_ok-edits.ensures.reads c.args.kind c.args.entry c.in-Some.edits (Some c.in_err-set_words.field-0.0)
    (rw c.in-Some.is at c.in_ok-edits.ensures.plan) c.in_err-set_words.ensures.never
    c.in_err-set_words.ensures.changes)

pub returns-clause-removed : goal.returns-clause-removed
returns-clause-removed g c = λ can may.
    taken_out (g.S.Space.state c.args.space.now) (g.S.Space.state c.removal.new.space) c.args.dirs c.args.files
    c.requires can c.in_ok-edits.ensures.reads.stays (g.S.Space.state c.set_words.new.space) c.args.kind c.args.entry
    may c.in-Some.edits ((rw c.in-Some.is at c.in_ok-edits.ensures.plan) can may) c.in_ok-set_words.ensures.set

pub returns-clause-changes : goal.returns-clause-changes
returns-clause-changes g c =
    removal_changes g.S.Space.state g.S.Space.keeps g.S.Space.lands g.met.S.Space.keeps_join c.args.space.now
    c.removal.new.space c.set_words.new.space c.args.dirs c.args.files c.requires
    (g.met.S.Space.keeps_hold c.args.space.now c.removal.new.space c.in_ok-edits.ensures.reads.frame)
    c.in_ok-edits.ensures.reads c.args.kind c.args.entry c.in-Some.edits None
    (rw c.in-Some.is at c.in_ok-edits.ensures.plan) (λ all. tt) c.in_ok-set_words.ensures.changes

pub returns-in_err-edits-clause-exact : goal.returns-in_err-edits-clause-exact
returns-in_err-edits-clause-exact g c = λ was could bytes soft can may.
    rw (passed_error _ c.in_err-edits.field-0.0 c.from_residual.ensures.1)
    (c.in_err-edits.ensures.exact can may
    (removal_bytes_later was (g.S.Space.state c.args.space.now) c.args.dirs c.args.files c.requires could soft
    c.args.kind c.args.entry may bytes))

pub returns-in_err-set_words-clause-exact : goal.returns-in_err-set_words-clause-exact
returns-in_err-set_words-clause-exact g c = λ was could bytes soft can may.
    let s = g.S.Space.state c.args.space.now in
    let t = g.S.Space.state c.removal.new.space in
    rw (passed_on _ c.in_err-set_words.field-0.0 c.from_residual-in_err-set_words.ensures.1)
    (c.in_err-set_words.ensures.never
    (planned_later s t c.args.dirs c.args.files c.requires c.in_ok-edits.ensures.reads.stays c.args.kind c.args.entry
    c.in-Some.edits (rw c.in-Some.is at c.in_ok-edits.ensures.plan) (can, may)))

use Rattle.std.proofs.Common.{Some, sym, subst}
use Rattle.save_bytes.specs.State.{Shape}
use Rattle.save_bytes.proofs.CallLemmas.{reads_then}
use Rattle.entry_tables.specs.Layout.{HasEntryTables}
use Rattle.entry_tables.proofs.CauseLemmas.{passed_on, passed_error, plain_stays}
use Rattle.entry_additions.proofs.PlanLemmas.{addition_bad_cause}
use Rattle.entry_additions.proofs.AddLemmas.{taken_blamed, taken_ready, cause_again, fits_later}
use Rattle.entry_additions.proofs.add.ready_add_in.Goals as goal

pub returns-in_err-plan-clause-cause : goal.returns-in_err-plan-clause-cause
returns-in_err-plan-clause-cause g c =
    rw (passed_error _ c.in_err-plan.field-0.0 c.from_residual.ensures.1)
    (cause_again (g.S.Space.state c.args.space.now) c.args.dirs c.args.files c.args.kind c.args.parent
    c.args.name.now.0 c.in_err-plan.field-0.0 c.in_err-plan.ensures.cause)

pub returns-in_err-plan-clause-reads : goal.returns-in_err-plan-clause-reads
returns-in_err-plan-clause-reads g c =
    rw (passed_error _ c.in_err-plan.field-0.0 c.from_residual.ensures.1) c.in_err-plan.ensures.reads

pub ready_entry-requires : goal.ready_entry-requires
ready_entry-requires g c =
    subst (λ (shape : Shape). HasEntryTables shape c.args.dirs c.args.files)
    (sym c.in_ok-plan.ensures.reads.stays.space.shape) c.requires

pub returns-in_err-ready_entry-clause-cause : goal.returns-in_err-ready_entry-clause-cause
returns-in_err-ready_entry-clause-cause g c =
    let s = g.S.Space.state c.args.space.now in
    let t = g.S.Space.state c.plan_addition.new.space in
    let read = c.in_ok-plan.ensures.reads.stays in
    let bad = c.in_err-ready_entry.field-0.0 in
    rw (passed_on _ bad c.from_residual-in_err-ready_entry.ensures.1)
    (addition_bad_cause s c.args.dirs c.args.files c.args.kind c.args.parent c.args.name.now.0 bad
    (λ can may. (let made = c.in_ok-plan.ensures.plan can may in
    taken_blamed s t c.args.dirs c.args.files can read c.args.kind c.args.parent c.args.name.now.0 c.in_ok-plan.plan
    (Some bad) may made
    (c.in_err-ready_entry.ensures.ready (fits_later s t c.args.dirs c.args.files can read c.args.kind c.args.parent
    c.args.name.now.0 c.in_ok-plan.plan made))))
    (λ is. c.in_err-ready_entry.ensures.plain (plain_stays s.shape t.shape read.space.shape is)))

pub returns-in_err-ready_entry-clause-reads : goal.returns-in_err-ready_entry-clause-reads
returns-in_err-ready_entry-clause-reads g c =
    rw (passed_on _ c.in_err-ready_entry.field-0.0 c.from_residual-in_err-ready_entry.ensures.1)
    (reads_then g.met.S.Space.keeps_join c.in_ok-plan.ensures.reads c.in_err-ready_entry.ensures.reads)

pub returns-clause-bytes : goal.returns-clause-bytes
returns-clause-bytes g c = λ can may.
    let s = g.S.Space.state c.args.space.now in
    let t = g.S.Space.state c.plan_addition.new.space in
    taken_ready s t c.args.dirs c.args.files can c.in_ok-plan.ensures.reads.stays c.args.kind c.args.parent
    c.args.name.now.0 c.in_ok-plan.plan (c.in_ok-plan.ensures.plan can may) (c.in_ok-plan.ensures.words can may)
    c.in_ok-ready_entry.ensures.ready

pub returns-clause-cause : goal.returns-clause-cause
returns-clause-cause g c = record {
  damaged = λ can may. tt;
  plain = λ is. tt;
  broken = λ can. tt;
  full = λ can. tt;
  room = c.in_ok-plan.ensures.cause.room;
}

pub returns-clause-reads : goal.returns-clause-reads
returns-clause-reads g c =
    reads_then g.met.S.Space.keeps_join c.in_ok-plan.ensures.reads c.in_ok-ready_entry.ensures.reads

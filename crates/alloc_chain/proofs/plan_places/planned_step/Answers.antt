use Rattle.std.proofs.Common.{ℕ, ◌+◌, ◌++◌, Ok, Some, Err, refl, sym, subst, arith, take}
use Rattle.save_bytes.proofs.CallLemmas.{reads_then}
use Rattle.chain_nodes.specs.declared.info.Run.{Run}
use Rattle.chain_nodes.specs.declared.walk.Cursor.{Cursor}
use Rattle.chain_nodes.specs.Table.{table_in}
use Rattle.chain_nodes.specs.Faults.{FailsAt, IsBroken}
use Rattle.chain_nodes.specs.Runs.{IsRunIn}
use Rattle.chain_nodes.proofs.FaultLemmas.{FaultsOnly-later}
use Rattle.chain_nodes.proofs.ExactLemmas.{done_unless_disk, no_free_break, no_free_need}
use Rattle.alloc_chain.specs.declared.plan_places.PlanCursor.{PlanCursor}
use Rattle.alloc_chain.specs.PlanRuns.{HasPlanPosition}
use Rattle.alloc_chain.specs.PlanPlaces.{plan_passed}
use Rattle.alloc_chain.proofs.PlanLemmas.{done_other}
use Rattle.alloc_chain.proofs.PlanPlaceLemmas.{run_cut, place_broken, place_needed, no_position, position_in}
use Rattle.alloc_chain.proofs.PlanPlaceLemmas.{said_here, place_said, run_said}
use Rattle.alloc_chain.proofs.plan_places.planned_step.Goals as goal

pub returns-in-Err-clause-exact : goal.returns-in-Err-clause-exact
returns-in-Err-clause-exact g c = λ told old mine free place can enough.
    let s = g.S.Space.state c.args.base.now in
    let info = c.args.info in
    done_unless_disk s info told
    (λ (step : Run × PlanCursor). IsRunIn (take c.args.cursor.wanted (mine ++ free)) (plan_passed c.args.cursor) step.0)
    (Err c.in-Err.fault)
    (no_free_break (table_in s.cells info) info.count free c.requires.table.few can.listed.linked can.listed.once)
    (no_free_need (table_in s.cells info) info.count free c.requires.table.few can.listed.read can.listed.linked)
    c.in-Err.ensures.faults tt

pub returns-then-is_at_end-clause-exact : goal.returns-then-is_at_end-clause-exact
returns-then-is_at_end-clause-exact g c = λ told old mine free place can enough.
    let info = c.args.info in
    let table = table_in (g.S.Space.state c.args.base.now).cells info in
    let here = c.in-Ok.here in
    no_position table info.count old here c.in-Ok.ensures.moved (c.is_at_end.ensures.0 c.if-is_at_end.true)
    (c.in-Ok.ensures.place told old place)
    (position_in table info.count c.requires.table.few mine free old (here.before + here.list.passed) can.chain
    can.listed.linked (omega (arith, c.in-Ok.ensures.passed, c.requires.not_at_end, enough)))

pub returns-then-is_at_end-clause-faults : goal.returns-then-is_at_end-clause-faults
returns-then-is_at_end-clause-faults g c =
    let info = c.args.info in
    let table = table_in (g.S.Space.state c.args.base.now).cells info in
    let here = c.in-Ok.here in
    record {
      broken = λ told old place has.
          absurd (no_position table info.count old here c.in-Ok.ensures.moved (c.is_at_end.ensures.0
          c.if-is_at_end.true) (c.in-Ok.ensures.place told old place)
          (subst (λ (p : ℕ). HasPlanPosition table info.count old p) (sym c.in-Ok.ensures.passed) has));
      damaged = λ told. tt;
      plain = λ plain. tt;
      never_short = tt;
    }

pub returns-in-Ok-next_run-clause-place : goal.returns-in-Ok-next_run-clause-place
returns-in-Ok-next_run-clause-place g c = λ told old place.
    let here = c.in-Ok.here in
    let stays = c.in-Ok.ensures.reads.stays in
    place_said (g.S.Space.state c.args.base.now) (g.S.Space.state c.with_blocks.new.base) c.args.info c.requires.table
    stays told old here (c.in-Ok.ensures.place told old place)
    (record { list = c.in-Ok-next_run.list; free = here.free; before = here.before; wanted = here.wanted }) refl refl
    c.in-Ok-next_run.ensures.opens c.in-Ok-next_run.ensures.first
    (c.in-Ok-next_run.ensures.place (stays.space.told told))

pub returns-in-Ok-next_run-clause-exact : goal.returns-in-Ok-next_run-clause-exact
returns-in-Ok-next_run-clause-exact g c = λ told old mine free place can enough.
    let run = c.in-Ok-next_run.run' in
    let stays = c.in-Ok.ensures.reads.stays in
    let whole = run_said (g.S.Space.state c.args.base.now) (g.S.Space.state c.with_blocks.new.base) c.args.info
    c.requires.table stays told old c.in-Ok.here (c.in-Ok.ensures.place told old place) mine free can
    (Ok (run, c.in-Ok-next_run.list)) (c.in-Ok-next_run.ensures.exact (stays.space.told told)) in
    run_cut (mine ++ free) c.args.cursor.wanted (plan_passed c.args.cursor) run c.cut_run.result
    (omega (arith, c.requires.not_at_end)) c.cut_run.ensures.block
    (omega (arith, c.cut_run.ensures.len, c.passed.ensures))
    (subst (λ (p : ℕ). IsRunIn (mine ++ free) p run) c.in-Ok.ensures.passed whole)

pub returns-in-Ok-next_run-clause-reads : goal.returns-in-Ok-next_run-clause-reads
returns-in-Ok-next_run-clause-reads g c =
    reads_then g.met.S.Space.keeps_join c.in-Ok.ensures.reads c.in-Ok-next_run.ensures.reads

pub returns-in-Err-next_run-clause-exact : goal.returns-in-Err-next_run-clause-exact
returns-in-Err-next_run-clause-exact g c = λ told old mine free place can enough.
    let here = c.in-Ok.here in
    let stays = c.in-Ok.ensures.reads.stays in
    done_other (λ (step : Run × Cursor). IsRunIn (mine ++ free) (here.before + here.list.passed) step.0)
    (λ (step : Run × PlanCursor). IsRunIn (take c.args.cursor.wanted (mine ++ free)) (plan_passed c.args.cursor) step.0)
    c.in-Err-next_run.fault
    (run_said (g.S.Space.state c.args.base.now) (g.S.Space.state c.with_blocks.new.base) c.args.info c.requires.table
    stays told old here (c.in-Ok.ensures.place told old place) mine free can (Err c.in-Err-next_run.fault)
    (c.in-Err-next_run.ensures.exact (stays.space.told told)))

pub returns-in-Err-next_run-clause-faults : goal.returns-in-Err-next_run-clause-faults
returns-in-Err-next_run-clause-faults g c =
    let s = g.S.Space.state c.args.base.now in
    let m = g.S.Space.state c.with_blocks.new.base in
    let info = c.args.info in
    let here = c.in-Ok.here in
    let stays = c.in-Ok.ensures.reads.stays in
    FaultsOnly-later s m info (Some c.in-Err-next_run.fault) c.requires.table stays
    (λ told e broken old place has. (let there = c.in-Ok.ensures.place told old place in
    place_broken (table_in s.cells info) info.count old here e c.in-Ok.ensures.moved there
    (said_here s m info c.requires.table stays told old here there
    (λ t. IsBroken t info.count here.list.opens here.list.first e) broken)))
    (λ told e fails old place. (let there = c.in-Ok.ensures.place told old place in
    place_needed (table_in s.cells info) info.count old here e c.in-Ok.ensures.moved there
    (said_here s m info c.requires.table stays told old here there
    (λ t. FailsAt t info.count here.list.opens here.list.first e) fails)))
    c.in-Err-next_run.ensures.faults

pub returns-in-Err-next_run-clause-reads : goal.returns-in-Err-next_run-clause-reads
returns-in-Err-next_run-clause-reads g c =
    reads_then g.met.S.Space.keeps_join c.in-Ok.ensures.reads c.in-Err-next_run.ensures.reads

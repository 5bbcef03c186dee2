use Rattle.std.proofs.Common.{◌+◌, ◌-◌, Option, Some, None, sym, subst, arith}
use Rattle.save_bytes.specs.declared.space.Bad.{Bad}
use Rattle.save_bytes.specs.State.{Shape, IsInside}
use Rattle.save_bytes.specs.Answers.{IsReady}
use Rattle.save_bytes.proofs.CallLemmas.{reads_then}
use Rattle.save_bytes.proofs.JoinLemmas.{IsReady-append, IsReady-refused}
use Rattle.chain_space.specs.ShownLaws.{CanShow, with_blocks}
use Rattle.chain_space.proofs.ViewLemmas.{shown_room}
use Rattle.chain_space.proofs.RunLemmas.{ready_later}
use Rattle.chain_space.proofs.space.ready_runs.Given.{Over}
use Rattle.chain_space.proofs.space.ready_runs.Goals.{In-Ok}
use Rattle.chain_space.proofs.space.ready_runs.Goals as goal

pub overflow_add-at : goal.overflow_add-at
overflow_add-at g c =
    let room = shown_room (g.S.Space.state c.args.base.now) c.args.shown c.requires.sound in
    omega (arith, room.fits, c.requires.inside, c.loop-done.invariant.within)

pub ready-requires : goal.ready-requires
ready-requires g c =
    let old = g.S.Space.state c.args.base.now in
    let run = c.in-Ok.run' in
    let size = c.loop-done.invariant.reads.stays.space.shape in
    let room = subst (λ (shape : Shape). CanShow shape c.args.shown.info c.args.shown.blocks) (sym size)
    (shown_room old c.args.shown c.requires.sound) in
    let here : IsInside (g.S.Space.state c.loop-done.base).shape run.0 run.1 =
    record { sound = room.table.sound; inside = c.in-Ok.ensures.located.in_base } in
    subst (λ (shape : Shape). IsInside shape run.0 run.1) (sym c.in-Ok.ensures.reads.stays.space.shape) here

-- what the base says of the next run, of the view
next_ready : (g : Over) (c : In-Ok g) (refusal : Option Bad)
    → IsReady (g.S.Space.state c.locate.new.base) c.in-Ok.run'.0 c.in-Ok.run'.1 refusal
    → IsReady (with_blocks c.args.shown (g.S.Space.state c.args.base.now))
    (c.args.at + c.loop-done.done) c.in-Ok.run'.1 refusal
next_ready g c refusal h =
    let located = c.in-Ok.ensures.located in
    ready_later (g.S.Space.state c.args.base.now) (g.S.Space.state c.loop-done.base) (g.S.Space.state c.locate.new.base)
    c.args.shown (c.args.at + c.loop-done.done) (c.args.n - c.loop-done.done) c.in-Ok.run'.0 c.in-Ok.run'.1 refusal
    c.requires.sound located c.loop-done.invariant.reads.stays c.in-Ok.ensures.reads.stays
    (omega (arith, c.requires.inside, located.bounded)) h

pub returns-in-Err-ready-clause-ready : goal.returns-in-Err-ready-clause-ready
returns-in-Err-ready-clause-ready g c =
    IsReady-refused (with_blocks c.args.shown (g.S.Space.state c.args.base.now)) c.args.at c.loop-done.done
    c.in-Ok.run'.1
    c.args.n c.in-Err-ready.bad (omega (arith, c.in-Ok.ensures.located.bounded)) c.loop-done.invariant.ready
    (next_ready g (goal.at.returns-in-Err-ready-clause-ready g c).In-Ok
    (Some c.in-Err-ready.bad) c.in-Err-ready.ensures.ready)

pub returns-in-Err-ready-clause-reads : goal.returns-in-Err-ready-clause-reads
returns-in-Err-ready-clause-reads g c =
    let join = g.met.S.Space.keeps_join in
    reads_then join (reads_then join c.loop-done.invariant.reads c.in-Ok.ensures.reads) c.in-Err-ready.ensures.reads

pub loop-done-preserved : goal.loop-done-preserved
loop-done-preserved g c =
    let join = g.met.S.Space.keeps_join in
    let before = c.loop-done.invariant in
    record {
      within = omega (arith, c.in-Ok.ensures.located.bounded);
      ready = IsReady-append (with_blocks c.args.shown (g.S.Space.state c.args.base.now)) c.args.at c.loop-done.done
          c.in-Ok.run'.1 before.ready
          (next_ready g (goal.at.loop-done-preserved g c).In-Ok None c.in-Ok-ready.ensures.ready);
      reads = reads_then join (reads_then join before.reads c.in-Ok.ensures.reads) c.in-Ok-ready.ensures.reads;
    }

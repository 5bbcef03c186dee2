use Rattle.std.proofs.Common.{◌+◌, ◌-◌, Option, Some, None, sym, subst, arith}
use Rattle.save_bytes.specs.declared.space.Bad.{Bad}
use Rattle.save_bytes.specs.State.{Shape}
use Rattle.save_bytes.specs.Answers.{IsReady}
use Rattle.save_bytes.proofs.CallLemmas.{reads_then}
use Rattle.save_bytes.proofs.JoinLemmas.{IsReady-append, IsReady-before, IsReady-refused}
use Rattle.chain_space.specs.Laid.{Extra, extra_of, laid_state, CanLay}
use Rattle.chain_space.proofs.LaidLemmas.{can_lay-facts, laid_stays, laid_ready}
use Rattle.chain_space.proofs.laid.ready_laid.Given.{Over}
use Rattle.chain_space.proofs.laid.ready_laid.Goals.{After-laid_run-place}
use Rattle.chain_space.proofs.laid.ready_laid.Goals as goal

abbrev extra : (g : Over) → After-laid_run-place g → Extra
extra g c = extra_of c.args.region_at c.args.block c.args.blocks.now

-- what the base says of the next run, of the view
next_ready : (g : Over) (c : After-laid_run-place g) (refusal : Option Bad)
    → IsReady (g.S.Space.state c.loop-done.base) c.laid_run-place.result.0 c.laid_run-place.result.1 refusal
    → IsReady (laid_state (extra g c) (g.S.Space.state c.args.base.now)) (c.args.at + c.loop-done.done)
    c.laid_run-place.result.1 refusal
next_ready g c refusal h =
    let old = g.S.Space.state c.args.base.now in
    let now = g.S.Space.state c.loop-done.base in
    let stays = c.loop-done.invariant.reads.stays in
    let room = can_lay-facts (extra g c) old.shape c.requires.sound in
    let here = subst (λ (s : Shape). CanLay (extra g c) s) (sym stays.space.shape) room in
    let run = c.laid_run-place.ensures in
    IsReady-before (laid_state (extra g c) old) (laid_state (extra g c) now) (c.args.at + c.loop-done.done)
    c.laid_run-place.result.1 refusal (omega (arith, run.bounded, c.requires.inside))
    (laid_stays (extra g c) old now room None stays)
    (laid_ready (extra g c) now here (c.args.at + c.loop-done.done)
    (c.args.n - c.loop-done.done) c.laid_run-place.result.0
    c.laid_run-place.result.1 refusal run h)

pub overflow_add-at : goal.overflow_add-at
overflow_add-at g c =
    let room = can_lay-facts (extra_of c.args.region_at c.args.block c.args.blocks.now)
    (g.S.Space.state c.args.base.now).shape
    c.requires.sound in
    omega (arith, room.lie.fits, c.requires.inside, c.loop-done.invariant.within)

pub ready-requires : goal.ready-requires
ready-requires g c =
    let room = can_lay-facts (extra_of c.args.region_at c.args.block c.args.blocks.now)
    (g.S.Space.state c.args.base.now).shape
    c.requires.sound in
    record {
      sound = rw c.loop-done.invariant.reads.stays.space.shape room.sound;
      inside = c.laid_run-place.ensures.in_base;
    }

pub returns-in-Err-clause-ready : goal.returns-in-Err-clause-ready
returns-in-Err-clause-ready g c =
    IsReady-refused (laid_state (extra_of c.args.region_at c.args.block c.args.blocks.now)
    (g.S.Space.state c.args.base.now))
    c.args.at c.loop-done.done c.laid_run-place.result.1 c.args.n c.in-Err.bad
    (omega (arith, c.laid_run-place.ensures.bounded)) c.loop-done.invariant.ready
    (next_ready g (goal.at.returns-in-Err-clause-ready g c).After-laid_run-place
    (Some c.in-Err.bad) c.in-Err.ensures.ready)

pub loop-done-preserved : goal.loop-done-preserved
loop-done-preserved g c =
    let before = c.loop-done.invariant in
    record {
      within = omega (arith, c.laid_run-place.ensures.bounded);
      ready = IsReady-append (laid_state (extra_of c.args.region_at c.args.block c.args.blocks.now)
          (g.S.Space.state c.args.base.now)) c.args.at c.loop-done.done c.laid_run-place.result.1 before.ready
          (next_ready g (goal.at.loop-done-preserved g c).After-laid_run-place None c.in-Ok.ensures.ready);
      reads = reads_then g.met.S.Space.keeps_join before.reads c.in-Ok.ensures.reads;
    }

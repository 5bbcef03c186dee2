use Rattle.std.proofs.Common.{◌+◌, ◌≤◌, length, Some, None, arith}
use Rattle.save_bytes.specs.State.{State}
use Rattle.save_bytes.proofs.JoinLemmas.{IsReady-told, Puts-unput, MovesOnly-read}
use Rattle.chain_space.specs.Laid.{Extra, extra_of, laid_state, LaidLands}
use Rattle.chain_space.proofs.LaidLemmas.{can_lay-facts, laid_reads}
use Rattle.chain_space.proofs.PutLemmas.{rest_len, rest_never, rest_refused, rest_put, nothing_put, rest_moves}
use Rattle.chain_space.proofs.PutLemmas.{rest_moves_refused}
use Rattle.chain_space.proofs.laid.put_laid.Given.{Over}
use Rattle.chain_space.proofs.laid.put_laid.Goals as goal

-- the space by what is shown
abbrev view : (g : Over) → Extra → g.row.S.Denot → State
view g extra x = laid_state extra (g.S.Space.state x)

pub returns-in-Err-clause-puts : goal.returns-in-Err-clause-puts
returns-in-Err-clause-puts g c =
    let extra = extra_of c.args.region_at c.args.block c.args.blocks.now in
    let room = can_lay-facts extra (g.S.Space.state c.args.base.now).shape c.requires.inside.sound in
    Puts-unput _ _ c.args.at c.args.bytes.now c.in-Err.bad
    (laid_reads g.S.Space.state g.S.Space.keeps g.S.Space.lands extra c.args.base.now c.ready_laid.new.base room
    (Some c.in-Err.bad) c.in-Err.ensures.reads).stays

pub returns-in-Err-clause-moves : goal.returns-in-Err-clause-moves
returns-in-Err-clause-moves g c =
    let extra = extra_of c.args.region_at c.args.block c.args.blocks.now in
    let room = can_lay-facts extra (g.S.Space.state c.args.base.now).shape c.requires.inside.sound in
    MovesOnly-read (view g extra) g.S.Space.keeps (LaidLands g.S.Space.state g.S.Space.lands extra)
    g.met.S.Space.keeps_join
    c.args.base.now c.ready_laid.new.base c.args.at (length c.args.bytes.now) (Some c.in-Err.bad)
    (g.met.S.Space.keeps_hold c.args.base.now c.ready_laid.new.base)
    (laid_reads g.S.Space.state g.S.Space.keeps g.S.Space.lands extra c.args.base.now c.ready_laid.new.base room
    (Some c.in-Err.bad) c.in-Err.ensures.reads)

pub loop-done-init : goal.loop-done-init
loop-done-init g c =
    let extra = extra_of c.args.region_at c.args.block c.args.blocks.now in
    let room = can_lay-facts extra (g.S.Space.state c.args.base.now).shape c.requires.inside.sound in
    let reads = laid_reads g.S.Space.state g.S.Space.keeps g.S.Space.lands extra c.args.base.now c.ready_laid.new.base
    room
    None c.in-Ok.ensures.reads in
    record {
      within = omega arith;
      ready = c.in-Ok.ensures.ready;
      puts = nothing_put _ _ c.args.at reads.stays;
      moves = MovesOnly-read (view g extra) g.S.Space.keeps (LaidLands g.S.Space.state g.S.Space.lands extra)
          g.met.S.Space.keeps_join c.args.base.now c.ready_laid.new.base c.args.at 0 None
          (g.met.S.Space.keeps_hold c.args.base.now c.ready_laid.new.base) reads;
    }

pub overflow_add-at : goal.overflow_add-at
overflow_add-at g c =
    let extra = extra_of c.args.region_at c.args.block c.args.blocks.now in
    let room = can_lay-facts extra (g.S.Space.state c.args.base.now).shape c.requires.inside.sound in
    omega (arith, room.lie.fits, c.requires.inside.inside, c.loop-done.invariant.within)

pub loop-done-preserved : goal.loop-done-preserved
loop-done-preserved g c =
    let extra = extra_of c.args.region_at c.args.block c.args.blocks.now in
    let old = view g extra c.args.base.now in
    let now = view g extra c.loop-done.base in
    let n = c.in-Ok-put_laid_run.n in
    let before = c.loop-done.invariant in
    let step = c.in-Ok-put_laid_run.ensures in
    let inside = c.requires.inside.inside in
    let len = rest_len old now c.args.at c.args.bytes.now c.loop-done.done before.within inside before.puts in
    let fits : c.loop-done.done + n ≤ length c.args.bytes.now = omega (arith, len, step.count.1, before.within) in
    record {
      within = fits;
      ready = before.ready;
      puts = rest_put old now c.args.at c.args.bytes.now c.loop-done.done before.within inside before.puts
          (view g extra c.put_laid_run.new.base) n step.count.1 step.puts;
      moves = rest_moves (view g extra) g.S.Space.keeps (LaidLands g.S.Space.state g.S.Space.lands extra)
          g.met.S.Space.keeps_join c.args.base.now c.loop-done.base c.put_laid_run.new.base c.args.at c.args.bytes.now
          c.loop-done.done before.within inside before.puts before.moves n None fits (λ can. tt) step.moves;
    }

pub returns-in-Err-put_laid_run-clause-ready : goal.returns-in-Err-put_laid_run-clause-ready
returns-in-Err-put_laid_run-clause-ready g c = λ can.
    let shown = view g (extra_of c.args.region_at c.args.block c.args.blocks.now) in
    let before = c.loop-done.invariant in
    IsReady-told (shown c.args.base.now) c.args.at (length c.args.bytes.now)
    (Some c.in-Err-put_laid_run.bad) before.ready
    (rest_never (shown c.args.base.now) (shown c.loop-done.base) c.args.at c.args.bytes.now c.loop-done.done
    before.within
    c.requires.inside.inside before.puts before.ready (shown c.put_laid_run.new.base) c.in-Err-put_laid_run.bad
    c.in-Err-put_laid_run.ensures.never can)

pub returns-in-Err-put_laid_run-clause-puts : goal.returns-in-Err-put_laid_run-clause-puts
returns-in-Err-put_laid_run-clause-puts g c =
    let shown = view g (extra_of c.args.region_at c.args.block c.args.blocks.now) in
    let before = c.loop-done.invariant in
    rest_refused (shown c.args.base.now) (shown c.loop-done.base) c.args.at c.args.bytes.now c.loop-done.done
    before.within
    c.requires.inside.inside before.puts before.ready (shown c.put_laid_run.new.base) c.in-Err-put_laid_run.bad
    c.in-Err-put_laid_run.ensures.never c.in-Err-put_laid_run.ensures.puts

pub returns-in-Err-put_laid_run-clause-moves : goal.returns-in-Err-put_laid_run-clause-moves
returns-in-Err-put_laid_run-clause-moves g c =
    let shown = view g (extra_of c.args.region_at c.args.block c.args.blocks.now) in
    let before = c.loop-done.invariant in
    rest_moves_refused shown g.S.Space.keeps
    (LaidLands g.S.Space.state g.S.Space.lands (extra_of c.args.region_at c.args.block c.args.blocks.now))
    g.met.S.Space.keeps_join c.args.base.now c.loop-done.base c.put_laid_run.new.base c.args.at c.args.bytes.now
    c.loop-done.done before.within c.requires.inside.inside before.puts before.moves before.ready
    c.in-Err-put_laid_run.bad _
    (rest_len (shown c.args.base.now) (shown c.loop-done.base) c.args.at c.args.bytes.now c.loop-done.done before.within
    c.requires.inside.inside before.puts)
    c.in-Err-put_laid_run.ensures.never c.in-Err-put_laid_run.ensures.moves

use Rattle.std.proofs.Common.{ℕ, ◌+◌, ◌≤◌, length, IsTrue, Option, Some, None, arith}
use Rattle.save_bytes.specs.declared.space.Bad.{Bad}
use Rattle.save_bytes.specs.State.{State}
use Rattle.save_bytes.specs.Spots.{Spot}
use Rattle.save_bytes.specs.Reads.{Reads}
use Rattle.save_bytes.specs.Stays.{Stays}
use Rattle.save_bytes.proofs.CallLemmas.{reads_then}
use Rattle.save_bytes.proofs.JoinLemmas.{IsReady-before, IsReady-told, Puts-unput, MovesOnly-read}
use Rattle.chain_space.specs.declared.space.Shown.{Shown}
use Rattle.chain_space.specs.Shown.{can_show, ShownLands}
use Rattle.chain_space.specs.ShownLaws.{can_show-facts, with_blocks}
use Rattle.chain_space.proofs.ViewLemmas.{view_stays, view_reads}
use Rattle.chain_space.proofs.PutLemmas.{rest_len, rest_never, rest_refused, rest_put, nothing_put, rest_moves}
use Rattle.chain_space.proofs.PutLemmas.{rest_moves_refused}
use Rattle.chain_space.proofs.space.put_shown.Given.{Over}
use Rattle.chain_space.proofs.space.put_shown.Goals.{In-Err-ready_runs}
use Rattle.chain_space.proofs.space.put_shown.Goals as goal

-- two calls that read, in the view
module _ {A : Type 0} (states : A → State) (keeps : Spot → A → A → Type 0) (lands : A → ℕ → Spot → Type 0)
    (join : (spot : Spot) (s t u : A) → keeps spot s t → keeps spot t u
    → keeps spot s u) (a m b : A) (shown : Shown) where
  reads_both : (refusal : Option Bad) → IsTrue (can_show (states a).shape shown.info shown.blocks)
      → Reads states keeps lands a m None
      → Reads states keeps lands m b refusal
      → Reads (λ (x : A). with_blocks shown (states x)) keeps
      (ShownLands states lands shown.info shown.first) a b refusal
  reads_both refusal sound first second =
      view_reads states keeps lands a b shown.info shown.first shown.blocks (can_show-facts
      (states a).shape shown.info shown.blocks sound)
      refusal (reads_then join first second)

-- a call that read has left the view as it was
still_shown : (old mid : State) (shown : Shown) → IsTrue (can_show old.shape shown.info shown.blocks)
    → Stays old mid None
    → Stays (with_blocks shown old) (with_blocks shown mid) None
still_shown old mid shown sound stays =
    view_stays old mid shown.info shown.first shown.blocks (can_show-facts old.shape shown.info shown.blocks sound)
    None stays

-- the space by what is shown
abbrev view : (g : Over) → Shown → g.row.S.Denot → State
view g shown x = with_blocks shown (g.S.Space.state x)

pub returns-in-Err-ready_runs-clause-ready : goal.returns-in-Err-ready_runs-clause-ready
returns-in-Err-ready_runs-clause-ready g c = λ can.
    IsReady-before _ _ c.args.at (length c.args.bytes.now) (Some c.in-Err-ready_runs.bad) c.requires.inside.inside
    (still_shown (g.S.Space.state c.args.base.now) (g.S.Space.state c.is_good.new.base) c.args.shown
    c.requires.inside.sound
    c.in-Ok-true.ensures.reads.stays)
    c.in-Err-ready_runs.ensures.ready

-- the two calls that read, where the second was refused
refused : (g : Over) (c : In-Err-ready_runs g)
    → Reads (λ (x : g.row.S.Denot). with_blocks c.args.shown (g.S.Space.state x)) g.S.Space.keeps
    (ShownLands g.S.Space.state g.S.Space.lands c.args.shown.info c.args.shown.first) c.args.base.now
    c.ready_runs.new.base
    (Some c.in-Err-ready_runs.bad)
refused g c =
    reads_both g.S.Space.state g.S.Space.keeps g.S.Space.lands g.met.S.Space.keeps_join c.args.base.now
    c.is_good.new.base
    c.ready_runs.new.base c.args.shown (Some c.in-Err-ready_runs.bad) c.requires.inside.sound c.in-Ok-true.ensures.reads
    c.in-Err-ready_runs.ensures.reads

pub returns-in-Err-ready_runs-clause-puts : goal.returns-in-Err-ready_runs-clause-puts
returns-in-Err-ready_runs-clause-puts g c =
    Puts-unput _ _ c.args.at c.args.bytes.now c.in-Err-ready_runs.bad
    (refused g (goal.at.returns-in-Err-ready_runs-clause-puts g c).In-Err-ready_runs).stays

pub returns-in-Err-ready_runs-clause-moves : goal.returns-in-Err-ready_runs-clause-moves
returns-in-Err-ready_runs-clause-moves g c =
    let space = g.S.Space in
    MovesOnly-read (λ (x : g.row.S.Denot). with_blocks c.args.shown (space.state x)) space.keeps
    (ShownLands space.state space.lands c.args.shown.info c.args.shown.first) g.met.S.Space.keeps_join c.args.base.now
    c.ready_runs.new.base c.args.at (length c.args.bytes.now) (Some c.in-Err-ready_runs.bad)
    (g.met.S.Space.keeps_hold c.args.base.now c.ready_runs.new.base)
    (refused g (goal.at.returns-in-Err-ready_runs-clause-moves g c).In-Err-ready_runs)

pub loop-done-init : goal.loop-done-init
loop-done-init g c =
    let reads = reads_both g.S.Space.state g.S.Space.keeps g.S.Space.lands g.met.S.Space.keeps_join c.args.base.now
    c.is_good.new.base c.ready_runs.new.base c.args.shown None c.requires.inside.sound c.in-Ok-true.ensures.reads
    c.in-Ok.ensures.reads in
    record {
      within = omega arith;
      ready = IsReady-before _ _ c.args.at (length c.args.bytes.now) None c.requires.inside.inside
          (still_shown (g.S.Space.state c.args.base.now) (g.S.Space.state c.is_good.new.base) c.args.shown
          c.requires.inside.sound c.in-Ok-true.ensures.reads.stays) c.in-Ok.ensures.ready;
      puts = nothing_put _ _ c.args.at reads.stays;
      moves = MovesOnly-read (view g c.args.shown) g.S.Space.keeps
          (ShownLands g.S.Space.state g.S.Space.lands c.args.shown.info c.args.shown.first) g.met.S.Space.keeps_join
          c.args.base.now c.ready_runs.new.base c.args.at 0 None
          (g.met.S.Space.keeps_hold c.args.base.now c.ready_runs.new.base) reads;
    }

pub overflow_add-at : goal.overflow_add-at
overflow_add-at g c =
    let room = can_show-facts (g.S.Space.state c.args.base.now).shape c.args.shown.info c.args.shown.blocks
    c.requires.inside.sound in
    omega (arith, room.fits, c.requires.inside.inside, c.loop-done.invariant.within)

pub loop-done-preserved : goal.loop-done-preserved
loop-done-preserved g c =
    let old = view g c.args.shown c.args.base.now in
    let now = view g c.args.shown c.loop-done.base in
    let n = c.in-Ok-put_run.n in
    let before = c.loop-done.invariant in
    let step = c.in-Ok-put_run.ensures in
    let inside = c.requires.inside.inside in
    let len = rest_len old now c.args.at c.args.bytes.now c.loop-done.done before.within inside before.puts in
    let fits : c.loop-done.done + n ≤ length c.args.bytes.now = omega (arith, len, step.count.1, before.within) in
    record {
      within = fits;
      ready = before.ready;
      puts = rest_put old now c.args.at c.args.bytes.now c.loop-done.done before.within inside before.puts
          (view g c.args.shown c.put_run.new.base) n step.count.1 step.puts;
      moves = rest_moves (view g c.args.shown) g.S.Space.keeps
          (ShownLands g.S.Space.state g.S.Space.lands c.args.shown.info c.args.shown.first) g.met.S.Space.keeps_join
          c.args.base.now c.loop-done.base c.put_run.new.base c.args.at c.args.bytes.now c.loop-done.done before.within
          inside before.puts before.moves n None fits (λ can. tt) step.moves;
    }

pub returns-in-Err-put_run-clause-ready : goal.returns-in-Err-put_run-clause-ready
returns-in-Err-put_run-clause-ready g c = λ can.
    let before = c.loop-done.invariant in
    IsReady-told (view g c.args.shown c.args.base.now) c.args.at (length c.args.bytes.now)
    (Some c.in-Err-put_run.bad) before.ready
    (rest_never (view g c.args.shown c.args.base.now) (view g c.args.shown c.loop-done.base) c.args.at c.args.bytes.now
    c.loop-done.done before.within c.requires.inside.inside before.puts before.ready
    (view g c.args.shown c.put_run.new.base)
    c.in-Err-put_run.bad c.in-Err-put_run.ensures.never can)

pub returns-in-Err-put_run-clause-puts : goal.returns-in-Err-put_run-clause-puts
returns-in-Err-put_run-clause-puts g c =
    let before = c.loop-done.invariant in
    rest_refused (view g c.args.shown c.args.base.now) (view g c.args.shown c.loop-done.base) c.args.at c.args.bytes.now
    c.loop-done.done before.within c.requires.inside.inside before.puts before.ready
    (view g c.args.shown c.put_run.new.base)
    c.in-Err-put_run.bad c.in-Err-put_run.ensures.never c.in-Err-put_run.ensures.puts

pub returns-in-Err-put_run-clause-moves : goal.returns-in-Err-put_run-clause-moves
returns-in-Err-put_run-clause-moves g c =
    let before = c.loop-done.invariant in
    rest_moves_refused (view g c.args.shown) g.S.Space.keeps
    (ShownLands g.S.Space.state g.S.Space.lands c.args.shown.info c.args.shown.first) g.met.S.Space.keeps_join
    c.args.base.now c.loop-done.base c.put_run.new.base c.args.at c.args.bytes.now c.loop-done.done before.within
    c.requires.inside.inside before.puts before.moves before.ready c.in-Err-put_run.bad _
    (rest_len (view g c.args.shown c.args.base.now) (view g c.args.shown c.loop-done.base) c.args.at c.args.bytes.now
    c.loop-done.done before.within c.requires.inside.inside before.puts)
    c.in-Err-put_run.ensures.never c.in-Err-put_run.ensures.moves

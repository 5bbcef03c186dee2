use Rattle.std.proofs.Common.{◌+◌, ◌/◌, ℕ, ap, arith, Some, None}
use Rattle.std.proofs.lemmas.Bool.{and_parts, and_from}
use Rattle.save_bytes.proofs.CallLemmas.{Reads-same}
use Rattle.save_bytes.proofs.WriteLemmas.{Writes-read}
use Rattle.ivfc_tree.specs.ViewLaws.{level4_size, level4_log, block_of_there}
use Rattle.ivfc_tree.specs.KnownLaws.{true-remembers, remembers-true}
use Rattle.ivfc_tree.specs.Readies.{RangeSites, IsInPaths}
use Rattle.ivfc_tree.proofs.LearnLemmas.{made_later}
use Rattle.ivfc_tree.proofs.RangeLemmas.{MarksWithin-same, path_marks, path_writes, range_start}
use Rattle.ivfc_tree.proofs.RangeLemmas.{next_unspoilt, range_more}
use Rattle.ivfc_tree.proofs.put.prepare_range.Goals as goal

pub block_size-size-requires : goal.block_size-size-requires
block_size-size-requires g c =
    omega (arith, rw level4_log at (c.requires.tree.levels.logs 4 (omega arith, omega arith)).1)

pub loop-done-init : goal.loop-done-init
loop-done-init g c =
    let space = g.S.Space in
    let base = space.state c.args.base.now in
    record {
      within = omega arith;
      readied = λ told ready.
          range_start base.shape c.args.difi.now c.args.master.now c.requires.tree c.args.at c.args.n
          c.requires.inside base.cells base.cells base.cells
          c.args.state.now c.args.state.now c.args.state.now
          (true-remembers base.cells c.args.master.now c.args.difi.now c.args.state.now (and_parts _ _ told).1);
      marks = MarksWithin-same (IsInPaths c.args.difi.now c.args.at c.args.n) c.args.state.now;
      writes = Writes-read space.state space.keeps space.lands (RangeSites c.args.difi.now c.args.at c.args.n)
          c.args.base.now c.args.base.now
          None
          (g.met.S.Space.keeps_hold c.args.base.now c.args.base.now) tt
          (Reads-same space.state space.keeps space.lands g.met.S.Space.keeps_same c.args.base.now);
    }

pub overflow_add-place : goal.overflow_add-place
overflow_add-place g c =
    let base = (g.S.Space.state c.args.base.now).shape in
    let difi = c.args.difi.now in
    let inside = c.requires.tree.levels.inside 4 (omega arith, omega arith) in
    omega (arith, c.loop-done-test.true, c.requires.inside, level4_size difi, inside, c.requires.tree.levels.small)

pub prepare-requires-clause-made : goal.prepare-requires-clause-made
prepare-requires-clause-made g c = made_later c.args.difi.now c.args.state.now c.loop-done.state
    c.loop-done.invariant.marks.many c.requires.made

pub prepare-requires-clause-there : goal.prepare-requires-clause-there
prepare-requires-clause-there g c =
    rw c.block_size-size.ensures
    (block_of_there c.args.difi.now (c.args.at + c.loop-done.done) (omega
    (arith, c.loop-done-test.true, c.requires.inside)))

pub returns-in-Err-clause-marks : goal.returns-in-Err-clause-marks
returns-in-Err-clause-marks g c =
    let block = (c.args.at + c.loop-done.done) / c.block_size-size.result in
    path_marks c.args.difi.now c.args.at c.args.n c.loop-done.done block c.loop-done-test.true
    (ap (λ (m : ℕ). (c.args.at + c.loop-done.done) / m) c.block_size-size.ensures) c.args.state.now c.loop-done.state
    c.prepare.new.state c.loop-done.invariant.marks c.in-Err.ensures.marks

pub returns-in-Err-clause-writes : goal.returns-in-Err-clause-writes
returns-in-Err-clause-writes g c =
    let space = g.S.Space in
    let block = (c.args.at + c.loop-done.done) / c.block_size-size.result in
    path_writes c.args.difi.now c.args.at c.args.n c.loop-done.done block c.loop-done-test.true
    (ap (λ (m : ℕ). (c.args.at + c.loop-done.done) / m) c.block_size-size.ensures) space.state space.keeps space.lands
    g.met.S.Space.keeps_join c.args.base.now c.loop-done.base c.prepare.new.base (Some c.in-Err.bad)
    c.loop-done.invariant.writes c.in-Err.ensures.writes

pub loop-done-preserved : goal.loop-done-preserved
loop-done-preserved g c =
    let space = g.S.Space in
    let difi = c.args.difi.now in
    let master = c.args.master.now in
    let at = c.args.at in
    let n = c.args.n in
    let old = space.state c.args.base.now in
    let mid = space.state c.loop-done.base in
    let new = space.state c.prepare.new.base in
    let done = c.loop-done.done in
    let size = c.block_size-size.result in
    let block = (at + done) / size in
    let is = ap (λ (m : ℕ). (at + done) / m) c.block_size-size.ensures in
    let before = c.loop-done.invariant in
    let less = c.loop-done-test.true in
    let run = c.min-done.result in
    let short = rw c.block_size-size.ensures at c.min-done.ensures in
    record {
      within = omega (arith, c.min-done.ensures, before.within);
      readied = λ told ready.
          (let range = before.readied told ready in
          let known = remembers-true mid.cells master difi c.loop-done.state range.remembers in
          let mid_told = and_from _ _ (before.writes.space.told (and_parts _ _ told).0) known in
          let unspoilt = next_unspoilt old.shape difi master c.requires.tree at n c.requires.inside old.cells
          mid.cells new.cells
          c.args.state.now c.loop-done.state c.prepare.new.state done less range ready in
          let path = rw is at (c.in-Ok.ensures.readied mid_told) in
          range_more old.shape difi master c.requires.tree at n c.requires.inside old.cells mid.cells new.cells
          c.args.state.now c.loop-done.state c.prepare.new.state done less range run (omega (arith, short))
          (path unspoilt));
      marks = path_marks difi at n done block less is c.args.state.now c.loop-done.state c.prepare.new.state
          before.marks c.in-Ok.ensures.marks;
      writes = path_writes difi at n done block less is space.state space.keeps space.lands g.met.S.Space.keeps_join
          c.args.base.now c.loop-done.base c.prepare.new.base None before.writes c.in-Ok.ensures.writes;
    }

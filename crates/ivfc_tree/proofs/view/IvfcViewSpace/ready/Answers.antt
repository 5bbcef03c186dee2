use Rattle.std.proofs.Common.{None, Some, arith}
use Rattle.ivfc_tree.specs.Held.{shown, HashKeeps, hash_lands}
use Rattle.ivfc_tree.specs.KeepLaws.{HashKeeps-join, shown_fits}
use Rattle.save_bytes.proofs.CallLemmas.{Reads-join}
use Rattle.ivfc_tree.proofs.ViewLemmas.{unspoilt_more}
use Rattle.ivfc_tree.proofs.view.IvfcViewSpace.ready.Goals as goal

pub overflow_add-at : goal.overflow_add-at
overflow_add-at g c =
    let space = g.S.Space in
    let fits = shown_fits space.state g.met.S.Space.size_fits c.args.self.now c.requires.sound in
    omega (arith, fits, c.requires.inside, c.loop-done.invariant.within)

pub loop-done-preserved : goal.loop-done-preserved
loop-done-preserved g c =
    let space = g.S.Space in
    let before = c.loop-done.invariant in
    let run = c.in-Ok.ensures in
    record {
      within = omega (arith, run.ready.bounded, before.within, c.loop-done-test.true);
      unspoilt = λ told. unspoilt_more (shown space.state c.args.self.now) (shown space.state c.loop-done.self)
          c.args.at
          c.loop-done.done c.in-Ok.run'
          (omega (arith, run.ready.bounded, before.within, c.requires.inside))
          (before.reads.stays.cells told) (before.unspoilt told)
          (run.ready.unspoilt (before.reads.stays.space.told told));
      reads = Reads-join (shown space.state) (HashKeeps space.keeps) (hash_lands space.lands)
          (HashKeeps-join space.keeps g.met.S.Space.keeps_join) c.args.self.now c.loop-done.self c.ready_run.new.self
          None
          before.reads run.reads;
    }

pub returns-in-Err-clause-reads : goal.returns-in-Err-clause-reads
returns-in-Err-clause-reads g c =
    let space = g.S.Space in
    Reads-join (shown space.state) (HashKeeps space.keeps) (hash_lands space.lands)
    (HashKeeps-join space.keeps g.met.S.Space.keeps_join) c.args.self.now c.loop-done.self c.ready_run.new.self
    (Some c.in-Err.bad)
    c.loop-done.invariant.reads c.in-Err.ensures.reads

use Rattle.std.proofs.Common.{refl, Some, ◌++◌, ◌∷◌, [], arith}
use Rattle.save_bytes.proofs.CallLemmas.{Reads-same, reads_then}
use Rattle.held_lists.proofs.TakeLemmas.{takes_none}
use Rattle.held_lists.proofs.WalkLemmas.{walked_later, faults_later}
use Rattle.held_lists.proofs.walk.hold_list.Goals as goal

pub loop-at-init : goal.loop-at-init
loop-at-init g c = record {
  next = c.requires.first;
  passed = omega arith;
  room = λ entry h. h;
  walked = λ told. (
    [],
    record {
      linked = tt;
      starts = refl;
      named = c.requires.first;
      led = refl;
      passed = refl;
      takes = takes_none c.args.held.now;
    },
  );
  reads = Reads-same g.S.Space.state g.S.Space.keeps g.S.Space.lands g.met.S.Space.keeps_same c.args.base.now;
}

pub loop-at-preserved : goal.loop-at-preserved
loop-at-preserved g c =
    let before = c.loop-at.invariant in
    let step = c.in-Ok.ensures in
    record {
      next = step.next;
      passed = step.bounded;
      room = λ entry h. step.room entry (before.room entry h);
      walked = λ told. (
        (before.walked told).0 ++ c.in-Ok.field-0 ∷ [],
        walked_later c.requires.table before.reads.stays step.walked told c.args.lead c.args.first c.args.held.now
            (before.walked told).0 (before.walked told).1,
      );
      reads = reads_then g.met.S.Space.keeps_join before.reads step.reads;
    }

pub returns-in-Err-clause-faults : goal.returns-in-Err-clause-faults
returns-in-Err-clause-faults g c =
    let before = c.loop-at.invariant in
    faults_later c.requires.table before.reads.stays c.args.lead c.args.first c.args.held.now
    c.loop-at.at c.loop-at.held (Some c.in-Err.fault) before.walked c.in-Err.ensures.faults

pub returns-in-Err-clause-reads : goal.returns-in-Err-clause-reads
returns-in-Err-clause-reads g c =
    reads_then g.met.S.Space.keeps_join c.loop-at.invariant.reads c.in-Err.ensures.reads

use Rattle.std.proofs.Common.{◌-◌, Some, ◌∙◌, arith}
use Rattle.save_bytes.proofs.CallLemmas.{reads_then}
use Rattle.chain_nodes.specs.Runs.{IsReached}
use Rattle.chain_nodes.proofs.ListLemmas.{list_faults_later, said_later, rest_later}
use Rattle.chain_nodes.proofs.walk.seek.Goals as goal

pub returns-in-Err-clause-faults : goal.returns-in-Err-clause-faults
returns-in-Err-clause-faults g c =
    let before = c.loop-cursor.invariant in
    list_faults_later c.requires.table before.reads.stays c.args.first c.loop-cursor.cursor
    (Some c.in-Err.fault) before.opens
    before.first before.reached c.in-Err.ensures.faults

pub returns-in-Err-clause-reads : goal.returns-in-Err-clause-reads
returns-in-Err-clause-reads g c =
    reads_then g.met.S.Space.keeps_join c.loop-cursor.invariant.reads c.in-Err.ensures.reads

pub loop-cursor-preserved : goal.loop-cursor-preserved
loop-cursor-preserved g c =
    let before = c.loop-cursor.invariant in
    let step = c.in-Ok.ensures in
    record {
      opens = step.opens ∙ before.opens;
      first = step.first ∙ before.first;
      next = step.next;
      passed = step.bounded;
      before = omega arith;
      reached = λ told. said_later c.requires.table before.reads.stays
          (λ t l f. IsReached t c.args.info.count l f c.in-Ok.step.1) c.args.first c.loop-cursor.cursor before.opens
          before.first step.reached told
          (before.reached told);
      reads = reads_then g.met.S.Space.keeps_join before.reads step.reads;
    }

pub returns-then-from-behind-clause-run : goal.returns-then-from-behind-clause-run
returns-then-from-behind-clause-run g c = λ told.
    let before = c.loop-cursor.invariant in
    let cursor = c.loop-cursor.cursor in
    let step = c.in-Ok.ensures in
    rest_later c.requires.table before.reads.stays c.args.first cursor c.args.pos
    (c.args.pos - cursor.passed) c.in-Ok.step.0
    before.opens before.first step.run (omega (arith, before.before)) (omega
    (arith, before.before, step.passed)) told (before.reached told)

pub returns-then-from-behind-clause-reads : goal.returns-then-from-behind-clause-reads
returns-then-from-behind-clause-reads g c =
    reads_then g.met.S.Space.keeps_join c.loop-cursor.invariant.reads c.in-Ok.ensures.reads

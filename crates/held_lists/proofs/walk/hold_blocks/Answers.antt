use Rattle.std.proofs.Common.{refl, Some, ◌∙◌, ℕ, ◌-◌, ◌++◌, ◌∷◌, [], arith, length}
use Rattle.std.proofs.Common.{length-append, List, ap}
use Rattle.std.specs.List.{range_with_len}
use Rattle.std.proofs.lemmas.List.FromFn.{length-range_with_len}
use Rattle.save_bytes.proofs.CallLemmas.{Reads-same, reads_then}
use Rattle.chain_nodes.specs.declared.node.Lead.TheVariants.{Opens}
use Rattle.held_lists.proofs.TakeLemmas.{takes_none}
use Rattle.held_lists.proofs.WalkLemmas.{walked_later, faults_later}
use Rattle.held_lists.proofs.RunLemmas.{blocks_more, none_yet}
use Rattle.held_lists.proofs.walk.hold_blocks.Goals as goal

pub loop-at-init : goal.loop-at-init
loop-at-init g c = record {
  next = c.requires.first.inside;
  passed = omega arith;
  room = λ entry h. h;
  len = omega arith;
  inside = λ old. old;
  walked = λ told. (
    [],
    (
      record {
        linked = tt;
        starts = refl;
        named = c.requires.first.inside;
        led = refl;
        passed = refl;
        takes = takes_none c.args.held.now;
      },
      none_yet c.args.most c.args.blocks.now.items,
    ),
  );
  reads = Reads-same g.S.Space.state g.S.Space.keeps g.S.Space.lands g.met.S.Space.keeps_same c.args.base.now;
}

pub loop-at-preserved : goal.loop-at-preserved
loop-at-preserved g c =
    let before = c.loop-at.invariant in
    let step = c.in-Ok.ensures in
    record {
      next = step.next;
      passed = step.bounded;
      room = λ entry h. step.room entry (before.room entry h);
      len = omega (
        arith,
        ap (λ (l : List ℕ). length l) c.in-Ok-push_run.ensures.added,
        length-append c.loop-at.blocks.items (range_with_len (c.in-Ok.node.first - 1) c.wanted-n.result),
        length-range_with_len (c.in-Ok.node.first - 1) c.wanted-n.result,
        c.wanted-n.ensures,
        step.passed,
        before.len,
      );
      inside = λ old. c.in-Ok-push_run.ensures.below c.args.info.count
          (omega (arith, c.wanted-n.ensures, step.some, step.inside, step.ordered, step.passed)) (before.inside old);
      walked = λ told. (
        (before.walked told).0 ++ c.in-Ok.node ∷ [],
        (
          walked_later c.requires.table before.reads.stays step.walked told Opens c.args.first c.args.held.now
              (before.walked told).0 (before.walked told).1.0,
          c.in-Ok-push_run.ensures.added ∙ blocks_more c.args.most c.loop-at.at.passed (before.walked told).0 c.in-Ok.node
              c.loop-at.blocks.items c.args.blocks.now.items c.wanted-n.result step.some
              (before.walked told).1.0.passed (before.walked told).1.1 (omega (arith, c.wanted-n.ensures, step.passed)),
        ),
      );
      reads = reads_then g.met.S.Space.keeps_join before.reads step.reads;
    }

pub returns-in-Err-clause-faults : goal.returns-in-Err-clause-faults
returns-in-Err-clause-faults g c =
    let before = c.loop-at.invariant in
    faults_later c.requires.table before.reads.stays Opens c.args.first c.args.held.now
    c.loop-at.at c.loop-at.held (Some c.in-Err.fault) (λ told. ((before.walked told).0, (before.walked told).1.0))
    c.in-Err.ensures.faults

pub returns-in-Err-clause-reads : goal.returns-in-Err-clause-reads
returns-in-Err-clause-reads g c =
    reads_then g.met.S.Space.keeps_join c.loop-at.invariant.reads c.in-Err.ensures.reads

pub returns-in-Err-push_run-clause-reads : goal.returns-in-Err-push_run-clause-reads
returns-in-Err-push_run-clause-reads g c =
    reads_then g.met.S.Space.keeps_join c.loop-at.invariant.reads c.in-Ok.ensures.reads

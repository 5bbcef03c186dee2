use Rattle.std.proofs.Common.{arith}
use Rattle.dpfs_tree.proofs.ViewLemmas.{rest_len, rest_put, rest_refused}
use Rattle.dpfs_tree.proofs.write.put_in.Goals as goal

pub loop-done-preserved : goal.loop-done-preserved
loop-done-preserved g c =
    let space = g.S.Space in
    let before = c.loop-done.invariant in
    let step = c.in-Ok.ensures in
    let bytes = c.args.bytes.now in
    let done = c.loop-done.done in
    let len = rest_len space.state space.keeps space.lands g.met.S.Space.keeps_join c.args.base.now c.loop-done.base
    c.put_run.new.base
    c.args.part_at c.args.difi.now c.args.state.now c.loop-done.state c.put_run.new.state c.args.at c.requires.tree
    bytes done
    before.within c.requires.inside before.into in
    record {
      within = omega (arith, len, step.count.1, before.within);
      into = rest_put space.state space.keeps space.lands g.met.S.Space.keeps_join c.args.base.now c.loop-done.base
          c.put_run.new.base
          c.args.part_at c.args.difi.now c.args.state.now c.loop-done.state c.put_run.new.state c.args.at
          c.requires.tree bytes done
          before.within c.requires.inside before.into c.in-Ok.n step.count.1 step.into;
    }

pub returns-in-Err : goal.returns-in-Err
returns-in-Err g c =
    let space = g.S.Space in
    let before = c.loop-done.invariant in
    rest_refused space.state space.keeps space.lands g.met.S.Space.keeps_join c.args.base.now c.loop-done.base
    c.put_run.new.base
    c.args.part_at c.args.difi.now c.args.state.now c.loop-done.state c.put_run.new.state c.args.at c.requires.tree
    c.args.bytes.now
    c.loop-done.done before.within c.requires.inside before.into c.in-Err.bad c.in-Err.ensures.into

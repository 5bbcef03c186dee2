use Rattle.std.proofs.Common.{None, Some, ap, arith}
use Rattle.save_bytes.specs.State.{Shape}
use Rattle.ivfc_tree.specs.Levels.{IsLevel}
use Rattle.ivfc_tree.specs.Marks.{is_marked}
use Rattle.ivfc_tree.proofs.SealStepLemmas.{CountsOn-join, levels_more, level_sealed, seals_tree}
use Rattle.ivfc_tree.proofs.seal.seal_in.Goals as goal

pub returns-in-Err : goal.returns-in-Err
returns-in-Err g c =
    let space = g.S.Space in
    let marked = is_marked c.args.state.now in
    let before = c.loop-level.invariant in
    let more = level_sealed space.state space.keeps space.lands g.met.S.Space.keeps_join c.args.difi.now
    c.args.state.now c.loop-level.state c.loop-level.level c.args.base.now c.loop-level.base c.seal_level.new.base
    c.args.master.now c.loop-level.master c.seal_level.new.master (Some c.in-Err.bad) before.counts before.writes
    before.master c.in-Err.ensures.seals in
    record {
      counts = CountsOn-join c.args.state.now c.loop-level.state c.seal_level.new.state before.counts
          c.in-Err.ensures.counts;
      seals = seals_tree space.state space.keeps space.lands c.args.base.now c.seal_level.new.base c.args.difi.now
          marked c.args.master.now c.seal_level.new.master (Some c.in-Err.bad) c.requires (λ told. tt) more.writes
          more.entries;
    }

pub loop-level-preserved : goal.loop-level-preserved
loop-level-preserved g c =
    let space = g.S.Space in
    let old = space.state c.args.base.now in
    let now = space.state c.loop-level.base in
    let new = space.state c.seal_level.new.base in
    let difi = c.args.difi.now in
    let marked = is_marked c.args.state.now in
    let before = c.loop-level.invariant in
    let level = c.loop-level.level in
    let more = level_sealed space.state space.keeps space.lands g.met.S.Space.keeps_join difi c.args.state.now
    c.loop-level.state level c.args.base.now c.loop-level.base c.seal_level.new.base c.args.master.now
    c.loop-level.master c.seal_level.new.master None before.counts before.writes before.master
    c.in-Ok.ensures.seals in
    let size = ap (λ (shape : Shape). shape.size) before.writes.space.shape in
    let there : IsLevel level = (omega (arith, c.loop-level-test.true), before.within) in
    record {
      within = omega (arith, before.within);
      digests = λ told.
          (let told_now = before.writes.space.told told in
          levels_more old.shape difi _ c.requires marked level now.cells new.cells c.loop-level.master
          c.seal_level.new.master there (λ x inside. more.sealed.writes.others told_now x (omega (arith, inside, size)))
          more.sealed.master_hash (before.digests told) (more.sealed.digests told_now));
      writes = more.writes;
      master = more.entries;
      counts = CountsOn-join c.args.state.now c.loop-level.state c.seal_level.new.state before.counts
          c.in-Ok.ensures.counts;
    }

pub returns-clause-seals : goal.returns-clause-seals
returns-clause-seals g c =
    let space = g.S.Space in
    let before = c.loop-level.invariant in
    seals_tree space.state space.keeps space.lands c.args.base.now c.loop-level.base c.args.difi.now
    (is_marked c.args.state.now) c.args.master.now c.loop-level.master None c.requires
    (λ told level some. before.digests told level (omega (arith, c.loop-level-test.false, some))) before.writes
    before.master

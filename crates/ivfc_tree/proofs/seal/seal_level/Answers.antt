use Rattle.std.proofs.Common.{ℕ, Bool, None, Some, ap, subst, arith}
use Rattle.save_bytes.specs.State.{Shape}
use Rattle.save_bytes.proofs.WriteLemmas.{Writes-then}
use Rattle.ivfc_tree.specs.Levels.{HasBlock}
use Rattle.ivfc_tree.specs.Marks.{is_marked}
use Rattle.ivfc_tree.specs.Seals.{MarkedEntry, MarkedFirst, LevelSites, MasterSites, SealsMarked}
use Rattle.ivfc_tree.proofs.EntryLemmas.{DiffersAt-then}
use Rattle.ivfc_tree.proofs.SealStepLemmas.{marked-counts, CountsOn-join, digests_more}
use Rattle.ivfc_tree.proofs.seal.seal_level.Goals as goal

pub returns-in-Err : goal.returns-in-Err
returns-in-Err g c =
    let space = g.S.Space in
    let difi = c.args.difi.now in
    let marked = is_marked c.args.state.now in
    let before = c.loop-block.invariant in
    let sealed = subst (λ (m : ℕ → ℕ → Bool). SealsMarked space.state space.keeps space.lands difi m c.args.level
    c.loop-block.block c.loop-block.base c.loop-block.master c.seal_marked.new.base c.seal_marked.new.master
    (Some c.in-Err.bad))
    (marked-counts c.args.state.now c.loop-block.state before.counts) c.in-Err.ensures.seals in
    record {
      counts = CountsOn-join c.args.state.now c.loop-block.state c.seal_marked.new.state before.counts
          c.in-Err.ensures.counts;
      seals = record {
        digests = λ told. tt;
        writes = Writes-then space.state space.keeps space.lands g.met.S.Space.keeps_join (LevelSites difi marked
            c.args.level)
            (MarkedEntry difi marked c.args.level c.loop-block.block) c.args.base.now c.loop-block.base
            c.seal_marked.new.base (Some c.in-Err.bad) (λ told x inside site. (c.loop-block.block, site))
            before.writes
            sealed.writes;
        master_hash = DiffersAt-then (MasterSites difi marked c.args.level)
            (MarkedFirst difi marked c.args.level c.loop-block.block) c.args.master.now c.loop-block.master
            c.seal_marked.new.master (λ x site. (c.loop-block.block, site)) before.master sealed.master_hash;
      };
    }

pub loop-block-preserved : goal.loop-block-preserved
loop-block-preserved g c =
    let space = g.S.Space in
    let old = space.state c.args.base.now in
    let now = space.state c.loop-block.base in
    let new = space.state c.seal_marked.new.base in
    let difi = c.args.difi.now in
    let marked = is_marked c.args.state.now in
    let before = c.loop-block.invariant in
    let sealed = subst (λ (m : ℕ → ℕ → Bool). SealsMarked space.state space.keeps space.lands difi m c.args.level
    c.loop-block.block c.loop-block.base c.loop-block.master c.seal_marked.new.base c.seal_marked.new.master None)
    (marked-counts c.args.state.now c.loop-block.state before.counts) c.in-Ok.ensures.seals in
    let size = ap (λ (shape : Shape). shape.size) before.writes.space.shape in
    let there : HasBlock difi c.args.level c.loop-block.block = record {
      in_tree = c.requires.there;
      in_level = omega (arith, c.loop-block-test.true, c.blocks_in-blocks.ensures);
    } in
    record {
      within = omega (arith, c.loop-block-test.true);
      digests = λ told.
          (let told_now = before.writes.space.told told in
          digests_more old.shape difi _ c.requires.tree marked c.args.level now.cells new.cells c.loop-block.master
          c.seal_marked.new.master c.loop-block.block there
          (λ x inside. sealed.writes.others told_now x (omega (arith, inside, size))) sealed.master_hash
          (before.digests told) (sealed.entry told_now));
      writes = Writes-then space.state space.keeps space.lands g.met.S.Space.keeps_join (LevelSites difi marked
          c.args.level)
          (MarkedEntry difi marked c.args.level c.loop-block.block) c.args.base.now c.loop-block.base
          c.seal_marked.new.base None (λ told x inside site. (c.loop-block.block, site)) before.writes sealed.writes;
      master = DiffersAt-then (MasterSites difi marked c.args.level)
          (MarkedFirst difi marked c.args.level c.loop-block.block) c.args.master.now c.loop-block.master
          c.seal_marked.new.master (λ x site. (c.loop-block.block, site)) before.master sealed.master_hash;
      counts = CountsOn-join c.args.state.now c.loop-block.state c.seal_marked.new.state before.counts
          c.in-Ok.ensures.counts;
    }

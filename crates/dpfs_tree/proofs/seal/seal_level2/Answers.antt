use Rattle.std.proofs.Common.{None, Some, ap, arith}
use Rattle.save_bytes.specs.State.{Shape}
use Rattle.save_bytes.proofs.WriteLemmas.{Writes-then}
use Rattle.dpfs_tree.specs.Picks.{bytes_of}
use Rattle.dpfs_tree.specs.Seals.{SealsBlock, SealsLevel2}
use Rattle.dpfs_tree.proofs.SealedLemmas.{block_site, sealed_more}
use Rattle.dpfs_tree.proofs.seal.seal_level2.Goals as goal

pub returns-in-Err-clause-writes : goal.returns-in-Err-clause-writes
returns-in-Err-clause-writes g c =
    let space = g.S.Space in
    let before = c.loop-block.invariant in
    let old = space.state c.args.base.now in
    let now = space.state c.loop-block.base in
    let difi = c.args.difi.now in
    let state = c.args.state.now in
    Writes-then space.state space.keeps space.lands g.met.S.Space.keeps_join
    (SealsLevel2 (bytes_of old.cells) c.args.part_at difi state)
    (SealsBlock (bytes_of now.cells) c.args.part_at difi state c.loop-block.block) c.args.base.now c.loop-block.base
    c.seal_touched.new.base (Some c.in-Err.bad)
    (λ told x inside site. block_site old.shape c.args.part_at difi state c.requires.tree old.cells now.cells
    c.loop-block.block
    (before.writes.others told) x site) before.writes c.in-Err.ensures.writes

pub loop-block-preserved : goal.loop-block-preserved
loop-block-preserved g c =
    let space = g.S.Space in
    let before = c.loop-block.invariant in
    let old = space.state c.args.base.now in
    let now = space.state c.loop-block.base in
    let new = space.state c.seal_touched.new.base in
    let difi = c.args.difi.now in
    let state = c.args.state.now in
    let size = ap (λ (shape : Shape). shape.size) before.writes.space.shape in
    record {
      within = omega (arith, c.loop-block-test.true, c.level2_blocks.ensures);
      sealed = λ told.
          (let told_now = before.writes.space.told told in
          sealed_more old.shape c.args.part_at difi state c.requires.tree old.cells now.cells new.cells
          c.loop-block.block
          (before.writes.others told)
          (λ x inside off. c.in-Ok.ensures.writes.others told_now x (omega (arith, inside, size)) off)
          (before.sealed told) (c.in-Ok.ensures.sealed told_now));
      writes = Writes-then space.state space.keeps space.lands g.met.S.Space.keeps_join
          (SealsLevel2 (bytes_of old.cells) c.args.part_at difi state)
          (SealsBlock (bytes_of now.cells) c.args.part_at difi state c.loop-block.block) c.args.base.now
          c.loop-block.base
          c.seal_touched.new.base None
          (λ told x inside site. block_site old.shape c.args.part_at difi state c.requires.tree old.cells now.cells
          c.loop-block.block
          (before.writes.others told) x site) before.writes c.in-Ok.ensures.writes;
    }

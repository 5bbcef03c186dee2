use Rattle.std.proofs.Common.{◌-◌, None, Some, inl, inr, ap, arith}
use Rattle.save_bytes.specs.State.{Shape}
use Rattle.save_bytes.proofs.WriteLemmas.{writes_both}
use Rattle.dpfs_tree.specs.Picks.{bytes_of}
use Rattle.dpfs_tree.specs.Seals.{SealsLevel1, SealsLevel2, SealWrites}
use Rattle.dpfs_tree.proofs.SealedLemmas.{seal_chosen, seal_kept}
use Rattle.dpfs_tree.proofs.seal.seal_in.Goals as goal

pub returns-in-Ok-seal_level1 : goal.returns-in-Ok-seal_level1
returns-in-Ok-seal_level1 g c =
    let space = g.S.Space in
    let old = space.state c.args.base.now in
    let mid = space.state c.seal_level2.new.base in
    let new = space.state c.seal_level1.new.base in
    let difi = c.args.difi.now in
    let state = c.args.state.now in
    let first = c.in-Ok.ensures in
    let second = c.in-Ok-seal_level1.ensures in
    let size = ap (λ (shape : Shape). shape.size) first.writes.space.shape in
    let writes = writes_both space.state space.keeps space.lands g.met.S.Space.keeps_join
    (SealsLevel2 (bytes_of old.cells) c.args.part_at difi state) (SealsLevel1 c.args.part_at difi state.selector)
    (SealWrites (bytes_of old.cells) c.args.part_at difi state) c.args.base.now c.seal_level2.new.base
    c.seal_level1.new.base None
    (λ x site. inr site) (λ x site. inl site) first.writes second.writes in
    record {
      selector = ap (λ s. 1 - s) c.selector.ensures;
      chosen_bytes = λ told.
          (let told_mid = first.writes.space.told told in
          rw c.selector.ensures
          (seal_chosen old.shape c.args.part_at difi state c.requires.tree old.cells mid.cells new.cells
          (first.writes.others told) (λ x inside off. second.writes.others told_mid x (omega (arith, inside, size)) off)
          (first.sealed told) (second.sealed told_mid)));
      shown = seal_kept space.state space.keeps space.lands c.args.base.now c.seal_level1.new.base c.args.part_at difi
          state None
          c.requires.tree writes;
      writes = writes;
    }

pub returns-in-Err-seal_level1 : goal.returns-in-Err-seal_level1
returns-in-Err-seal_level1 g c =
    let space = g.S.Space in
    let old = space.state c.args.base.now in
    let difi = c.args.difi.now in
    let state = c.args.state.now in
    let refusal = Some c.in-Err-seal_level1.bad in
    let writes = writes_both space.state space.keeps space.lands g.met.S.Space.keeps_join
    (SealsLevel2 (bytes_of old.cells) c.args.part_at difi state) (SealsLevel1 c.args.part_at difi state.selector)
    (SealWrites (bytes_of old.cells) c.args.part_at difi state) c.args.base.now c.seal_level2.new.base
    c.seal_level1.new.base refusal
    (λ x site. inr site) (λ x site. inl site) c.in-Ok.ensures.writes c.in-Err-seal_level1.ensures.writes in
    record {
      selector = tt;
      chosen_bytes = λ told. tt;
      shown = seal_kept space.state space.keeps space.lands c.args.base.now c.seal_level1.new.base c.args.part_at difi
          state refusal
          c.requires.tree writes;
      writes = writes;
    }

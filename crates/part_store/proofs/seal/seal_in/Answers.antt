use Rattle.std.proofs.Common.{arith}
use Rattle.part_store.proofs.PatchLemmas.{seals_refused, sealed_patched}
use Rattle.part_store.proofs.seal.seal_in.Goals as goal

pub returns-in-Err : goal.returns-in-Err
returns-in-Err g c = record {
  trees = c.in-Err.ensures.trees;
  descriptor = seals_refused (g.S.Space.state c.args.base.now).shape c.args.part.now c.args.table.now c.requires
      c.seal_trees.new.table c.in-Err.ensures.master c.in-Err.bad;
  cells = λ told. tt;
}

pub returns : goal.returns
returns g c =
    let space = g.S.Space in
    sealed_patched space.state space.keeps space.lands c.args.base.now c.args.part.now c.args.table.now c.requires
    c.seal_trees.new.base
    c.seal_trees.new.part c.seal_trees.new.table c.patch.new.table c.in-Ok.selector c.in-Ok.ensures.master
    c.in-Ok.ensures.trees
    c.patch.ensures.byte (omega (arith, c.in-Ok.ensures.trees.selector))

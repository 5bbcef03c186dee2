use Rattle.std.proofs.Common.{arith}
use Rattle.ivfc_tree.specs.ViewLaws.{block_of_there}
use Rattle.ivfc_tree.specs.KeepLaws.{shown_can}
use Rattle.ivfc_tree.proofs.ViewLemmas.{unspoilt_run}
use Rattle.ivfc_tree.proofs.view.IvfcView.ready_run.Goals as goal

pub block_size-requires : goal.block_size-requires
block_size-requires g c =
    let space = g.S.Space in
    (shown_can space.state g.met.S.Space.size_fits c.args.self.now c.requires.inside.sound).block_sizes.ivfc4.1

pub rest_of_block-requires-clause-log : goal.rest_of_block-requires-clause-log
rest_of_block-requires-clause-log g c =
    let space = g.S.Space in
    (shown_can space.state g.met.S.Space.size_fits c.args.self.now c.requires.inside.sound).block_sizes.ivfc4.1

pub found-requires-clause-there : goal.found-requires-clause-there
found-requires-clause-there g c = rw c.block_size.ensures
    (block_of_there c.args.self.now.difi.now c.args.at (omega (arith, c.requires.inside.inside)))

pub returns-in_default : goal.returns-in_default
returns-in_default g c =
    let view = c.args.self.now in
    record {
      ready = unspoilt_run (g.S.Space.state view.base.now) view.part view.master.now view.difi.now view.state.now
          c.args.at
          (omega (arith, c.requires.inside.inside)) c.args.most _ c.requires.some c.in-Ok.found
          (λ told. rw c.block_size.ensures at c.in-Ok.ensures.found told)
          c.in_default.not-Bad
          (rw c.rest_of_block.ensures at c.min-rest.ensures);
      reads = c.in-Ok.ensures.reads;
    }

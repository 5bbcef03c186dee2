use Rattle.std.proofs.Common.{refl}
use Rattle.std.specs.Result.{result_err}
use Rattle.ivfc_tree.specs.KeepLaws.{shown_can, shown_tree}
use Rattle.ivfc_tree.proofs.ViewLemmas.{hashed_read}
use Rattle.ivfc_tree.proofs.view.IvfcView.found.Goals as goal

pub block_state-requires-clause-tree : goal.block_state-requires-clause-tree
block_state-requires-clause-tree g c =
    let space = g.S.Space in
    shown_tree space.state g.met.S.Space.size_fits c.args.self.now c.requires.sound

pub block_state-requires-clause-made : goal.block_state-requires-clause-made
block_state-requires-clause-made g c =
    let space = g.S.Space in
    (shown_can space.state g.met.S.Space.size_fits c.args.self.now c.requires.sound).made

pub returns-clause-reads : goal.returns-clause-reads
returns-clause-reads g c =
    let space = g.S.Space in
    let tree = shown_tree space.state g.met.S.Space.size_fits c.args.self.now c.requires.sound in
    hashed_read space.state space.keeps space.lands c.args.level c.args.block c.args.self.now _
    (result_err c.block_state.result)
    (record {
      hold = record {
        same_base = refl;
        same_part = refl;
        same_difi = refl;
        same_master = refl;
        master_len = refl;
        same_state = refl;
        marks = c.block_state.ensures.finds.learns.many;
      };
      master_now = refl;
      learns = c.block_state.ensures.finds.learns;
    })
    tree c.block_state.ensures.finds.told c.block_state.ensures.reads

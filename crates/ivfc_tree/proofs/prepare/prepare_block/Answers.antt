use Rattle.ivfc_tree.proofs.MarkLemmas.{mark_there}
use Rattle.ivfc_tree.proofs.prepare.prepare_block.Goals as goal

pub mark-requires-clause-block : goal.mark-requires-clause-block
mark-requires-clause-block g c = mark_there c.args.difi.now c.args.state.now c.args.level c.args.block c.requires.made
    c.requires.there

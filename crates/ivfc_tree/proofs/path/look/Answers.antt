use Rattle.ivfc_tree.proofs.MarkLemmas.{mark_there}
use Rattle.ivfc_tree.proofs.path.look.Goals as goal

pub note-requires-clause-block : goal.note-requires-clause-block
note-requires-clause-block g c =
    rw c.in-Ok.ensures.counts.marks
    (mark_there c.args.difi.now c.args.state.now c.args.level c.args.block c.requires.made c.requires.there)

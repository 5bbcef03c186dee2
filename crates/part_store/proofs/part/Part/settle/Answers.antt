use Rattle.std.proofs.Common.{refl}
use Rattle.dpfs_tree.specs.Picks.{bytes_of}
use Rattle.part_store.proofs.EndLemmas.{no_changes, tells_settled}
use Rattle.part_store.proofs.part.Part.settle.Goals as goal

pub returns-clause-unchanged : goal.returns-clause-unchanged
returns-clause-unchanged c =
    let settled = c.settle.ensures in
    no_changes _ _ settled.settled.selects settled.chosen c.settle-2.ensures.unmarked

pub returns-clause-tells : goal.returns-clause-tells
returns-clause-tells c =
    tells_settled _ _ _ refl refl refl (λ base x. c.settle.ensures.chosen
    (bytes_of base.cells) _ x _) c.settle-2.ensures.settles

use Rattle.container.proofs.OriginStartLemmas.{second_untouched}
use Rattle.container.proofs.KeptHeldLemmas.{held_begins, held_ends}
use Rattle.container.proofs.laws.spared_copies_are_held.Goals as goal

pub returns-clause-begins : goal.returns-clause-begins
returns-clause-begins c = λ sign image container is disk sound held.
    let parts = is.parts in
    held_begins image disk container sound held parts.first.untouched
    (second_untouched container.table.items container.header container.parts.second parts.second)

pub returns-clause-held : goal.returns-clause-held
returns-clause-held c = λ sign image was container is same none disk.
    let parts = is.parts in
    held_ends image disk container was same parts.first.untouched
    (second_untouched was.table.items was.header was.parts.second parts.second) none

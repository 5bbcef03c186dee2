use Rattle.container.proofs.OriginStartLemmas.{untouched_spared, spared_origin, second_untouched}
use Rattle.container.proofs.laws.spared_copies_are_the_origin.Goals as goal

pub returns-clause-begins : goal.returns-clause-begins
returns-clause-begins c = λ sign image container is disk.
    let parts = is.parts in
    untouched_spared disk container parts.first.untouched
    (second_untouched container.table.items container.header container.parts.second parts.second)

pub returns-clause-origins : goal.returns-clause-origins
returns-clause-origins c = λ was disk container. spared_origin disk container was

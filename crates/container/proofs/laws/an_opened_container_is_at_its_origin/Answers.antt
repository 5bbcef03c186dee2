use Rattle.container.proofs.OriginStartLemmas.{untouched_origin, second_untouched}
use Rattle.container.proofs.laws.an_opened_container_is_at_its_origin.Goals as goal

pub returns : goal.returns
returns c = λ sign image container is disk.
    let parts = is.parts in
    untouched_origin disk container parts.first.untouched
    (second_untouched container.table.items container.header container.parts.second parts.second)

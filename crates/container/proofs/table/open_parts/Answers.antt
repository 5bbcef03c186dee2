use Rattle.container.proofs.PartLemmas.{none_remembered}
use Rattle.container.proofs.table.open_parts.Goals as goal

pub returns-clause-told : goal.returns-clause-told
returns-clause-told c =
    none_remembered c.in_ok-first.first c.in_ok-second.second c.in_ok-first.ensures.told c.in_ok-second.ensures.told

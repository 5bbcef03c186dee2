use Rattle.std.proofs.Common.{refl}
use Rattle.part_store.specs.Spots.{SamePart}
use Rattle.part_store.specs.SpotLaws.{SamePart-same}
use Rattle.container.specs.StoreLaws.{second_same, SameContainer-join}
use Rattle.container.proofs.HeldLemmas.{whole_still}
use Rattle.container.proofs.laws.what_was_written_stays_whole.Goals as goal

pub returns-clause-whole : goal.returns-clause-whole
returns-clause-whole c = whole_still

pub returns-clause-begins : goal.returns-clause-begins
returns-clause-begins c = λ sign image container is.
    let parts = container.parts in
    record {
      was = container;
      opened = is;
      same = record {
        header = refl;
        first = SamePart-same parts.first;
        second = second_same SamePart SamePart-same parts.second;
        table = refl;
      };
    }

pub returns-clause-opened : goal.returns-clause-opened
returns-clause-opened c = λ old new same sign image h.
    record { was = h.was; opened = h.opened; same = SameContainer-join h.was old new h.same same }

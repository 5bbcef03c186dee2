use Rattle.save_bytes.specs.Spots.{Place}
use Rattle.container.proofs.OriginLemmas.{can_put}
use Rattle.container.proofs.SpareLemmas.{all_spared}
use Rattle.page_image.specs.Images.{image_state}
use Rattle.container.proofs.laws.what_is_put_spares_the_chosen_copies.Goals as goal

pub returns : goal.returns
returns g c = λ old new at n refusal sound moves told.
    let states = g.D.Disk.state in
    let container = old.container.now in
    let disk = states old.disk.now in
    let can = can_put (image_state disk container.image) container.parts.first container.parts.second
    container.table.items at n told in
    all_spared disk (states new.disk.now) container new.container.now moves.hold.0.container at n sound
    (λ place misses. (moves.spots can (Place place) misses).2)

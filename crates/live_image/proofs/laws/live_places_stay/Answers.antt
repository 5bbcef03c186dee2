use Rattle.live_image.proofs.ImageLemmas.{live_same}
use Rattle.live_image.proofs.laws.live_places_stay.Goals as goal

pub returns : goal.returns
returns c = live_same

use Rattle.live_image.proofs.WriteLemmas.{in_sector}
use Rattle.live_image.proofs.footprint.places_that_may_be_written_are_in_the_footprint.Goals as goal

pub returns : goal.returns
returns c = in_sector

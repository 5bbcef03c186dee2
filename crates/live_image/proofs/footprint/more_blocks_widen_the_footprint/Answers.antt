use Rattle.live_image.proofs.WriteLemmas.{footprint_more}
use Rattle.live_image.proofs.footprint.more_blocks_widen_the_footprint.Goals as goal

pub returns : goal.returns
returns c = footprint_more

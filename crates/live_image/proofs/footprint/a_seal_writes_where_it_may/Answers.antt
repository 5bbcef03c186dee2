use Rattle.std.proofs.Common.{arith}
use Rattle.live_image.specs.Footprint.{InPart}
use Rattle.live_image.proofs.ImageLemmas.{placed}
use Rattle.live_image.proofs.WriteLemmas.{seal_writes}
use Rattle.live_image.proofs.footprint.a_seal_writes_where_it_may.Goals as goal

pub returns : goal.returns
returns c = λ image blocks header part difi has state made selector marks place writes.
    let levels = (placed image header part difi has).levels in
    InPart header part difi has
    (seal_writes image header part difi (blocks part) levels.hash_levels state made
    (omega (arith, levels.block_sizes.dpfs2.0)) selector
    marks place writes)

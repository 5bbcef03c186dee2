use Rattle.live_image.specs.Footprint.{InPart}
use Rattle.live_image.proofs.ImageLemmas.{placed}
use Rattle.live_image.proofs.WriteLemmas.{put_writes}
use Rattle.live_image.proofs.footprint.a_put_writes_where_it_may.Goals as goal

pub returns : goal.returns
returns c = λ image blocks header part difi has four level at y in_four touched in_tree on_path beside inside.
    InPart header part difi has
    (put_writes image header part difi (blocks part)
    (placed image header part difi has).levels.hash_levels four level at y
    in_four touched in_tree on_path beside inside)

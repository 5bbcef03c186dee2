use Rattle.live_image.proofs.ApartLemmas.{live_in_front}
use Rattle.live_image.proofs.footprint.what_may_be_written_is_not_live.Goals as goal

pub returns : goal.returns
returns c = λ image blocks place may live. live_in_front image place blocks may live

use Rattle.std.proofs.Common.{length, take}
use Rattle.save_disk.specs.Stops.{Fits}
use Rattle.save_disk.proofs.Moments.{each_write-take, length-image_after}
use Rattle.save_disk.proofs.laws.writes_keep_the_length.Goals as goal

pub returns : goal.returns
returns c = λ grain start events fits moment. length-image_after grain start (take moment events)
    (each_write-take (Fits grain (length start)) moment events fits)

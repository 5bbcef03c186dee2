use Rattle.std.proofs.Common.{◌≡◌, List, ℕ, get_or, ◌∙◌, ap}
use Rattle.save_disk.specs.Tells.{image_told, image_of}
use Rattle.page_image.proofs.StoredLemmas.{image_synced}
use Rattle.page_image.proofs.WriteLemmas.{either_way}
use Rattle.page_image.proofs.image.Image.sync.Goals as goal

pub returns-clause-front : goal.returns-clause-front
returns-clause-front g c = λ stored x below.
    let d = g.D.Disk.state c.args.self.now.disk.now in
    let e = g.D.Disk.state c.sync.new.self in
    let same : image_told e ≡ image_told d =
    either_way c.sync.result (image_synced d e) (ap image_of) c.sync.ensures.synced c.sync.ensures.failed in
    ap (λ (l : List ℕ). get_or l x 0) same ∙ stored x below

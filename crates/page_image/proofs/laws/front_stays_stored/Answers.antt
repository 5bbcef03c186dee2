use Rattle.page_image.proofs.StoredLemmas.{front_stays}
use Rattle.page_image.proofs.laws.front_stays_stored.Goals as goal

pub returns : goal.returns
returns c = λ disk disk_new image image_new sound sound_now disk_of told leaves.
    front_stays disk disk_new image image_new sound sound_now disk_of told (λ x below. (leaves x below).1)

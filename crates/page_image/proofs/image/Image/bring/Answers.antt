use Rattle.page_image.proofs.DiskLemmas.{disk_of-true}
use Rattle.page_image.proofs.image.Image.bring.Goals as goal

pub bring-requires-clause-disk_of : goal.bring-requires-clause-disk_of
bring-requires-clause-disk_of g c = disk_of-true _ _ c.requires.sound

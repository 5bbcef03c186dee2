use Rattle.page_image.proofs.QuietLemmas.{allowed}
use Rattle.page_image.proofs.laws.writes_of_calls.Goals as goal

pub returns : goal.returns
returns c = λ disk disk_new image image_new at n leaves. allowed disk image at n disk_new image_new leaves

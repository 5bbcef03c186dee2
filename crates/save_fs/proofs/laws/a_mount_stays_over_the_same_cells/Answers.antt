use Rattle.save_fs.proofs.TreeLaterLemmas.{stays_mounted}
use Rattle.save_fs.proofs.laws.a_mount_stays_over_the_same_cells.Goals as goal

pub returns : goal.returns
returns c = λ shape fs cells new tree stands h same. stays_mounted shape fs cells new tree stands h same

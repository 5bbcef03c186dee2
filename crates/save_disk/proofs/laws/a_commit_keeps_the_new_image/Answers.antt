use Rattle.save_disk.proofs.Commits.{commit_keeps}
use Rattle.save_disk.proofs.laws.a_commit_keeps_the_new_image.Goals as goal

pub returns : goal.returns
returns c = λ places grain start events writes sector bytes fits.
    commit_keeps grain start events writes sector bytes places fits

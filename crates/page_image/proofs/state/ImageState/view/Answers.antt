use Rattle.page_image.proofs.DiskLemmas.{true-disk_of}
use Rattle.page_image.proofs.state.ImageState.view.Goals as goal

pub returns-clause-sound : goal.returns-clause-sound
returns-clause-sound g c = true-disk_of (g.D.Disk.state c.args.disk.now) c.args.self.now c.requires

use Rattle.save_fs.proofs.MountLemmas.{lost_is}
use Rattle.save_fs.proofs.mounted.SaveFs.lost.Goals as goal

pub returns : goal.returns
returns c size cells tree h = lost_is size c.args.self.now cells tree h

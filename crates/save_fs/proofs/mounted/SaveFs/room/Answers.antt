use Rattle.save_fs.proofs.MountLemmas.{room_is}
use Rattle.save_fs.proofs.mounted.SaveFs.room.Goals as goal

pub returns-clause-room : goal.returns-clause-room
returns-clause-room c size cells tree h = room_is size c.args.self.now cells tree h

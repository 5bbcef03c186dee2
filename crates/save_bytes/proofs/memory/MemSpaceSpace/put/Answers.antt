use Rattle.std.proofs.Common.{length, refl}
use Rattle.save_bytes.proofs.MemoryLemmas.{bytes_put, bytes_moved}
use Rattle.save_bytes.proofs.memory.MemSpaceSpace.put.Goals as goal

pub returns-clause-puts : goal.returns-clause-puts
returns-clause-puts c =
    bytes_put c.args.self.now.bytes.now c.args.at c.args.bytes.now c.write_part.new.bytes
    (record { fits = c.requires.inside.inside; is = c.write_part.ensures }) c.args.self.now.block

pub returns-clause-moves : goal.returns-clause-moves
returns-clause-moves c =
    bytes_moved _ _ c.args.at (length c.args.bytes.now) c.args.bytes.now refl refl refl (record { fits = c.requires.inside.inside; is = c.write_part.ensures })

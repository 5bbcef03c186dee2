use Rattle.std.proofs.Common.{arith}
use Rattle.difi.proofs.KeptLemmas.{reading-set}
use Rattle.difi.proofs.descriptor.Difi.patch.Goals as goal

pub returns-clause-read : goal.returns-clause-read
returns-clause-read c = λ size part_len h. reading-set c.args.table.now size part_len c.args.selector c.args.self.now
    (omega arith) c.requires.selector h

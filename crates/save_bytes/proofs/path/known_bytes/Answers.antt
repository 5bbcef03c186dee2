use Rattle.std.proofs.Common.{arith}
use Rattle.save_bytes.proofs.path.known_bytes.Goals as goal

pub returns-clause-bytes : goal.returns-clause-bytes
returns-clause-bytes c = λ k. omega (arith, c.type_inv.bytes k)

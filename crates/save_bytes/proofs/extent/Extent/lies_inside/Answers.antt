use Rattle.std.proofs.Common.{arith}
use Rattle.std.proofs.lemmas.Bool.{leb-true, le-leb}
use Rattle.save_bytes.proofs.extent.Extent.lies_inside.Goals as goal

pub returns-then-low-self-clause-ends : goal.returns-then-low-self-clause-ends
returns-then-low-self-clause-ends c = (
  λ h. let reach = leb-true c.end.result c.from.result h in record { begins = omega arith; ends = omega arith },
  λ h. le-leb c.end.result c.from.result (omega (arith, h.ends)),
)

pub returns-else-low-self-clause-ends : goal.returns-else-low-self-clause-ends
returns-else-low-self-clause-ends c = (
  λ h. let begins = leb-true c.args.low c.args.self.now.at h in absurd (omega arith),
  λ h. le-leb c.args.low c.args.self.now.at h.begins,
)

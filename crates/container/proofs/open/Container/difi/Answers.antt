use Rattle.std.proofs.Common.{◌≡◌, ◌<◌, Some, refl, arith}
use Rattle.container.specs.Parts.{part_count}
use Rattle.container.proofs.open.Container.difi.Goals as goal

pub returns-then-part-eq0 : goal.returns-then-part-eq0
returns-then-part-eq0 c = (c.args.self.now.parts.first, rw c.if-part-eq0.true refl, c.difi.ensures)

pub returns : goal.returns
returns c =
    let below : c.args.part < part_count (Some c.in-Some.second) = rw c.in-Some.is at c.requires in
    let apart = c.if-part-eq0.false in
    let one : c.args.part ≡ 1 = omega (arith, below, apart) in
    (c.in-Some.second, rw (one, c.in-Some.is) refl, c.difi-in-Some.ensures)

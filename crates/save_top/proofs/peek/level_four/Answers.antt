use Rattle.std.proofs.Common.{◌≤◌, subst, sym}
use Rattle.difi.specs.declared.places.LevelPlace.{LevelPlace}
use Rattle.save_top.proofs.PlaceLemmas.{part_small}
use Rattle.save_top.proofs.peek.level_four.Goals as goal

pub returns-clause-log : goal.returns-clause-log
returns-clause-log c =
    let container = c.args.container.now in
    let of = c.level.ensures in
    let small = part_small container.header container.image.len container.table.items container.parts c.args.part of.0 c.requires.whole of.1 in
    subst (λ (level : LevelPlace). level.log ≤ 16) (sym of.2) small.log

pub returns-clause-small : goal.returns-clause-small
returns-clause-small c =
    let container = c.args.container.now in
    let of = c.level.ensures in
    let small = part_small container.header container.image.len container.table.items container.parts c.args.part of.0 c.requires.whole of.1 in
    subst (λ (level : LevelPlace). level.size ≤ 67108864) (sym of.2) small.size

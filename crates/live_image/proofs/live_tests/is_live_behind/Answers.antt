use Rattle.std.proofs.Common.{arith}
use Rattle.live_image.proofs.live_tests.is_live_behind.Goals as goal

pub lies_from-table-requires : goal.lies_from-table-requires
lies_from-table-requires c =
    omega (arith, c.active_table.ensures, c.requires.header.sound.active_inside.ends, c.requires.header.sound.longest)

pub is_live_of-first-requires-clause-number : goal.is_live_of-first-requires-clause-number
is_live_of-first-requires-clause-number c = omega (arith, c.requires.header.sound.one_part)

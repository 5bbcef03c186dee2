use Rattle.std.proofs.Common.{arith}
use Rattle.std.proofs.lemmas.List.{length-take, length-drop}
use Rattle.live_image.proofs.live_tests.table_of.Goals as goal

pub slice_bounds-result-count : goal.slice_bounds-result-count
slice_bounds-result-count c = omega (arith, c.requires.sound.active_inside.ends)

pub slice_bounds-result-end-2 : goal.slice_bounds-result-end-2
slice_bounds-result-end-2 c =
    simp (length-take, length-drop) (omega (arith, c.requires.sound.active_inside.ends, c.active_table-at.ensures))

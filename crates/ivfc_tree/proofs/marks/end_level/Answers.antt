use Rattle.std.proofs.Common.{◌<◌, length, get_or, arith}
use Rattle.std.proofs.lemmas.List.{get_or_default}
use Rattle.std.proofs.lemmas.List.Edits.{map_over_more}
use Rattle.ivfc_tree.specs.declared.marks.BlockMark.{BlockMark}
use Rattle.ivfc_tree.specs.declared.marks.BlockMark.TheVariants.{Unknown}
use Rattle.ivfc_tree.specs.Settles.{ended}
use Rattle.ivfc_tree.proofs.marks.end_level.Goals as goal

pub loop-mark-preserved : goal.loop-mark-preserved
loop-mark-preserved c =
    let at = c.loop-mark.mark-index in
    let inside : at < length c.loop-mark.marks = omega (arith, c.loop-mark-test.true, c.loop-mark.auto.marks) in
    let mark : BlockMark = get_or c.loop-mark.marks at Unknown in
    rw c.ended.ensures
    (map_over_more (ended c.args.committed) c.args.marks.now c.loop-mark.marks at mark c.loop-mark-test.true
    c.loop-mark.invariant (get_or_default c.loop-mark.marks at Unknown mark inside))

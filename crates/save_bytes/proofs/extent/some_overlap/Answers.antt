use Rattle.std.proofs.Common.{sym, ◌∙◌}
use Rattle.std.proofs.lemmas.List.{take_rest}
use Rattle.save_bytes.proofs.ExtentLemmas.{overlap_here, no_overlap_here, no_overlap_behind}
use Rattle.save_bytes.proofs.extent.some_overlap.Goals as goal

pub returns-then-overlaps_any : goal.returns-then-overlaps_any
returns-then-overlaps_any c =
    let found = simp take_rest at (sym c.overlaps_any.ensures ∙ c.if-overlaps_any.true) in
    sym (overlap_here c.args.extents.now c.loop-i.i _ c.loop-i-test.true found) ∙ c.loop-i.invariant

pub loop-i-preserved : goal.loop-i-preserved
loop-i-preserved c =
    let none = simp take_rest at (sym c.overlaps_any.ensures ∙ c.if-overlaps_any.false) in
    no_overlap_here c.args.extents.now c.loop-i.i _ c.loop-i-test.true none ∙ c.loop-i.invariant

pub returns : goal.returns
returns c = sym (no_overlap_behind c.args.extents.now c.loop-i.i c.loop-i-test.false) ∙ c.loop-i.invariant

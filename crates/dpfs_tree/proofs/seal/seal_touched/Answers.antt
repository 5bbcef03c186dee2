use Rattle.std.proofs.Common.{◌≡◌, true, false, sym, ◌∙◌}
use Rattle.dpfs_tree.specs.Marks.{is_marked}
use Rattle.dpfs_tree.specs.Seals.{has_mark}
use Rattle.dpfs_tree.proofs.MarkLemmas.{some_marked-not, some_marked-found}
use Rattle.dpfs_tree.proofs.seal.seal_touched.Goals as goal

pub returns-then-not-has_mark-clause-sealed : goal.returns-then-not-has_mark-clause-sealed
returns-then-not-has_mark-clause-sealed g c = λ told (k, within, marked).
    let none : has_mark c.bits_in.result c.args.state.now c.args.block ≡ false = sym c.has_mark.ensures
    ∙ c.if-not-has_mark.true in
    let here = some_marked-not (is_marked c.args.state.now.touched.items) _ _ k (rw c.bits_in.ensures.value at none)
    within in
    absurd cc

pub seal_block-requires-clause-touched : goal.seal_block-requires-clause-touched
seal_block-requires-clause-touched g c =
    let some : has_mark c.bits_in.result c.args.state.now c.args.block ≡ true = sym c.has_mark.ensures
    ∙ c.if-not-has_mark.false in
    some_marked-found (is_marked c.args.state.now.touched.items) _ _ (rw c.bits_in.ensures.value at some)

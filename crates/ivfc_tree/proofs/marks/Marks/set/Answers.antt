use Rattle.std.proofs.Common.{◌≡◌, refl, arith}
use Rattle.std.specs.Vec.{with_item}
use Rattle.ivfc_tree.specs.declared.marks.Marks.{Marks}
use Rattle.ivfc_tree.proofs.MarkLemmas.{mark_set, others1, others2, others3, others4}
use Rattle.ivfc_tree.proofs.marks.Marks.set.Goals as goal

pub returns-in-1 : goal.returns-in-1
returns-in-1 c =
    let old = c.args.self.now in
    let new : Marks = record old { level1 = with_item old.level1 c.args.block c.args.mark } in
    mark_set c.args.level c.args.block c.args.mark old new c.requires.block (rw c.in-1.is refl)
    (rw c.in-1.is (others1 old new refl refl refl))

pub returns-in-2 : goal.returns-in-2
returns-in-2 c =
    let old = c.args.self.now in
    let new : Marks = record old { level2 = with_item old.level2 c.args.block c.args.mark } in
    mark_set c.args.level c.args.block c.args.mark old new c.requires.block (rw c.in-2.is refl)
    (rw c.in-2.is (others2 old new refl refl refl))

pub returns-in-3 : goal.returns-in-3
returns-in-3 c =
    let old = c.args.self.now in
    let new : Marks = record old { level3 = with_item old.level3 c.args.block c.args.mark } in
    mark_set c.args.level c.args.block c.args.mark old new c.requires.block (rw c.in-3.is refl)
    (rw c.in-3.is (others3 old new refl refl refl))

pub returns-in_default : goal.returns-in_default
returns-in_default c =
    let old = c.args.self.now in
    let new : Marks = record old { level4 = with_item old.level4 c.args.block c.args.mark } in
    let four : c.args.level ≡ 4 = omega (arith, c.requires.level, c.in_default) in
    mark_set c.args.level c.args.block c.args.mark old new c.requires.block (rw four refl)
    (rw four (others4 old new refl refl refl))

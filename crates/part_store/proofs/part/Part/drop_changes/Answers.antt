use Rattle.std.proofs.Common.{List, length, refl, ◌∙◌, ap}
use Rattle.std.proofs.lemmas.List.{length-map}
use Rattle.dpfs_tree.specs.Picks.{bytes_of}
use Rattle.ivfc_tree.specs.declared.marks.BlockMark.{BlockMark}
use Rattle.part_store.proofs.EndLemmas.{no_changes, tells_origin}
use Rattle.part_store.proofs.part.Part.drop_changes.Goals as goal

pub returns-clause-unchanged : goal.returns-clause-unchanged
returns-clause-unchanged c =
    let settled = c.drop_changes.ensures in
    no_changes _ _ settled.settled.selects settled.chosen c.drop_changes-2.ensures.unmarked

pub returns-clause-tells : goal.returns-clause-tells
returns-clause-tells c =
    let settled = c.drop_changes.ensures.settled in
    let hashes = c.drop_changes-2.ensures in
    tells_origin c.args.self.now _
    (record {
      number = refl;
      place = refl;
      descriptor = refl;
      selector = settled.selects;
      copies = settled.marks;
      hashes = λ level. ap (λ (l : List BlockMark). length l) (hashes.turned.marks level) ∙ length-map _ _;
    })
    (λ base x. c.drop_changes.ensures.chosen (bytes_of base.cells) _ x _) hashes.remembers hashes.unmarked

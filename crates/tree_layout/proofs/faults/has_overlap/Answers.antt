use Rattle.std.proofs.Common.{◌∙◌, sym}
use Rattle.tree_layout.proofs.TakenLemmas.{taken_second, taken_first}
use Rattle.tree_layout.proofs.faults.has_overlap.Goals as goal

pub returns-then-has_second : goal.returns-then-has_second
returns-then-has_second c = λ t dirs files. (
    let taken = taken_second c.args.info.now t c.args.kind c.args.split
    (sym c.has_second.ensures ∙ c.if-has_second.true) in
    rw (taken, sym dirs, sym files) (rw (
      c.from.ensures,
      c.from-2.ensures,
      c.from-3.ensures,
      c.entries_len.ensures,
      c.entries_len-then-has_second.ensures,
    ) at c.some_overlap.ensures)
    )

pub returns : goal.returns
returns c = λ t dirs files. (
    let taken = taken_first c.args.info.now t c.args.kind c.args.split
    (sym c.has_second.ensures ∙ c.if-has_second.false) in
    rw taken (rw (
      c.from.ensures,
      c.from-2.ensures,
      c.from-3.ensures,
      c.from-4.ensures,
      c.from-5.ensures,
    ) at c.some_overlap-2.ensures)
    )

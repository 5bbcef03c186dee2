use Rattle.std.proofs.Common.{sym, ◌∙◌, arith}
use Rattle.std.proofs.lemmas.Bool.{false≢true, leb-true, le-leb}
use Rattle.chain_space.proofs.ShownLemmas.{true-is_shown}
use Rattle.chain_space.proofs.ViewLemmas.{base_told, shown_room, told_first, told_length, told_fault}
use Rattle.chain_space.proofs.space.is_good.Goals as goal

pub list_len-requires-clause-table : goal.list_len-requires-clause-table
list_len-requires-clause-table g c = (shown_room (g.S.Space.state c.args.base.now) c.args.shown c.requires).table

pub returns-then-shown-clause-told : goal.returns-then-shown-clause-told
returns-then-shown-clause-told g c = λ told.
    let inside = told_first (g.S.Space.state c.args.base.now) c.args.shown c.requires told in
    absurd (omega (arith, inside))

pub returns-in-Ok-clause-good : goal.returns-in-Ok-clause-good
returns-in-Ok-clause-good g c = λ told enough.
    let base = g.S.Space.state c.args.base.now in
    let shown = c.args.shown in
    let len = c.in-Ok.ensures.length told in
    true-is_shown base shown.info shown.first shown.blocks len.0 (shown_room base shown c.requires).table.few len.1
    (omega (arith, len.2, c.in-Ok.ensures.small)) (omega (arith, len.2, leb-true _ _ enough))

pub returns-in-Ok-clause-told : goal.returns-in-Ok-clause-told
returns-in-Ok-clause-told g c = λ told.
    let base = g.S.Space.state c.args.base.now in
    let shown = c.args.shown in
    le-leb _ _ (told_length base shown c.requires told c.in-Ok.len
    (c.in-Ok.ensures.length (base_told base shown.info shown.first shown.blocks told)))

pub returns-in-Err-2-clause-told : goal.returns-in-Err-2-clause-told
returns-in-Err-2-clause-told g c = λ told.
    let base = g.S.Space.state c.args.base.now in
    let disk = told_fault base c.args.shown c.requires told c.in-Err.fault c.in-Err.ensures.faults in
    absurd (false≢true (sym c.if-is_disk.false ∙ c.is_disk.ensures.1 disk))

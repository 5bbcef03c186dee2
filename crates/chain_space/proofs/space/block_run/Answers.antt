use Rattle.std.proofs.Common.{sym, ◌∙◌, arith}
use Rattle.std.proofs.lemmas.Bool.{false≢true}
use Rattle.chain_space.proofs.ViewLemmas.{base_told, shown_room, told_first, told_run, told_fault}
use Rattle.chain_space.proofs.space.block_run.Goals as goal

pub seek-requires-clause-table : goal.seek-requires-clause-table
seek-requires-clause-table g c = (shown_room (g.S.Space.state c.args.base.now) c.args.shown c.requires.sound).table

pub returns-then-shown-clause-run : goal.returns-then-shown-clause-run
returns-then-shown-clause-run g c = λ told.
    let inside = told_first (g.S.Space.state c.args.base.now) c.args.shown c.requires.sound told in
    absurd (omega (arith, inside))

pub returns-in-Ok-clause-run : goal.returns-in-Ok-clause-run
returns-in-Ok-clause-run g c = λ told.
    let base = g.S.Space.state c.args.base.now in
    let shown = c.args.shown in
    told_run base shown c.requires.sound told c.args.pos c.in-Ok.found c.requires.inside
    (c.in-Ok.ensures.run (base_told base shown.info shown.first shown.blocks told))

pub returns-in-Err-2-clause-run : goal.returns-in-Err-2-clause-run
returns-in-Err-2-clause-run g c = λ told.
    let base = g.S.Space.state c.args.base.now in
    let disk = told_fault base c.args.shown c.requires.sound told c.in-Err.fault c.in-Err.ensures.faults in
    false≢true (sym c.if-is_disk.false ∙ c.is_disk.ensures.1 disk)

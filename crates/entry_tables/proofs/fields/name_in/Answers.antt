use Rattle.std.proofs.Common.{◌≡◌, ◌+◌, [], sym, ◌∙◌, ap, length, arith}
use Rattle.save_bytes.specs.CellNumbers.{bytes_in}
use Rattle.save_bytes.proofs.CellLemmas.{bytes_in-is}
use Rattle.entry_tables.specs.Tables.{table_in, entry_place}
use Rattle.entry_tables.proofs.EntryLemmas.{entry_long, field_there}
use Rattle.entry_tables.proofs.CauseLemmas.{entry_cause}
use Rattle.entry_tables.proofs.fields.name_in.Goals as goal

pub returns-in_err-entry_bytes-clause-cause : goal.returns-in_err-entry_bytes-clause-cause
returns-in_err-entry_bytes-clause-cause g c =
    entry_cause (g.S.Space.state c.args.space.now) c.args.kind c.args.info c.args.entry 4 16 _
    c.in_err-entry_bytes.field-0.0 (omega (arith, entry_long c.args.kind)) c.from_residual.ensures.1
    c.in_err-entry_bytes.ensures.damaged c.in_err-entry_bytes.ensures.plain

pub returns-clause-name : goal.returns-clause-name
returns-clause-name g c = λ told has.
    let cells = (g.S.Space.state c.args.space.now).cells in
    let at = entry_place c.args.kind c.args.info c.args.entry + 4 in
    let long : length c.entry_bytes.new.out ≡ 16 = c.entry_bytes.auto.out in
    sym (bytes_in-is cells at c.entry_bytes.new.out (c.in_ok-entry_bytes.ensures.bytes told has.below)) ∙ ap
    (bytes_in cells at) long
    ∙ sym (field_there (table_in cells c.args.kind c.args.info) c.args.entry (bytes_in cells at 16) [] has)

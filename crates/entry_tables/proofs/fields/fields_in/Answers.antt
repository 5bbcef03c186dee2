use Rattle.std.proofs.Common.{◌+◌, ◌∙◌, arith}
use Rattle.entry_tables.specs.declared.table.EntryKind.TheVariants.{File}
use Rattle.entry_tables.specs.Tables.{entry_place}
use Rattle.entry_tables.proofs.ByteLemmas.{field_is}
use Rattle.entry_tables.proofs.CauseLemmas.{entry_cause}
use Rattle.entry_tables.proofs.fields.fields_in.Goals as goal

pub returns-in_err-entry_bytes-clause-cause : goal.returns-in_err-entry_bytes-clause-cause
returns-in_err-entry_bytes-clause-cause g c =
    entry_cause (g.S.Space.state c.args.space.now) File c.args.info c.args.entry 0x1C 12 _
    c.in_err-entry_bytes.field-0.0 (omega arith) c.from_residual.ensures.1 c.in_err-entry_bytes.ensures.damaged
    c.in_err-entry_bytes.ensures.plain

pub returns-clause-start : goal.returns-clause-start
returns-clause-start g c = λ told below.
    let at = entry_place File c.args.info c.args.entry + 0x1C in
    c.u32_at.ensures ∙ field_is 4 (g.S.Space.state c.args.space.now).cells at 0 at c.entry_bytes.new.out
    (c.in_ok-entry_bytes.ensures.bytes told below) (omega (arith, c.entry_bytes.auto.out)) (omega arith)

pub returns-clause-wide : goal.returns-clause-wide
returns-clause-wide g c = λ told below.
    let at = entry_place File c.args.info c.args.entry + 0x1C in
    c.u64_at.ensures ∙ field_is 8 (g.S.Space.state c.args.space.now).cells at 4
    (entry_place File c.args.info c.args.entry + 0x20) c.entry_bytes.new.out
    (c.in_ok-entry_bytes.ensures.bytes told below) (omega (arith, c.entry_bytes.auto.out)) (omega arith)

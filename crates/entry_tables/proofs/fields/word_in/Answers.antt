use Rattle.entry_tables.proofs.CauseLemmas.{entry_cause}
use Rattle.entry_tables.proofs.fields.word_in.Goals as goal

pub returns-in_err-word-clause-cause : goal.returns-in_err-word-clause-cause
returns-in_err-word-clause-cause g c =
    entry_cause (g.S.Space.state c.args.space.now) c.args.kind c.args.info c.args.entry c.args.offset 4 _
    c.in_err-word.field-0.0 c.requires.inside c.from_residual.ensures.1 c.in_err-word.ensures.damaged
    c.in_err-word.ensures.plain

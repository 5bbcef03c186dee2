use Rattle.entry_tables.proofs.CauseLemmas.{zero_cause}
use Rattle.entry_tables.proofs.fields.counts_in.Goals as goal

pub returns-in_err-counts-clause-cause : goal.returns-in_err-counts-clause-cause
returns-in_err-counts-clause-cause g c =
    zero_cause (g.S.Space.state c.args.space.now) c.args.kind c.args.info _ c.in_err-counts.field-0.0
    c.from_residual.ensures.1 c.in_err-counts.ensures.read

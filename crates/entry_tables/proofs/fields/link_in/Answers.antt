use Rattle.entry_tables.proofs.CauseLemmas.{link_cause}
use Rattle.entry_tables.proofs.fields.link_in.Goals as goal

pub returns-in_err-link-clause-cause : goal.returns-in_err-link-clause-cause
returns-in_err-link-clause-cause g c =
    link_cause (g.S.Space.state c.args.space.now) c.args.kind c.args.info c.args.entry _ c.in_err-link.field-0.0
    c.from_residual.ensures.1 (rw c.link_offset.ensures at c.in_err-link.ensures.damaged) c.in_err-link.ensures.plain

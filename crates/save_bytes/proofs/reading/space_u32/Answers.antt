use Rattle.std.proofs.Common.{◌∙◌}
use Rattle.save_bytes.proofs.CellLemmas.{number_in-is}
use Rattle.save_bytes.proofs.reading.space_u32.Goals as goal

pub returns-clause-number : goal.returns-clause-number
returns-clause-number g c =
    λ told. c.u32_at.ensures ∙ number_in-is 4 (g.S.Space.state c.args.space.now).cells c.args.at c.space_copy.new.out
    c.space_copy.auto.out (c.in_ok-space_copy.ensures.bytes told)

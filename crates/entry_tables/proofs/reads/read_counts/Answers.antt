use Rattle.std.proofs.Common.{◌+◌, ◌∙◌, arith}
use Rattle.entry_tables.proofs.ByteLemmas.{field_is}
use Rattle.entry_tables.proofs.reads.read_counts.Goals as goal

pub returns-clause-count : goal.returns-clause-count
returns-clause-count g c = λ told.
    c.u32_at.ensures ∙ field_is 4 (g.S.Space.state c.args.space.now).cells c.args.info.table_at 0
    c.args.info.table_at c.space_copy.new.out (c.in_ok-space_copy.ensures.bytes told) (omega arith) (omega arith)

pub returns-clause-most : goal.returns-clause-most
returns-clause-most g c = λ told.
    c.u32_at-2.ensures ∙ field_is 4 (g.S.Space.state c.args.space.now).cells c.args.info.table_at 4
    (c.args.info.table_at + 4) c.space_copy.new.out (c.in_ok-space_copy.ensures.bytes told) (omega arith)
    (omega arith)

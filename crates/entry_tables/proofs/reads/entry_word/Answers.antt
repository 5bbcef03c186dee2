use Rattle.std.proofs.Common.{◌+◌, ◌∙◌, arith}
use Rattle.entry_tables.specs.Tables.{entry_place}
use Rattle.entry_tables.proofs.ByteLemmas.{field_is}
use Rattle.entry_tables.proofs.reads.entry_word.Goals as goal

pub returns-clause-word : goal.returns-clause-word
returns-clause-word g c = λ told below.
    let at = entry_place c.args.kind c.args.info c.args.entry + c.args.offset in
    c.u32_at.ensures ∙ field_is 4 (g.S.Space.state c.args.space.now).cells at 0 at c.entry_bytes.new.out
    (c.in_ok-entry_bytes.ensures.bytes told below) (omega arith) (omega arith)

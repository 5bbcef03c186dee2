use Rattle.std.proofs.Common.{◌+◌, ◌∙◌, arith}
use Rattle.entry_tables.specs.Kinds.{link_offset}
use Rattle.entry_tables.specs.Tables.{entry_place}
use Rattle.entry_tables.proofs.ByteLemmas.{field_is}
use Rattle.entry_tables.proofs.EntryLemmas.{link_there}
use Rattle.entry_audit.proofs.read.read_link.Goals as goal

pub returns-clause-link : goal.returns-clause-link
returns-clause-link g c = λ told below.
    let cells = (g.S.Space.state c.args.space.now).cells in
    let at = entry_place c.args.kind c.args.info c.args.entry + link_offset c.args.kind in
    c.u32_at.ensures ∙ field_is 4 cells at 0 at c.entry_bytes.new.out
    (rw c.link_offset.ensures at (c.in_ok-entry_bytes.ensures.bytes told below)) (omega (arith, c.entry_bytes.auto.out))
    (omega arith)
    ∙ link_there cells c.args.kind c.args.info c.args.entry below

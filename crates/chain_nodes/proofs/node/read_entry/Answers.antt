use Rattle.std.proofs.Common.{◌≡◌, ◌+◌, ◌*◌, Some, ◌∙◌, arith}
use Rattle.chain_nodes.proofs.TableLemmas.{has_bytes, fault_in, word_u-read, word_v-read}
use Rattle.save_bytes.proofs.SpaceLemmas.{IfDamaged-map}
use Rattle.chain_nodes.proofs.node.read_entry.Goals as goal

pub returns-in-Err-clause-damaged : goal.returns-in-Err-clause-damaged
returns-in-Err-clause-damaged g c = λ told.
    IfDamaged-map (Some c.in-Err.bad)
    (fault_in (g.S.Space.state c.args.base.now).cells c.args.info c.args.entry _ c.requires.inside (omega arith))
    (c.in-Err.ensures.read.damaged told)

pub returns-in-Ok-clause-words : goal.returns-in-Ok-clause-words
returns-in-Ok-clause-words g c = λ told.
    let cells = (g.S.Space.state c.args.base.now).cells in
    let info = c.args.info in
    let at = info.table_at + 8 * c.from.result in
    let place : at ≡ info.table_at + 8 * c.args.entry = omega arith in
    let words = c.space_copy.new.out in
    let long = c.space_copy.auto.out in
    let are = c.in-Ok.ensures.bytes told in (
      has_bytes cells info c.args.entry at c.requires.inside place (c.in-Ok.ensures.read.done told),
      c.u32_at.ensures ∙ word_u-read cells info c.args.entry at c.requires.inside place words long are,
      c.u32_at-in-Ok.ensures ∙ word_v-read cells info c.args.entry at c.requires.inside place words long are,
    )

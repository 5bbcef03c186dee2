use Rattle.std.proofs.Common.{refl, true, ◌∙◌}
use Rattle.chain_nodes.specs.Table.{table_in}
use Rattle.alloc_chain.proofs.PlanPlaceLemmas.{place_behind_old}
use Rattle.alloc_chain.proofs.plan_places.with_blocks.Goals as goal

pub returns-in-Ok-clause-place : goal.returns-in-Ok-clause-place
returns-in-Ok-clause-place g c = λ told old place.
    let info = c.args.info in
    let table = table_in (g.S.Space.state c.args.base.now).cells info in
    place_behind_old table info.count old c.args.cursor
    (record { list = c.start.result; free = true; before = c.passed.result; wanted = c.args.cursor.wanted })
    (c.is_behind_old.ensures.0 c.if-not-is_behind_old.false) refl c.start.ensures.opens
    (c.start.ensures.first ∙ (c.in-Ok.ensures.first told).1) c.passed.ensures c.requires.not_at_end
    (c.start.ensures.place table info.count c.in-Ok.ensures.small) place

use Rattle.std.proofs.Common.{[], arith}
use Rattle.save_bytes.proofs.CallLemmas.{reads_then}
use Rattle.chain_nodes.specs.declared.node.Lead.TheVariants.{Opens}
use Rattle.chain_nodes.specs.Table.{table_in}
use Rattle.alloc_chain.specs.declared.plan.NodeAt.{NodeAt}
use Rattle.alloc_chain.specs.Plans.{IsNodeAt, IsLastOf}
use Rattle.alloc_chain.proofs.PlanLemmas.{done_other, nodes_later, end_within, is_last, last_of}
use Rattle.alloc_chain.proofs.plan.old_ends.Goals as goal

pub returns-in-Err-clause-exact : goal.returns-in-Err-clause-exact
returns-in-Err-clause-exact g c = λ told nodes linked starts few.
    done_other (IsNodeAt nodes 0)
    (λ (ends : NodeAt × NodeAt). IsNodeAt nodes 0 ends.0 × IsLastOf nodes c.args.first ends.1)
    c.in-Err.fault (c.in-Err.ensures.exact told nodes linked starts few)

pub returns-in-Err-walk_on-clause-exact : goal.returns-in-Err-walk_on-clause-exact
returns-in-Err-walk_on-clause-exact g c = λ told nodes linked starts few.
    let stays = c.in-Ok.ensures.reads.stays in
    let later = nodes_later (g.S.Space.state c.args.base.now) (g.S.Space.state c.node_at.new.base) c.args.info
    c.requires.table stays told Opens nodes linked in
    done_other (IsNodeAt nodes 0)
    (λ (ends : NodeAt × NodeAt). IsNodeAt nodes 0 ends.0 × IsLastOf nodes c.args.first ends.1)
    c.in-Err-walk_on.fault
    (c.in-Err-walk_on.ensures.exact (stays.space.told told) Opens nodes 0 later (omega (arith, few))
    (c.in-Ok.ensures.exact told nodes linked starts few))

pub returns-in-Err-walk_on-clause-reads : goal.returns-in-Err-walk_on-clause-reads
returns-in-Err-walk_on-clause-reads g c =
    reads_then g.met.S.Space.keeps_join c.in-Ok.ensures.reads c.in-Err-walk_on.ensures.reads

pub returns-then-tail-from-clause-reads : goal.returns-then-tail-from-clause-reads
returns-then-tail-from-clause-reads g c =
    reads_then g.met.S.Space.keeps_join c.in-Ok.ensures.reads c.in-Ok-walk_on.ensures.reads

pub returns-clause-reads : goal.returns-clause-reads
returns-clause-reads g c = reads_then g.met.S.Space.keeps_join c.in-Ok.ensures.reads c.in-Ok-walk_on.ensures.reads

pub returns-then-tail-from-clause-exact : goal.returns-then-tail-from-clause-exact
returns-then-tail-from-clause-exact g c = λ told nodes linked starts few.
    let stays = c.in-Ok.ensures.reads.stays in
    let later = nodes_later (g.S.Space.state c.args.base.now) (g.S.Space.state c.node_at.new.base) c.args.info
    c.requires.table stays told Opens nodes linked in
    let walk = c.in-Ok-walk_on.ensures in
    let tail = walk.exact (stays.space.told told) Opens nodes 0 later (omega (arith, few))
    (c.in-Ok.ensures.exact told nodes linked starts few) in
    absurd (omega (
      arith,
      end_within nodes 0 c.in-Ok-walk_on.tail tail walk.in_table.ordered,
      few,
      c.if-tail-from.true,
    ))

pub returns-clause-exact : goal.returns-clause-exact
returns-clause-exact g c = λ told nodes linked starts few.
    let info = c.args.info in
    let stays = c.in-Ok.ensures.reads.stays in
    let later = nodes_later (g.S.Space.state c.args.base.now) (g.S.Space.state c.node_at.new.base) info
    c.requires.table stays told Opens nodes linked in
    let walk = c.in-Ok-walk_on.ensures in
    let tail = c.in-Ok-walk_on.tail in
    let at = c.in-Ok.ensures.exact told nodes linked starts few in (
      at,
      last_of (table_in (g.S.Space.state c.args.base.now).cells info) info.count nodes [] linked c.args.first tail
          starts
          (walk.exact (stays.space.told told) Opens nodes 0 later (omega (arith, few)) at) walk.in_table.ordered
          (is_last tail.next tail.end _ walk.found (omega (arith, walk.end, c.requires.table.few))),
    )

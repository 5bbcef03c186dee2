use Rattle.save_bytes.proofs.CallLemmas.{reads_then}
use Rattle.chain_nodes.specs.Table.{table_in}
use Rattle.chain_nodes.specs.Chains.{entries_of}
use Rattle.chain_nodes.proofs.TableLemmas.{table_stays}
use Rattle.chain_nodes.specs.declared.fault.ChainFault.TheVariants.{Bad as Refused}
use Rattle.alloc_chain.specs.Plans.{IsPlan}
use Rattle.alloc_chain.proofs.AnswerLemmas.{nodes_of, refusal_lists, take_lists}
use Rattle.alloc_chain.specs.Swaps.{plan_entries}
use Rattle.alloc_chain.proofs.SwapLemmas.{unspoilt_before, refused_plan, spoilt_plan, unspoilt_plan}
use Rattle.alloc_chain.proofs.swap.plan_ready.Goals as goal

pub returns-in-Err-clause-exact : goal.returns-in-Err-clause-exact
returns-in-Err-clause-exact g c = λ told mine free can.
    let table = table_in (g.S.Space.state c.args.base.now).cells c.args.info in
    let nodes = nodes_of table c.args.info.count c.args.given mine free can in
    let old_nodes = nodes.old_nodes in
    let free_nodes = nodes.free_nodes in (
      refusal_lists table c.args.n (entries_of old_nodes) (entries_of free_nodes) mine free c.in-Err.fault nodes.old_is
          nodes.free_is (refused_plan table c.args.n (entries_of old_nodes) (entries_of free_nodes)
          (IsPlan old_nodes free_nodes c.args.n) c.in-Err.fault
          (c.in-Err.ensures.exact told old_nodes free_nodes nodes.can)),
      tt,
    )

pub returns-in-Ok-ready_plan-clause-ready : goal.returns-in-Ok-ready_plan-clause-ready
returns-in-Ok-ready_plan-clause-ready g c = λ told.
    let stays = c.in-Ok.ensures.reads.stays in
    unspoilt_before (g.S.Space.state c.args.base.now) (g.S.Space.state c.plan_swap.new.base) c.args.info
    (plan_entries c.in-Ok.plan) stays told (c.in-Ok-ready_plan.ensures.ready (stays.space.told told))

pub returns-in-Ok-ready_plan-clause-exact : goal.returns-in-Ok-ready_plan-clause-exact
returns-in-Ok-ready_plan-clause-exact g c = λ told mine free can.
    let s = g.S.Space.state c.args.base.now in
    let info = c.args.info in
    let stays = c.in-Ok.ensures.reads.stays in
    let nodes = nodes_of (table_in s.cells info) info.count c.args.given mine free can in
    let planned = c.in-Ok.ensures.exact told nodes.old_nodes nodes.free_nodes nodes.can in (
      take_lists (table_in s.cells info) c.args.n (entries_of nodes.old_nodes) (entries_of nodes.free_nodes) mine free
          nodes.old_is nodes.free_is
          (unspoilt_plan s info c.args.given c.args.n nodes.old_nodes nodes.free_nodes c.requires.table nodes.can
          c.in-Ok.plan planned.1 c.in-Ok.ensures.in_table planned.0
          (unspoilt_before s (g.S.Space.state c.plan_swap.new.base) info (plan_entries c.in-Ok.plan) stays told
          (c.in-Ok-ready_plan.ensures.ready (stays.space.told told)))),
      record { nodes = nodes; planned = planned.1 },
    )

pub returns-in-Ok-ready_plan-clause-reads : goal.returns-in-Ok-ready_plan-clause-reads
returns-in-Ok-ready_plan-clause-reads g c =
    reads_then g.met.S.Space.keeps_join c.in-Ok.ensures.reads c.in-Ok-ready_plan.ensures.reads

pub returns-in-Err-ready_plan-clause-exact : goal.returns-in-Err-ready_plan-clause-exact
returns-in-Err-ready_plan-clause-exact g c = λ told mine free can.
    let s = g.S.Space.state c.args.base.now in
    let m = g.S.Space.state c.plan_swap.new.base in
    let info = c.args.info in
    let bad = c.in-Err-ready_plan.bad in
    let stays = c.in-Ok.ensures.reads.stays in
    let nodes = nodes_of (table_in s.cells info) info.count c.args.given mine free can in (
      refusal_lists (table_in s.cells info) c.args.n (entries_of nodes.old_nodes) (entries_of nodes.free_nodes) mine
          free
          (Refused bad) nodes.old_is nodes.free_is
          (spoilt_plan (table_in s.cells info) info.count c.args.given c.args.n nodes.old_nodes nodes.free_nodes
          nodes.can
          c.in-Ok.plan (c.in-Ok.ensures.exact told nodes.old_nodes nodes.free_nodes nodes.can).1
          c.in-Ok.ensures.in_table bad (table_in m.cells info) (table_stays s m info c.requires.table stays told)
          (c.in-Err-ready_plan.ensures.damaged (stays.space.told told))),
      tt,
    )

pub returns-in-Err-ready_plan-clause-reads : goal.returns-in-Err-ready_plan-clause-reads
returns-in-Err-ready_plan-clause-reads g c =
    reads_then g.met.S.Space.keeps_join c.in-Ok.ensures.reads c.in-Err-ready_plan.ensures.reads

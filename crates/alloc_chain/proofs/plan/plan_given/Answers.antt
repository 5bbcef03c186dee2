use Rattle.std.proofs.Common.{ℕ, ◌+◌, length, ◌∙◌, ap, arith}
use Rattle.save_bytes.proofs.CallLemmas.{reads_then}
use Rattle.chain_nodes.specs.declared.node.Lead.TheVariants.{OpensFree}
use Rattle.chain_nodes.specs.Table.{table_in}
use Rattle.chain_nodes.specs.Chains.{entries_of}
use Rattle.alloc_chain.specs.Plans.{IsBoundary, IsPlan}
use Rattle.alloc_chain.proofs.PlanLemmas.{enough_other, end_within, nodes_later, cut_in_old, cut_in_free}
use Rattle.alloc_chain.proofs.plan.plan_given.Goals as goal

pub returns-then-n-eq0-clause-exact : goal.returns-then-n-eq0-clause-exact
returns-then-n-eq0-clause-exact g c = λ told old free can head_is.
    let are = c.in-Ok.ensures.exact told old can.old_nodes.1 can.old_nodes.2 can.few_old in
    (omega arith, record { given = are.1.ended; head = head_is; cut = omega arith })

pub returns-then-n-at-clause-exact : goal.returns-then-n-at-clause-exact
returns-then-n-at-clause-exact g c = λ told old free can head_is.
    let info = c.args.info in
    let at = c.in-Ok.ends.0 in
    let are = c.in-Ok.ensures.exact told old can.old_nodes.1 can.old_nodes.2 can.few_old in
    let made = c.boundary_at.ensures in
    let next = c.next_or.ensures in (
      omega (arith, end_within old 0 at are.0 c.in-Ok.ensures.in_table.ordered, c.if-n-at.true),
      record {
        given = are.1.ended;
        head = head_is;
        cut = (
          omega arith,
          cut_in_old (table_in (g.S.Space.state c.args.base.now).cells info) info.count old free can.old_nodes.1
              c.args.n
              c.args.head at c.boundary_at.result head_is are.0 made.node (λ none. made.next ∙ next.none none)
              (λ some. made.next ∙ next.some some) made.counted,
        );
      },
    )

pub returns-in-Ok-free_boundary-clause-exact : goal.returns-in-Ok-free_boundary-clause-exact
returns-in-Ok-free_boundary-clause-exact g c = λ told old free can head_is.
    let are = c.in-Ok.ensures.exact told old can.old_nodes.1 can.old_nodes.2 can.few_old in
    let stays = c.in-Ok.ensures.reads.stays in
    let later = nodes_later (g.S.Space.state c.args.base.now) (g.S.Space.state c.old_ends.new.base) c.args.info
    c.requires.table stays told OpensFree free can.free_nodes.linked in
    let found = c.in-Ok-free_boundary.ensures.exact (stays.space.told told) free later head_is can.few_free in (
      omega (arith, found.0, are.1.counted),
      record {
        given = are.1.ended;
        head = head_is;
        cut = (
          omega arith,
          cut_in_free old free c.in-Ok.ends.1.end c.args.n c.in-Ok-free_boundary.boundary are.1.counted found.1,
        );
      },
    )

pub returns-in-Err-free_boundary-clause-exact : goal.returns-in-Err-free_boundary-clause-exact
returns-in-Err-free_boundary-clause-exact g c = λ told old free can head_is.
    let end = c.in-Ok.ends.1.end in
    let are = c.in-Ok.ensures.exact told old can.old_nodes.1 can.old_nodes.2 can.few_old in
    let stays = c.in-Ok.ensures.reads.stays in
    let later = nodes_later (g.S.Space.state c.args.base.now) (g.S.Space.state c.old_ends.new.base) c.args.info
    c.requires.table stays told OpensFree free can.free_nodes.linked in
    enough_other c.args.n (end + length (entries_of free)) (length (entries_of old) + length (entries_of free))
    (IsBoundary free end c.args.n) (IsPlan old free c.args.n) c.in-Err-free_boundary.fault
    (ap (λ (k : ℕ). k + length (entries_of free)) are.1.counted)
    (c.in-Err-free_boundary.ensures.exact (stays.space.told told) free later head_is can.few_free)

pub returns-in-Ok-free_boundary-clause-reads : goal.returns-in-Ok-free_boundary-clause-reads
returns-in-Ok-free_boundary-clause-reads g c =
    reads_then g.met.S.Space.keeps_join c.in-Ok.ensures.reads c.in-Ok-free_boundary.ensures.reads

pub returns-in-Err-free_boundary-clause-reads : goal.returns-in-Err-free_boundary-clause-reads
returns-in-Err-free_boundary-clause-reads g c =
    reads_then g.met.S.Space.keeps_join c.in-Ok.ensures.reads c.in-Err-free_boundary.ensures.reads

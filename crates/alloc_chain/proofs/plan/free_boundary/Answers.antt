use Rattle.std.proofs.Common.{◌+◌, ◌-◌, length, refl, arith}
use Rattle.chain_nodes.specs.declared.node.Lead.TheVariants.{OpensFree}
use Rattle.chain_nodes.specs.Table.{table_in}
use Rattle.chain_nodes.specs.Chains.{entries_of}
use Rattle.alloc_chain.specs.Plans.{IsNodeAt, IsBoundary}
use Rattle.alloc_chain.proofs.PlanLemmas.{enough_done, end_within, all_counted, all_before, boundary_of, is_last}
use Rattle.alloc_chain.proofs.plan.free_boundary.Goals as goal

pub returns-in-Err-clause-exact : goal.returns-in-Err-clause-exact
returns-in-Err-clause-exact g c = λ told nodes linked starts few.
    let from = c.args.from in
    enough_done c.args.n (from + length (entries_of nodes)) (IsNodeAt nodes from) (IsBoundary nodes from c.args.n)
    c.in-Err.fault (c.in-Err.ensures.exact told nodes linked starts few)

pub returns-then-at-n-clause-exact : goal.returns-then-at-n-clause-exact
returns-then-at-n-clause-exact g c = λ told nodes linked starts few.
    let info = c.args.info in
    let walk = c.in-Ok.ensures in
    let at = c.in-Ok.at in
    let is = walk.exact told nodes linked starts few in
    let last = is_last at.next at.end (c.args.n - 1) walk.found (omega (arith, c.if-at-n.true)) in
    let all = all_before nodes c.args.from c.args.n at is walk.in_table.ordered
    (all_counted nodes c.args.from c.args.n at is (table_in (g.S.Space.state c.args.base.now).cells info) info.count
    OpensFree linked walk.in_table.ordered last) in (
      refl,
      omega (arith, all, c.blocks-have-then-at-n.ensures, few, c.requires.small, c.requires.table.few),
      omega (arith, all, c.if-at-n.true),
    )

pub returns-clause-exact : goal.returns-clause-exact
returns-clause-exact g c = λ told nodes linked starts few.
    let walk = c.in-Ok.ensures in
    let at = c.in-Ok.at in
    let from = c.args.from in
    let is = walk.exact told nodes linked starts few in (
      omega (arith, end_within nodes from at is walk.in_table.ordered, c.if-at-n.false),
      boundary_of nodes from c.args.n at is c.boundary_at.result c.boundary_at.ensures.node c.boundary_at.ensures.next
          c.boundary_at.ensures.counted,
    )

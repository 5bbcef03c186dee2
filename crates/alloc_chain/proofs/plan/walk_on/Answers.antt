use Rattle.std.proofs.Common.{ℕ, sym, subst, arith}
use Rattle.save_bytes.specs.Cells.{Cell}
use Rattle.save_bytes.proofs.CallLemmas.{reads_then}
use Rattle.chain_nodes.specs.declared.node.Lead.TheVariants.{Follows}
use Rattle.chain_nodes.specs.Table.{table_in}
use Rattle.chain_nodes.specs.Chains.{AreNodes}
use Rattle.chain_nodes.proofs.TableLemmas.{table_stays}
use Rattle.alloc_chain.specs.Plans.{IsNodeAt, IsFirstOf}
use Rattle.alloc_chain.proofs.PlanLemmas.{done_other, behind_at, end_within, step_at}
use Rattle.alloc_chain.proofs.plan.walk_on.Goals as goal

pub returns-then-at-from-clause-exact : goal.returns-then-at-from-clause-exact
returns-then-at-from-clause-exact g c = λ told lead nodes before linked small is.
    let at = c.loop-at.at in
    let here = c.loop-at.invariant.exact told lead nodes before linked is in
    absurd (omega (arith, end_within nodes before at here c.loop-at.invariant.in_table.ordered, small))

pub returns-in-Err-clause-exact : goal.returns-in-Err-clause-exact
returns-in-Err-clause-exact g c = λ told lead nodes before linked small is.
    let s = g.S.Space.state c.args.base.now in
    let m = g.S.Space.state c.loop-at.base in
    let info = c.args.info in
    let at = c.loop-at.at in
    let invariant = c.loop-at.invariant in
    let here = invariant.exact told lead nodes before linked is in
    let stays = invariant.reads.stays in
    let there = subst (λ (t : ℕ → ℕ → Cell). AreNodes t info.count (Follows at.node.first) here.after 0)
    (sym (table_stays s m info c.requires.table stays told))
    (behind_at nodes before at here (table_in s.cells info) info.count lead linked) in
    done_other (IsFirstOf here.after) (IsNodeAt nodes before) c.in-Err.fault
    (c.in-Err.ensures.exact (stays.space.told told) here.after there here.next)

pub returns-in-Err-clause-reads : goal.returns-in-Err-clause-reads
returns-in-Err-clause-reads g c =
    reads_then g.met.S.Space.keeps_join c.loop-at.invariant.reads c.in-Err.ensures.reads

pub loop-at-preserved : goal.loop-at-preserved
loop-at-preserved g c =
    let s = g.S.Space.state c.args.base.now in
    let m = g.S.Space.state c.loop-at.base in
    let info = c.args.info in
    let at = c.loop-at.at in
    let invariant = c.loop-at.invariant in
    let step = c.in-Ok.ensures in
    let stays = invariant.reads.stays in
    record {
      in_table = step.in_table;
      end = omega (arith, step.counted, step.in_table.inside, step.in_table.some, step.in_table.ordered);
      low = λ low. omega (arith, step.counted);
      still = λ none. absurd (omega (arith, invariant.still none));
      exact = λ told lead nodes before linked is.
          (let here = invariant.exact told lead nodes before linked is in
          let there = subst (λ (t : ℕ → ℕ → Cell). AreNodes t info.count (Follows at.node.first) here.after 0)
          (sym (table_stays s m info c.requires.table stays told))
          (behind_at nodes before at here (table_in s.cells info) info.count lead linked) in
          step_at nodes before at here c.in-Ok.behind invariant.in_table.ordered
          (step.exact (stays.space.told told) here.after there here.next) step.counted);
      reads = reads_then g.met.S.Space.keeps_join invariant.reads step.reads;
    }

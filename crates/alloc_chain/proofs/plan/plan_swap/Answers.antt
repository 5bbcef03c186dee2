use Rattle.std.proofs.Common.{ℕ, ◌+◌, length, Option, Some, Err, refl, sym, ◌∙◌, subst}
use Rattle.std.specs.Bool.{⊤}
use Rattle.save_bytes.specs.Cells.{Cell}
use Rattle.save_bytes.proofs.CallLemmas.{reads_then}
use Rattle.chain_nodes.specs.Table.{table_in, index_of, word_v}
use Rattle.chain_nodes.specs.Chains.{entries_of, IsLinkedBy}
use Rattle.chain_nodes.specs.declared.node.Lead.TheVariants.{OpensFree}
use Rattle.chain_nodes.specs.Edits.{AreFreeNodes}
use Rattle.chain_nodes.proofs.TableLemmas.{table_stays}
use Rattle.chain_nodes.proofs.ExactLemmas.{done_unless_disk, no_free_break, no_free_need}
use Rattle.alloc_chain.specs.Plans.{IsPlan, CanPlan}
use Rattle.alloc_chain.proofs.PlanLemmas.{enough_done, fresh_enough}
use Rattle.alloc_chain.proofs.plan.plan_swap.Goals as goal

pub returns-in-Err-clause-exact : goal.returns-in-Err-clause-exact
returns-in-Err-clause-exact g c = λ told old free can.
    let s = g.S.Space.state c.args.base.now in
    let info = c.args.info in
    let table = table_in s.cells info in
    let few = c.requires.table.few in
    let list = entries_of free in
    let linked : IsLinkedBy table info.count OpensFree (index_of (word_v table 0)) list = record {
      nodes = free;
      linked = can.free_nodes.linked;
      starts = can.free_nodes.starts;
      entries = refl;
    } in
    enough_done c.args.n (length (entries_of old) + length list) (λ (first : ℕ). ⊤) (IsPlan old free c.args.n)
    c.in-Err.fault
    (done_unless_disk s info told (λ (first : ℕ). ⊤) (Err c.in-Err.fault)
    (no_free_break table info.count list few linked can.free_nodes.once)
    (no_free_need table info.count list few can.free_nodes.read linked)
    c.in-Err.ensures.faults tt)

pub returns-in-Some-clause-exact : goal.returns-in-Some-clause-exact
returns-in-Some-clause-exact g c = λ told old free can.
    let s = g.S.Space.state c.args.base.now in
    let m = g.S.Space.state c.free_first.new.base in
    let info = c.args.info in
    let stays = c.in-Ok.ensures.reads.stays in
    let can_here = subst (λ (o : Option ℕ). CanPlan (table_in s.cells info) info.count o old free) c.in-Some.is can in
    let can_mid = subst (λ (t : ℕ → ℕ → Cell). CanPlan t info.count (Some c.in-Some.first) old free)
    (sym (table_stays s m info c.requires.table stays told)) can_here in
    c.plan_given.ensures.exact (stays.space.told told) old free can_mid
    (can.free_nodes.starts ∙ sym (c.in-Ok.ensures.first told).1)

pub returns-in-None-clause-exact : goal.returns-in-None-clause-exact
returns-in-None-clause-exact g c = λ told old free can.
    let s = g.S.Space.state c.args.base.now in
    let m = g.S.Space.state c.free_first.new.base in
    let info = c.args.info in
    let stays = c.in-Ok.ensures.reads.stays in
    let can_here = subst (λ (o : Option ℕ). CanPlan (table_in s.cells info) info.count o old free) c.in-None.is can in
    let free_mid = subst (λ (t : ℕ → ℕ → Cell). AreFreeNodes t info.count free)
    (sym (table_stays s m info c.requires.table stays told)) can.free_nodes in
    fresh_enough c.args.n old free c.plan_fresh.result can_here.old_nodes
    (c.plan_fresh.ensures.exact (stays.space.told told) free free_mid (can.free_nodes.starts ∙ sym
    (c.in-Ok.ensures.first told).1)
    can.few_free)

pub returns-in-Some-clause-reads : goal.returns-in-Some-clause-reads
returns-in-Some-clause-reads g c = reads_then g.met.S.Space.keeps_join c.in-Ok.ensures.reads
    c.plan_given.ensures.reads

pub returns-in-None-clause-reads : goal.returns-in-None-clause-reads
returns-in-None-clause-reads g c = reads_then g.met.S.Space.keeps_join c.in-Ok.ensures.reads
    c.plan_fresh.ensures.reads

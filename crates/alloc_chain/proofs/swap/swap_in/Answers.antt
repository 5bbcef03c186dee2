use Rattle.std.proofs.Common.{ℕ, ◌++◌, None, Some, sym, ◌∙◌, subst}
use Rattle.std.proofs.lemmas.Bool.{false≢true}
use Rattle.save_bytes.specs.Cells.{Cell}
use Rattle.chain_nodes.specs.Table.{table_in}
use Rattle.chain_nodes.specs.Faults.{refusal_of}
use Rattle.chain_nodes.proofs.TableLemmas.{table_stays}
use Rattle.chain_links.specs.Alters.{IsOfEntries}
use Rattle.alloc_chain.specs.Plans.{AreApartLists}
use Rattle.alloc_chain.specs.Swaps.{IsSwapSite, IsSwapped, plan_entries}
use Rattle.chain_links.proofs.AlterLemmas.{Alters-read, Alters-wider, Alters-join}
use Rattle.alloc_chain.proofs.SameLemmas.{same_swapped}
use Rattle.alloc_chain.proofs.AnswerLemmas.{taken_as_old, old_as_taken, swapped_lists, plan_sites, refused_ready}
use Rattle.alloc_chain.proofs.swap.swap_in.Goals as goal

pub returns-in-Err-clause-answer : goal.returns-in-Err-clause-answer
returns-in-Err-clause-answer g c = λ told mine free can. (c.in-Err.ensures.exact told mine free can).0

pub returns-in-Err-clause-alters : goal.returns-in-Err-clause-alters
returns-in-Err-clause-alters g c = λ told mine free can.
    let space = g.S.Space in
    Alters-read space.state space.keeps space.lands (IsSwapSite c.args.info mine free) c.args.base.now
    c.plan_ready.new.base (refusal_of (Some c.in-Err.fault))
    (g.met.S.Space.keeps_hold c.args.base.now c.plan_ready.new.base) c.in-Err.ensures.plain
    (λ told un. refused_ready (space.state c.args.base.now) c.args.info c.args.given c.args.n mine free c.requires.table
    can c.in-Err.fault (c.in-Err.ensures.exact told mine free can).0 un)
    c.in-Err.ensures.reads

pub returns-in-Ok-change-clause-alters : goal.returns-in-Ok-change-clause-alters
returns-in-Ok-change-clause-alters g c = λ told mine free can.
    let info = c.args.info in
    let space = g.S.Space in
    let few = IsOfEntries info (plan_entries c.in-Ok.plan) in
    let many = IsSwapSite info mine free in
    Alters-join space.state space.keeps space.lands g.met.S.Space.keeps_join many c.args.base.now
    c.plan_ready.new.base c.change.new.base None
    (Alters-read space.state space.keeps space.lands many c.args.base.now c.plan_ready.new.base None
    (g.met.S.Space.keeps_hold c.args.base.now c.plan_ready.new.base) (λ plain. tt) (λ told un. tt)
    c.in-Ok.ensures.reads)
    (Alters-wider space.state space.keeps space.lands few many c.plan_ready.new.base c.change.new.base None
    (plan_sites (table_in (space.state c.args.base.now).cells info) info c.args.given c.args.n mine free c.in-Ok.plan
    (c.in-Ok.ensures.exact told mine free can).1 c.in-Ok.ensures.in_table)
    c.in-Ok-change.ensures.alters)

pub returns-in-Err-change-clause-alters : goal.returns-in-Err-change-clause-alters
returns-in-Err-change-clause-alters g c = λ told mine free can.
    let info = c.args.info in
    let space = g.S.Space in
    let few = IsOfEntries info (plan_entries c.in-Ok.plan) in
    let many = IsSwapSite info mine free in
    let refusal = Some c.in-Err-change.bad in
    Alters-join space.state space.keeps space.lands g.met.S.Space.keeps_join many c.args.base.now
    c.plan_ready.new.base c.change.new.base refusal
    (Alters-read space.state space.keeps space.lands many c.args.base.now c.plan_ready.new.base None
    (g.met.S.Space.keeps_hold c.args.base.now c.plan_ready.new.base) (λ plain. tt) (λ told un. tt)
    c.in-Ok.ensures.reads)
    (Alters-wider space.state space.keeps space.lands few many c.plan_ready.new.base c.change.new.base refusal
    (plan_sites (table_in (space.state c.args.base.now).cells info) info c.args.given c.args.n mine free c.in-Ok.plan
    (c.in-Ok.ensures.exact told mine free can).1 c.in-Ok.ensures.in_table)
    c.in-Err-change.ensures.alters)

pub returns-in-Ok-change-clause-answer : goal.returns-in-Ok-change-clause-answer
returns-in-Ok-change-clause-answer g c = λ told mine free can.
    let s = g.S.Space.state c.args.base.now in
    let info = c.args.info in
    let stays = c.in-Ok.ensures.reads.stays in
    let planned = c.in-Ok.ensures.exact told mine free can in
    let nodes = planned.1.nodes in
    let apart = subst (λ (t : ℕ → ℕ → Cell). AreApartLists t info.count nodes.old_nodes nodes.free_nodes)
    (sym (table_stays s (g.S.Space.state c.plan_ready.new.base) info c.requires.table stays told)) nodes.apart in (
      planned.0.enough,
      swapped_lists (table_in (g.S.Space.state c.change.new.base).cells info) info.count c.args.n nodes.old_nodes
          nodes.free_nodes mine free c.in-Ok-change.taken nodes.old_is nodes.free_is
          (c.in-Ok-change.ensures.swapped (stays.space.told told) nodes.old_nodes nodes.free_nodes c.args.n apart
          planned.1.planned),
    )

pub returns-then-keeps_chain-clause-answer : goal.returns-then-keeps_chain-clause-answer
returns-then-keeps_chain-clause-answer g c = λ told mine free can.
    let s = g.S.Space.state c.args.base.now in
    let info = c.args.info in
    let table = table_in s.cells info in
    let planned = c.in-Ok.ensures.exact told mine free can in
    let later = table_stays s (g.S.Space.state c.plan_ready.new.base) info c.requires.table c.in-Ok.ensures.reads.stays
    told in
    let same = taken_as_old table info.count c.args.given c.args.n mine free c.in-Ok.plan planned.1
    c.in-Ok.ensures.in_table (c.keeps_chain.ensures.0 c.if-keeps_chain.true) in (
      planned.0.enough,
      subst (λ (t : ℕ → ℕ → Cell). IsSwapped t info.count c.args.n (mine ++ free) c.args.given) (sym later)
          (same_swapped table info.count c.args.n c.args.given mine free can same),
    )

pub returns-in-Ok-change-clause-unchanged : goal.returns-in-Ok-change-clause-unchanged
returns-in-Ok-change-clause-unchanged g c = λ told mine free can same.
    absurd (false≢true (sym c.if-keeps_chain.false ∙ c.keeps_chain.ensures.1
    (old_as_taken (table_in (g.S.Space.state c.args.base.now).cells c.args.info) c.args.info.count c.args.given c.args.n
    mine free c.in-Ok.plan (c.in-Ok.ensures.exact told mine free can).1 c.in-Ok.ensures.in_table same)))

pub returns-in-Err-change-clause-unchanged : goal.returns-in-Err-change-clause-unchanged
returns-in-Err-change-clause-unchanged g c = λ told mine free can same.
    absurd (false≢true (sym c.if-keeps_chain.false ∙ c.keeps_chain.ensures.1
    (old_as_taken (table_in (g.S.Space.state c.args.base.now).cells c.args.info) c.args.info.count c.args.given c.args.n
    mine free c.in-Ok.plan (c.in-Ok.ensures.exact told mine free can).1 c.in-Ok.ensures.in_table same)))

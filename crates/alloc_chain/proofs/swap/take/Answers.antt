use Rattle.std.proofs.Common.{Option, IfSome, subst}
use Rattle.chain_nodes.specs.Table.{table_in}
use Rattle.alloc_chain.specs.declared.plan.Boundary.{Boundary}
use Rattle.alloc_chain.specs.Plans.{AreCutBy, IsBoundaryIn}
use Rattle.alloc_chain.proofs.SwapLemmas.{cut_free, cut_starts, swapped_by}
use Rattle.alloc_chain.proofs.swap.take.Goals as goal

pub returns-in-Ok-clause-taken : goal.returns-in-Ok-clause-taken
returns-in-Ok-clause-taken g c = λ told nodes n free starts cut.
    let info = c.args.info in
    let boundary = c.in-Some.boundary in
    let old = table_in (g.S.Space.state c.args.base.now).cells info in
    let new = table_in (g.S.Space.state c.take_front.new.base).cells info in
    let here = subst (λ (o : Option Boundary). AreCutBy nodes n o) c.in-Some.is cut in
    let inside = subst (λ (o : Option Boundary). IfSome o (IsBoundaryIn info.count)) c.in-Some.is c.requires.boundary
    in
    swapped_by nodes n boundary here.1 new info.count c.args.first free.once starts inside.from
    (c.in-Ok.ensures.taken told here.1.before here.1.after (cut_free nodes n boundary here.1 old info.count free)
    here.1.next
    (cut_starts nodes n boundary here.1 c.args.first starts))

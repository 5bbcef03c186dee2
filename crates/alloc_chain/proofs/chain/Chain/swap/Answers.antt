use Rattle.std.specs.Result.{result_err}
use Rattle.save_bytes.specs.Within.{ChangesWithin}
use Rattle.save_bytes.proofs.SpaceLemmas.{UnlessDisk-map}
use Rattle.chain_nodes.specs.Table.{table_in}
use Rattle.chain_nodes.specs.Faults.{refusal_of}
use Rattle.alloc_chain.specs.Swaps.{IsSwapSite}
use Rattle.alloc_chain.proofs.AnswerLemmas.{others_kept, swap_exact, can_swap_later, can_take_later}
use Rattle.alloc_chain.proofs.chain.Chain.swap.Goals as goal

pub returns-clause-exact : goal.returns-clause-exact
returns-clause-exact g c = λ told ready soft mine free can able.
    let s = g.S.Space.state c.args.self.now.base.now in
    let t = g.S.Space.state c.swap_in.new.base in
    let info = c.args.self.now.info in
    let old = table_in s.cells info in
    swap_exact old (table_in t.cells info) info.count c.args.n mine free c.swap_in.result
    (c.swap_in.ensures.answer told mine free (can_swap_later ready old soft info.count c.args.given mine free can))
    (can_take_later ready old soft c.args.n mine free able)

pub returns-clause-others : goal.returns-clause-others
returns-clause-others g c = λ told mine free can first list chain apart.
    let s = g.S.Space.state c.args.self.now.base.now in
    let t = g.S.Space.state c.swap_in.new.base in
    let info = c.args.self.now.info in
    UnlessDisk-map (refusal_of (result_err c.swap_in.result))
    (λ (changes : ChangesWithin s (IsSwapSite info mine free) t.cells).
    others_kept s t info mine free c.requires.table (g.met.S.Space.no_twins c.args.self.now.base.now
    c.requires.single) changes
    first list apart chain)
    ((c.swap_in.ensures.alters told mine free can).changes told)

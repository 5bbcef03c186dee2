use Rattle.std.proofs.Common.{ℕ, List, ◌++◌, Some, subst}
use Rattle.std.specs.Result.{result_err}
use Rattle.chain_links.specs.Alters.{Alters, IsOfEntries}
use Rattle.alloc_chain.specs.Swaps.{first_of, given_entries, taken_entries}
use Rattle.chain_links.proofs.AlterLemmas.{alters_of, alters_then, among_left, among_right}
use Rattle.alloc_chain.proofs.swap.change.Goals as goal

pub returns-in-Ok-clause-swapped : goal.returns-in-Ok-clause-swapped
returns-in-Ok-clause-swapped g c = λ told old free n apart plan.
    let given = c.in-Ok.ensures.given told old free apart plan.given plan.head in
    c.take.ensures.taken (c.in-Ok.ensures.alters.space.told told) (old ++ free) n given.0 given.1 plan.cut

pub returns-in-Ok-clause-alters : goal.returns-in-Ok-clause-alters
returns-in-Ok-clause-alters g c =
    let space = g.S.Space in
    let plan = c.args.plan in
    let given : List ℕ = given_entries plan.given plan.head in
    let first = first_of plan.given plan.head in
    let taken : List ℕ = taken_entries first plan.boundary in
    let takes = subst (λ (f : ℕ). Alters space.state space.keeps space.lands (IsOfEntries c.args.info (taken_entries f
    plan.boundary))
    c.give.new.base c.take.new.base (result_err c.take.result)) c.in-Ok.ensures.first c.take.ensures.alters in
    alters_then space.state space.keeps space.lands g.met.S.Space.keeps_join c.args.info given taken (given ++ taken)
    c.args.base.now c.give.new.base c.take.new.base (result_err c.take.result) (among_left given taken) (among_right
    given taken)
    c.in-Ok.ensures.alters takes

pub returns-in-Err-clause-alters : goal.returns-in-Err-clause-alters
returns-in-Err-clause-alters g c =
    let space = g.S.Space in
    let plan = c.args.plan in
    let given : List ℕ = given_entries plan.given plan.head in
    let taken : List ℕ = taken_entries (first_of plan.given plan.head) plan.boundary in
    alters_of space.state space.keeps space.lands c.args.info given (given ++ taken) c.args.base.now c.give.new.base
    (Some c.in-Err.bad) (among_left given taken) c.in-Err.ensures.alters

use Rattle.std.proofs.Common.{ℕ, List, [], ◌∷◌, None, Some, refl, arith}
use Rattle.chain_links.specs.Alters.{cut_entries}
use Rattle.chain_links.proofs.AlterLemmas.{alters_of, among_three}
use Rattle.chain_links.proofs.links.cut.Goals as goal

pub returns-in-Ok-clause-alters : goal.returns-in-Ok-clause-alters
returns-in-Ok-clause-alters g c =
    let space = g.S.Space in
    let first = c.args.node.first in
    let next = c.args.next in
    let many : List ℕ = cut_entries c.args.node c.args.middle next in
    alters_of space.state space.keeps space.lands c.args.info (first ∷ 0 ∷ next ∷ []) many c.args.base.now
    c.cut_behind.new.base None
    (among_three first 0 next many (1, omega arith, refl) (0, omega arith, refl) (7, omega arith, refl))
    c.in-Ok.ensures.alters

pub returns-in-Err-clause-alters : goal.returns-in-Err-clause-alters
returns-in-Err-clause-alters g c =
    let space = g.S.Space in
    let first = c.args.node.first in
    let next = c.args.next in
    let many : List ℕ = cut_entries c.args.node c.args.middle next in
    alters_of space.state space.keeps space.lands c.args.info (first ∷ 0 ∷ next ∷ []) many c.args.base.now
    c.cut_behind.new.base (Some c.in-Err.bad)
    (among_three first 0 next many (1, omega arith, refl) (0, omega arith, refl) (7, omega arith, refl))
    c.in-Err.ensures.alters

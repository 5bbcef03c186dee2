use Rattle.std.proofs.Common.{ℕ, ◌+◌, min, List, [], ◌∷◌, Some, refl, arith}
use Rattle.std.specs.Result.{result_err}
use Rattle.chain_nodes.specs.declared.node.Lead.TheVariants.{OpensFree}
use Rattle.chain_nodes.specs.Table.{table_in}
use Rattle.chain_links.proofs.AlterLemmas.{alters_of, alters_then, among_two}
use Rattle.chain_links.proofs.LinkLemmas.{can_close}
use Rattle.chain_links.proofs.links.close.Goals as goal

pub returns-in-Ok-clause-linked : goal.returns-in-Ok-clause-linked
returns-in-Ok-clause-linked g c = λ told lead xs before.
    let info = c.args.info in
    let node = c.args.node in
    let old = table_in (g.S.Space.state c.args.base.now).cells info in
    let new = table_in (g.S.Space.state c.set_ends.new.base).cells info in
    let done = c.in-Ok.ensures in
    c.link.ensures.linked (done.alters.space.told told) lead OpensFree xs []
    (can_close old new info.count node (done.kept told) (done.second told) (done.last told) c.requires.some
    c.requires.ordered c.requires.inside lead xs before)

pub returns-in-Ok-clause-alters : goal.returns-in-Ok-clause-alters
returns-in-Ok-clause-alters g c =
    let space = g.S.Space in
    let node = c.args.node in
    let second : ℕ = min (node.first + 1) node.last in
    let many : List ℕ = node.first ∷ second ∷ node.last ∷ 0 ∷ [] in
    alters_then space.state space.keeps space.lands g.met.S.Space.keeps_join c.args.info (second ∷ node.last ∷ [])
    (node.first ∷ 0 ∷ []) many c.args.base.now c.set_ends.new.base c.link.new.base (result_err c.link.result)
    (among_two second node.last many (1, omega arith, refl) (2, omega arith, refl))
    (among_two node.first 0 many (0, omega arith, refl) (3, omega arith, refl)) c.in-Ok.ensures.alters
    c.link.ensures.alters

pub returns-in-Err-clause-alters : goal.returns-in-Err-clause-alters
returns-in-Err-clause-alters g c =
    let space = g.S.Space in
    let node = c.args.node in
    let second : ℕ = min (node.first + 1) node.last in
    let many : List ℕ = node.first ∷ second ∷ node.last ∷ 0 ∷ [] in
    alters_of space.state space.keeps space.lands c.args.info (second ∷ node.last ∷ []) many c.args.base.now
    c.set_ends.new.base
    (Some c.in-Err.bad) (among_two second node.last many (1, omega arith, refl) (2, omega arith, refl))
    c.in-Err.ensures.alters

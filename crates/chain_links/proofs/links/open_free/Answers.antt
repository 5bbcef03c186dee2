use Rattle.std.proofs.Common.{ℕ, ◌+◌, min, List, [], ◌∷◌, None, Some, refl, arith}
use Rattle.std.specs.Result.{result_err}
use Rattle.chain_nodes.specs.declared.node.Lead.TheVariants.{OpensFree}
use Rattle.chain_nodes.specs.Table.{table_in}
use Rattle.chain_links.specs.Alters.{Alters, IsOfEntries}
use Rattle.chain_links.proofs.AlterLemmas.{alters_of, alters_then, among_one, among_two, among_all}
use Rattle.chain_links.proofs.LinkLemmas.{can_open}
use Rattle.chain_links.proofs.links.open_free.Goals as goal

pub returns-in-Ok-set_words-clause-linked : goal.returns-in-Ok-set_words-clause-linked
returns-in-Ok-set_words-clause-linked g c = λ told lead ys behind.
    let info = c.args.info in
    let node = c.args.node in
    let old = table_in (g.S.Space.state c.args.base.now).cells info in
    let mid = table_in (g.S.Space.state c.set_ends.new.base).cells info in
    let new = table_in (g.S.Space.state c.set_words.new.base).cells info in
    let ends = c.in-Ok.ensures in
    let told_mid = ends.alters.space.told told in
    c.link.ensures.linked (c.in-Ok-set_words.ensures.alters.space.told told_mid) OpensFree lead [] ys
    (can_open old mid info.count node (ends.kept told) (ends.second told) (ends.last told) c.requires.some
    c.requires.ordered c.requires.inside new (c.in-Ok-set_words.ensures.set told_mid) lead ys c.args.next behind)

pub returns-in-Err-clause-alters : goal.returns-in-Err-clause-alters
returns-in-Err-clause-alters g c =
    let space = g.S.Space in
    let node = c.args.node in
    let second : ℕ = min (node.first + 1) node.last in
    let many : List ℕ = node.first ∷ second ∷ node.last ∷ c.args.next ∷ [] in
    alters_of space.state space.keeps space.lands c.args.info (second ∷ node.last ∷ []) many c.args.base.now
    c.set_ends.new.base
    (Some c.in-Err.bad) (among_two second node.last many (1, omega arith, refl) (2, omega arith, refl))
    c.in-Err.ensures.alters

pub returns-in-Err-set_words-clause-alters : goal.returns-in-Err-set_words-clause-alters
returns-in-Err-set_words-clause-alters g c =
    let space = g.S.Space in
    let node = c.args.node in
    let second : ℕ = min (node.first + 1) node.last in
    let many : List ℕ = node.first ∷ second ∷ node.last ∷ c.args.next ∷ [] in
    alters_then space.state space.keeps space.lands g.met.S.Space.keeps_join c.args.info (second ∷ node.last ∷ [])
    (node.first ∷ []) many c.args.base.now c.set_ends.new.base c.set_words.new.base (Some c.in-Err-set_words.bad)
    (among_two second node.last many (1, omega arith, refl) (2, omega arith, refl))
    (among_one node.first many (0, omega arith, refl)) c.in-Ok.ensures.alters c.in-Err-set_words.ensures.alters

pub returns-in-Ok-set_words-clause-alters : goal.returns-in-Ok-set_words-clause-alters
returns-in-Ok-set_words-clause-alters g c =
    let space = g.S.Space in
    let node = c.args.node in
    let second : ℕ = min (node.first + 1) node.last in
    let many : List ℕ = node.first ∷ second ∷ node.last ∷ c.args.next ∷ [] in
    let ends : Alters space.state space.keeps space.lands (IsOfEntries c.args.info many) c.args.base.now
    c.set_words.new.base None =
    alters_then space.state space.keeps space.lands g.met.S.Space.keeps_join c.args.info (second ∷ node.last ∷ [])
    (node.first ∷ []) many c.args.base.now c.set_ends.new.base c.set_words.new.base None
    (among_two second node.last many (1, omega arith, refl) (2, omega arith, refl))
    (among_one node.first many (0, omega arith, refl)) c.in-Ok.ensures.alters c.in-Ok-set_words.ensures.alters in
    alters_then space.state space.keeps space.lands g.met.S.Space.keeps_join c.args.info many
    (node.first ∷ c.args.next ∷ []) many c.args.base.now c.set_words.new.base c.link.new.base (result_err
    c.link.result)
    (among_all many)
    (among_two node.first c.args.next many (0, omega arith, refl) (3, omega arith, refl)) ends c.link.ensures.alters

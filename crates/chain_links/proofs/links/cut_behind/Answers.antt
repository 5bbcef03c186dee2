use Rattle.std.proofs.Common.{◌≢◌, ℕ, List, [], ◌∷◌, None, Some, refl, arith}
use Rattle.std.specs.Result.{result_err}
use Rattle.save_bytes.proofs.SpaceLemmas.{IfDone-map}
use Rattle.chain_nodes.specs.declared.node.Lead.TheVariants.{OpensFree}
use Rattle.chain_nodes.specs.Table.{table_in, word_v}
use Rattle.chain_nodes.specs.Edits.{IsEntrySet}
use Rattle.chain_links.proofs.AlterLemmas.{alters_of, alters_then, among_one, among_two}
use Rattle.chain_links.proofs.CutLemmas.{can_end, cut_none, cut_some, next_read}
use Rattle.chain_links.proofs.links.cut_behind.Goals as goal

pub returns-in-Err-clause-alters : goal.returns-in-Err-clause-alters
returns-in-Err-clause-alters g c =
    let space = g.S.Space in
    let first = c.args.node.first in
    let many : List ℕ = first ∷ 0 ∷ c.args.next ∷ [] in
    alters_of space.state space.keeps space.lands c.args.info (first ∷ 0 ∷ []) many c.args.base.now c.link.new.base
    (Some c.in-Err.bad) (among_two first 0 many (0, omega arith, refl) (1, omega arith, refl)) c.in-Err.ensures.alters

pub returns-then-next-eq0-clause-alters : goal.returns-then-next-eq0-clause-alters
returns-then-next-eq0-clause-alters g c =
    let space = g.S.Space in
    let first = c.args.node.first in
    let many : List ℕ = first ∷ 0 ∷ c.args.next ∷ [] in
    alters_of space.state space.keeps space.lands c.args.info (first ∷ 0 ∷ []) many c.args.base.now c.link.new.base
    None (among_two first 0 many (0, omega arith, refl) (1, omega arith, refl)) c.in-Ok.ensures.alters

pub returns-clause-alters : goal.returns-clause-alters
returns-clause-alters g c =
    let space = g.S.Space in
    let first = c.args.node.first in
    let many : List ℕ = first ∷ 0 ∷ c.args.next ∷ [] in
    alters_then space.state space.keeps space.lands g.met.S.Space.keeps_join c.args.info (first ∷ 0 ∷ [])
    (c.args.next ∷ []) many
    c.args.base.now c.link.new.base c.set_u.new.base (result_err c.set_u.result)
    (among_two first 0 many (0, omega arith, refl) (1, omega arith, refl))
    (among_one c.args.next many (2, omega arith, refl)) c.in-Ok.ensures.alters c.set_u.ensures.alters

pub returns-then-next-eq0-clause-cut : goal.returns-then-next-eq0-clause-cut
returns-then-next-eq0-clause-cut g c = λ told xs ys around.
    let s = g.S.Space.state c.args.base.now in
    let m = g.S.Space.state c.link.new.base in
    let info = c.args.info in
    let node = c.args.node in
    let done = c.in-Ok.ensures in
    cut_none s info xs node ys c.args.next around m c.requires.table (g.met.S.Space.no_twins c.args.base.now
    c.requires.single)
    (done.alters.changes told) (omega arith)
    (done.linked told OpensFree OpensFree xs [] (can_end s info xs node ys c.args.next around))

pub returns-clause-cut : goal.returns-clause-cut
returns-clause-cut g c = λ told xs ys around.
    let s = g.S.Space.state c.args.base.now in
    let m = g.S.Space.state c.link.new.base in
    let t = g.S.Space.state c.set_u.new.base in
    let info = c.args.info in
    let node = c.args.node in
    let next = c.args.next in
    let done = c.in-Ok.ensures in
    let single = g.met.S.Space.no_twins c.args.base.now c.requires.single in
    let some : next ≢ 0 = λ none. omega (arith, none) in
    let changes = done.alters.changes told in
    IfDone-map (result_err c.set_u.result)
    (λ (set : IsEntrySet (table_in m.cells info) (table_in t.cells info) info.count next 0 (word_v (table_in m.cells
    info) next)).
    cut_some s info xs node ys next around m c.requires.table single changes t some set
    (done.linked told OpensFree OpensFree xs [] (can_end s info xs node ys next around)))
    (c.set_u.ensures.set (done.alters.space.told told)
    (next_read s info xs node ys next around m c.requires.table single changes some))

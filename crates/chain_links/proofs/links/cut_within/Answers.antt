use Rattle.std.proofs.Common.{ℕ, ◌+◌, ◌++◌, min, List, [], ◌∷◌, Some, IsFalse, refl, sym, subst, arith}
use Rattle.std.specs.Result.{result_err}
use Rattle.save_bytes.specs.State.{Shape}
use Rattle.save_bytes.specs.Within.{ChangesWithin}
use Rattle.save_bytes.proofs.SpaceLemmas.{IfDone-both}
use Rattle.chain_nodes.specs.declared.node.Lead.TheVariants.{OpensFree, Follows}
use Rattle.chain_nodes.specs.Table.{table_in, HasAllocationTable}
use Rattle.chain_nodes.specs.Chains.{AreNodes}
use Rattle.chain_links.specs.Alters.{IsOfEntries, cut_entries}
use Rattle.chain_links.proofs.AlterLemmas.{alters_of, alters_then, among_four}
use Rattle.chain_links.proofs.CutLemmas.{right_behind, left_before, cut_done}
use Rattle.chain_links.proofs.links.cut_within.Goals as goal

pub returns-in-Ok-clause-cut : goal.returns-in-Ok-clause-cut
returns-in-Ok-clause-cut g c = λ told xs ys around.
    let space = g.S.Space in
    let s = space.state c.args.base.now in
    let m = space.state c.open_free.new.base in
    let t = space.state c.close.new.base in
    let info = c.args.info in
    let node = c.args.node in
    let middle = c.args.middle in
    let next = c.args.next in
    let done = c.in-Ok.ensures in
    let told_mid = done.alters.space.told told in
    let shape = done.alters.space.shape in
    let table = subst (λ (shape : Shape). HasAllocationTable shape info) (sym shape) c.requires.table in
    let single = g.met.S.Space.no_twins c.args.base.now c.requires.single in
    let single_mid = g.met.S.Space.no_twins c.open_free.new.base
    (subst (λ (shape : Shape). IsFalse shape.doubled) (sym shape) c.requires.single) in
    let behind = done.linked told (Follows node.first) ys
    (right_behind s info xs node ys next around middle c.requires.from c.requires.below) in
    IfDone-both (result_err c.close.result)
    (λ (front : AreNodes (table_in t.cells info) info.count OpensFree (xs ++ record {
      first = node.first;
      last =
          middle;
    } ∷ []) 0).
    λ (changes : ChangesWithin m (IsOfEntries info (node.first ∷ min (node.first + 1) middle ∷ middle ∷ 0 ∷ []))
    t.cells).
    cut_done s info xs node ys next around middle c.requires.from c.requires.below m t table single_mid changes
    behind front)
    (c.close.ensures.linked told_mid OpensFree xs
    (left_before s info xs node ys next around middle c.requires.from c.requires.below m c.requires.table single
    (done.alters.changes told)))
    (c.close.ensures.alters.changes told_mid)

pub returns-in-Ok-clause-alters : goal.returns-in-Ok-clause-alters
returns-in-Ok-clause-alters g c =
    let space = g.S.Space in
    let node = c.args.node in
    let middle = c.args.middle in
    let next = c.args.next in
    let many : List ℕ = cut_entries node middle next in
    let right : List ℕ = (middle + 1) ∷ min (middle + 1 + 1) node.last ∷ node.last ∷ next ∷ [] in
    let left : List ℕ = node.first ∷ min (node.first + 1) middle ∷ middle ∷ 0 ∷ [] in
    alters_then space.state space.keeps space.lands g.met.S.Space.keeps_join c.args.info right left many
    c.args.base.now c.open_free.new.base c.close.new.base (result_err c.close.result)
    (among_four (middle + 1) (min (middle + 1 + 1) node.last) node.last next many
    (4, omega arith, omega (arith, c.requires.below)) (5, omega arith, omega (arith, c.requires.below))
    (6, omega arith, refl) (7, omega arith, refl))
    (among_four node.first (min (node.first + 1) middle) middle 0 many (1, omega arith, refl) (2, omega arith, refl)
    (3, omega arith, refl) (0, omega arith, refl))
    c.in-Ok.ensures.alters c.close.ensures.alters

pub returns-in-Err-clause-alters : goal.returns-in-Err-clause-alters
returns-in-Err-clause-alters g c =
    let space = g.S.Space in
    let node = c.args.node in
    let middle = c.args.middle in
    let next = c.args.next in
    let many : List ℕ = cut_entries node middle next in
    let right : List ℕ = (middle + 1) ∷ min (middle + 1 + 1) node.last ∷ node.last ∷ next ∷ [] in
    alters_of space.state space.keeps space.lands c.args.info right many c.args.base.now c.open_free.new.base
    (Some c.in-Err.bad)
    (among_four (middle + 1) (min (middle + 1 + 1) node.last) node.last next many
    (4, omega arith, omega (arith, c.requires.below)) (5, omega arith, omega (arith, c.requires.below))
    (6, omega arith, refl) (7, omega arith, refl))
    c.in-Err.ensures.alters

use Rattle.std.proofs.Common.{◌≡◌, ◌≢◌, ℕ, ◌+◌, ◌<◌, ◌≤◌, min, List, [], ◌∷◌, Some, refl, arith}
use Rattle.std.specs.Result.{result_err}
use Rattle.save_bytes.proofs.SpaceLemmas.{IfDone-map}
use Rattle.chain_nodes.specs.Table.{table_in, flagged}
use Rattle.chain_nodes.specs.Edits.{IsEntrySet}
use Rattle.chain_links.proofs.AlterLemmas.{alters_of, alters_then, among_one}
use Rattle.chain_links.proofs.LinkLemmas.{set_inner, inner_stays, kept_twice}
use Rattle.chain_links.proofs.links.set_ends.Goals as goal

pub returns-in-Ok-clause-second : goal.returns-in-Ok-clause-second
returns-in-Ok-clause-second g c = λ told.
    let info = c.args.info in
    let node = c.args.node in
    let old = table_in (g.S.Space.state c.args.base.now).cells info in
    let mid = table_in (g.S.Space.state c.set_words.new.base).cells info in
    let new = table_in (g.S.Space.state c.set_words-in-Ok.new.base).cells info in
    let first = set_inner old mid info.count node (node.first + 1) (c.in-Ok.ensures.set told) in
    IfDone-map (result_err c.set_words-in-Ok.result)
    (λ (set : IsEntrySet mid new info.count node.last (flagged node.first) node.last).
    λ (more : node.first < node.last). inner_stays mid new info.count node node.last set more c.requires.inside first)
    (c.set_words-in-Ok.ensures.set (c.in-Ok.ensures.alters.space.told told))

pub returns-in-Ok-clause-last : goal.returns-in-Ok-clause-last
returns-in-Ok-clause-last g c = λ told.
    let info = c.args.info in
    let node = c.args.node in
    let mid = table_in (g.S.Space.state c.set_words.new.base).cells info in
    let new = table_in (g.S.Space.state c.set_words-in-Ok.new.base).cells info in
    IfDone-map (result_err c.set_words-in-Ok.result)
    (λ (set : IsEntrySet mid new info.count node.last (flagged node.first) node.last).
    λ (more : node.first < node.last). set_inner mid new info.count node node.last set)
    (c.set_words-in-Ok.ensures.set (c.in-Ok.ensures.alters.space.told told))

pub returns-in-Ok-clause-alters : goal.returns-in-Ok-clause-alters
returns-in-Ok-clause-alters g c =
    let space = g.S.Space in
    let node = c.args.node in
    let second : ℕ = node.first + 1 in
    let is : min (node.first + 1) node.last ≡ second = omega (arith, c.requires.ordered) in
    let many : List ℕ = min (node.first + 1) node.last ∷ node.last ∷ [] in
    alters_then space.state space.keeps space.lands g.met.S.Space.keeps_join c.args.info (second ∷ []) (node.last ∷
    []) many
    c.args.base.now c.set_words.new.base c.set_words-in-Ok.new.base (result_err c.set_words-in-Ok.result)
    (among_one second many (0, omega arith, is))
    (among_one node.last many (1, omega arith, refl)) c.in-Ok.ensures.alters c.set_words-in-Ok.ensures.alters

pub returns-in-Err-clause-alters : goal.returns-in-Err-clause-alters
returns-in-Err-clause-alters g c =
    let space = g.S.Space in
    let node = c.args.node in
    let second : ℕ = node.first + 1 in
    let is : min (node.first + 1) node.last ≡ second = omega (arith, c.requires.ordered) in
    let many : List ℕ = min (node.first + 1) node.last ∷ node.last ∷ [] in
    alters_of space.state space.keeps space.lands c.args.info (second ∷ []) many c.args.base.now c.set_words.new.base
    (Some c.in-Err.bad) (among_one second many (0, omega arith, is)) c.in-Err.ensures.alters

pub returns-in-Ok-clause-kept : goal.returns-in-Ok-clause-kept
returns-in-Ok-clause-kept g c = λ told.
    let info = c.args.info in
    let node = c.args.node in
    let old = table_in (g.S.Space.state c.args.base.now).cells info in
    let mid = table_in (g.S.Space.state c.set_words.new.base).cells info in
    let new = table_in (g.S.Space.state c.set_words-in-Ok.new.base).cells info in
    let first = c.in-Ok.ensures.set told in
    IfDone-map (result_err c.set_words-in-Ok.result)
    (λ (set : IsEntrySet mid new info.count node.last (flagged node.first) node.last).
    λ (x : ℕ) (inside : x ≤ info.count) (apart : ¬ ((node.first < x) × (x ≤ node.last))).
    let second_other : x ≢ node.first + 1 = λ same. apart (
      omega (arith, same),
      omega (
        arith,
        same,
        c.if-node.false,
        c.requires.ordered,
      ),
    ) in
    let last_other : x ≢ node.last = λ same. apart (
      omega (arith, same, c.if-node.false, c.requires.ordered),
      omega
          (arith, same),
    ) in
    kept_twice old mid new x (first.others x inside second_other) (set.others x inside last_other))
    (c.set_words-in-Ok.ensures.set (c.in-Ok.ensures.alters.space.told told))

use Rattle.std.proofs.Common.{◌≡◌, ◌≢◌, ℕ, List, [], ◌∷◌, ◌++◌, None, Some, refl, sym, ◌∙◌, subst, arith}
use Rattle.std.specs.Result.{result_err}
use Rattle.save_bytes.proofs.SpaceLemmas.{IfDone-map}
use Rattle.chain_nodes.specs.Table.{table_in, word_v, HasWords}
use Rattle.chain_nodes.specs.Chains.{AreNodes}
use Rattle.chain_nodes.specs.Edits.{IsEntrySet}
use Rattle.chain_nodes.proofs.EditLemmas.{front_named, behind_kept, both_linked, none_linked, start_read}
use Rattle.chain_links.proofs.AlterLemmas.{alters_of, alters_then, among_one}
use Rattle.chain_links.proofs.links.link.Goals as goal

pub returns-in-Err-clause-alters : goal.returns-in-Err-clause-alters
returns-in-Err-clause-alters g c =
    let space = g.S.Space in
    let first = c.args.before.first in
    let many : List ℕ = first ∷ c.args.after ∷ [] in
    alters_of space.state space.keeps space.lands c.args.info (first ∷ []) many c.args.base.now c.set_v.new.base
    (Some c.in-Err.bad) (among_one first many (0, omega arith, refl)) c.in-Err.ensures.alters

pub returns-then-after-eq0-clause-alters : goal.returns-then-after-eq0-clause-alters
returns-then-after-eq0-clause-alters g c =
    let space = g.S.Space in
    let first = c.args.before.first in
    let many : List ℕ = first ∷ c.args.after ∷ [] in
    alters_of space.state space.keeps space.lands c.args.info (first ∷ []) many c.args.base.now c.set_v.new.base
    None (among_one first many (0, omega arith, refl)) c.in-Ok.ensures.alters

pub returns-clause-alters : goal.returns-clause-alters
returns-clause-alters g c =
    let space = g.S.Space in
    let first = c.args.before.first in
    let many : List ℕ = first ∷ c.args.after ∷ [] in
    alters_then space.state space.keeps space.lands g.met.S.Space.keeps_join c.args.info (first ∷ []) (c.args.after ∷
    []) many
    c.args.base.now c.set_v.new.base c.set_u.new.base (result_err c.set_u.result) (among_one first many (
      0,
      omega
          arith,
      refl,
    ))
    (among_one c.args.after many (1, omega arith, refl)) c.in-Ok.ensures.alters c.set_u.ensures.alters

pub returns-then-after-eq0-clause-linked : goal.returns-then-after-eq0-clause-linked
returns-then-after-eq0-clause-linked g c = λ told lead other xs ys join.
    let info = c.args.info in
    let count = info.count in
    let before = c.args.before in
    let old = table_in (g.S.Space.state c.args.base.now).cells info in
    let new = table_in (g.S.Space.state c.set_v.new.base).cells info in
    let v = c.head_word.result in
    let set = c.in-Ok.ensures.set told join.ends.read in
    let none : c.args.after ≡ 0 = omega arith in
    none_linked count lead xs before ys join.once new other
    (behind_kept count lead xs before ys join.once old new v set join.ends other join.behind) (join.starts ∙ none)
    (subst (λ (n : ℕ). AreNodes new count lead (xs ++ before ∷ []) n) none
    (front_named count lead xs before ys join.once old new v set join.ends c.args.after c.head_word.ensures.word
    join.front))

pub returns-clause-linked : goal.returns-clause-linked
returns-clause-linked g c = λ told lead other xs ys join.
    let info = c.args.info in
    let count = info.count in
    let before = c.args.before in
    let after = c.args.after in
    let old = table_in (g.S.Space.state c.args.base.now).cells info in
    let mid = table_in (g.S.Space.state c.set_v.new.base).cells info in
    let new = table_in (g.S.Space.state c.set_u.new.base).cells info in
    let v = c.head_word.result in
    let set = c.in-Ok.ensures.set told join.ends.read in
    let some : after ≢ 0 = λ none. omega (arith, none) in
    let behind = behind_kept count lead xs before ys join.once old mid v set join.ends other join.behind in
    let front = front_named count lead xs before ys join.once old mid v set join.ends after c.head_word.ensures.word
    join.front in
    let read = subst (λ (e : ℕ). HasWords mid e) join.starts
    (start_read mid count other ys behind (λ none. some (sym join.starts ∙ none))) in
    IfDone-map (result_err c.set_u.result)
    (λ (led : IsEntrySet mid new count after before.first (word_v mid after)).
    both_linked count lead xs before ys join.once mid new other after (word_v mid after) join.starts some refl led
    front behind)
    (c.set_u.ensures.set (c.in-Ok.ensures.alters.space.told told) read)

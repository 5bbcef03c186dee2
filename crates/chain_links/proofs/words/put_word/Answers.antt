use Rattle.std.proofs.Common.{◌≡◌, ◌≤◌, ℕ, List, length, replicate, ◌∙◌, ap, subst, arith}
use Rattle.std.specs.Result.{result_err}
use Rattle.std.proofs.lemmas.Grind.{common_steps}
use Rattle.save_bytes.specs.Fields.{number_at}
use Rattle.save_bytes.specs.Writes.{IsWithin}
use Rattle.save_bytes.specs.Puts.{HasPut}
use Rattle.save_bytes.proofs.FieldLemmas.{number_at-put}
use Rattle.save_bytes.proofs.SpaceLemmas.{IfDone-map, can_put}
use Rattle.chain_links.specs.Alters.{Alters}
use Rattle.chain_links.proofs.AlterLemmas.{put_alters}
use Rattle.chain_links.proofs.WordLemmas.{word_put}
use Rattle.chain_links.proofs.words.put_word.Goals as goal

pub returns-clause-put : goal.returns-clause-put
returns-clause-put g c = λ told.
    let old = g.S.Space.state c.args.base.now in
    let new = g.S.Space.state c.put.new.self in
    let field = c.set_u32.new.bytes in
    let len : length field ≡ 4 = grind (arith, common_steps, c.set_u32.auto.bytes) in
    let from_zero : (l : List ℕ) → 0 ≤ length l = λ l. omega arith in
    let is : number_at 4 field 0 ≡ c.args.value = ap (λ (l : List ℕ). number_at 4 l 0) c.set_u32.ensures
    ∙ number_at-put 4 c.args.value (replicate 4 0) 0 (from_zero (replicate 4 0)) c.ranges.value.fits in
    let single = g.met.S.Space.no_twins c.args.base.now c.requires.single in
    IfDone-map (result_err c.put.result)
    (λ (put : HasPut old c.args.at field new.cells).
    word_put old c.args.at c.args.value field new single len is c.requires.writable.inside.inside put)
    (c.put.ensures.puts.done (can_put old c.args.at (length field) single told))

pub returns-clause-alters : goal.returns-clause-alters
returns-clause-alters g c =
    let space = g.S.Space in
    let field = c.set_u32.new.bytes in
    let len : length field ≡ 4 = grind (arith, common_steps, c.set_u32.auto.bytes) in
    subst (λ (n : ℕ). Alters space.state space.keeps space.lands (IsWithin c.args.at n) c.args.base.now c.put.new.self
    (result_err c.put.result)) len
    (put_alters space.state space.keeps space.lands c.args.base.now c.put.new.self c.args.at field
    (g.met.S.Space.no_twins c.args.base.now c.requires.single) (result_err c.put.result)
    (omega (arith, len, c.requires.writable.inside.inside)) c.put.ensures.plain c.put.ensures.ready c.put.ensures.puts
    c.put.ensures.moves)

use Rattle.std.proofs.Common.{ℕ, ◌+◌, ◌*◌, [], ◌∷◌, Some, arith}
use Rattle.std.specs.Result.{result_err}
use Rattle.save_bytes.specs.Writes.{IsWithin}
use Rattle.save_bytes.proofs.SpaceLemmas.{IfDone-map}
use Rattle.chain_links.specs.Alters.{IsOfEntries, IsWordPut}
use Rattle.chain_links.proofs.AlterLemmas.{Alters-wider, alters_both}
use Rattle.chain_links.proofs.WordLemmas.{of_word, words_put}
use Rattle.chain_links.proofs.words.set_words.Goals as goal

pub returns-in-Ok-clause-set : goal.returns-in-Ok-clause-set
returns-in-Ok-clause-set g c = λ told.
    let old = g.S.Space.state c.args.base.now in
    let mid = g.S.Space.state c.put_word.new.base in
    let new = g.S.Space.state c.put_word-in-Ok.new.base in
    let at : ℕ = c.args.info.table_at + 8 * c.from.result in
    IfDone-map (result_err c.put_word-in-Ok.result)
    (λ (put : IsWordPut mid new (at + 4) c.args.v). words_put old mid new c.args.info c.args.entry at c.args.u
    c.args.v
    c.requires.table c.in-Ok.ensures.alters.space.shape c.requires.inside (omega (arith, c.from.ensures))
    (c.in-Ok.ensures.put told) put)
    (c.put_word-in-Ok.ensures.put (c.in-Ok.ensures.alters.space.told told))

pub returns-in-Ok-clause-alters : goal.returns-in-Ok-clause-alters
returns-in-Ok-clause-alters g c =
    let space = g.S.Space in
    let at : ℕ = c.args.info.table_at + 8 * c.from.result in
    alters_both space.state space.keeps space.lands g.met.S.Space.keeps_join (IsWithin at 4) (IsWithin (at + 4) 4)
    (IsOfEntries c.args.info (c.args.entry ∷ [])) c.args.base.now c.put_word.new.base c.put_word-in-Ok.new.base
    (result_err c.put_word-in-Ok.result)
    (of_word c.args.info c.args.entry at (omega (arith, c.from.ensures)) (omega (arith, c.from.ensures)))
    (of_word c.args.info c.args.entry (at + 4) (omega (arith, c.from.ensures)) (omega (arith, c.from.ensures)))
    c.in-Ok.ensures.alters c.put_word-in-Ok.ensures.alters

pub returns-in-Err-clause-alters : goal.returns-in-Err-clause-alters
returns-in-Err-clause-alters g c =
    let space = g.S.Space in
    let at : ℕ = c.args.info.table_at + 8 * c.from.result in
    Alters-wider space.state space.keeps space.lands (IsWithin at 4) (IsOfEntries c.args.info (c.args.entry ∷ []))
    c.args.base.now
    c.put_word.new.base (Some c.in-Err.bad)
    (of_word c.args.info c.args.entry at (omega (arith, c.from.ensures)) (omega (arith, c.from.ensures)))
    c.in-Err.ensures.alters

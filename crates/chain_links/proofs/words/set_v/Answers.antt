use Rattle.std.proofs.Common.{ℕ, ◌+◌, ◌*◌, [], ◌∷◌, arith}
use Rattle.std.specs.Result.{result_err}
use Rattle.save_bytes.specs.Writes.{IsWithin}
use Rattle.save_bytes.proofs.SpaceLemmas.{IfDone-map}
use Rattle.chain_links.specs.Alters.{IsOfEntries, IsWordPut}
use Rattle.chain_links.proofs.AlterLemmas.{Alters-wider}
use Rattle.chain_links.proofs.WordLemmas.{of_word, v_put}
use Rattle.chain_links.proofs.words.set_v.Goals as goal

pub returns-clause-set : goal.returns-clause-set
returns-clause-set g c = λ told words.
    let old = g.S.Space.state c.args.base.now in
    let new = g.S.Space.state c.put_word.new.base in
    let at : ℕ = c.args.info.table_at + 8 * c.from.result + 4 in
    IfDone-map (result_err c.put_word.result)
    (λ (put : IsWordPut old new at c.args.v). v_put old new c.args.info c.requires.table at c.args.v put c.args.entry
    c.requires.inside (omega (arith, c.from.ensures)) words)
    (c.put_word.ensures.put told)

pub returns-clause-alters : goal.returns-clause-alters
returns-clause-alters g c =
    let space = g.S.Space in
    let at : ℕ = c.args.info.table_at + 8 * c.from.result + 4 in
    Alters-wider space.state space.keeps space.lands (IsWithin at 4) (IsOfEntries c.args.info (c.args.entry ∷ []))
    c.args.base.now
    c.put_word.new.base (result_err c.put_word.result)
    (of_word c.args.info c.args.entry at (omega (arith, c.from.ensures)) (omega (arith, c.from.ensures)))
    c.put_word.ensures.alters

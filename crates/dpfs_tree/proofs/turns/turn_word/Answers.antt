use Rattle.std.proofs.Common.{◌≡◌, ◌<◌, ◌≤◌, ◌^◌, ℕ, List, bit_xor, length, replicate, ◌∙◌, ap, subst, arith}
use Rattle.std.specs.Result.{result_err}
use Rattle.std.proofs.lemmas.Grind.{common_steps}
use Rattle.std.proofs.lemmas.Nat.{xor_lt}
use Rattle.save_bytes.specs.Fields.{number_at}
use Rattle.save_bytes.proofs.FieldLemmas.{number_at-put}
use Rattle.save_bytes.specs.Cells.{AreBytesAt}
use Rattle.save_bytes.specs.Writes.{IsWithin, Writes}
use Rattle.save_bytes.proofs.SpaceLemmas.{IfDone-map}
use Rattle.save_bytes.proofs.WriteLemmas.{writes_after}
use Rattle.dpfs_tree.proofs.TurnLemmas.{word_turned}
use Rattle.dpfs_tree.proofs.turns.turn_word.Goals as goal

pub returns-clause-turned : goal.returns-clause-turned
returns-clause-turned g c = λ told.
    let new = (g.S.Space.state c.put_bytes.new.base).cells in
    let len : length c.set_u32.new.bytes ≡ 4 = grind (arith, common_steps, c.set_u32.auto.bytes) in
    let small : c.in-Ok.word < 2 ^ 32 = grind (arith, c.space_u32.type_inv) in
    let from_zero : (l : List ℕ) → 0 ≤ length l = λ l. omega arith in
    let is : number_at 4 c.set_u32.new.bytes 0 ≡ bit_xor c.in-Ok.word c.args.mask =
    ap (λ (l : List ℕ). number_at 4 l 0) c.set_u32.ensures
    ∙ number_at-put 4 (bit_xor c.in-Ok.word c.args.mask) (replicate 4 0) 0 (from_zero (replicate 4 0))
    (xor_lt 32 c.in-Ok.word c.args.mask small c.ranges.mask.fits) in
    IfDone-map (result_err c.put_bytes.result)
    (λ (are : AreBytesAt new c.args.at c.set_u32.new.bytes).
    word_turned new c.args.at (bit_xor c.in-Ok.word c.args.mask) c.set_u32.new.bytes len is are
    ∙ ap (λ (w : ℕ). bit_xor w c.args.mask) (c.in-Ok.ensures.number told))
    (c.put_bytes.ensures.bytes (c.in-Ok.ensures.reads.stays.space.told told))

pub returns-clause-writes : goal.returns-clause-writes
returns-clause-writes g c =
    let space = g.S.Space in
    let len : length c.set_u32.new.bytes ≡ 4 = grind (arith, common_steps, c.set_u32.auto.bytes) in
    let refusal = result_err c.put_bytes.result in
    let writes = subst (λ (n : ℕ). Writes space.state space.keeps space.lands (IsWithin c.args.at n)
    c.space_u32.new.space
    c.put_bytes.new.base refusal) len c.put_bytes.ensures.writes in
    writes_after space.state space.keeps space.lands g.met.S.Space.keeps_join g.met.S.Space.keeps_hold
    (IsWithin c.args.at 4)
    c.args.base.now c.space_u32.new.space c.put_bytes.new.base refusal c.in-Ok.ensures.reads writes

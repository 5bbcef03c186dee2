use Rattle.std.proofs.Common.{◌≡◌, ℕ, List, [], ◌∷◌, length, ap, ◌∙◌, arith}
use Rattle.save_bytes.specs.Fields.{number_at}
use Rattle.save_bytes.proofs.FieldLemmas.{number_at-put}
use Rattle.save_bytes.proofs.SpaceLemmas.{IfDone-map}
use Rattle.entry_tables.proofs.ChangeLemmas.{ChangesAt-put}
use Rattle.entry_tables.proofs.ValueLemmas.{number_put, bytes_put}
use Rattle.entry_tables.proofs.word.put_number.Goals as goal
use Rattle.std.specs.Result.{result_err}

pub returns-clause-number : goal.returns-clause-number
returns-clause-number g c = λ can.
    let space = g.S.Space in
    let long : length c.set_u32.new.bytes ≡ 4 = c.set_u32.auto.bytes in
    let value : number_at 4 c.set_u32.new.bytes 0 ≡ c.args.value =
    ap (λ (bytes : List ℕ). number_at 4 bytes 0) c.set_u32.ensures
    ∙ number_at-put 4 c.args.value (0 ∷ 0 ∷ 0 ∷ 0 ∷ []) 0 (omega arith) c.ranges.value.fits in
    IfDone-map (result_err c.put.result)
    (number_put (space.state c.args.space.now) c.args.at c.set_u32.new.bytes (space.state c.put.new.self).cells 4
    c.args.value (omega (arith, long, c.requires.inside.inside)) long value)
    (c.put.ensures.puts.done (rw long can))

pub returns-clause-changes : goal.returns-clause-changes
returns-clause-changes g c =
    let space = g.S.Space in
    let long : length c.set_u32.new.bytes ≡ 4 = c.set_u32.auto.bytes in
    rw long at (ChangesAt-put space.state space.keeps space.lands c.args.space.now c.put.new.self c.args.at
    c.set_u32.new.bytes
    (omega (arith, long, c.requires.inside.inside)) (result_err c.put.result) c.put.ensures.plain c.put.ensures.puts
    c.put.ensures.moves)

pub returns-clause-bytes : goal.returns-clause-bytes
returns-clause-bytes g c = λ can.
    let space = g.S.Space in
    let long : length c.set_u32.new.bytes ≡ 4 = c.set_u32.auto.bytes in
    IfDone-map (result_err c.put.result)
    (bytes_put (space.state c.args.space.now) c.args.at c.set_u32.new.bytes (space.state c.put.new.self).cells 4
    (omega (arith, long, c.requires.inside.inside)) long)
    (c.put.ensures.puts.done (rw long can))

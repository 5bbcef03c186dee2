use Rattle.std.proofs.Common.{◌≡◌, ℕ, List, replicate, length, ap, ◌∙◌, add-zero, arith}
use Rattle.std.specs.Result.{result_err}
use Rattle.save_bytes.specs.Fields.{number_at}
use Rattle.save_bytes.proofs.FieldLemmas.{number_at-put}
use Rattle.save_bytes.proofs.SpaceLemmas.{IfDone-map}
use Rattle.entry_tables.proofs.ChangeLemmas.{ChangesAt-put}
use Rattle.entry_tables.proofs.ValueLemmas.{number_before, field_put_at, bytes_put}
use Rattle.entry_tables.proofs.word.put_fields.Goals as goal

pub returns-clause-start : goal.returns-clause-start
returns-clause-start g c = λ can.
    let space = g.S.Space in
    let long : length c.set_u64.new.bytes ≡ 12 = c.set_u64.auto.bytes ∙ c.set_u32.auto.bytes in
    let first_long : length c.set_u32.new.bytes ≡ 12 = c.set_u32.auto.bytes in
    let value : number_at 4 c.set_u64.new.bytes 0 ≡ c.args.start =
    ap (λ (bytes : List ℕ). number_at 4 bytes 0) c.set_u64.ensures
    ∙ number_before 4 c.set_u32.new.bytes _ 4 (omega arith) (omega (arith, first_long))
    ∙ ap (λ (bytes : List ℕ). number_at 4 bytes 0) c.set_u32.ensures
    ∙ number_at-put 4 c.args.start (replicate 12 0) 0 (omega arith) c.ranges.start.fits in
    IfDone-map (result_err c.put.result)
    (λ put. rw (add-zero c.args.at) at (field_put_at (space.state c.args.space.now) c.args.at c.set_u64.new.bytes
    (space.state c.put.new.self).cells 4 0 c.args.start (omega (arith, long, c.requires.inside.inside))
    (omega (arith, long)) value put))
    (c.put.ensures.puts.done (rw long can))

pub returns-clause-wide : goal.returns-clause-wide
returns-clause-wide g c = λ can.
    let space = g.S.Space in
    let long : length c.set_u64.new.bytes ≡ 12 = c.set_u64.auto.bytes ∙ c.set_u32.auto.bytes in
    let first_long : length c.set_u32.new.bytes ≡ 12 = c.set_u32.auto.bytes in
    let value : number_at 8 c.set_u64.new.bytes 4 ≡ c.args.wide =
    ap (λ (bytes : List ℕ). number_at 8 bytes 4) c.set_u64.ensures
    ∙ number_at-put 8 c.args.wide c.set_u32.new.bytes 4 (omega (arith, first_long)) c.ranges.wide.fits in
    IfDone-map (result_err c.put.result)
    (field_put_at (space.state c.args.space.now) c.args.at c.set_u64.new.bytes (space.state c.put.new.self).cells 8 4
    c.args.wide (omega (arith, long, c.requires.inside.inside)) (omega (arith, long)) value)
    (c.put.ensures.puts.done (rw long can))

pub returns-clause-bytes : goal.returns-clause-bytes
returns-clause-bytes g c = λ can.
    let space = g.S.Space in
    let long : length c.set_u64.new.bytes ≡ 12 = c.set_u64.auto.bytes ∙ c.set_u32.auto.bytes in
    IfDone-map (result_err c.put.result)
    (bytes_put (space.state c.args.space.now) c.args.at c.set_u64.new.bytes (space.state c.put.new.self).cells 12
    (omega (arith, long, c.requires.inside.inside)) long)
    (c.put.ensures.puts.done (rw long can))

pub returns-clause-changes : goal.returns-clause-changes
returns-clause-changes g c =
    let space = g.S.Space in
    let long : length c.set_u64.new.bytes ≡ 12 = c.set_u64.auto.bytes ∙ c.set_u32.auto.bytes in
    rw long at (ChangesAt-put space.state space.keeps space.lands c.args.space.now c.put.new.self c.args.at
    c.set_u64.new.bytes (omega (arith, long, c.requires.inside.inside)) (result_err c.put.result) c.put.ensures.plain
    c.put.ensures.puts c.put.ensures.moves)

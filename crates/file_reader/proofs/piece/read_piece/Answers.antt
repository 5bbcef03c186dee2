use Rattle.std.proofs.Common.{◌≡◌, ◌≤◌, ℕ, length, take, drop, min, subst, arith}
use Rattle.std.proofs.lemmas.List.{places, length-take-le}
use Rattle.save_bytes.specs.Answers.{IsFirstFault}
use Rattle.chain_nodes.specs.Table.{table_in}
use Rattle.file_reader.specs.Contents.{contents_in}
use Rattle.file_reader.proofs.PlaceLemmas.{piece_front, err_damaged}
use Rattle.file_reader.proofs.piece.read_piece.Goals as goal

pub returns-in-Ok-clause-piece : goal.returns-in-Ok-clause-piece
returns-in-Ok-clause-piece g c = λ told start size list x at.
    let cells = (g.S.Space.state c.args.store.now).cells in
    let table = table_in cells c.args.reading.now.info in
    let into = c.args.into.now in
    let n = c.min-n.result in
    let inside : n ≤ length into = grind arith in
    piece_front table cells start size list x (length (take n into)) n c.fill.new.out (drop n into) c.fill.new.reading
    (length-take-le n into inside) (grind (arith, places)) (c.in-Ok.ensures.piece told start size list x at)

pub returns-in-Err-clause-piece : goal.returns-in-Err-clause-piece
returns-in-Err-clause-piece g c = λ told start size list x at.
    let cells = (g.S.Space.state c.args.store.now).cells in
    let into = c.args.into.now in
    let n = c.min-n.result in
    let inside : n ≤ length into = grind arith in
    let long : length (take n into) ≡ min c.args.reading.now.left (length into) =
    omega (arith, length-take-le n into inside, c.min-n.ensures) in
    err_damaged c.in-Err.fault _ _ _ _
    (λ part level block found. subst (λ (m : ℕ). IsFirstFault (contents_in c.args.reading.now.info list cells) x m
    part level block) long found)
    (c.in-Err.ensures.piece told start size list x at)

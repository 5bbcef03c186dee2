use Rattle.save_fs.proofs.NamedLemmas.{chain_named}
use Rattle.std.proofs.Common.{ℕ, min, length, take, ap, sym, ◌∙◌, arith}
use Rattle.chain_nodes.specs.Table.{table_in}
use Rattle.file_reader.specs.Reading.{IsPieceRead}
use Rattle.save_fs.proofs.LaterLemmas.{table_at}
use Rattle.save_fs.proofs.ReadLemmas.{piece_got, piece_refused}
use Rattle.save_fs.proofs.mounted.SaveFs.get_piece.Goals as goal

pub read_piece-requires : goal.read_piece-requires
read_piece-requires g c =
    rw c.requires.chain (table_at (g.S.Space.state c.args.store.now).shape c.args.self.now c.requires.stands)

pub returns-in-Ok-clause-piece : goal.returns-in-Ok-clause-piece
returns-in-Ok-clause-piece g c told bytes x at =
    let cells = (g.S.Space.state c.args.store.now).cells in
    piece_got cells bytes x c.args.getting.now at c.read_piece.new.reading c.in-Ok.n c.read_piece.new.into
    c.in-Ok.ensures.info
    (c.in-Ok.ensures.count ∙ ap (min c.args.getting.now.reading.left) (sym c.read_piece.auto.into))
    (c.in-Ok.ensures.piece told at.start (length bytes) at.list x at.stands)

pub returns-in-Err-clause-piece : goal.returns-in-Err-clause-piece
returns-in-Err-clause-piece g c told bytes x at =
    let cells = (g.S.Space.state c.args.store.now).cells in
    let getting = c.args.getting.now in
    let n = min getting.reading.left (length c.args.out.now) in
    rw c.refused_chain.ensures (piece_refused cells bytes x getting at ℕ
    (λ (m : ℕ). IsPieceRead (table_in cells getting.reading.info) cells at.start (length bytes) at.list x m
    (take m c.read_piece.new.into) c.read_piece.new.reading) c.in-Err.fault n
    (record { reading = c.read_piece.new.reading; size = getting.size }) c.read_piece.new.into
    (omega (arith, at.stands.left)) (c.in-Err.ensures.piece told at.start (length bytes) at.list x at.stands))

pub returns-in-Err-clause-named : goal.returns-in-Err-clause-named
returns-in-Err-clause-named g c = rw c.refused_chain.ensures (chain_named c.in-Err.fault)

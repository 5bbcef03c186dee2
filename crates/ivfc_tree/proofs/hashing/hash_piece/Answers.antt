use Rattle.save_bytes.proofs.CellLemmas.{bytes_in-is}
use Rattle.ivfc_tree.proofs.hashing.hash_piece.Goals as goal

pub returns-clause-hashed : goal.returns-clause-hashed
returns-clause-hashed g c = λ told.
    rw (bytes_in-is (g.S.Space.state c.args.base.now).cells c.args.at c.in_ok-piece.piece.now
    (c.in_ok-piece.ensures.piece.bytes told)) c.update.ensures

use Rattle.std.proofs.Common.{length, arith, ◌∙◌}
use Rattle.std.proofs.lemmas.List.{length-take-le}
use Rattle.container.proofs.ReadLemmas.{piece_told, front_of_piece}
use Rattle.container.proofs.reading.read_piece.Goals as goal

pub returns-clause-bytes : goal.returns-clause-bytes
returns-clause-bytes g c = λ sure.
    let state = g.D.Disk.state c.args.disk.now in
    let grain = length c.args.buffer.now in
    let n = c.min-n.result in
    let piece = piece_told state grain c.args.at n c.read.new.out (g.met.D.Disk.sound c.args.disk.now) sure
    c.requires.whole c.requires.grain (omega arith) (omega arith) (omega arith) c.in_ok-read.ensures.value in
    front_of_piece n c.copy_from_slice.new.self _ _
    (c.copy_from_slice.ensures.len ∙ length-take-le n c.args.out.now (omega arith))
    (c.copy_from_slice.ensures.after ∙ piece)

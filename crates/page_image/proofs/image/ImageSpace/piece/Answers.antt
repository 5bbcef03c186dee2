use Rattle.std.proofs.Common.{refl, arith}
use Rattle.save_bytes.specs.Spots.{Frame}
use Rattle.page_image.proofs.PieceLemmas.{brought_piece, reads_done, reads_failed}
use Rattle.page_image.proofs.image.ImageSpace.piece.Goals as goal

pub returns-in-Err : goal.returns-in-Err
returns-in-Err g c = (
  (
    refl,
    λ view. tt,
    reads_failed g.D.Disk.state c.args.self.now c.bring.new.self c.in-Err.ensures.view
        c.in-Err.ensures.leaves c.in-Err.ensures.cause,
  ),
  record {
    piece = record {
      some = tt;
      bounded = tt;
      inside = tt;
      bytes = λ told. tt;
      damaged = λ told. tt;
      plain = λ plain.
          tt;
    };
    after = tt;
  },
)

pub held-requires-clause-inside : goal.held-requires-clause-inside
held-requires-clause-inside g c = omega (arith, c.requires.inside.inside, (c.in-Ok.ensures.leaves Frame tt).0.len)

pub returns : goal.returns
returns g c = (
  (
    refl,
    λ view. tt,
    reads_done g.D.Disk.state c.args.self.now _ c.in-Ok.ensures.view c.in-Ok.ensures.leaves
        c.in-Ok.ensures.told,
  ),
  record {
    piece = brought_piece (g.D.Disk.state c.args.self.now.disk.now) (g.D.Disk.state c.bring.new.self.disk.now)
        c.args.self.now.image.now
        c.bring.new.self.image.now c.args.at c.args.most c.held.result c.in-Ok.ensures.leaves
        (c.held.ensures (g.D.Disk.state c.bring.new.self.disk.now));
    after = tt;
  },
)

use Rattle.std.proofs.Common.{◌≡◌, ◌+◌, ◌-◌, min, arith}
use Rattle.chain_space.specs.Laid.{extra_of}
use Rattle.chain_space.proofs.LaidLemmas.{can_lay-facts, laid_front}
use Rattle.chain_space.proofs.laid.laid_run.Goals as goal

pub returns-then-at-size : goal.returns-then-at-size
returns-then-at-size g c =
    let extra = extra_of c.args.region_at c.args.block c.args.blocks.now in
    let shape = (g.S.Space.state c.args.base.now).shape in
    let room = can_lay-facts extra shape c.requires.inside.sound in
    let size = c.len-size.ensures room.sound in
    let run : c.min.result ≡ min c.args.most (shape.size - c.args.at) = rw size at c.min.ensures in
    record {
      some = omega (arith, run, size);
      bounded = omega (arith, run);
      inside = omega (arith, run, size);
      in_base = omega (arith, run, size);
      places = λ k less. laid_front extra shape.size (c.args.at + k) (omega (arith, run, size, less));
    }

pub behind_run-requires-clause-lie : goal.behind_run-requires-clause-lie
behind_run-requires-clause-lie g c =
    let extra = extra_of c.args.region_at c.args.block c.args.blocks.now in
    let room = can_lay-facts extra (g.S.Space.state c.args.base.now).shape c.requires.inside.sound in
    rw (c.from.ensures, c.len-size.ensures room.sound) room.lie

pub behind_run-requires-clause-inside : goal.behind_run-requires-clause-inside
behind_run-requires-clause-inside g c =
    let extra = extra_of c.args.region_at c.args.block c.args.blocks.now in
    let room = can_lay-facts extra (g.S.Space.state c.args.base.now).shape c.requires.inside.sound in
    rw (c.from.ensures, c.len-size.ensures room.sound) (omega (arith, c.requires.inside.inside))

pub returns : goal.returns
returns g c =
    let extra = extra_of c.args.region_at c.args.block c.args.blocks.now in
    let room = can_lay-facts extra (g.S.Space.state c.args.base.now).shape c.requires.inside.sound in
    rw (c.from.ensures, c.len-size.ensures room.sound) at c.behind_run.ensures

use Rattle.std.proofs.Common.{Some, None, arith}
use Rattle.std.proofs.lemmas.List.{length-take-le}
use Rattle.chain_space.specs.Laid.{Extra, extra_of, CanLay}
use Rattle.chain_space.proofs.LaidLemmas.{can_lay-facts, run_puts, run_refused, run_moves, moves_refused, run_never}
use Rattle.chain_space.proofs.laid.put_laid_run.Given.{Over}
use Rattle.chain_space.proofs.laid.put_laid_run.Goals.{After-laid_run-place}
use Rattle.chain_space.proofs.laid.put_laid_run.Goals as goal

-- the blocks, and that they may lie behind the base
abbrev extra : (g : Over) → After-laid_run-place g → Extra
extra g c = extra_of c.args.region_at c.args.block c.args.blocks.now

room : (g : Over) (c : After-laid_run-place g) → CanLay (extra g c) (g.S.Space.state c.args.base.now).shape
room g c = can_lay-facts (extra g c) (g.S.Space.state c.args.base.now).shape c.requires.writable.inside.sound

pub put-requires : goal.put-requires
put-requires g c =
    let can = room g (goal.at.put-requires g c).After-laid_run-place in
    let run = c.laid_run-place.ensures in
    let len = length-take-le c.laid_run-place.result.1 c.args.bytes.now run.bounded in
    record {
      inside = record { sound = can.sound; inside = omega (arith, len, run.in_base) };
      behind_first = omega (arith, can.first);
    }

pub returns-in-Ok-clause-puts : goal.returns-in-Ok-clause-puts
returns-in-Ok-clause-puts g c =
    run_puts g.S.Space.state g.S.Space.keeps g.S.Space.lands g.met.S.Space.keeps_join
    (extra_of c.args.region_at c.args.block c.args.blocks.now) c.args.base.now c.put.new.self c.args.at c.args.bytes.now
    c.laid_run-place.result.0 c.laid_run-place.result.1
    (room g (goal.at.returns-in-Ok-clause-puts g c).After-laid_run-place) c.laid_run-place.ensures None
    c.in-Ok.ensures.puts

pub returns-in-Ok-clause-moves : goal.returns-in-Ok-clause-moves
returns-in-Ok-clause-moves g c =
    run_moves g.S.Space.state g.S.Space.keeps g.S.Space.lands g.met.S.Space.keeps_join
    (extra_of c.args.region_at c.args.block c.args.blocks.now) c.args.base.now c.put.new.self c.args.at c.args.bytes.now
    c.laid_run-place.result.0 c.laid_run-place.result.1
    (room g (goal.at.returns-in-Ok-clause-moves g c).After-laid_run-place) c.laid_run-place.ensures None
    c.in-Ok.ensures.puts
    c.in-Ok.ensures.moves

pub returns-in-Err-clause-never : goal.returns-in-Err-clause-never
returns-in-Err-clause-never g c =
    run_never g.S.Space.state g.S.Space.keeps g.S.Space.lands g.met.S.Space.keeps_join
    (extra_of c.args.region_at c.args.block c.args.blocks.now) c.args.base.now c.put.new.self c.args.at c.args.bytes.now
    c.laid_run-place.result.0 c.laid_run-place.result.1
    (room g (goal.at.returns-in-Err-clause-never g c).After-laid_run-place) c.laid_run-place.ensures (Some c.in-Err.bad)
    c.in-Err.ensures.ready

pub returns-in-Err-clause-puts : goal.returns-in-Err-clause-puts
returns-in-Err-clause-puts g c =
    run_refused g.S.Space.state g.S.Space.keeps g.S.Space.lands g.met.S.Space.keeps_join
    (extra_of c.args.region_at c.args.block c.args.blocks.now) c.args.base.now c.put.new.self c.args.at c.args.bytes.now
    c.laid_run-place.result.0 c.laid_run-place.result.1
    (room g (goal.at.returns-in-Err-clause-puts g c).After-laid_run-place) c.laid_run-place.ensures c.in-Err.bad
    c.in-Err.ensures.puts

pub returns-in-Err-clause-moves : goal.returns-in-Err-clause-moves
returns-in-Err-clause-moves g c =
    moves_refused g.S.Space.state g.S.Space.keeps g.S.Space.lands g.met.S.Space.keeps_join
    (extra_of c.args.region_at c.args.block c.args.blocks.now) c.args.base.now c.put.new.self c.args.at c.args.bytes.now
    c.laid_run-place.result.0 c.laid_run-place.result.1
    (room g (goal.at.returns-in-Err-clause-moves g c).After-laid_run-place) c.laid_run-place.ensures c.in-Err.bad
    c.in-Err.ensures.puts c.in-Err.ensures.moves

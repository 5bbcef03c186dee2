use Rattle.std.proofs.Common.{◌≡◌, length, take, IsTrue, Some, None, sym, subst, arith}
use Rattle.std.proofs.lemmas.List.{length-take-le}
use Rattle.save_bytes.specs.State.{Shape, IsWritable}
use Rattle.chain_space.specs.ShownLaws.{can_show-facts}
use Rattle.chain_space.proofs.RunLemmas.{run_puts, run_refused, run_moves, moves_refused, run_never}
use Rattle.chain_space.proofs.space.put_run.Goals as goal

pub put-requires : goal.put-requires
put-requires g c =
    let run = c.in-Ok.run' in
    let located = c.in-Ok.ensures.located in
    let shape = (g.S.Space.state c.args.base.now).shape in
    let room = can_show-facts shape c.args.shown.info c.args.shown.blocks c.requires.writable.inside.sound in
    let len : length (take run.1 c.args.bytes.now) ≡ run.1 = length-take-le run.1 c.args.bytes.now located.bounded in
    let here : IsWritable shape run.0 run.1 = record {
      inside = record { sound = room.table.sound; inside = located.in_base };
      behind_first = omega (arith, room.table.first);
    } in
    subst (λ (s : Shape). IsWritable s run.0 (length (take run.1 c.args.bytes.now)))
    (sym c.in-Ok.ensures.reads.stays.space.shape)
    (rw len here)

pub returns-in-Ok-put-clause-puts : goal.returns-in-Ok-put-clause-puts
returns-in-Ok-put-clause-puts g c =
    let space = g.S.Space in
    let run = c.in-Ok.run' in
    run_puts space.state space.keeps space.lands g.met.S.Space.keeps_join g.met.S.Space.keeps_hold c.args.base.now
    c.locate.new.base c.put.new.self c.args.shown c.args.at c.args.bytes.now run.0 run.1
    c.requires.writable.inside.sound
    c.in-Ok.ensures.located c.in-Ok.ensures.reads None c.in-Ok-put.ensures.puts

pub returns-in-Ok-put-clause-moves : goal.returns-in-Ok-put-clause-moves
returns-in-Ok-put-clause-moves g c =
    let space = g.S.Space in
    let run = c.in-Ok.run' in
    run_moves space.state space.keeps space.lands g.met.S.Space.keeps_join g.met.S.Space.keeps_hold c.args.base.now
    c.locate.new.base c.put.new.self c.args.shown c.args.at c.args.bytes.now run.0 run.1
    c.requires.writable.inside.sound
    c.in-Ok.ensures.located c.in-Ok.ensures.reads None c.in-Ok-put.ensures.puts c.in-Ok-put.ensures.moves

pub returns-in-Err-put-clause-never : goal.returns-in-Err-put-clause-never
returns-in-Err-put-clause-never g c =
    let space = g.S.Space in
    let run = c.in-Ok.run' in
    run_never space.state space.keeps space.lands g.met.S.Space.keeps_join g.met.S.Space.keeps_hold c.args.base.now
    c.locate.new.base c.put.new.self c.args.shown c.args.at c.args.bytes.now run.0 run.1
    c.requires.writable.inside.sound
    c.in-Ok.ensures.located c.in-Ok.ensures.reads (Some c.in-Err-put.bad) c.in-Err-put.ensures.ready

pub returns-in-Err-put-clause-puts : goal.returns-in-Err-put-clause-puts
returns-in-Err-put-clause-puts g c =
    let space = g.S.Space in
    let run = c.in-Ok.run' in
    run_refused space.state space.keeps space.lands g.met.S.Space.keeps_join g.met.S.Space.keeps_hold c.args.base.now
    c.locate.new.base c.put.new.self c.args.shown c.args.at c.args.bytes.now run.0 run.1
    c.requires.writable.inside.sound
    c.in-Ok.ensures.located c.in-Ok.ensures.reads c.in-Err-put.bad c.in-Err-put.ensures.puts

pub returns-in-Err-put-clause-moves : goal.returns-in-Err-put-clause-moves
returns-in-Err-put-clause-moves g c =
    let space = g.S.Space in
    let run = c.in-Ok.run' in
    moves_refused space.state space.keeps space.lands g.met.S.Space.keeps_join g.met.S.Space.keeps_hold c.args.base.now
    c.locate.new.base c.put.new.self c.args.shown c.args.at c.args.bytes.now run.0 run.1
    c.requires.writable.inside.sound
    c.in-Ok.ensures.located c.in-Ok.ensures.reads c.in-Err-put.bad c.in-Err-put.ensures.puts c.in-Err-put.ensures.moves

pub returns-in-Err-put-clause-plain : goal.returns-in-Err-put-clause-plain
returns-in-Err-put-clause-plain g c = λ plain.
    c.in-Err-put.ensures.plain (subst (λ (shape : Shape). IsTrue shape.plain)
    (sym c.in-Ok.ensures.reads.stays.space.shape) plain)

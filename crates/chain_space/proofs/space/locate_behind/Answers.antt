use Rattle.std.proofs.Common.{◌+◌, ◌*◌, ◌%◌, ◌<◌, ◌≤◌, arith}
use Rattle.std.proofs.lemmas.Nat.{mod_below}
use Rattle.chain_space.proofs.ShownLemmas.{block_some, run_inside, one_block, run_places}
use Rattle.chain_space.proofs.ViewLemmas.{shown_room}
use Rattle.chain_space.proofs.space.locate_behind.Given.{Over}
use Rattle.chain_space.proofs.space.locate_behind.Goals.{In-Ok-Some}
use Rattle.chain_space.proofs.space.locate_behind.Goals as goal

-- the bytes of the run lie in the region
run_fits : (g : Over) (c : In-Ok-Some g) → c.args.shown.info.region_at + c.in-Ok-Some.run'.block *
    c.args.shown.info.block
    + c.in-Ok-Some.run'.len * c.args.shown.info.block ≤ (g.S.Space.state c.args.base.now).shape.size
run_fits g c =
    let base = g.S.Space.state c.args.base.now in
    let info = c.args.shown.info in
    let run = c.in-Ok-Some.run' in
    let inside = rw c.in-Ok-Some.field-0-is at c.in-Ok-Some.ensures.inside in
    run_inside info.region_at base.shape.size info.block info.count run.block run.len inside
    (shown_room base c.args.shown c.requires.sound).table.region

-- and go on behind the place in its first block
run_goes_on : (g : Over) (c : In-Ok-Some g)
    → c.args.at % c.args.shown.info.block < c.in-Ok-Some.run'.len * c.args.shown.info.block
run_goes_on g c =
    let block = c.args.shown.info.block in
    let some = rw c.in-Ok-Some.field-0-is at c.in-Ok-Some.ensures.some in
    omega (
      arith,
      mod_below c.args.at block (block_some c.args.at c.args.shown.blocks block c.requires.inside),
      one_block block c.in-Ok-Some.run'.len some,
    )

pub overflow_add-place : goal.overflow_add-place
overflow_add-place g c =
    let room = shown_room (g.S.Space.state c.args.base.now) c.args.shown c.requires.sound in
    rw (c.from.ensures, c.from-block.ensures) (omega (
      arith,
      run_fits g
          (goal.at.overflow_add-place g c).In-Ok-Some,
      room.fits,
    ))

pub overflow_add-place-in-Ok-Some : goal.overflow_add-place-in-Ok-Some
overflow_add-place-in-Ok-Some g c =
    let here = (goal.at.overflow_add-place-in-Ok-Some g c).In-Ok-Some in
    let room = shown_room (g.S.Space.state c.args.base.now) c.args.shown c.requires.sound in
    rw (c.from.ensures, c.from-block.ensures) (omega (arith, run_fits g here, room.fits, run_goes_on g here))

pub returns-in-Ok-Some-clause-in_base : goal.returns-in-Ok-Some-clause-in_base
returns-in-Ok-Some-clause-in_base g c =
    let here = (goal.at.returns-in-Ok-Some-clause-in_base g c).In-Ok-Some in
    rw (c.from.ensures, c.from-block.ensures, c.from-in-Ok-Some.ensures) (omega
    (arith, run_fits g here, run_goes_on g here))

pub returns-in-Ok-Some-clause-places : goal.returns-in-Ok-Some-clause-places
returns-in-Ok-Some-clause-places g c = λ told k less.
    let base = g.S.Space.state c.args.base.now in
    let info = c.args.shown.info in
    let in_run = rw (c.in-Ok-Some.field-0-is, c.from-block.ensures) at (c.in-Ok-Some.ensures.run told) in
    let some = block_some c.args.at c.args.shown.blocks info.block c.requires.inside in
    let less_here = rw (c.from-block.ensures, c.from-in-Ok-Some.ensures) at less in
    rw (c.from.ensures, c.from-block.ensures)
    (run_places base info c.args.shown.first c.args.at k c.in-Ok-Some.run' some in_run (omega (arith, less_here)))

pub returns-in-Ok-None-clause-in_base : goal.returns-in-Ok-None-clause-in_base
returns-in-Ok-None-clause-in_base g c =
    let room = shown_room (g.S.Space.state c.args.base.now) c.args.shown c.requires.sound in
    omega (arith, room.table.table)

use Rattle.std.specs.Result.{result_err}
use Rattle.container.specs.StoreLaws.{first_view, second_view, first_left, second_left}
use Rattle.container.proofs.within.tell.Goals as goal

pub tell_in-requires-clause-view : goal.tell_in-requires-clause-view
tell_in-requires-clause-view g c =
    first_view (g.S.Space.state c.args.image.now) c.args.parts.now.first c.args.table.now c.args.parts.now.second
    c.requires.sound

pub tell_in-requires-in-Some-clause-view : goal.tell_in-requires-in-Some-clause-view
tell_in-requires-in-Some-clause-view g c =
    second_view (g.S.Space.state c.args.image.now) c.args.parts.now.first c.args.table.now c.args.parts.now.second
    c.in-Some.second c.in-Some.is c.requires.sound

pub returns-then-number-eq0-clause-left : goal.returns-then-number-eq0-clause-left
returns-then-number-eq0-clause-left g c =
    let space = g.S.Space in
    let later = c.tell_in.new in
    first_left space.state space.keeps space.lands g.met.S.Space.size_fits c.args.image.now later.image
    c.args.table.now later.table
    (result_err c.tell_in.result) c.args.parts.now later.part c.requires.sound c.tell_in.ensures.left

pub returns-clause-left : goal.returns-clause-left
returns-clause-left g c =
    let space = g.S.Space in
    let later = c.tell_in-in-Some.new in
    second_left space.state space.keeps space.lands g.met.S.Space.size_fits c.args.image.now later.image
    c.args.table.now later.table
    (result_err c.tell_in-in-Some.result) c.args.parts.now c.in-Some.second later.part c.in-Some.is c.requires.sound
    c.tell_in-in-Some.ensures.left

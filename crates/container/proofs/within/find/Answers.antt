use Rattle.std.proofs.Common.{◌-◌, sym, arith}
use Rattle.std.specs.Result.{result_err}
use Rattle.container.proofs.CallLemmas.{size_of, found_second}
use Rattle.container.specs.StoreLaws.{first_view, second_view, first_left, second_left}
use Rattle.container.proofs.within.find.Goals as goal

pub find_in-requires-clause-view : goal.find_in-requires-clause-view
find_in-requires-clause-view g c =
    first_view (g.S.Space.state c.args.image.now) c.args.parts.now.first c.args.table.now c.args.parts.now.second
    c.requires.inside.sound

pub find_in-requires-in-Some-clause-view : goal.find_in-requires-in-Some-clause-view
find_in-requires-in-Some-clause-view g c =
    second_view (g.S.Space.state c.args.image.now) c.args.parts.now.first c.args.table.now c.args.parts.now.second
    c.in-Some.second c.in-Some.is c.requires.inside.sound

pub returns-then-at-split-clause-left : goal.returns-then-at-split-clause-left
returns-then-at-split-clause-left g c =
    let space = g.S.Space in
    let later = c.find_in.new in
    first_left space.state space.keeps space.lands g.met.S.Space.size_fits c.args.image.now later.image
    c.args.table.now later.table
    (result_err c.find_in.result) c.args.parts.now later.part c.requires.inside.sound c.find_in.ensures.left

pub returns-clause-left : goal.returns-clause-left
returns-clause-left g c =
    let space = g.S.Space in
    let later = c.find_in-in-Some.new in
    second_left space.state space.keeps space.lands g.met.S.Space.size_fits c.args.image.now later.image
    c.args.table.now later.table
    (result_err c.find_in-in-Some.result) c.args.parts.now c.in-Some.second later.part c.in-Some.is
    c.requires.inside.sound
    c.find_in-in-Some.ensures.left

pub returns-clause-found : goal.returns-clause-found
returns-clause-found g c =
    let first = c.args.parts.now.first in
    let split = size_of c.difi.result.now first.difi c.difi.ensures in
    found_second (g.S.Space.state c.args.image.now) (g.S.Space.state c.find_in-in-Some.new.image) first c.in-Some.second
    c.args.parts.now.second c.args.table.now c.args.at (c.args.at - first.difi.ivfc4.size) c.args.most
    c.find_in-in-Some.result c.in-Some.is (omega (arith, split)) (rw (sym split) c.find_in-in-Some.ensures.found)

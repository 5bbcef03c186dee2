use Rattle.std.proofs.Common.{◌≡◌, ◌+◌, ◌-◌, ◌<◌, Some, refl, sym, rules, arith}
use Rattle.std.specs.Vec.{with_items}
use Rattle.std.specs.Result.{result_err}
use Rattle.page_image.specs.Images.{image_state}
use Rattle.container.specs.declared.open.Container.{Container}
use Rattle.container.specs.StoreLaws.{first_view, second_view}
use Rattle.container.proofs.HeldLemmas.{disk_of_store}
use Rattle.container.proofs.CallLemmas.{clear_ready_in_first, clear_ready_in_second, clear_puts_in_first}
use Rattle.container.proofs.CallLemmas.{clear_puts_in_second, clear_moves_in_first, clear_moves_in_second}
use Rattle.container.proofs.CallLemmas.{clear_came_in_first, clear_came_in_second}
use Rattle.container.proofs.CallLemmas.{written_back, part_viewed, two_long, size_of}
use Rattle.container.proofs.writing.clear_in.Goals as goal

pub view-view-requires : goal.view-view-requires
view-view-requires g c =
    let container = c.args.container.now in
    disk_of_store (g.D.Disk.state c.args.disk.now) container.image container.parts.first container.parts.second
    container.table.items c.requires.sound

pub clear_over-requires-clause-view : goal.clear_over-requires-clause-view
clear_over-requires-clause-view g c =
    let container = c.args.container.now in
    part_viewed g.D.Disk.state container c.view-view.result c.args.disk.now c.deref_mut.result.now
    c.view-view.ensures.holds.image_now c.view-view.ensures.holds.disk_now (search rules) container.parts.first
    (first_view (image_state (g.D.Disk.state c.args.disk.now) container.image) container.parts.first
    container.table.items container.parts.second c.requires.sound)

pub clear_over-requires-in-Some-clause-view : goal.clear_over-requires-in-Some-clause-view
clear_over-requires-in-Some-clause-view g c =
    let container = c.args.container.now in
    part_viewed g.D.Disk.state container c.view-view.result c.args.disk.now c.deref_mut.result.now
    c.view-view.ensures.holds.image_now c.view-view.ensures.holds.disk_now (search rules) c.in-Some.second
    (second_view (image_state (g.D.Disk.state c.args.disk.now) container.image) container.parts.first
    container.table.items container.parts.second c.in-Some.second c.in-Some.is c.requires.sound)

pub returns-then-at-split-clause-ready : goal.returns-then-at-split-clause-ready
returns-then-at-split-clause-ready g c =
    let container = c.args.container.now in
    let view = c.view-view.ensures.holds in
    let split = size_of c.difi.result.now container.parts.first.difi c.difi.ensures in
    clear_ready_in_first g.D.Disk.state container container c.view-view.result c.view-view.result
    c.args.disk.now c.args.disk.now c.deref_mut.result.now container.table.items view.image_now view.disk_now
    (search rules) refl view.image_now view.disk_now refl (result_err c.clear_over.result) c.requires.sound c.args.at
    (omega (arith, split)) c.clear_over.ensures.ready

pub returns-then-at-split-clause-puts : goal.returns-then-at-split-clause-puts
returns-then-at-split-clause-puts g c =
    let container = c.args.container.now in
    let view = c.view-view.ensures.holds in
    let split = size_of c.difi.result.now container.parts.first.difi c.difi.ensures in
    let left = c.clear_over.new in
    let after : Container = record container {
      image = left.base.image.now;
      table = with_items container.table left.table;
      parts = record container.parts { first = left.part };
    } in
    clear_puts_in_first g.D.Disk.state container after c.view-view.result left.base c.args.disk.now _
    c.deref_mut.result.now left.table view.image_now view.disk_now (search rules)
    (written_back container.table left.table c.deref_mut.result.now c.clear_over.ensures.moves.hold.1 c.deref_mut.ensures.len)
    refl (search rules) refl (result_err c.clear_over.result) c.requires.sound
    refl c.args.at (omega (arith, split)) c.clear_over.ensures.moves c.clear_over.ensures.puts

pub returns-then-at-split-clause-moves : goal.returns-then-at-split-clause-moves
returns-then-at-split-clause-moves g c =
    let container = c.args.container.now in
    let view = c.view-view.ensures.holds in
    let split = size_of c.difi.result.now container.parts.first.difi c.difi.ensures in
    let left = c.clear_over.new in
    let after : Container = record container {
      image = left.base.image.now;
      table = with_items container.table left.table;
      parts = record container.parts { first = left.part };
    } in
    clear_moves_in_first g.D.Disk.state container after c.view-view.result left.base c.args.disk.now _
    c.deref_mut.result.now left.table view.image_now view.disk_now (search rules)
    (written_back container.table left.table c.deref_mut.result.now c.clear_over.ensures.moves.hold.1 c.deref_mut.ensures.len)
    refl (search rules) refl (result_err c.clear_over.result) c.requires.sound
    refl c.args.at (omega (arith, split)) c.clear_over.ensures.moves

pub returns-then-at-split-clause-came : goal.returns-then-at-split-clause-came
returns-then-at-split-clause-came g c =
    let container = c.args.container.now in
    let view = c.view-view.ensures.holds in
    let split = size_of c.difi.result.now container.parts.first.difi c.difi.ensures in
    let left = c.clear_over.new in
    let after : Container = record container {
      image = left.base.image.now;
      table = with_items container.table left.table;
      parts = record container.parts { first = left.part };
    } in
    clear_came_in_first g.D.Disk.state container after c.view-view.result left.base c.args.disk.now _
    c.deref_mut.result.now left.table view.image_now view.disk_now (search rules)
    (written_back container.table left.table c.deref_mut.result.now c.clear_over.ensures.moves.hold.1 c.deref_mut.ensures.len)
    refl (search rules) refl (result_err c.clear_over.result) c.requires.sound
    refl c.args.at (omega (arith, split)) c.clear_over.ensures.moves
    c.clear_over.ensures.came

pub returns-clause-ready : goal.returns-clause-ready
returns-clause-ready g c =
    let container = c.args.container.now in
    let view = c.view-view.ensures.holds in
    let split = size_of c.difi.result.now container.parts.first.difi c.difi.ensures in
    let o = container.parts.first.difi.ivfc4.size in
    let place : o + (c.args.at - o) ≡ c.args.at = omega (arith, split) in
    let below : c.args.at - o < c.in-Some.second.difi.ivfc4.size =
    omega (arith, split, c.requires.inside, two_long (g.D.Disk.state c.args.disk.now) container c.in-Some.second c.in-Some.is) in
    clear_ready_in_second g.D.Disk.state container container c.view-view.result c.view-view.result
    c.args.disk.now c.args.disk.now c.deref_mut.result.now container.table.items view.image_now view.disk_now
    (search rules) refl view.image_now view.disk_now refl (result_err c.clear_over-in-Some.result) c.requires.sound
    c.in-Some.second c.in-Some.is c.args.at (c.args.at - o) place (omega (arith, below))
    (rw (sym split) c.clear_over-in-Some.ensures.ready)

pub returns-clause-puts : goal.returns-clause-puts
returns-clause-puts g c =
    let container = c.args.container.now in
    let view = c.view-view.ensures.holds in
    let split = size_of c.difi.result.now container.parts.first.difi c.difi.ensures in
    let left = c.clear_over-in-Some.new in
    let after : Container = record container {
      image = left.base.image.now;
      table = with_items container.table left.table;
      parts = record container.parts { second = Some left.part };
    } in
    let o = container.parts.first.difi.ivfc4.size in
    let place : o + (c.args.at - o) ≡ c.args.at = omega (arith, split) in
    let below : c.args.at - o < c.in-Some.second.difi.ivfc4.size =
    omega (arith, split, c.requires.inside, two_long (g.D.Disk.state c.args.disk.now) container c.in-Some.second c.in-Some.is) in
    clear_puts_in_second g.D.Disk.state container after c.view-view.result left.base c.args.disk.now _
    c.deref_mut.result.now left.table view.image_now view.disk_now (search rules)
    (written_back container.table left.table c.deref_mut.result.now c.clear_over-in-Some.ensures.moves.hold.1 c.deref_mut.ensures.len)
    refl (search rules) refl (result_err c.clear_over-in-Some.result) c.requires.sound
    c.in-Some.second left.part refl c.in-Some.is refl c.args.at (c.args.at - o) place below
    (rw (sym split) c.clear_over-in-Some.ensures.moves) (rw (sym split) c.clear_over-in-Some.ensures.puts)

pub returns-clause-moves : goal.returns-clause-moves
returns-clause-moves g c =
    let container = c.args.container.now in
    let view = c.view-view.ensures.holds in
    let split = size_of c.difi.result.now container.parts.first.difi c.difi.ensures in
    let left = c.clear_over-in-Some.new in
    let after : Container = record container {
      image = left.base.image.now;
      table = with_items container.table left.table;
      parts = record container.parts { second = Some left.part };
    } in
    let o = container.parts.first.difi.ivfc4.size in
    let place : o + (c.args.at - o) ≡ c.args.at = omega (arith, split) in
    let below : c.args.at - o < c.in-Some.second.difi.ivfc4.size =
    omega (arith, split, c.requires.inside, two_long (g.D.Disk.state c.args.disk.now) container c.in-Some.second c.in-Some.is) in
    clear_moves_in_second g.D.Disk.state container after c.view-view.result left.base c.args.disk.now _
    c.deref_mut.result.now left.table view.image_now view.disk_now (search rules)
    (written_back container.table left.table c.deref_mut.result.now c.clear_over-in-Some.ensures.moves.hold.1 c.deref_mut.ensures.len)
    refl (search rules) refl (result_err c.clear_over-in-Some.result) c.requires.sound
    c.in-Some.second left.part refl c.in-Some.is refl c.args.at (c.args.at - o) place below
    (rw (sym split) c.clear_over-in-Some.ensures.moves)

pub returns-clause-came : goal.returns-clause-came
returns-clause-came g c =
    let container = c.args.container.now in
    let view = c.view-view.ensures.holds in
    let split = size_of c.difi.result.now container.parts.first.difi c.difi.ensures in
    let left = c.clear_over-in-Some.new in
    let after : Container = record container {
      image = left.base.image.now;
      table = with_items container.table left.table;
      parts = record container.parts { second = Some left.part };
    } in
    let o = container.parts.first.difi.ivfc4.size in
    let place : o + (c.args.at - o) ≡ c.args.at = omega (arith, split) in
    let below : c.args.at - o < c.in-Some.second.difi.ivfc4.size =
    omega (arith, split, c.requires.inside, two_long (g.D.Disk.state c.args.disk.now) container c.in-Some.second c.in-Some.is) in
    clear_came_in_second g.D.Disk.state container after c.view-view.result left.base c.args.disk.now _
    c.deref_mut.result.now left.table view.image_now view.disk_now (search rules)
    (written_back container.table left.table c.deref_mut.result.now c.clear_over-in-Some.ensures.moves.hold.1 c.deref_mut.ensures.len)
    refl (search rules) refl (result_err c.clear_over-in-Some.result) c.requires.sound
    c.in-Some.second left.part refl c.in-Some.is refl c.args.at (c.args.at - o) place below
    (rw (sym split) c.clear_over-in-Some.ensures.moves)
    c.clear_over-in-Some.ensures.came

use Rattle.std.proofs.Common.{ℕ, ◌≡◌, ◌+◌, ◌-◌, ◌≤◌, length, Some, refl, sym, rules, arith}
use Rattle.std.specs.Vec.{with_items}
use Rattle.std.specs.Result.{result_err}
use Rattle.save_bytes.specs.State.{CanPut}
use Rattle.save_bytes.specs.Answers.{IsReady}
use Rattle.page_image.specs.Images.{image_state}
use Rattle.part_store.specs.Parts.{part_state}
use Rattle.container.proofs.writing.put_in.Given.{Over}
use Rattle.container.specs.declared.open.Container.{Container}
use Rattle.container.specs.StoreLaws.{first_view, second_view}
use Rattle.container.proofs.HeldLemmas.{disk_of_store}
use Rattle.container.proofs.CallLemmas.{came_in_first, came_in_second}
use Rattle.container.proofs.CallLemmas.{ready_in_first, ready_in_second, puts_in_first, puts_in_second, moves_in_first}
use Rattle.container.proofs.CallLemmas.{moves_in_second, can_in_first, can_in_second}
use Rattle.container.proofs.CallLemmas.{written_back, part_viewed, past_first, two_long, size_of}
use Rattle.container.proofs.writing.put_in.Goals.{After-put_over-in-Some}
use Rattle.container.proofs.writing.put_in.Goals as goal

pub view-view-requires : goal.view-view-requires
view-view-requires g c =
    let container = c.args.container.now in
    disk_of_store (g.D.Disk.state c.args.disk.now) container.image container.parts.first container.parts.second
    container.table.items c.requires.inside.sound

pub put_over-requires-clause-view : goal.put_over-requires-clause-view
put_over-requires-clause-view g c =
    let container = c.args.container.now in
    part_viewed g.D.Disk.state container c.view-view.result c.args.disk.now c.deref_mut.result.now
    c.view-view.ensures.holds.image_now c.view-view.ensures.holds.disk_now (search rules) container.parts.first
    (first_view (image_state (g.D.Disk.state c.args.disk.now) container.image) container.parts.first
    container.table.items container.parts.second c.requires.inside.sound)

pub put_over-requires-in-Some-clause-view : goal.put_over-requires-in-Some-clause-view
put_over-requires-in-Some-clause-view g c =
    let container = c.args.container.now in
    part_viewed g.D.Disk.state container c.view-view.result c.args.disk.now c.deref_mut.result.now
    c.view-view.ensures.holds.image_now c.view-view.ensures.holds.disk_now (search rules) c.in-Some.second
    (second_view (image_state (g.D.Disk.state c.args.disk.now) container.image) container.parts.first
    container.table.items container.parts.second c.in-Some.second c.in-Some.is c.requires.inside.sound)

pub returns-then-at-bytes-clause-ready : goal.returns-then-at-bytes-clause-ready
returns-then-at-bytes-clause-ready g c can =
    let container = c.args.container.now in
    let view = c.view-view.ensures.holds in
    let split = size_of c.difi.result.now container.parts.first.difi c.difi.ensures in
    let n = length c.args.bytes.now in
    let fits : c.args.at + n ≤ container.parts.first.difi.ivfc4.size = omega (arith, split) in
    ready_in_first g.D.Disk.state container container c.view-view.result c.view-view.result
    c.args.disk.now c.args.disk.now c.deref_mut.result.now container.table.items view.image_now view.disk_now
    (search rules) refl view.image_now view.disk_now refl (result_err c.put_over.result) c.requires.inside.sound c.args.at n
    fits
    (c.put_over.ensures.ready
    (can_in_first g.D.Disk.state container c.view-view.result c.args.disk.now c.deref_mut.result.now view.image_now
    view.disk_now (search rules) c.args.at n fits can))

pub returns-then-at-bytes-clause-puts : goal.returns-then-at-bytes-clause-puts
returns-then-at-bytes-clause-puts g c =
    let container = c.args.container.now in
    let view = c.view-view.ensures.holds in
    let left = c.put_over.new in
    let after : Container = record container {
      image = left.base.image.now;
      table = with_items container.table left.table;
      parts = record container.parts { first = left.part };
    } in
    let split = size_of c.difi.result.now container.parts.first.difi c.difi.ensures in
    puts_in_first g.D.Disk.state container after c.view-view.result left.base c.args.disk.now _
    c.deref_mut.result.now left.table view.image_now view.disk_now (search rules)
    (written_back container.table left.table c.deref_mut.result.now c.put_over.ensures.moves.hold.1 c.deref_mut.ensures.len)
    refl (search rules) refl (result_err c.put_over.result) c.requires.inside.sound
    refl c.args.at c.args.bytes.now (omega (arith, split)) c.put_over.ensures.moves c.put_over.ensures.puts

pub returns-then-at-bytes-clause-moves : goal.returns-then-at-bytes-clause-moves
returns-then-at-bytes-clause-moves g c =
    let container = c.args.container.now in
    let view = c.view-view.ensures.holds in
    let left = c.put_over.new in
    let after : Container = record container {
      image = left.base.image.now;
      table = with_items container.table left.table;
      parts = record container.parts { first = left.part };
    } in
    let split = size_of c.difi.result.now container.parts.first.difi c.difi.ensures in
    moves_in_first g.D.Disk.state container after c.view-view.result left.base c.args.disk.now _
    c.deref_mut.result.now left.table view.image_now view.disk_now (search rules)
    (written_back container.table left.table c.deref_mut.result.now c.put_over.ensures.moves.hold.1 c.deref_mut.ensures.len)
    refl (search rules) refl (result_err c.put_over.result) c.requires.inside.sound
    refl c.args.at (length c.args.bytes.now) (omega (arith, split)) c.put_over.ensures.moves

pub returns-then-at-bytes-clause-came : goal.returns-then-at-bytes-clause-came
returns-then-at-bytes-clause-came g c =
    let container = c.args.container.now in
    let view = c.view-view.ensures.holds in
    let left = c.put_over.new in
    let after : Container = record container {
      image = left.base.image.now;
      table = with_items container.table left.table;
      parts = record container.parts { first = left.part };
    } in
    let split = size_of c.difi.result.now container.parts.first.difi c.difi.ensures in
    came_in_first g.D.Disk.state container after c.view-view.result left.base c.args.disk.now _
    c.deref_mut.result.now left.table view.image_now view.disk_now (search rules)
    (written_back container.table left.table c.deref_mut.result.now c.put_over.ensures.moves.hold.1 c.deref_mut.ensures.len)
    refl (search rules) refl (result_err c.put_over.result) c.requires.inside.sound
    refl c.args.at (length c.args.bytes.now) (omega (arith, split)) c.put_over.ensures.moves
    c.put_over.ensures.came

-- what the call on part 1 answers, at a place of it
abbrev Asked : (g : Over) (c : After-put_over-in-Some g) → ℕ → Type 0
Asked g c x =
    let part = part_state (image_state (g.D.Disk.state c.view-view.result.disk.now) c.view-view.result.image.now) c.in-Some.second
    c.deref_mut.result.now in
    CanPut part x (length c.args.bytes.now)
    → IsReady part x (length c.args.bytes.now) (result_err c.put_over-in-Some.result)

pub returns-clause-ready : goal.returns-clause-ready
returns-clause-ready g c can =
    let container = c.args.container.now in
    let view = c.view-view.ensures.holds in
    let split = size_of c.difi.result.now container.parts.first.difi c.difi.ensures in
    let o = container.parts.first.difi.ivfc4.size in
    let n = length c.args.bytes.now in
    let behind = past_first c.args.at n o c.requires.one (omega (arith, split)) in
    let place : o + (c.args.at - o) ≡ c.args.at = omega (arith, behind) in
    let fits : c.args.at - o + n ≤ c.in-Some.second.difi.ivfc4.size =
    omega (arith, behind, c.requires.inside.inside, two_long (g.D.Disk.state c.args.disk.now) container c.in-Some.second c.in-Some.is) in
    let told : Asked g (goal.at.returns-clause-ready g c).After-put_over-in-Some (c.args.at - o) =
    rw (sym split) c.put_over-in-Some.ensures.ready in
    ready_in_second g.D.Disk.state container container c.view-view.result c.view-view.result
    c.args.disk.now c.args.disk.now c.deref_mut.result.now container.table.items view.image_now view.disk_now
    (search rules) refl view.image_now view.disk_now refl (result_err c.put_over-in-Some.result) c.requires.inside.sound
    c.in-Some.second c.in-Some.is c.args.at (c.args.at - o) place n fits
    (told
    (can_in_second g.D.Disk.state container c.view-view.result c.args.disk.now c.deref_mut.result.now view.image_now
    view.disk_now (search rules) c.in-Some.second c.in-Some.is c.args.at (c.args.at - o) place n fits can))

pub returns-clause-puts : goal.returns-clause-puts
returns-clause-puts g c =
    let container = c.args.container.now in
    let view = c.view-view.ensures.holds in
    let left = c.put_over-in-Some.new in
    let after : Container = record container {
      image = left.base.image.now;
      table = with_items container.table left.table;
      parts = record container.parts { second = Some left.part };
    } in
    let split = size_of c.difi.result.now container.parts.first.difi c.difi.ensures in
    let o = container.parts.first.difi.ivfc4.size in
    let behind = past_first c.args.at (length c.args.bytes.now) o c.requires.one (omega (arith, split)) in
    let fits : c.args.at - o + length c.args.bytes.now ≤ c.in-Some.second.difi.ivfc4.size =
    omega (arith, behind, c.requires.inside.inside, two_long (g.D.Disk.state c.args.disk.now) container c.in-Some.second c.in-Some.is) in
    puts_in_second g.D.Disk.state container after c.view-view.result left.base c.args.disk.now _
    c.deref_mut.result.now left.table view.image_now view.disk_now (search rules)
    (written_back container.table left.table c.deref_mut.result.now c.put_over-in-Some.ensures.moves.hold.1 c.deref_mut.ensures.len)
    refl (search rules) refl (result_err c.put_over-in-Some.result) c.requires.inside.sound
    c.in-Some.second left.part refl c.in-Some.is refl c.args.at (c.args.at - o) (omega (arith, behind))
    c.args.bytes.now fits (rw (sym split) c.put_over-in-Some.ensures.moves) (rw (sym split) c.put_over-in-Some.ensures.puts)

pub returns-clause-moves : goal.returns-clause-moves
returns-clause-moves g c =
    let container = c.args.container.now in
    let view = c.view-view.ensures.holds in
    let left = c.put_over-in-Some.new in
    let after : Container = record container {
      image = left.base.image.now;
      table = with_items container.table left.table;
      parts = record container.parts { second = Some left.part };
    } in
    let split = size_of c.difi.result.now container.parts.first.difi c.difi.ensures in
    let o = container.parts.first.difi.ivfc4.size in
    let behind = past_first c.args.at (length c.args.bytes.now) o c.requires.one (omega (arith, split)) in
    let fits : c.args.at - o + length c.args.bytes.now ≤ c.in-Some.second.difi.ivfc4.size =
    omega (arith, behind, c.requires.inside.inside, two_long (g.D.Disk.state c.args.disk.now) container c.in-Some.second c.in-Some.is) in
    moves_in_second g.D.Disk.state container after c.view-view.result left.base c.args.disk.now _
    c.deref_mut.result.now left.table view.image_now view.disk_now (search rules)
    (written_back container.table left.table c.deref_mut.result.now c.put_over-in-Some.ensures.moves.hold.1 c.deref_mut.ensures.len)
    refl (search rules) refl (result_err c.put_over-in-Some.result) c.requires.inside.sound
    c.in-Some.second left.part refl c.in-Some.is refl c.args.at (c.args.at - o) (omega (arith, behind))
    (length c.args.bytes.now) fits (rw (sym split) c.put_over-in-Some.ensures.moves)

pub returns-clause-came : goal.returns-clause-came
returns-clause-came g c =
    let container = c.args.container.now in
    let view = c.view-view.ensures.holds in
    let left = c.put_over-in-Some.new in
    let after : Container = record container {
      image = left.base.image.now;
      table = with_items container.table left.table;
      parts = record container.parts { second = Some left.part };
    } in
    let split = size_of c.difi.result.now container.parts.first.difi c.difi.ensures in
    let o = container.parts.first.difi.ivfc4.size in
    let behind = past_first c.args.at (length c.args.bytes.now) o c.requires.one (omega (arith, split)) in
    let fits : c.args.at - o + length c.args.bytes.now ≤ c.in-Some.second.difi.ivfc4.size =
    omega (arith, behind, c.requires.inside.inside, two_long (g.D.Disk.state c.args.disk.now) container c.in-Some.second c.in-Some.is) in
    came_in_second g.D.Disk.state container after c.view-view.result left.base c.args.disk.now _
    c.deref_mut.result.now left.table view.image_now view.disk_now (search rules)
    (written_back container.table left.table c.deref_mut.result.now c.put_over-in-Some.ensures.moves.hold.1 c.deref_mut.ensures.len)
    refl (search rules) refl (result_err c.put_over-in-Some.result) c.requires.inside.sound
    c.in-Some.second left.part refl c.in-Some.is refl c.args.at (c.args.at - o) (omega (arith, behind))
    (length c.args.bytes.now) fits (rw (sym split) c.put_over-in-Some.ensures.moves)
    c.put_over-in-Some.ensures.came

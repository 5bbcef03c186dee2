use Rattle.std.proofs.Common.{◌+◌, ◌-◌, Some, refl, sym, rules, arith}
use Rattle.std.specs.Vec.{with_items}
use Rattle.std.specs.Result.{result_err}
use Rattle.page_image.specs.Images.{image_state}
use Rattle.container.specs.declared.open.Container.{Container}
use Rattle.container.specs.StoreLaws.{first_view, second_view}
use Rattle.container.proofs.HeldLemmas.{disk_of_store}
use Rattle.container.proofs.CallLemmas.{reads_in_first, reads_in_second, ready_in_first, ready_in_second}
use Rattle.container.proofs.CallLemmas.{written_back, part_viewed, past_first, two_long, size_of}
use Rattle.container.proofs.writing.ready_in.Goals as goal

pub view-view-requires : goal.view-view-requires
view-view-requires g c =
    let container = c.args.container.now in
    disk_of_store (g.D.Disk.state c.args.disk.now) container.image container.parts.first container.parts.second
    container.table.items c.requires.inside.sound

pub ready_over-requires-clause-view : goal.ready_over-requires-clause-view
ready_over-requires-clause-view g c =
    let container = c.args.container.now in
    part_viewed g.D.Disk.state container c.view-view.result c.args.disk.now c.deref_mut.result.now
    c.view-view.ensures.holds.image_now c.view-view.ensures.holds.disk_now (search rules) container.parts.first
    (first_view (image_state (g.D.Disk.state c.args.disk.now) container.image) container.parts.first
    container.table.items container.parts.second c.requires.inside.sound)

pub ready_over-requires-in-Some-clause-view : goal.ready_over-requires-in-Some-clause-view
ready_over-requires-in-Some-clause-view g c =
    let container = c.args.container.now in
    part_viewed g.D.Disk.state container c.view-view.result c.args.disk.now c.deref_mut.result.now
    c.view-view.ensures.holds.image_now c.view-view.ensures.holds.disk_now (search rules) c.in-Some.second
    (second_view (image_state (g.D.Disk.state c.args.disk.now) container.image) container.parts.first
    container.table.items container.parts.second c.in-Some.second c.in-Some.is c.requires.inside.sound)

pub returns-then-at-n-clause-ready : goal.returns-then-at-n-clause-ready
returns-then-at-n-clause-ready g c =
    let container = c.args.container.now in
    let view = c.view-view.ensures.holds in
    let split = size_of c.difi.result.now container.parts.first.difi c.difi.ensures in
    ready_in_first g.D.Disk.state container container c.view-view.result c.view-view.result
    c.args.disk.now c.args.disk.now c.deref_mut.result.now container.table.items view.image_now view.disk_now (search rules) refl view.image_now
    view.disk_now refl (result_err c.ready_over.result) c.requires.inside.sound c.args.at c.args.n
    (omega (arith, split)) c.ready_over.ensures.ready

pub returns-then-at-n-clause-reads : goal.returns-then-at-n-clause-reads
returns-then-at-n-clause-reads g c =
    let container = c.args.container.now in
    let view = c.view-view.ensures.holds in
    let left = c.ready_over.new in
    let after : Container = record container {
      image = left.base.image.now;
      table = with_items container.table left.table;
      parts = record container.parts { first = left.part };
    } in
    reads_in_first g.D.Disk.state container after c.view-view.result left.base c.args.disk.now _
    c.deref_mut.result.now left.table view.image_now view.disk_now (search rules)
    (written_back container.table left.table c.deref_mut.result.now c.ready_over.ensures.reads.frame.1 c.deref_mut.ensures.len)
    refl (search rules) refl (result_err c.ready_over.result) c.requires.inside.sound refl c.ready_over.ensures.reads

pub returns-clause-ready : goal.returns-clause-ready
returns-clause-ready g c =
    let container = c.args.container.now in
    let view = c.view-view.ensures.holds in
    let split = size_of c.difi.result.now container.parts.first.difi c.difi.ensures in
    let o = container.parts.first.difi.ivfc4.size in
    let behind = past_first c.args.at c.args.n o c.requires.one (omega (arith, split)) in
    ready_in_second g.D.Disk.state container container c.view-view.result c.view-view.result
    c.args.disk.now c.args.disk.now c.deref_mut.result.now container.table.items view.image_now view.disk_now (search rules) refl view.image_now
    view.disk_now refl (result_err c.ready_over-in-Some.result) c.requires.inside.sound
    c.in-Some.second c.in-Some.is c.args.at (c.args.at - o) (omega (arith, behind)) c.args.n
    (omega (arith, behind, c.requires.inside.inside, two_long (g.D.Disk.state c.args.disk.now) container c.in-Some.second c.in-Some.is))
    (rw (sym split) c.ready_over-in-Some.ensures.ready)

pub returns-clause-reads : goal.returns-clause-reads
returns-clause-reads g c =
    let container = c.args.container.now in
    let view = c.view-view.ensures.holds in
    let left = c.ready_over-in-Some.new in
    let after : Container = record container {
      image = left.base.image.now;
      table = with_items container.table left.table;
      parts = record container.parts { second = Some left.part };
    } in
    let o = container.parts.first.difi.ivfc4.size in
    reads_in_second g.D.Disk.state container after c.view-view.result left.base c.args.disk.now _
    c.deref_mut.result.now left.table view.image_now view.disk_now (search rules)
    (written_back container.table left.table c.deref_mut.result.now c.ready_over-in-Some.ensures.reads.frame.1 c.deref_mut.ensures.len)
    refl (search rules) refl (result_err c.ready_over-in-Some.result) c.requires.inside.sound
    c.in-Some.second left.part refl c.in-Some.is refl (o + 0) 0 refl c.ready_over-in-Some.ensures.reads

use Rattle.std.proofs.Common.{◌+◌, Some, refl, rules}
use Rattle.std.specs.Vec.{with_items}
use Rattle.std.specs.Result.{result_err}
use Rattle.page_image.specs.Images.{image_state}
use Rattle.container.specs.declared.open.Container.{Container}
use Rattle.container.specs.StoreLaws.{first_view, second_view}
use Rattle.container.proofs.HeldLemmas.{disk_of_store}
use Rattle.container.proofs.CallLemmas.{reads_in_first, reads_in_second}
use Rattle.container.proofs.CallLemmas.{written_back, part_viewed}
use Rattle.container.proofs.writing.clear_ready_in.Goals as goal

pub view-view-requires : goal.view-view-requires
view-view-requires g c =
    let container = c.args.container.now in
    disk_of_store (g.D.Disk.state c.args.disk.now) container.image container.parts.first container.parts.second
    container.table.items c.requires.sound

pub clear_ready_over-requires-clause-view : goal.clear_ready_over-requires-clause-view
clear_ready_over-requires-clause-view g c =
    let container = c.args.container.now in
    part_viewed g.D.Disk.state container c.view-view.result c.args.disk.now c.deref_mut.result.now
    c.view-view.ensures.holds.image_now c.view-view.ensures.holds.disk_now (search rules) container.parts.first
    (first_view (image_state (g.D.Disk.state c.args.disk.now) container.image) container.parts.first
    container.table.items container.parts.second c.requires.sound)

pub clear_ready_over-requires-in-Some-clause-view : goal.clear_ready_over-requires-in-Some-clause-view
clear_ready_over-requires-in-Some-clause-view g c =
    let container = c.args.container.now in
    part_viewed g.D.Disk.state container c.view-view.result c.args.disk.now c.deref_mut.result.now
    c.view-view.ensures.holds.image_now c.view-view.ensures.holds.disk_now (search rules) c.in-Some.second
    (second_view (image_state (g.D.Disk.state c.args.disk.now) container.image) container.parts.first
    container.table.items container.parts.second c.in-Some.second c.in-Some.is c.requires.sound)

pub returns-then-at-split-clause-reads : goal.returns-then-at-split-clause-reads
returns-then-at-split-clause-reads g c =
    let container = c.args.container.now in
    let view = c.view-view.ensures.holds in
    let left = c.clear_ready_over.new in
    let after : Container = record container {
      image = left.base.image.now;
      table = with_items container.table left.table;
      parts = record container.parts { first = left.part };
    } in
    reads_in_first g.D.Disk.state container after c.view-view.result left.base c.args.disk.now _
    c.deref_mut.result.now left.table view.image_now view.disk_now (search rules)
    (written_back container.table left.table c.deref_mut.result.now c.clear_ready_over.ensures.reads.frame.1 c.deref_mut.ensures.len)
    refl (search rules) refl (result_err c.clear_ready_over.result) c.requires.sound refl c.clear_ready_over.ensures.reads

pub returns-clause-reads : goal.returns-clause-reads
returns-clause-reads g c =
    let container = c.args.container.now in
    let view = c.view-view.ensures.holds in
    let left = c.clear_ready_over-in-Some.new in
    let after : Container = record container {
      image = left.base.image.now;
      table = with_items container.table left.table;
      parts = record container.parts { second = Some left.part };
    } in
    let o = container.parts.first.difi.ivfc4.size in
    reads_in_second g.D.Disk.state container after c.view-view.result left.base c.args.disk.now _
    c.deref_mut.result.now left.table view.image_now view.disk_now (search rules)
    (written_back container.table left.table c.deref_mut.result.now c.clear_ready_over-in-Some.ensures.reads.frame.1 c.deref_mut.ensures.len)
    refl (search rules) refl (result_err c.clear_ready_over-in-Some.result) c.requires.sound
    c.in-Some.second left.part refl c.in-Some.is refl (o + 0) 0 refl c.clear_ready_over-in-Some.ensures.reads

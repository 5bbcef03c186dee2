use Rattle.std.proofs.Common.{refl, IsTrue}
use Rattle.page_image.specs.Images.{image_state}
use Rattle.container.specs.StoreHeld.{shown}
use Rattle.container.specs.StoreLaws.{told_below}
use Rattle.container.proofs.HeldLemmas.{held_piece}
use Rattle.container.proofs.store.StoreSpace.piece.Goals as goal

pub returns : goal.returns
returns g c =
    let states = g.D.Disk.state in
    let store = c.args.self.now in
    let new = c.locate.new.self in
    let container = new.container.now in
    let before = c.in-Ok.ensures in
    let image = image_state (states new.disk.now) container.image in
    let told : IsTrue (shown states store).told → IsTrue image.told =
    λ is. told_below image container.parts.first container.table.items container.parts.second
    (before.reads.stays.space.told is) in (
      (refl, λ _. tt, before.reads),
      record {
        piece = held_piece (shown states store) (states new.disk.now) container.image c.args.at c.args.most c.in-Ok.run'.0 c.in-Ok.run'.1
            c.held.result told before.found (c.held.ensures (states new.disk.now));
        after = tt;
      },
    )

use Rattle.std.proofs.Common.{rules, refl, IsTrue}
use Rattle.save_bytes.specs.Spots.{Sector, Frame}
use Rattle.page_image.specs.Spots.{Leaves}
use Rattle.page_image.specs.Laws.{Leaves-join}
use Rattle.page_image.proofs.DiskLemmas.{kept_disk}
use Rattle.container.specs.StoreHeld.{shown}
use Rattle.container.proofs.HeldLemmas.{leaves_as}
use Rattle.container.proofs.store_tests.copy_twice.Goals as goal

pub store-requires-2 : goal.store-requires-2
store-requires-2 g c =
    let kept = leaves_as g.D.Disk.state Frame c.store.result c.copy.new.self c.args.container.now c.container-1.given.0 c.args.disk.now c.disk-1.given.0
    (search rules) (search rules) (search rules) (search rules) c.copy.ensures.reads.frame.2 in
    kept_disk _ _ _ _ kept.0 c.requires.disk

pub returns-in_err-copy-clause-disk : goal.returns-in_err-copy-clause-disk
returns-in_err-copy-clause-disk g c =
    let kept = leaves_as g.D.Disk.state Frame c.store.result c.copy.new.self c.args.container.now c.container-1.given.0 c.args.disk.now c.disk-1.given.0
    (search rules) (search rules) (search rules) (search rules) c.copy.ensures.reads.frame.2 in
    kept_disk _ _ _ _ kept.0 c.requires.disk

pub returns-clause-disk : goal.returns-clause-disk
returns-clause-disk g c =
    let states = g.D.Disk.state in
    let between = c.store-2.result in
    let first = leaves_as states Frame c.store.result c.copy.new.self c.args.container.now between.container.now c.args.disk.now between.disk.now
    (search rules) (search rules) (search rules) (search rules) c.copy.ensures.reads.frame.2 in
    let last = leaves_as states Frame between c.copy-2.new.self between.container.now c.container-2-1.given.0 between.disk.now c.disk-2-1.given.0
    refl refl (search rules) (search rules) c.copy-2.ensures.reads.frame.2 in
    kept_disk _ _ _ _ last.0 (kept_disk _ _ _ _ first.0 c.requires.disk)

pub returns-clause-sectors : goal.returns-clause-sectors
returns-clause-sectors g c number =
    let states = g.D.Disk.state in
    let between = c.store-2.result in
    let first = leaves_as states (Sector number) c.store.result c.copy.new.self c.args.container.now between.container.now c.args.disk.now between.disk.now
    (search rules) (search rules) (search rules) (search rules) (c.copy.ensures.reads.sectors number).2 in
    let last = leaves_as states (Sector number) between c.copy-2.new.self between.container.now c.container-2-1.given.0 between.disk.now c.disk-2-1.given.0
    refl refl (search rules) (search rules) (c.copy-2.ensures.reads.sectors number).2 in
    Leaves-join _ _ _ _ _ _ (Sector number) first last

pub returns-clause-spots : goal.returns-clause-spots
returns-clause-spots g c told spot =
    let states = g.D.Disk.state in
    let between = c.store-2.result in
    let told-one : IsTrue (shown states c.store.result).told = search rules in
    let told-mid = c.copy.ensures.reads.stays.space.told told-one in
    let told-two : IsTrue (shown states between).told = search rules in
    let first = leaves_as states spot c.store.result c.copy.new.self c.args.container.now between.container.now c.args.disk.now between.disk.now
    (search rules) (search rules) (search rules) (search rules) (c.copy.ensures.reads.spots told-one spot).2 in
    let last = leaves_as states spot between c.copy-2.new.self between.container.now c.container-2-1.given.0 between.disk.now c.disk-2-1.given.0
    refl refl (search rules) (search rules) (c.copy-2.ensures.reads.spots told-two spot).2 in
    Leaves-join _ _ _ _ _ _ spot first last

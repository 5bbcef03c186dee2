use Rattle.std.proofs.Common.{Option, None, Some, arith}
use Rattle.save_bytes.specs.declared.space.Bad.{Bad}
use Rattle.save_bytes.specs.declared.space.Bad.TheVariants.{Disk}
use Rattle.save_bytes.specs.Stays.{Stays}
use Rattle.save_disk.specs.State as disks
use Rattle.page_image.specs.declared.state.ImageState.{ImageState}
use Rattle.page_image.specs.Images.{image_state}
use Rattle.page_image.specs.Spots.{LeavesTold}
use Rattle.page_image.proofs.DiskLemmas.{kept_disk}
use Rattle.page_image.proofs.PieceLemmas.{brought_stays, failed_stays}
use Rattle.container.specs.StoreHeld.{store_of, ReadsImage}
use Rattle.container.proofs.HeldLemmas.{disk_of_store, found_brought, found_nowhere, both_read}
use Rattle.container.proofs.store.locate_in.Given.{Over}
use Rattle.container.proofs.store.locate_in.Goals.{In-Ok}
use Rattle.container.proofs.store.locate_in.Goals as goal

pub bring-requires-clause-disk_of : goal.bring-requires-clause-disk_of
bring-requires-clause-disk_of g c =
    let d = g.D.Disk.state c.args.disk.now in
    let container = c.args.container.now in
    let parts = container.parts in
    kept_disk d _ container.image _ c.in-Ok.ensures.reads.frame.0
    (disk_of_store d container.image parts.first parts.second container.table.items c.requires.inside.sound)

pub bring-requires-clause-inside : goal.bring-requires-clause-inside
bring-requires-clause-inside g c = omega (arith, c.in-Ok.ensures.found.some, c.in-Ok.ensures.found.in_base)

-- what the call that found bytes leaves together with the one that brings their page
together : (g : Over) (c : In-Ok g) (f : disks.State) (k : ImageState) (refusal : Option Bad)
    → LeavesTold (g.D.Disk.state c.find_in.new.disk) c.find_in.new.container.image f k
    → Stays (image_state (g.D.Disk.state c.find_in.new.disk) c.find_in.new.container.image) (image_state f k) refusal
    → Stays (store_of (g.D.Disk.state c.args.disk.now) c.args.container.now)
    (store_of f (record c.find_in.new.container { image = k })) refusal
    × ReadsImage (g.D.Disk.state c.args.disk.now) c.args.container.now.image f k refusal
together g c f k refusal leaves later =
    both_read (g.D.Disk.state c.args.disk.now)
    (g.D.Disk.state c.find_in.new.disk) f c.args.container.now c.find_in.new.container k
    c.in-Ok.ensures.stays leaves refusal c.requires.inside.sound c.in-Ok.ensures.reads later

pub returns-in-Ok-bring-clause-found : goal.returns-in-Ok-bring-clause-found
returns-in-Ok-bring-clause-found g c =
    let states = g.D.Disk.state in
    found_brought (states c.args.disk.now) (states c.find_in.new.disk)
    (states c.bring.new.disk) c.args.container.now c.find_in.new.container
    c.bring.new.self c.in-Ok.ensures.stays c.in-Ok-bring.ensures.leaves c.args.at c.args.most c.in-Ok.run'.0
    c.in-Ok.run'.1 c.in-Ok.ensures.found

pub returns-in-Ok-bring-clause-stays : goal.returns-in-Ok-bring-clause-stays
returns-in-Ok-bring-clause-stays g c =
    let leaves = c.in-Ok-bring.ensures.leaves in
    (together g (goal.at.returns-in-Ok-bring-clause-stays g c).In-Ok _ _ None leaves
    (brought_stays _ _ _ _ leaves c.in-Ok-bring.ensures.told)).0

pub returns-in-Ok-bring-clause-reads : goal.returns-in-Ok-bring-clause-reads
returns-in-Ok-bring-clause-reads g c =
    let leaves = c.in-Ok-bring.ensures.leaves in
    (together g (goal.at.returns-in-Ok-bring-clause-reads g c).In-Ok _ _ None leaves
    (brought_stays _ _ _ _ leaves c.in-Ok-bring.ensures.told)).1

pub returns-in-Err-bring-clause-found : goal.returns-in-Err-bring-clause-found
returns-in-Err-bring-clause-found g c =
    found_nowhere (store_of (g.D.Disk.state c.args.disk.now) c.args.container.now)
    (image_state (g.D.Disk.state c.bring.new.disk) c.bring.new.self) c.args.at c.args.most

pub returns-in-Err-bring-clause-stays : goal.returns-in-Err-bring-clause-stays
returns-in-Err-bring-clause-stays g c =
    let leaves = c.in-Err-bring.ensures.leaves in
    (together g (goal.at.returns-in-Err-bring-clause-stays g c).In-Ok _ _ (Some Disk) leaves
    (failed_stays _ _ _ _ leaves c.in-Err-bring.ensures.cause)).0

pub returns-in-Err-bring-clause-reads : goal.returns-in-Err-bring-clause-reads
returns-in-Err-bring-clause-reads g c =
    let leaves = c.in-Err-bring.ensures.leaves in
    (together g (goal.at.returns-in-Err-bring-clause-reads g c).In-Ok _ _ (Some Disk) leaves
    (failed_stays _ _ _ _ leaves c.in-Err-bring.ensures.cause)).1

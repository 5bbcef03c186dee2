use Rattle.std.proofs.Common.{◌≡◌, length, refl, sym, ◌∙◌, ap, arith}
use Rattle.save_bytes.specs.Spots.{Frame}
use Rattle.save_bytes.proofs.SpaceLemmas.{Rose-later}
use Rattle.save_disk.specs.State as disks
use Rattle.save_disk.specs.Tells.{tells}
use Rattle.save_disk.proofs.Telling.{steady_start}
use Rattle.page_image.specs.declared.state.ImageState.{ImageState}
use Rattle.page_image.specs.Images.{IsDiskOf}
use Rattle.page_image.specs.Frames.{IsTouched, IsRefilled}
use Rattle.page_image.specs.Spots.{LeavesTold}
use Rattle.page_image.proofs.DiskLemmas.{kept_disk}
use Rattle.page_image.proofs.RefillLemmas.{refilled_touched, touched_held}
use Rattle.page_image.proofs.LeaveLemmas.{refilled_leaves, tells_same, LeavesTold-join}
use Rattle.page_image.proofs.WriteLemmas.{on_err}
use Rattle.page_image.proofs.fetching.reach.Goals as goal

-- a page is read behind a call that left so much
module _ (d e f : disks.State) (i j k : ImageState) (disk_of : IsDiskOf d i) (leaves : LeavesTold d i e j)
    (told : tells e ≡ tells d)
    (sound : disks.IsSound e) (quiet : disks.IsQuiet e f) (steady : disks.IsSteady e f) (refilled : IsRefilled e j k)
  where
    disk_now : IsDiskOf e j
    disk_now = kept_disk d e i j (leaves Frame tt).0 disk_of

    read_leaves : LeavesTold d i f k
    read_leaves = LeavesTold-join d e f i j k told leaves (refilled_leaves e f j k sound disk_now quiet steady refilled)

    touched_leaves : (m : ImageState) → IsTouched k m → tells f ≡ tells e → disks.IsSound f → LeavesTold d i f m
    touched_leaves m touched same sound_now =
        LeavesTold-join d f f i k m (same ∙ told) read_leaves
        (refilled_leaves f f k m sound_now (kept_disk d f i k (read_leaves Frame tt).0 disk_of) refl (steady_start f)
        (refilled_touched f k m touched))

pub returns-then-is_held-clause-leaves : goal.returns-then-is_held-clause-leaves
returns-then-is_held-clause-leaves g c =
    let d = g.D.Disk.state c.args.disk.now in
    refilled_leaves d d c.args.image.now c.touch.new.self (g.met.D.Disk.sound c.args.disk.now) c.requires.disk_of refl
    (steady_start d)
    (refilled_touched d c.args.image.now c.touch.new.self c.touch.ensures)

pub returns-then-is_held-clause-held : goal.returns-then-is_held-clause-held
returns-then-is_held-clause-held g c =
    touched_held c.args.image.now c.touch.new.self c.args.page c.touch.ensures (sym c.if-is_held.ensures)

pub fetch-requires-clause-disk_of : goal.fetch-requires-clause-disk_of
fetch-requires-clause-disk_of g c = kept_disk _ _ _ _ (c.in_ok-give_up.ensures.leaves Frame tt).0 c.requires.disk_of

pub fetch-requires-clause-frame : goal.fetch-requires-clause-frame
fetch-requires-clause-frame g c = let same = (c.in_ok-give_up.ensures.leaves Frame tt).0 in
    omega (arith, same.frames, c.oldest-frame.ensures)

pub fetch-requires-clause-page : goal.fetch-requires-clause-page
fetch-requires-clause-page g c = omega (arith, ap length c.in_ok-give_up.ensures.slots, c.requires.page)

pub fetch-requires-clause-apart : goal.fetch-requires-clause-apart
fetch-requires-clause-apart g c = c.in_ok-give_up.ensures.apart c.args.page (sym c.if-is_held.ensures)

pub returns-in_err-fetch-clause-leaves : goal.returns-in_err-fetch-clause-leaves
returns-in_err-fetch-clause-leaves g c =
    let state = g.D.Disk.state in
    read_leaves (state c.args.disk.now) (state c.give_up.new.disk) (state c.fetch.new.disk) c.args.image.now
    c.give_up.new.image c.fetch.new.image
    c.requires.disk_of c.in_ok-give_up.ensures.leaves c.in_ok-give_up.ensures.told
    (g.met.D.Disk.sound c.give_up.new.disk) c.fetch.ensures.quiet
    c.fetch.ensures.steady c.fetch.ensures.refilled

pub returns-in_err-fetch-clause-cause : goal.returns-in_err-fetch-clause-cause
returns-in_err-fetch-clause-cause g c =
    let rose = Rose-later _ (g.D.Disk.state c.give_up.new.disk).counts.disk _
    (c.in_ok-give_up.ensures.leaves Frame tt).0.steady.disk in
    on_err c.from_residual-in_err-fetch.result (rose c.in_err-fetch.ensures.cause)

pub returns-clause-leaves : goal.returns-clause-leaves
returns-clause-leaves g c =
    let state = g.D.Disk.state in
    touched_leaves (state c.args.disk.now) (state c.give_up.new.disk) (state c.fetch.new.disk) c.args.image.now
    c.give_up.new.image c.fetch.new.image
    c.requires.disk_of c.in_ok-give_up.ensures.leaves c.in_ok-give_up.ensures.told
    (g.met.D.Disk.sound c.give_up.new.disk) c.fetch.ensures.quiet
    c.fetch.ensures.steady c.fetch.ensures.refilled c.touch-2.new.self c.touch-2.ensures
    (tells_same (state c.give_up.new.disk) (state c.fetch.new.disk) c.fetch.ensures.quiet c.fetch.ensures.steady)
    (g.met.D.Disk.sound c.fetch.new.disk)

pub returns-clause-held : goal.returns-clause-held
returns-clause-held g c = touched_held c.fetch.new.image c.touch-2.new.self c.args.page c.touch-2.ensures
    c.in_ok-fetch.ensures.held

use Rattle.std.proofs.Common.{◌≡◌, ◌<◌, ◌*◌, ◌/◌, ℕ, List, Option, Some, None, length, get_or, false, refl, sym, ◌∙◌}
use Rattle.std.proofs.Common.{ap, arith}
use Rattle.save_bytes.specs.Spots.{Frame}
use Rattle.save_disk.specs.State as disks
use Rattle.save_disk.proofs.Telling.{steady_start}
use Rattle.page_image.specs.declared.state.ImageState.{ImageState}
use Rattle.page_image.specs.Images.{is_held, is_changed, IsDiskOf}
use Rattle.page_image.specs.Frames.{IsEmptied}
use Rattle.page_image.specs.Spots.{SameImage, LeavesTold}
use Rattle.page_image.specs.WriteOuts.{IsWrittenOut}
use Rattle.page_image.proofs.DiskLemmas.{kept_disk}
use Rattle.page_image.proofs.StateLemmas.{held_alike}
use Rattle.page_image.proofs.RefillLemmas.{refilled_emptied, emptied_page, emptied_apart}
use Rattle.page_image.proofs.LeaveLemmas.{refilled_leaves, LeavesTold-join}
use Rattle.page_image.proofs.fetching.give_up.Goals as goal

-- a frame is emptied behind the writes of its changed sectors
module _ (d e : disks.State) (i j k : ImageState) (frame : ℕ) (below : frame < length i.pages.items)
    (out : IsWrittenOut d i e j)
    (emptied : IsEmptied frame j k)
    (clean : (page sector : ℕ) → get_or i.pages.items frame None ≡ Some page → sector * i.grain / 4096 ≡ page
    → is_changed j sector ≡ false) where
  same : SameImage d i e j
  same = (out.went.leaves Frame).0

  there : frame < length j.pages.items
  there = omega (arith, ap length out.went.frames.pages)

  clean_now : (page sector : ℕ) → get_or j.pages.items frame None ≡ Some page → sector * j.grain / 4096 ≡ page
      → is_changed j sector ≡ false
  clean_now page sector is here =
      clean page sector (ap (λ (l : List (Option ℕ)). get_or l frame None) (sym out.went.frames.pages) ∙ is)
      (ap (λ (n : ℕ). sector * n / 4096) (sym same.grain) ∙ here)

  given_up : disks.IsSound e → IsDiskOf d i → LeavesTold d i e k
  given_up sound disk_of =
      LeavesTold-join d e e i j k out.told (λ spot is. out.went.leaves spot)
      (refilled_leaves e e j k sound (kept_disk d e i j same disk_of) refl (steady_start e)
      (refilled_emptied e frame j k there emptied clean_now))

  now_empty : get_or k.pages.items frame None ≡ None
  now_empty = emptied_page e frame j k there emptied clean_now

  still_apart : (page : ℕ) → is_held i page ≡ false → is_held k page ≡ false
  still_apart page none =
      emptied_apart e frame j k there emptied clean_now page
      (held_alike i j same.len same.grain out.went.frames.slots out.went.frames.pages page ∙ none)

pub returns-in_err-write_held-clause-leaves : goal.returns-in_err-write_held-clause-leaves
returns-in_err-write_held-clause-leaves g c = λ spot told. c.in_err-write_held.ensures.failed.went.leaves spot

pub returns-in_err-write_held-clause-slots : goal.returns-in_err-write_held-clause-slots
returns-in_err-write_held-clause-slots g c = c.in_err-write_held.ensures.failed.went.frames.slots

pub returns-in_err-write_held-clause-apart : goal.returns-in_err-write_held-clause-apart
returns-in_err-write_held-clause-apart g c = λ page none.
    let went = c.in_err-write_held.ensures.failed.went in
    let same_now = (went.leaves Frame).0 in
    held_alike c.args.image.now c.write_held.new.image same_now.len same_now.grain went.frames.slots went.frames.pages
    page ∙ none

pub returns-clause-leaves : goal.returns-clause-leaves
returns-clause-leaves g c =
    let state = g.D.Disk.state in
    let wrote = c.in_ok-write_held.ensures in
    given_up (state c.args.disk.now) (state c.write_held.new.disk) c.args.image.now c.write_held.new.image
    c.empty.new.self c.args.frame c.requires.frame
    wrote.done c.empty.ensures (λ page sector is here. wrote.clean page sector (c.page_in-held.ensures ∙ is) here)
    (g.met.D.Disk.sound c.write_held.new.disk) c.requires.disk_of

pub returns-clause-slots : goal.returns-clause-slots
returns-clause-slots g c = c.empty.ensures.slots ∙ c.in_ok-write_held.ensures.done.went.frames.slots

pub returns-clause-apart : goal.returns-clause-apart
returns-clause-apart g c =
    let state = g.D.Disk.state in
    let wrote = c.in_ok-write_held.ensures in
    still_apart (state c.args.disk.now) (state c.write_held.new.disk) c.args.image.now c.write_held.new.image
    c.empty.new.self c.args.frame c.requires.frame
    wrote.done c.empty.ensures (λ page sector is here. wrote.clean page sector (c.page_in-held.ensures ∙ is) here)

pub returns-clause-empty : goal.returns-clause-empty
returns-clause-empty g c =
    let state = g.D.Disk.state in
    let wrote = c.in_ok-write_held.ensures in
    now_empty (state c.args.disk.now) (state c.write_held.new.disk) c.args.image.now c.write_held.new.image
    c.empty.new.self c.args.frame c.requires.frame
    wrote.done c.empty.ensures (λ page sector is here. wrote.clean page sector (c.page_in-held.ensures ∙ is) here)

pub returns-clause-told : goal.returns-clause-told
returns-clause-told g c = c.in_ok-write_held.ensures.done.told

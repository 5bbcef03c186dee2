-- What stays on the disk under writes that hold it.
use Rattle.std.proofs.Common.{◌≡◌, ℕ, ◌-◌, ◌*◌, ◌+◌, ◌<◌, ◌≤◌, IsTrue, List, [], ◌∷◌, length, get_or, Option, Some}
use Rattle.std.proofs.Common.{None, refl, sym, ◌∙◌, ap, subst, arith, inl, inr, ⊎_elim}
use Rattle.std.specs.Option.{option_map}
use Rattle.std.proofs.Math.Nat.{zero-mul}
use Rattle.std.proofs.lemmas.Bool.{cases_lt}
use Rattle.save_bytes.specs.Spots.{Place}
use Rattle.save_disk.specs.Trace.{Event, Write, Sync, Said, Told, with_sector, image_after, image_now}
use Rattle.save_disk.specs.State as disks
use Rattle.save_disk.specs.Stops.{HasWrite, EachWrite, Fits}
use Rattle.save_disk.specs.Tells.{tells, image_told, image_of}
use Rattle.save_disk.specs.Writes.{OnlyWrites, GrewBy, WritesOnly}
use Rattle.save_disk.specs.Keeps.{HoldsAt}
use Rattle.save_disk.proofs.Events.{image_after-push}
use Rattle.save_disk.proofs.Growth.{grew_happens}
use Rattle.save_disk.proofs.Moments.{has_write-right, image_after-append}
use Rattle.save_disk.proofs.SectorBytes.{length-with_sector, with_sector-before, with_sector-behind, with_sector-inside}
use Rattle.save_disk.proofs.Told.{tells-told, told_grain, told_writes, now_size}
use Rattle.page_image.specs.declared.state.ImageState.{ImageState}
use Rattle.page_image.specs.Images.{byte_of, IsDiskOf, IsFrontStored}
use Rattle.page_image.specs.Spots.{SameImageSpot}
use Rattle.page_image.proofs.FrameLemmas.{byte_front}
use Rattle.page_image.proofs.SectorLemmas.{some_grain, front_sector}
use Rattle.page_image.proofs.WriteLemmas.{IsThis, stays_own}

module _ (grain x byte : ℕ) where
  held_written : (image : List ℕ) (sector : ℕ) (bytes : List ℕ) → Fits grain (length image) sector bytes
      → HoldsAt grain x byte sector bytes
      → x < length image → get_or image x 0 ≡ byte → get_or (with_sector grain image sector bytes) x 0 ≡ byte
  held_written image sector bytes fits holds inside is =
      let begins : sector * grain < length image = fits.1 in
      ⊎_elim (λ (before : x < sector * grain). with_sector-before grain image sector bytes begins fits.0 x before ∙ is)
      (λ (from : sector * grain ≤ x).
      ⊎_elim
      (λ (below : x < sector * grain + grain).
      let place : x ≡ sector * grain + (x - sector * grain) = omega arith in
      ap (λ (y : ℕ). get_or (with_sector grain image sector bytes) y 0) place
      ∙ with_sector-inside grain image sector bytes begins fits.0 (x - sector * grain) (omega arith) (omega arith)
      ∙ holds from below)
      (λ (behind : sector * grain + grain ≤ x).
      with_sector-behind grain image sector bytes begins fits.0 x behind inside ∙ is)
      (cases_lt x (sector * grain + grain)))
      (cases_lt x (sector * grain))

  held_after : (size : ℕ) (image : List ℕ) (events : List Event) → length image ≡ size
      → EachWrite (Fits grain size) events
      → OnlyWrites (HoldsAt grain x byte) events → x < size → get_or image x 0 ≡ byte
      → get_or (image_after grain image events) x 0 ≡ byte
  held_after size image [] long fits holds inside is = is
  held_after size image (Write sector bytes ∷ events) long fits holds inside is =
      let fit : Fits grain (length image) sector bytes =
      subst (λ (n : ℕ). Fits grain n sector bytes) (sym long) (fits sector bytes (inl refl)) in
      held_after size (with_sector grain image sector bytes) events
      (length-with_sector grain image sector bytes fit.1 fit.0 ∙ long)
      (λ s b has. fits s b (inr has)) holds.1 inside
      (held_written image sector bytes fit holds.0 (omega arith) is)
  held_after size image (Sync ∷ events) long fits holds inside is = absurd holds
  held_after size image (Said bytes ∷ events) long fits holds inside is = absurd holds

  -- a byte of the disk's image stays where each write holds it
  held_now : (told next : Told) → told.grain ≡ grain → EachWrite (Fits next.grain (length next.start)) next.events
      → length (image_now told) ≡ length told.start → GrewBy (OnlyWrites (HoldsAt grain x byte)) told next
      → x < length told.start
      → get_or (image_now told) x 0 ≡ byte → get_or (image_now next) x 0 ≡ byte
  held_now told next same fits long grew inside is =
      let fits_added : EachWrite (Fits grain (length told.start)) grew.added =
      λ sector bytes has.
      subst (λ (g : ℕ). Fits g (length told.start) sector bytes) (grew.grain ∙ same)
      (subst (λ (l : List ℕ). Fits next.grain (length l) sector bytes) grew.start
      (fits sector bytes
      (subst (λ (l : List Event). HasWrite l sector bytes) (sym grew.events)
      (has_write-right told.events grew.added sector bytes has)))) in
      let now : image_now next ≡ image_after grain (image_now told) grew.added =
      rw (grew.grain, grew.start, grew.events, image_after-append told.grain told.start told.events grew.added)
      (ap (λ (g : ℕ). image_after g (image_now told) grew.added) same) in
      ap (λ (l : List ℕ). get_or l x 0) now
      ∙ held_after (length told.start) (image_now told) grew.added long fits_added grew.such inside is

  held_told : (d e : disks.State) → disks.IsSound d → disks.IsSound e → IsTrue (tells d) → d.grain ≡ grain → x < d.size
      → WritesOnly (HoldsAt grain x byte) d e → get_or (image_told d) x 0 ≡ byte → get_or (image_told e) x 0 ≡ byte
  held_told d e sound sound_now is same inside grew was =
      let told = tells-told d.told d.size is in
      let went = rw told.1 at grew in
      let size : length (image_now told.0) ≡ length told.0.start = now_size d told.0 sound told.1
      ∙ sym (start_size d told.0 sound told.1) in
      ap (λ (o : Option Told). get_or (image_of o) x 0) went.1
      ∙ held_now told.0 went.0 (told_grain d told.0 sound told.1 ∙ same) (told_writes e went.0 sound_now went.1) size
      went.2
      (omega (arith, start_size d told.0 sound told.1))
      (ap (λ (o : Option Told). get_or (image_of o) x 0) (sym told.1) ∙ was)
    where
      start_size : (s : disks.State) (told : Told) → disks.IsSound s → s.told ≡ Some told → length told.start ≡ s.size
      start_size s told ok is = rw is at ok.told_size

module _ (d e : disks.State) (i j : ImageState) (sound : disks.IsSound d) (sound_now : disks.IsSound e)
    (disk_of : IsDiskOf d i) (told : IsTrue (tells d)) where
  -- a call that leaves alone each of the first 512 places leaves them on the disk
  pub front_stays : ((x : ℕ) → x < 512 → SameImageSpot (Place x) d i e j) → IsFrontStored d i → IsFrontStored e j
  front_stays leaves stored x below =
      let layout = i.layout in
      let here = leaves x below (omega arith) in
      let same : get_or j.header x 0 ≡ byte_of d i x = sym (byte_front e j x below) ∙ here.0 in
      held_told i.grain x (byte_of d i x) d e sound sound_now told disk_of.grain (omega (arith, disk_of.size)) here.1
      (stored x below ∙ sym (byte_front d i x below))
      ∙ sym same

  -- and so does one that writes them
  pub front_written : (front written : List ℕ) → length written ≡ i.grain
      → ((k : ℕ) → k < 512 → get_or written k 0 ≡ get_or front k 0)
      → j.header ≡ front → disks.Happens (Write 0 written) d e → IsFrontStored e j
  front_written front written long header is happens x below =
      let layout = i.layout in
      let told_d = tells-told d.told d.size told in
      let went = rw told_d.1 at (grew_happens (IsThis 0 written) (Write 0 written) d e happens refl) in
      let size = now_size d told_d.0 sound told_d.1 in
      let first : 0 * i.grain ≡ 0 = zero-mul i.grain in
      ap (λ (o : Option Told). get_or (image_of o) x 0) went.1
      ∙ stays_own 0 written i.grain long told_d.0 went.0 (told_grain d told_d.0 sound told_d.1 ∙ disk_of.grain)
      (omega (arith, disk_of.size))
      went.2 x (omega (arith, disk_of.size)) (some_grain i.grain i.layout.known)
      (front_sector i.grain i.layout.known x below)
      ∙ ap (λ (n : ℕ). get_or written n 0) (omega arith)
      ∙ header x below ∙ ap (λ (l : List ℕ). get_or l x 0) (sym is)

-- a sync changes no byte of the disk's image
pub image_synced : (d e : disks.State) → disks.Happens Sync d e → image_told e ≡ image_told d
image_synced d e happens = ap image_of happens ∙ same d.told
  where
    same : (o : Option Told) → image_of (option_map (disks.then_event Sync) o) ≡ image_of o
    same None = refl
    same (Some told) = image_after-push told.grain told.events Sync told.start

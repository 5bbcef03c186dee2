-- What a call leaves that reads pages anew.
use Rattle.std.proofs.Common.{◌≡◌, ◌≢◌, ℕ, ◌/◌, ◌<◌, ◌≤◌, true, false, IsTrue, List, get_or, Option, Some, refl, sym}
use Rattle.std.proofs.Common.{◌∙◌, ap, subst, inl, ⊎_elim}
use Rattle.std.specs.Bool.{⊤}
use Rattle.std.proofs.lemmas.Bool.{cases_Bool, cases_lt}
use Rattle.save_bytes.specs.Spots.{Spot, Place, Sector}
use Rattle.save_disk.specs.Trace.{Told, image_now}
use Rattle.save_disk.specs.State as disks
use Rattle.save_disk.specs.Tells.{tells, is_sure, image_told, image_of}
use Rattle.save_disk.specs.Keeps.{HoldsAt}
use Rattle.save_disk.proofs.Growth.{WritesOnly-quiet}
use Rattle.page_image.specs.declared.state.ImageState.{ImageState}
use Rattle.page_image.specs.Images.{is_held, held_byte, byte_of, is_changed, Mirrors, IsDiskOf}
use Rattle.page_image.specs.Frames.{IsRefilled}
use Rattle.page_image.specs.Spots.{SameImage, IsToldFor, LeavesTold}
use Rattle.page_image.specs.Laws.{SureFrom, sure_start, Leaves-join}
use Rattle.page_image.proofs.FrameLemmas.{byte_front, byte_held, byte_unheld, clean_unheld}
use Rattle.page_image.proofs.DiskLemmas.{true-disk_of, clean_told, read_told}

-- reads are told as before
sure_quiet : (number : ℕ) (o p : Option Told) → p ≡ o → SureFrom number o p
sure_quiet number o p same = subst (λ (q : Option Told). SureFrom number o q) (sym same) (sure_start number o)

-- a call that only reads ends nothing that is told
pub tells_same : (d e : disks.State) → disks.IsQuiet d e → disks.IsSteady d e → tells e ≡ tells d
tells_same d e quiet steady = ap (λ (n : ℕ). is_sure n e.told) steady.size
    ∙ ap (λ (o : Option Told). is_sure d.size o) quiet

module _ (d e : disks.State) (i j : ImageState) (sound : disks.IsSound d) (disk_of : IsDiskOf d i)
    (quiet : disks.IsQuiet d e)
    (steady : disks.IsSteady d e) (h : IsRefilled d i j) where
  clean_before : (x : ℕ) → is_changed j (x / i.grain) ≡ false → is_changed i (x / i.grain) ≡ false
  clean_before x clean = sym (h.changed (x / i.grain)) ∙ clean

  front_same : (x : ℕ) → x < 512 → byte_of e j x ≡ byte_of d i x
  front_same x front = byte_front e j x front ∙ ap (λ (l : List ℕ). get_or l x 0) h.same.header
      ∙ sym (byte_front d i x front)

  mirrors : Mirrors e j
  mirrors told now x behind below_now sure_now clean_now =
      let is : d.told ≡ Some told = sym quiet ∙ now in
      let below : x < i.len = subst (λ (n : ℕ). x < n) h.same.len below_now in
      let sure : IsTrue (told.sure (x / i.grain)) =
      subst (λ (g : ℕ). IsTrue (told.sure (x / g))) h.same.grain sure_now in
      let clean : is_changed j (x / i.grain) ≡ false =
      subst (λ (g : ℕ). is_changed j (x / g) ≡ false) h.same.grain clean_now in
      let stored : get_or (image_now told) x 0 ≡ byte_of d i x =
      disk_of.mirrors told is x behind below sure (clean_before x clean) in
      ⊎_elim
      (λ (held : is_held j (x / 4096) ≡ true).
      ⊎_elim (λ same. stored ∙ byte_held d i x behind same.0 ∙ sym same.1 ∙ sym (byte_held e j x behind held))
      (λ read. sym (read.1 told is sure) ∙ sym (byte_held e j x behind held))
      (h.bytes x below held))
      (λ (none : is_held j (x / 4096) ≡ false).
      sym (byte_unheld e j x behind none ∙ ap (λ (o : Option Told). get_or (image_of o) x 0) now))
      (cases_Bool (is_held j (x / 4096)))

  now_disk_of : IsDiskOf e j
  now_disk_of = record {
    size = steady.size ∙ disk_of.size ∙ sym h.same.len;
    grain = steady.grain ∙ disk_of.grain ∙ sym h.same.grain;
    mirrors = mirrors;
  }

  image_same : (x : ℕ) → get_or (image_told e) x 0 ≡ get_or (image_told d) x 0
  image_same x = ap (λ (o : Option Told). get_or (image_of o) x 0) quiet

  byte_same : tells d ≡ true → (x : ℕ) → x < i.len → byte_of e j x ≡ byte_of d i x
  byte_same sure x below =
      ⊎_elim (front_same x)
      (λ (behind : 512 ≤ x).
      ⊎_elim
      (λ (held : is_held j (x / 4096) ≡ true).
      byte_held e j x behind held
      ∙ ⊎_elim (λ same. same.1 ∙ sym (byte_held d i x behind same.0))
      (λ read. read_told d i x sound disk_of sure below (held_byte j x) read.1
      ∙ sym (clean_told d i x sound disk_of sure behind below (clean_before x read.0)))
      (h.bytes x below held))
      (λ (none : is_held j (x / 4096) ≡ false).
      byte_unheld e j x behind none ∙ image_same x
      ∙ sym (clean_told d i x sound disk_of sure behind below
      (clean_before x (ap (λ (g : ℕ). is_changed j (x / g)) (sym h.same.grain) ∙ clean_unheld j x none))))
      (cases_Bool (is_held j (x / 4096))))
      (cases_lt x 512)

  same_image : SameImage d i e j
  same_image = record {
    len = h.same.len;
    grain = h.same.grain;
    frames = h.same.frames;
    steady = steady;
    writes = WritesOnly-quiet (λ sector bytes. ⊤) d e quiet;
    sound = true-disk_of e j now_disk_of ∙ sym (true-disk_of d i disk_of);
    pending = λ sector changed clean. absurd (let same = h.changed sector in cc);
  }

  pub refilled_leaves : LeavesTold d i e j
  refilled_leaves (Place x) sure =
      (same_image, λ inside. (byte_same sure x inside, WritesOnly-quiet (HoldsAt i.grain x (byte_of d i x)) d e quiet))
  refilled_leaves (Sector number) sure = (
    same_image,
    λ clean. (
      h.changed number ∙ clean,
      WritesOnly-quiet (λ sector bytes. sector ≢ number) d e quiet,
      sure_quiet number d.told e.told quiet,
    ),
  )
  refilled_leaves other sure = (same_image, tt)

-- one call behind another
pub LeavesTold-join : (d e f : disks.State) (i j k : ImageState) → tells e ≡ tells d → LeavesTold d i e j
    → LeavesTold e j f k → LeavesTold d i f k
LeavesTold-join d e f i j k same h g = λ spot told.
    Leaves-join d e f i j k spot (h spot told) (g spot (later spot told))
  where
    later : (spot : Spot) → IsToldFor spot d → IsToldFor spot e
    later (Place x) told = same ∙ told
    later other told = tt

-- a call in which nothing happened
pub quiet_leaves : (d e : disks.State) (i : ImageState) → disks.IsSound d → IsDiskOf d i → disks.IsQuiet d e
    → disks.IsSteady d e → LeavesTold d i e i
quiet_leaves d e i sound disk_of quiet steady =
    refilled_leaves d e i i sound disk_of quiet steady
    (record {
      same = record { len = refl; grain = refl; header = refl; frames = refl; slots = refl };
      changed = λ sector. refl;
      bytes = λ x below held. inl (held, refl);
    })

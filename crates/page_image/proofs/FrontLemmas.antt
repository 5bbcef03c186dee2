-- What a write of the first 512 bytes leaves.
use Rattle.std.proofs.Common.{◌≡◌, ◌≢◌, ◌⊎◌, ℕ, ◌+◌, ◌-◌, ◌*◌, ◌/◌, ◌<◌, ◌≤◌, true, false, IsTrue, List, [], ◌∷◌}
use Rattle.std.proofs.Common.{length, get_or, Option, Some}
use Rattle.std.proofs.Common.{refl, sym, ◌∙◌, ap, subst, arith, inl, inr, ⊎_elim}
use Rattle.std.specs.Bool.{⊤}
use Rattle.std.proofs.Math.Nat.{zero-mul}
use Rattle.std.proofs.lemmas.Bool.{cases_lt, cases_eq, cases_Bool}
use Rattle.save_bytes.specs.Spots.{Place, Sector}
use Rattle.save_disk.specs.Trace.{Event, Write, Told, image_now}
use Rattle.save_disk.specs.State as disks
use Rattle.save_disk.specs.Tells.{tells, image_told, image_of}
use Rattle.save_disk.specs.Writes.{OnlyWrites, GrewBy, writes_to, WritesTo}
use Rattle.save_disk.specs.Keeps.{HoldsAt}
use Rattle.save_disk.proofs.Told.{tells-told, told_grain, now_size}
use Rattle.save_disk.proofs.Growth.{grew_happens, grew_failed, came_from}
use Rattle.page_image.specs.declared.state.ImageState.{ImageState}
use Rattle.page_image.specs.Images.{is_held, held_byte, byte_of, is_changed, IsDiskOf, Mirrors}
use Rattle.page_image.specs.Spots.{SameImage, SureAsBefore}
use Rattle.page_image.specs.Fronts.{IsSector0, LeavesBehind}
use Rattle.page_image.specs.Puts.{IsFirstMarked, IsHeaded}
use Rattle.page_image.proofs.SectorLemmas.{by_grain, some_grain, sector_page, front_sector}
use Rattle.page_image.proofs.FrameLemmas.{byte_held, byte_unheld, changed_parts}
use Rattle.page_image.specs.Frames.{IsByteRead}
use Rattle.page_image.specs.WriteOuts.{IsSectorOf}
use Rattle.page_image.proofs.ReadLemmas.{own_read}
use Rattle.page_image.proofs.DiskLemmas.{true-disk_of, read_told}
use Rattle.page_image.proofs.WriteLemmas.{in_sector, IsThis, IsThisOrNone, stays_apart, stays_own, told_apart}
use Rattle.page_image.proofs.WriteLemmas.{sure_back, sure_written, sure_failed, grew_as}
use Rattle.save_disk.proofs.Growth.{image_unchanged}

-- the same frames and marks, but for the mark of sector 0
pub record SameFront (i j : ImageState) : Type 0 where
  pub len : j.len ≡ i.len
  pub grain : j.grain ≡ i.grain
  pub frames : length j.pages.items ≡ length i.pages.items
  pub held : (page : ℕ) → is_held j page ≡ is_held i page
  pub bytes : (x : ℕ) → held_byte j x ≡ held_byte i x
  pub others : (sector : ℕ) → sector ≢ 0 → is_changed j sector ≡ is_changed i sector

pub SameFront-headed : (front : List ℕ) (i j : ImageState) → IsHeaded front i j → SameFront i j
SameFront-headed front i j h =
    record { len = h.len; grain = h.grain; frames = h.frames; held = h.held; bytes = h.bytes; others = h.others }

pub SameFront-marked : (i j : ImageState) → IsFirstMarked i j → SameFront i j
SameFront-marked i j h =
    record {
      len = h.same.len;
      grain = h.same.grain;
      frames = h.same.frames;
      held = h.held;
      bytes = h.bytes;
      others = h.others;
    }

module _ (d : disks.State) (i : ImageState) (w : List ℕ) (sound : disks.IsSound d) (disk_of : IsDiskOf d i)
    (long : length w ≡ i.grain)
    (rest : IsSector0 d i w) where
  begins : 0 * i.grain < i.len
  begins = let layout = i.layout in omega (arith, zero-mul i.grain)

  told_fits : (told : Told) → d.told ≡ Some told → (told.grain ≡ i.grain) × (length (image_now told) ≡ i.len)
  told_fits told is = (told_grain d told sound is ∙ disk_of.grain, now_size d told sound is ∙ disk_of.size)

  -- a place of sector 0 lies in page 0
  first_page : (x : ℕ) → x / i.grain ≡ 0 → x / 4096 ≡ 0
  first_page x here =
      let start = sector_page i.grain i.layout.known x in
      let zero : x / i.grain * i.grain ≡ 0 = ap (λ (s : ℕ). s * i.grain) here ∙ zero-mul i.grain in
      sym start ∙ ap (λ (y : ℕ). y / 4096) zero

  in_grain : (x : ℕ) → x / i.grain ≡ 0 → x < i.grain
  in_grain x here =
      let within = in_sector x 0 i.grain (some_grain i.grain i.layout.known) here in
      omega (arith, zero-mul i.grain, within.1)

  own : (x : ℕ) → 512 ≤ x → x < i.len → x / i.grain ≡ 0 → IsTrue (tells d) ⊎ (is_held i 0 ≡ true)
      → get_or w (x - 0 * i.grain) 0 ≡ byte_of d i x
  own x behind inside here known =
      ap (λ (n : ℕ). get_or w n 0) (omega (arith, zero-mul i.grain)) ∙ rest known x behind (in_grain x here) inside

  module _ (e : disks.State) (j : ImageState) (steady : disks.IsSteady d e) (same : SameFront i j)
      (grew : disks.GoesOn (GrewBy (IsThisOrNone 0 w)) d e)
      (sure : (sector : ℕ) → sector ≢ 0 → SureAsBefore sector d e) where
    -- in sector 0 the disk's image has what is written, or what it had
    told_own : IsTrue (tells d) → (x : ℕ) → 512 ≤ x → x < i.len → x / i.grain ≡ 0 → is_held i (x / 4096) ≡ false
        → get_or (image_told e) x 0 ≡ get_or (image_told d) x 0
    told_own is x behind inside here none =
        let told = tells-told d.told d.size is in
        let fits = told_fits told.0 told.1 in
        let start = begins in
        let went = rw told.1 at grew in
        ap (λ (o : Option Told). get_or (image_of o) x 0) went.1
        ∙ ⊎_elim
        (λ nothing. ap (λ (l : List ℕ). get_or l x 0)
        (image_unchanged told.0 went.0 (grew_as told.0 went.0 went.2 nothing)))
        (λ this.
        stays_own 0 w i.grain long told.0 went.0 fits.0 (omega arith) (grew_as told.0 went.0 went.2 this) x
        (omega arith)
        (some_grain i.grain i.layout.known) here
        ∙ own x behind inside here (inl is) ∙ byte_unheld d i x behind none
        ∙ ap (λ (o : Option Told). get_or (image_of o) x 0) told.1)
        went.2.such
        ∙ sym (ap (λ (o : Option Told). get_or (image_of o) x 0) told.1)

    behind_kept : (x : ℕ) → 512 ≤ x → x < i.len → (x / i.grain ≢ 0) ⊎ (IsTrue (tells d) ⊎ (is_held i 0 ≡ true))
        → byte_of e j x ≡ byte_of d i x
    behind_kept x behind inside known =
        ⊎_elim
        (λ (held : is_held i (x / 4096) ≡ true).
        byte_held e j x behind (same.held (x / 4096) ∙ held) ∙ same.bytes x ∙ sym (byte_held d i x behind held))
        (λ (none : is_held i (x / 4096) ≡ false).
        byte_unheld e j x behind (same.held (x / 4096) ∙ none)
        ∙ ⊎_elim
        (λ (apart : x / i.grain ≢ 0).
        told_apart 0 w i.grain long d.told e.told grew
        (λ told is. (let fits = told_fits told is in let start = begins in (fits.0, omega arith)))
        x (λ told is. (let fits = told_fits told is in omega arith)) apart)
        (λ (here : x / i.grain ≡ 0).
        ⊎_elim (λ away. absurd (away here))
        (λ more. ⊎_elim (λ is. told_own is x behind inside here none)
        (λ held. let gone : is_held i 0 ≡ false = ap (is_held i) (sym (first_page x here)) ∙ none in absurd (cc)) more)
        known)
        (cases_neq (x / i.grain))
        ∙ sym (byte_unheld d i x behind none))
        (cases_Bool (is_held i (x / 4096)))
      where
        cases_neq : (n : ℕ) → (n ≢ 0) ⊎ (n ≡ 0)
        cases_neq n = ⊎_elim inr inl (cases_eq n 0)

    mirrors : (is_changed j 0 ≡ false → is_held i 0 ≡ true → disks.GoesOn (GrewBy (IsThis 0 w)) d e) → Mirrors e j
    mirrors this next is x behind below_now sure_now clean_now =
        let inside : x < i.len = subst (λ (m : ℕ). x < m) same.len below_now in
        let clean : is_changed j (x / i.grain) ≡ false =
        subst (λ (g : ℕ). is_changed j (x / g) ≡ false) same.grain clean_now in
        let told_sure : IsTrue (next.sure (x / i.grain)) =
        subst (λ (g : ℕ). IsTrue (next.sure (x / g))) same.grain sure_now in
        let start = begins in
        let some = some_grain i.grain i.layout.known in
        ⊎_elim
        (λ (here : x / i.grain ≡ 0).
        ⊎_elim
        (λ (held : is_held i (x / 4096) ≡ true).
        let first : is_held i 0 ≡ true = ap (is_held i) (sym (first_page x here)) ∙ held in
        let from = came_from (GrewBy (IsThis 0 w)) d e next (this (ap (is_changed j) (sym here) ∙ clean) first) is in
        let fits = told_fits from.0 from.1 in
        stays_own 0 w i.grain long from.0 next fits.0 (omega arith) from.2 x (omega arith) some here
        ∙ own x behind inside here (inr first) ∙ sym (behind_kept x behind inside (inr (inr first))))
        (λ (none : is_held i (x / 4096) ≡ false).
        sym (byte_unheld e j x behind (same.held (x / 4096) ∙ none)
        ∙ ap (λ (o : Option Told). get_or (image_of o) x 0) is))
        (cases_Bool (is_held i (x / 4096))))
        (λ (apart : x / i.grain ≢ 0).
        let from = came_from (GrewBy (IsThisOrNone 0 w)) d e next grew is in
        let fits = told_fits from.0 from.1 in
        let before : IsTrue (from.0.sure (x / i.grain)) =
        sym (sure_back (x / i.grain) d e from.0 next (sure (x / i.grain) apart) from.1 is) ∙ told_sure in
        stays_apart 0 w i.grain long from.0 next fits.0 (omega arith) from.2 x (omega arith) apart
        ∙ disk_of.mirrors from.0 from.1 x behind inside before (sym (same.others (x / i.grain) apart) ∙ clean)
        ∙ sym (behind_kept x behind inside (inl apart)))
        (cases_eq (x / i.grain) 0)

    -- what is left where the trace may have this write more
    module _ (this : is_changed j 0 ≡ false → is_held i 0 ≡ true → disks.GoesOn (GrewBy (IsThis 0 w)) d e)
        (pending : is_changed i 0 ≡ true → is_changed j 0 ≡ false → WritesTo 0 d e)
        (grow : (P : List Event → Type 0) → P [] → P (Write 0 w ∷ []) → disks.GoesOn (GrewBy P) d e) where
      now_disk_of : IsDiskOf e j
      now_disk_of = record {
        size = steady.size ∙ disk_of.size ∙ sym same.len;
        grain = steady.grain ∙ disk_of.grain ∙ sym same.grain;
        mirrors = mirrors this;
      }

      still : (sector : ℕ) → is_changed i sector ≡ true → is_changed j sector ≡ false → WritesTo sector d e
      still sector changed clean =
          ⊎_elim
          (λ (here : sector ≡ 0).
          subst (λ (s : ℕ). WritesTo s d e) (sym here)
          (pending (ap (is_changed i) (sym here) ∙ changed) (ap (is_changed j) (sym here) ∙ clean)))
          (λ (apart : sector ≢ 0). let marks = same.others sector apart in absurd (cc))
          (cases_eq sector 0)

      same_image : SameImage d i e j
      same_image = record {
        len = same.len;
        grain = same.grain;
        frames = same.frames;
        steady = steady;
        writes = grow (OnlyWrites (λ sector written. ⊤)) tt (tt, tt);
        sound = true-disk_of e j now_disk_of ∙ sym (true-disk_of d i disk_of);
        pending = still;
      }

      holds : IsTrue (tells d) → (x : ℕ) → 512 ≤ x → x < i.len → HoldsAt i.grain x (byte_of d i x) 0 w
      holds is x behind inside from below =
          ap (λ (n : ℕ). get_or w n 0) (omega (arith, zero-mul i.grain))
          ∙ rest (inl is) x behind (omega (arith, zero-mul i.grain)) inside

      pub leaves_behind : LeavesBehind d i e j
      leaves_behind (Place x) misses told = (
        same_image,
        λ inside.
            (let behind : 512 ≤ x = ⊎_elim (λ (front : x < 512). absurd (misses x front (omega arith))) (λ h. h)
            (cases_lt x 512) in (
              behind_kept x behind inside (inr (inl told)),
              grow (OnlyWrites (HoldsAt i.grain x (byte_of d i x))) tt (holds told x behind inside, tt),
            )),
      )
      leaves_behind (Sector number) misses told = (
        same_image,
        λ clean.
            (let apart : number ≢ 0 = λ here.
            misses 0 (omega arith) (front_sector i.grain i.layout.known (0 + 0) (omega arith) ∙ sym here) in (
              same.others number apart ∙ clean,
              grow (OnlyWrites (λ sector written. sector ≢ number)) tt (λ is. apart (sym is), tt),
              sure number apart,
            )),
      )
      leaves_behind other misses told = (same_image, tt)

-- sector 0 was written
pub leaves_front : (d : disks.State) (i : ImageState) (w front : List ℕ) → disks.IsSound d → IsDiskOf d i
    → length w ≡ i.grain → IsSector0 d i w
    → (e : disks.State) (j : ImageState) → disks.IsSteady d e → IsHeaded front i j → disks.Happens (Write 0 w) d e
    → LeavesBehind d i e j
leaves_front d i w front sound disk_of long rest e j steady headed happens =
    leaves_behind d i w sound disk_of long rest e j steady (SameFront-headed front i j headed)
    (grew_happens (IsThisOrNone 0 w) (Write 0 w) d e happens (inr refl))
    (λ sector apart. sure_written 0 w sector d.told e.told happens)
    (λ clean held. grew_happens (IsThis 0 w) (Write 0 w) d e happens refl)
    (λ changed clean. grew_happens (λ events. 1 ≤ writes_to 0 events) (Write 0 w) d e happens (omega arith))
    (λ P none such. grew_happens P (Write 0 w) d e happens such)

-- its write failed, and it is changed, if its page is held
pub leaves_front_failed : (d : disks.State) (i : ImageState) (w : List ℕ) → disks.IsSound d → IsDiskOf d i
    → length w ≡ i.grain → IsSector0 d i w
    → (e : disks.State) (j : ImageState) → disks.IsSteady d e → IsFirstMarked i j
    → disks.GoesOn (disks.WriteFails 0 w) d e → LeavesBehind d i e j
leaves_front_failed d i w sound disk_of long rest e j steady marked fails =
    leaves_behind d i w sound disk_of long rest e j steady (SameFront-marked i j marked)
    (grew_failed (IsThisOrNone 0 w) 0 w d e fails (inl refl) (inr refl))
    (λ sector apart. sure_failed 0 w sector d.told e.told apart fails)
    (λ clean held. absurd (let set = marked.marked held in cc))
    (λ changed clean. absurd (let set = marked.marked (held_changed changed) in cc))
    (λ P none such. grew_failed P 0 w d e fails none such)
  where
    held_changed : is_changed i 0 ≡ true → is_held i 0 ≡ true
    held_changed changed =
        let held = (changed_parts i (0 * i.grain) changed).1 in
        let zero : 0 * i.grain / 4096 ≡ 0 = omega (arith, zero-mul i.grain) in
        sym (ap (is_held i) zero) ∙ held

-- sector 0 as it is held, and as it is read
pub sector0_held : (d : disks.State) (i : ImageState) (out : List ℕ) → IsSectorOf d i 0 out → IsSector0 d i out
sector0_held d i out sector known k behind below inside =
    let place : 0 * i.grain + k ≡ k = omega (arith, zero-mul i.grain) in
    sector.each k below (omega arith) ∙ ap (byte_of d i) place

pub sector0_read : (d : disks.State) (i : ImageState) (out : List ℕ) → disks.IsSound d → IsDiskOf d i
    → is_held i 0 ≡ false → disks.IsRead d 0 out
    → IsSector0 d i out
sector0_read d i out sound disk_of none read (inr held) k behind below inside = absurd (cc)
sector0_read d i out sound disk_of none read (inl told) k behind below inside =
    let place : 0 * i.grain + k ≡ k = omega (arith, zero-mul i.grain) in
    let known = by_grain i.grain i.layout.known (λ (g : ℕ). g ≤ 4096) (omega arith) (omega arith) in
    let page : k / 4096 ≡ 0 = omega arith in
    let byte : IsByteRead d i.grain k (get_or out k 0) =
    subst (λ (x : ℕ). IsByteRead d i.grain x (get_or out k 0)) place
    (own_read d i.grain 0 out sound (sym disk_of.grain) read k below) in
    read_told d i k sound disk_of told inside (get_or out k 0) byte
    ∙ sym (byte_unheld d i k behind (ap (is_held i) page ∙ none))

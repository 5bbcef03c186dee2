-- What it says that a disk is that of an image.
use Rattle.std.proofs.Common.{◌≡◌, ℕ, ◌*◌, ◌/◌, ◌<◌, ◌≤◌, true, false, not, ◌||◌, eqb, ltb}
use Rattle.std.proofs.Common.{IsTrue, get_or, Option, Some, None, refl, sym, ◌∙◌, ap, subst, arith, ⊎_elim}
use Rattle.std.proofs.lemmas.Bool.{and_parts, and_from, or_cases, or_left, or_right, not_from_true}
use Rattle.std.proofs.lemmas.Bool.{not_from_false, cases_Bool, eqb-true, eq-eqb, lt-ltb, le-ltb, cases_lt}
use Rattle.save_disk.specs.Trace.{Told, image_now}
use Rattle.save_disk.specs.State as disks
use Rattle.save_disk.specs.Tells.{tells, image_told, image_of}
use Rattle.save_disk.proofs.Told.{all_below-at, all_below-all, tells-sure, tells-told, told_grain}
use Rattle.page_image.specs.declared.state.ImageState.{ImageState}
use Rattle.page_image.specs.Images.{is_held, byte_of, is_changed, IsDiskOf, is_mirrored_at, is_mirrored, is_disk_of}
use Rattle.page_image.specs.Images.{IsOpened}
use Rattle.page_image.proofs.FrameLemmas.{byte_front, byte_unheld, changed_unheld}
use Rattle.page_image.specs.Frames.{IsByteRead}
use Rattle.page_image.specs.Spots.{SameImage}

-- a byte is on the disk, where reads of its sector are told and nothing of it is changed
mirrored-at : (d : disks.State) (i : ImageState) (told : Told) (x : ℕ) → is_mirrored_at d i told x ≡ true → 512 ≤ x
    → told.sure (x / i.grain) ≡ true
    → is_changed i (x / i.grain) ≡ false → get_or (image_now told) x 0 ≡ byte_of d i x
mirrored-at d i told x test behind sure clean =
    let past : (not (told.sure (x / i.grain)) || (is_changed i (x / i.grain) || eqb (get_or (image_now told) x 0)
    (byte_of d i x))) ≡ true =
    ⊎_elim (λ (front : ltb x 512 ≡ true). let no = le-ltb x 512 behind in absurd (cc)) (λ more. more)
    (or_cases (ltb x 512) (not (told.sure (x / i.grain)) || (is_changed i (x / i.grain) || eqb
    (get_or (image_now told) x 0) (byte_of d i x))) test) in
    ⊎_elim
    (λ (unsure : not (told.sure (x / i.grain)) ≡ true). let no = not_from_true (told.sure (x / i.grain)) sure in
    absurd (cc))
    (λ (more : (is_changed i (x / i.grain) || eqb (get_or (image_now told) x 0) (byte_of d i x)) ≡ true).
    ⊎_elim (λ (changed : is_changed i (x / i.grain) ≡ true). absurd (cc))
    (eqb-true (get_or (image_now told) x 0) (byte_of d i x))
    (or_cases (is_changed i (x / i.grain)) (eqb (get_or (image_now told) x 0) (byte_of d i x)) more))
    (or_cases (not (told.sure (x / i.grain)))
    (is_changed i (x / i.grain) || eqb (get_or (image_now told) x 0) (byte_of d i x)) past)

mirrored-by : (d : disks.State) (i : ImageState) (told : Told) (x : ℕ)
    → (512 ≤ x → told.sure (x / i.grain) ≡ true → is_changed i (x / i.grain) ≡ false
    → get_or (image_now told) x 0 ≡ byte_of d i x)
    → is_mirrored_at d i told x ≡ true
mirrored-by d i told x same =
    ⊎_elim
    (λ (front : x < 512).
    or_left (ltb x 512) (not (told.sure (x / i.grain)) ||
    (is_changed i (x / i.grain) || eqb (get_or (image_now told) x 0) (byte_of d i x))) (lt-ltb x 512 front))
    (λ (behind : 512 ≤ x).
    or_right (ltb x 512) (not (told.sure (x / i.grain)) || (is_changed i (x / i.grain) || eqb
    (get_or (image_now told) x 0) (byte_of d i x)))
    (⊎_elim
    (λ (sure : told.sure (x / i.grain) ≡ true).
    or_right (not (told.sure (x / i.grain)))
    (is_changed i (x / i.grain) || eqb (get_or (image_now told) x 0) (byte_of d i x))
    (⊎_elim (or_left (is_changed i (x / i.grain)) (eqb (get_or (image_now told) x 0) (byte_of d i x)))
    (λ (clean : is_changed i (x / i.grain) ≡ false).
    or_right (is_changed i (x / i.grain)) (eqb (get_or (image_now told) x 0) (byte_of d i x))
    (eq-eqb (get_or (image_now told) x 0) (byte_of d i x) (same behind sure clean)))
    (cases_Bool (is_changed i (x / i.grain)))))
    (λ (unsure : told.sure (x / i.grain) ≡ false).
    or_left (not (told.sure (x / i.grain)))
    (is_changed i (x / i.grain) || eqb (get_or (image_now told) x 0) (byte_of d i x))
    (not_from_false (told.sure (x / i.grain)) unsure))
    (cases_Bool (told.sure (x / i.grain)))))
    (cases_lt x 512)

some_same : (x y : Told) → Some x ≡ Some y → x ≡ y
some_same x y same = cc

mirrored-all : (d : disks.State) (i : ImageState) (o : Option Told) → is_mirrored d i o ≡ true → (told : Told)
    → o ≡ Some told → (x : ℕ) → x < i.len
    → is_mirrored_at d i told x ≡ true
mirrored-all d i None test told is x below = absurd (cc)
mirrored-all d i (Some other) test told is x below =
    subst (λ (t : Told). is_mirrored_at d i t x ≡ true) (some_same other told is)
    (all_below-at (is_mirrored_at d i other) i.len x test below)

mirrored-from : (d : disks.State) (i : ImageState) (o : Option Told)
    → ((told : Told) → o ≡ Some told → (x : ℕ) → x < i.len → is_mirrored_at d i told x ≡ true)
    → is_mirrored d i o ≡ true
mirrored-from d i None each = refl
mirrored-from d i (Some told) each = all_below-all (is_mirrored_at d i told) i.len (each told refl)

module _ (d : disks.State) (i : ImageState) where
  -- where the test passes, the disk is that of the image
  pub disk_of-true : IsTrue (is_disk_of d i) → IsDiskOf d i
  disk_of-true test =
      let parts = and_parts _ _ test in
      let more = and_parts _ _ parts.1 in
      record {
        size = eqb-true _ _ parts.0;
        grain = eqb-true _ _ more.0;
        mirrors = λ told is x behind below sure clean.
            mirrored-at d i told x (mirrored-all d i d.told more.1 told is x below) behind sure clean;
      }

  -- and the other way round
  pub true-disk_of : IsDiskOf d i → IsTrue (is_disk_of d i)
  true-disk_of h =
      and_from _ _ (eq-eqb _ _ h.size)
      (and_from _ _ (eq-eqb _ _ h.grain)
      (mirrored-from d i d.told (λ told is x below.
      mirrored-by d i told x (λ behind. h.mirrors told is x behind below))))

-- the disk stays that of the image
pub kept_disk : (d e : disks.State) (i j : ImageState) → SameImage d i e j → IsDiskOf d i → IsDiskOf e j
kept_disk d e i j same h = disk_of-true e j (same.sound ∙ true-disk_of d i h)

-- where each read is told, so is that of a byte of the image
pub told_byte : (d : disks.State) (i : ImageState) (told : Told) (x : ℕ) → disks.IsSound d → IsDiskOf d i
    → tells d ≡ true → d.told ≡ Some told → x < i.len
    → IsTrue (told.sure (x / i.grain))
told_byte d i told x sound h sure is below =
    subst (λ (g : ℕ). IsTrue (told.sure (x / g))) (told_grain d told sound is ∙ h.grain)
    (tells-sure d told x is sure (omega (arith, h.size)))

-- then a byte of a sector that is not changed is on the disk
pub clean_told : (d : disks.State) (i : ImageState) (x : ℕ) → disks.IsSound d → IsDiskOf d i → tells d ≡ true → 512 ≤ x
    → x < i.len
    → is_changed i (x / i.grain) ≡ false → byte_of d i x ≡ get_or (image_told d) x 0
clean_told d i x sound h sure behind below clean =
    let told = tells-told d.told d.size sure in
    sym (h.mirrors told.0 told.1 x behind below (told_byte d i told.0 x sound h sure told.1 below) clean)
    ∙ ap (λ (o : Option Told). get_or (image_of o) x 0) (sym told.1)

-- and so is one that was read
pub read_told : (d : disks.State) (i : ImageState) (x : ℕ) → disks.IsSound d → IsDiskOf d i → tells d ≡ true → x < i.len
    → (byte : ℕ) → IsByteRead d i.grain x byte → byte ≡ get_or (image_told d) x 0
read_told d i x sound h sure below byte read =
    let told = tells-told d.told d.size sure in
    read told.0 told.1 (told_byte d i told.0 x sound h sure told.1 below)
    ∙ ap (λ (o : Option Told). get_or (image_of o) x 0) (sym told.1)

-- an image of which the first 512 bytes were read and no page is held
pub opened : (d : disks.State) (i : ImageState) → disks.IsSound d → d.size ≡ i.len → d.grain ≡ i.grain
    → ((page : ℕ) → is_held i page ≡ false)
    → ((k : ℕ) → k < 512 → IsByteRead d i.grain k (get_or i.header k 0)) → IsOpened d i
opened d i sound size grain none read = record {
  disk_of = now;
  bytes = λ sure x below.
      ⊎_elim
      (λ (front : x < 512). byte_front d i x front
      ∙ read_told d i x sound now sure below (get_or i.header x 0) (read x front))
      (λ (behind : 512 ≤ x). byte_unheld d i x behind (none (x / 4096)))
      (cases_lt x 512);
  front = λ sure x front. sym (read_told d i x sound now sure (omega (arith, i.layout.least)) (get_or i.header x 0)
      (read x front));
  clean = λ sector. changed_unheld i (sector * i.grain) (none (sector * i.grain / 4096));
} where
  now : IsDiskOf d i
  now = record {
    size = size;
    grain = grain;
    mirrors = λ told is x behind below sure clean.
        sym (byte_unheld d i x behind (none (x / 4096)) ∙ ap (λ (o : Option Told). get_or (image_of o) x 0) is);
  }

-- In how many pages an image differs from its disk.
use Rattle.std.proofs.Common.{◌≡◌, ℕ, ◌<◌, ◌≤◌, ◌/◌, true, false, List, length, get_or, map, Option, Some, None, sym}
use Rattle.std.proofs.Common.{◌∙◌, ap, arith, ⊎_elim}
use Rattle.std.proofs.lemmas.List.{length-map, get_or-map}
use Rattle.std.proofs.lemmas.Bool.{cases_Bool, cases_lt}
use Rattle.save_disk.specs.State as disks
use Rattle.save_disk.specs.Tells.{tells}
use Rattle.page_image.specs.declared.state.ImageState.{ImageState}
use Rattle.page_image.specs.Images.{frame_of, is_held, IsDiskOf, IsFrontStored, DiffersWithin}
use Rattle.page_image.proofs.FrameLemmas.{byte_front, held_in, held_frame, clean_unheld}
use Rattle.page_image.proofs.DiskLemmas.{clean_told}

-- the page of a frame, 0 where it has none
abbrev number : Option ℕ → ℕ
number None = 0
number (Some page) = page

number-at : (pages : List (Option ℕ)) (frame page : ℕ) → frame < length pages → get_or pages frame None ≡ Some page
    → get_or (map number pages) frame 0 ≡ page
number-at pages frame page below is = get_or-map number pages frame None 0 below ∙ ap number is

pub few_pages : (d : disks.State) (i : ImageState) → disks.IsSound d → IsDiskOf d i → tells d ≡ true
    → DiffersWithin 512 (length i.pages.items) d i
few_pages d i sound disk_of told = (
  map number i.pages.items,
  omega (arith, length-map i.pages.items number),
  λ x behind inside differs.
      ⊎_elim
      (λ (held : is_held i (x / 4096) ≡ true).
      let below = held_frame i (x / 4096) held in (
        frame_of i (x / 4096),
        omega (arith, length-map i.pages.items number),
        number-at i.pages.items (frame_of i (x / 4096)) (x / 4096) below (held_in i (x / 4096) held),
      ))
      (λ (none : is_held i (x / 4096) ≡ false).
      absurd (differs (clean_told d i x sound disk_of told behind inside (clean_unheld i x none))))
      (cases_Bool (is_held i (x / 4096))),
)

-- where the first 512 bytes are on the disk, it is so of all bytes
pub few_in_all : (d : disks.State) (i : ImageState) → disks.IsSound d → IsDiskOf d i → tells d ≡ true
    → IsFrontStored d i
    → DiffersWithin 0 (length i.pages.items) d i
few_in_all d i sound disk_of told front =
    let few = few_pages d i sound disk_of told in (
      few.0,
      few.1,
      λ x from inside differs.
          ⊎_elim (λ (below : x < 512). absurd (differs (byte_front d i x below ∙ sym (front x below))))
          (λ (behind : 512 ≤ x). few.2 x behind inside differs)
          (cases_lt x 512),
    )

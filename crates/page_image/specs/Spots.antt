-- Which bytes and sectors of the disk a call on an image leaves alone.
use Rattle.std.specs.Prelude.{◌≡◌, ◌≢◌, ℕ, ◌/◌, ◌<◌, true, false, IsTrue, length, ⊤}
use Rattle.save_bytes.specs.Spots.{Spot, Place, Sector}
use Rattle.save_disk.specs.State as disks
use Rattle.save_disk.specs.Writes.{WritesOnly, WritesTo}
use Rattle.save_disk.specs.Keeps.{HoldsAt}
use Rattle.page_image.specs.declared.state.ImageState.{ImageState}
use Rattle.save_disk.specs.Tells.{tells}
use Rattle.page_image.specs.Images.{byte_of, is_changed, is_disk_of}

-- What no call changes: the length, the grain and the number of frames. The disk's trace grows by writes alone. The
-- disk stays that of the image, and what is changed stays so until its sector is written.
pub record SameImage (disk : disks.State) (image : ImageState) (disk_new : disks.State) (image_new : ImageState) : Type
    0 where
  pub len : image_new.len ≡ image.len
  pub grain : image_new.grain ≡ image.grain
  pub frames : length image_new.pages.items ≡ length image.pages.items
  pub steady : disks.IsSteady disk disk_new
  pub writes : WritesOnly (λ sector bytes. ⊤) disk disk_new
  pub sound : is_disk_of disk_new image_new ≡ is_disk_of disk image
  pub pending : (sector : ℕ) → is_changed image sector ≡ true → is_changed image_new sector ≡ false
      → WritesTo sector disk disk_new

-- reads of the sector are told as before
abbrev pub SureAsBefore : ℕ → disks.State → disks.State → Type 0
SureAsBefore number = disks.GoesOn (λ told next. next.sure number ≡ told.sure number)

-- A place of the image is left alone where its byte is as before and each write holds it. A sector is left alone where,
-- if it was not changed before, it is not changed, was not written, and its reads are told as before.
abbrev pub SameImageSpot : Spot → disks.State → ImageState → disks.State → ImageState → Type 0
SameImageSpot (Place x) disk image disk_new image_new =
    x < image.len → (byte_of disk_new image_new x ≡ byte_of disk image x)
    × WritesOnly (HoldsAt image.grain x (byte_of disk image x)) disk disk_new
SameImageSpot (Sector number) disk image disk_new image_new =
    is_changed image number ≡ false
    → (is_changed image_new number ≡ false) × WritesOnly (λ sector bytes. sector ≢ number) disk disk_new
    × SureAsBefore number disk disk_new
SameImageSpot other disk image disk_new image_new = ⊤

abbrev pub Leaves : Spot → disks.State → ImageState → disks.State → ImageState → Type 0
Leaves spot disk image disk_new image_new = SameImage disk image disk_new image_new
    × SameImageSpot spot disk image disk_new image_new

-- of a place something is said where the disk tells its trace and each read, of each other spot on every disk
abbrev pub IsToldFor : Spot → disks.State → Type 0
IsToldFor (Place x) disk = IsTrue (tells disk)
IsToldFor other disk = ⊤

-- what a call that may read pages anew leaves
abbrev pub LeavesTold : disks.State → ImageState → disks.State → ImageState → Type 0
LeavesTold disk image disk_new image_new = (spot : Spot) → IsToldFor spot disk
    → Leaves spot disk image disk_new image_new

-- a put touches its own places, and the sectors that have them
abbrev pub ImageLands : ℕ → ℕ → Spot → Type 0
ImageLands grain x (Place at) = x ≡ at
ImageLands grain x (Sector number) = x / grain ≡ number
ImageLands grain x other = ⊥

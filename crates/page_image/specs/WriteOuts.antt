-- How changed sectors come to the disk.
use Rattle.std.specs.Prelude.{◌≡◌, ℕ, ◌+◌, ◌*◌, ◌<◌, ◌≤◌, Bool, true, false, not, ◌&&◌, List, length, slice_index}
use Rattle.save_bytes.specs.Spots.{Spot}
use Rattle.save_disk.specs.Trace.{Event}
use Rattle.save_disk.specs.State as disks
use Rattle.save_disk.specs.State.{GoesOn}
use Rattle.save_disk.specs.Tells.{tells}
use Rattle.save_disk.specs.Writes.{OnlyWrites, GrewBy, one_if, writes_to}
use Rattle.page_image.specs.declared.state.ImageState.{ImageState}
use Rattle.page_image.specs.Images.{byte_of, is_changed}
use Rattle.page_image.specs.Frames.{KeepsFrames}
use Rattle.page_image.specs.Spots.{Leaves}

-- these are the bytes of a sector of the image, as far as it goes
pub record IsSectorOf (disk : disks.State) (image : ImageState) (sector : ℕ) (bytes : List ℕ) : Type 0 where
  pub long : length bytes ≡ image.grain
  pub each : (k : ℕ) → k < image.grain → sector * image.grain + k < image.len
      → slice_index bytes k ≡ byte_of disk image (sector * image.grain + k)

-- a changed sector of the image is written as it is
pub record IsOwnWrite (disk : disks.State) (image : ImageState) (sector : ℕ) (written : List ℕ) : Type 0 where
  pub changed : is_changed image sector ≡ true
  pub bytes : IsSectorOf disk image sector written

-- of the chosen sectors each that is changed was written as it is, once, and no other
pub record WritesEach (disk : disks.State) (image : ImageState) (is_chosen : ℕ → Bool)
    (events : List Event) : Type 0 where
  pub own : OnlyWrites (IsOwnWrite disk image) events
  pub count : (sector : ℕ) → writes_to sector events ≡ one_if (is_chosen sector && is_changed image sector)

-- of the chosen sectors some that are changed were written as they are, each once, and no other
pub record WritesSome (disk : disks.State) (image : ImageState) (is_chosen : ℕ → Bool)
    (events : List Event) : Type 0 where
  pub own : OnlyWrites (IsOwnWrite disk image) events
  pub count : (sector : ℕ) → writes_to sector events ≤ one_if (is_chosen sector && is_changed image sector)

-- A call that writes sectors out leaves alone every byte and what is not changed. The same pages lie in the same
-- frames, and no sector is changed that was not.
pub record GoesOut (disk : disks.State) (image : ImageState) (disk_new : disks.State)
    (image_new : ImageState) : Type 0 where
  pub leaves : (spot : Spot) → Leaves spot disk image disk_new image_new
  pub frames : KeepsFrames image image_new
  pub fewer : (sector : ℕ) → is_changed image_new sector ≡ true → is_changed image sector ≡ true

-- each sector that is not changed any more was written as it was, once, and no other
pub record IsWrittenOut (disk : disks.State) (image : ImageState) (disk_new : disks.State)
    (image_new : ImageState) : Type 0 where
  pub went : GoesOut disk image disk_new image_new
  pub written : GoesOn (GrewBy (WritesEach disk image (λ sector. not (is_changed image_new sector)))) disk disk_new
  pub told : tells disk_new ≡ tells disk

-- some sectors that are changed were written as they are, each once, and no other
pub record IsWrittenInPart (disk : disks.State) (image : ImageState) (disk_new : disks.State)
    (image_new : ImageState) : Type 0 where
  pub went : GoesOut disk image disk_new image_new
  pub written : GoesOn (GrewBy (WritesSome disk image (λ sector. true))) disk disk_new

-- no sector is changed
abbrev pub IsClean : ImageState → Type 0
IsClean image = (sector : ℕ) → is_changed image sector ≡ false

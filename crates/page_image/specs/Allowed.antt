-- What a call on an image may write to its disk.
use Rattle.std.specs.Prelude.{◌≡◌, ◌⊎◌, ℕ, ◌<◌, false, List}
use Rattle.save_bytes.specs.Spots.{Spot, Place, Sector, Misses}
use Rattle.save_disk.specs.State as disks
use Rattle.page_image.specs.declared.state.ImageState.{ImageState}
use Rattle.page_image.specs.Images.{byte_of, is_changed}
use Rattle.page_image.specs.Spots.{Leaves, ImageLands}
use Rattle.save_disk.specs.Keeps.{HoldsAt}

-- A write in a call that puts n bytes at a place: its sector is changed or has one of the places, and it holds the
-- image's byte at each other place. A call that reads puts none.
pub record IsAllowedWrite (disk : disks.State) (image : ImageState) (at n : ℕ) (sector : ℕ)
    (written : List ℕ) : Type 0 where
  pub changed : is_changed image sector ≡ false → Misses (ImageLands image.grain) at n (Sector sector) → ⊥
  pub bytes : (x : ℕ) → x < image.len → Misses (ImageLands image.grain) at n (Place x)
      → HoldsAt image.grain x (byte_of disk image x) sector written

-- a call that leaves alone each spot that a put of n bytes at a place misses
abbrev pub LeavesMissed : ℕ → ℕ → disks.State → ImageState → disks.State → ImageState → Type 0
LeavesMissed at n disk image disk_new image_new = (spot : Spot) → Misses (ImageLands image.grain) at n spot
    → Leaves spot disk image disk_new image_new

-- a write that holds the image's byte at each place of its sector
abbrev pub HoldsImage : disks.State → ImageState → ℕ → List ℕ → Type 0
HoldsImage disk image sector written = (x : ℕ) → x < image.len
    → HoldsAt image.grain x (byte_of disk image x) sector written

-- a write of a sector as a call found it, or as the call leaves it
pub record IsOldOrNewSector (disk : disks.State) (old : ImageState) (disk_new : disks.State) (new : ImageState)
    (sector : ℕ) (written : List ℕ) : Type 0 where
  pub either : HoldsImage disk old sector written ⊎ HoldsImage disk_new new sector written

-- How the first 512 bytes of an image come to the disk.
use Rattle.std.specs.Prelude.{◌≡◌, ◌⊎◌, ℕ, ◌<◌, ◌≤◌, true, IsTrue, List, length, slice_index}
use Rattle.save_bytes.specs.Spots.{Spot, Misses}
use Rattle.save_disk.specs.State as disks
use Rattle.save_disk.specs.Tells.{tells}
use Rattle.page_image.specs.declared.state.ImageState.{ImageState}
use Rattle.page_image.specs.Images.{is_held, byte_of}
use Rattle.page_image.specs.Spots.{Leaves, ImageLands, IsToldFor}

-- behind its first 512 bytes this is sector 0 of the image, where the disk tells it or it is held
abbrev pub IsSector0 : disks.State → ImageState → List ℕ → Type 0
IsSector0 disk image bytes = IsTrue (tells disk) ⊎ (is_held image 0 ≡ true) → (k : ℕ) → 512 ≤ k → k < image.grain
    → k < image.len → slice_index bytes k ≡ byte_of disk image k

-- sector 0 with other first 512 bytes, and the image's bytes behind them
pub record HasFront (disk : disks.State) (image : ImageState) (front written : List ℕ) : Type 0 where
  pub long : length written ≡ image.grain
  pub header : (k : ℕ) → k < 512 → slice_index written k ≡ slice_index front k
  pub rest : IsTrue (tells disk) → (k : ℕ) → 512 ≤ k → k < image.grain → k < image.len
      → slice_index written k ≡ byte_of disk image k

-- sector 0 was not written, or its write failed
abbrev pub FailsFront : disks.State → ImageState → List ℕ → disks.State → Type 0
FailsFront disk image front disk_new =
    disks.IsQuiet disk disk_new ⊎ ((written : List ℕ) × HasFront disk image front written
    × disks.GoesOn (disks.WriteFails 0 written) disk disk_new)

-- a call that leaves alone each spot that no put into the first 512 bytes touches
abbrev pub LeavesBehind : disks.State → ImageState → disks.State → ImageState → Type 0
LeavesBehind disk image disk_new image_new =
    (spot : Spot) → Misses (ImageLands image.grain) 0 512 spot → IsToldFor spot disk
    → Leaves spot disk image disk_new image_new

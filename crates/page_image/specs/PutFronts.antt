-- What a put leaves that has got so far.
use Rattle.std.specs.Prelude.{◌≡◌, ◌≢◌, ℕ, ◌+◌, ◌<◌, IsTrue, List, length, slice_index}
use Rattle.save_bytes.specs.Spots.{Spot, Misses}
use Rattle.save_disk.specs.State as disks
use Rattle.save_disk.specs.Tells.{tells}
use Rattle.save_disk.specs.Writes.{WritesOnly}
use Rattle.page_image.specs.declared.state.ImageState.{ImageState}
use Rattle.page_image.specs.Images.{byte_of}
use Rattle.page_image.specs.Spots.{SameImage, SameImageSpot, ImageLands}
use Rattle.page_image.specs.Allowed.{IsOldOrNewSector}
use Rattle.page_image.specs.Puts.{IsPending}

-- A put of n bytes at a place, however far it got: what it misses is left alone, and each write is of a sector as it
-- was or as it is.
pub record PutsSome (at n : ℕ) (disk : disks.State) (image : ImageState) (disk_new : disks.State)
    (image_new : ImageState) : Type 0 where
  pub hold : SameImage disk image disk_new image_new
  pub spots : IsTrue (tells disk) → (spot : Spot) → Misses (ImageLands image.grain) at n spot
      → SameImageSpot spot disk image disk_new image_new
  pub old_or_new : IsTrue (tells disk) → WritesOnly (IsOldOrNewSector disk image disk_new image_new) disk disk_new

-- from the one image to the other the first bytes of these were put at a place, and no other byte is another
pub record HasFirst (at : ℕ) (bytes : List ℕ) (done : ℕ) (disk : disks.State) (image : ImageState)
    (disk_new : disks.State) (image_new : ImageState) : Type 0 where
  pub written : (k : ℕ) → k < done → byte_of disk_new image_new (at + k) ≡ slice_index bytes k
  pub others : (x : ℕ) → x < image.len → ((k : ℕ) → k < done → x ≢ at + k)
      → byte_of disk_new image_new x ≡ byte_of disk image x

-- the first bytes of these were put
pub record PutsFirst (at : ℕ) (bytes : List ℕ) (done : ℕ) (disk : disks.State) (image : ImageState)
    (disk_new : disks.State) (image_new : ImageState) : Type 0 where
  pub some : PutsSome at (length bytes) disk image disk_new image_new
  pub put : IsTrue (tells disk) → HasFirst at bytes done disk image disk_new image_new
  pub pending : IsPending at done disk disk_new image_new
  pub told : tells disk_new ≡ tells disk

-- What a call that reads a container's store leaves.
use Rattle.std.specs.Prelude.{ℕ, IsTrue, Option}
use Rattle.save_bytes.specs.declared.space.Bad.{Bad}
use Rattle.save_bytes.specs.Spots.{Spot, Sector}
use Rattle.save_bytes.specs.Stays.{Stays}
use Rattle.save_disk.specs.State as disks
use Rattle.page_image.specs.Images.{IsDiskOf}
use Rattle.page_image.specs.Spots.{Leaves}
use Rattle.page_image.specs.WriteOuts.{IsClean}
use Rattle.container.specs.declared.open.Container.{Container}
use Rattle.container.specs.Containers.{IsWholeContainer}
use Rattle.container.specs.StoreHeld.{store_of, IsKept}

-- The cells of the store stay, and of the container all but its image and what its parts remember. The disk is still
-- that of the image. No sector is written in which nothing was changed; where the cells are told, no byte of the image
-- is changed. An image of which nothing was changed stays so, and nothing happens at its disk.
pub record ReadsThrough (disk : disks.State) (container : Container) (disk_new : disks.State)
    (container_new : Container) (refusal : Option Bad) : Type 0 where
  pub stays : Stays (store_of disk container) (store_of disk_new container_new) refusal
  pub kept : IsKept container container_new
  pub whole : IsWholeContainer container_new
  pub disk_of : IsDiskOf disk_new container_new.image
  pub sectors : (number : ℕ) → Leaves (Sector number) disk container.image disk_new container_new.image
  pub spots : IsTrue (store_of disk container).told → (spot : Spot)
      → Leaves spot disk container.image disk_new container_new.image
  pub steady : disks.IsSteady disk disk_new
  pub quiet : IsClean container.image → disks.IsQuiet disk disk_new
  pub clean : IsClean container.image → IsClean container_new.image

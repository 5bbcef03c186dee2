-- What a view of an image holds.
use Rattle.std.specs.Prelude.{◌≡◌}
use Rattle.std.specs.Borrow.{MutBor}
use Rattle.save_bytes.specs.State.{State}
use Rattle.save_bytes.specs.Spots.{Spot}
use Rattle.save_disk.specs.State as disks
use Rattle.page_image.specs.declared.state.ImageState.{ImageState}
use Rattle.page_image.specs.declared.image.Image.{Image}
use Rattle.page_image.specs.Images.{image_state}
use Rattle.page_image.specs.Spots.{Leaves}

-- what a contract sees of a view over a disk of which this is seen
abbrev pub shown : {D : Type 0} → (D → disks.State) → Image D → State
shown states view = image_state (states view.disk.now) view.image.now

-- the view holds these
pub record IsImageViewOf {D : Type 0} (view : Image D) (image : MutBor ImageState) (disk : MutBor D) : Type 0 where
  pub same_image : view.image.ghost_name ≡ image.ghost_name
  pub image_now : view.image.now ≡ image.now
  pub same_disk : view.disk.ghost_name ≡ disk.ghost_name
  pub disk_now : view.disk.now ≡ disk.now

-- the same references
pub record SameImageView {D : Type 0} (old new : Image D) : Type 0 where
  pub same_image : new.image.ghost_name ≡ old.image.ghost_name
  pub same_disk : new.disk.ghost_name ≡ old.disk.ghost_name

abbrev pub ImageKeeps : {D : Type 0} → (D → disks.State) → Spot → Image D → Image D → Type 0
ImageKeeps states spot old new = SameImageView old new
    × Leaves spot (states old.disk.now) old.image.now (states new.disk.now) new.image.now

-- What a store holds, which spots a call on it leaves alone, and which a put may touch.
use Rattle.std.specs.Prelude.{◌≡◌, ℕ, IsTrue, Option}
use Rattle.std.specs.Borrow.{MutBor}
use Rattle.save_bytes.specs.declared.space.Bad.{Bad}
use Rattle.save_bytes.specs.State.{State}
use Rattle.save_bytes.specs.Stays.{Stays}
use Rattle.save_bytes.specs.Spots.{Spot, Sector, Mark, Frame}
use Rattle.save_disk.specs.State as disks
use Rattle.dpfs_tree.specs.Picks.{bytes_of}
use Rattle.part_store.specs.Spots.{SamePart, PartSpot}
use Rattle.page_image.specs.declared.state.ImageState.{ImageState}
use Rattle.page_image.specs.Images.{image_state}
use Rattle.page_image.specs.Spots.{Leaves, ImageLands}
use Rattle.container.specs.declared.open.Container.{Container}
use Rattle.container.specs.declared.store.Store.{Store}
use Rattle.container.specs.Parts.{SameSecond, KeepsParts}
use Rattle.container.specs.Stores.{store_state, PartsLand}

-- what a contract sees of the store that a container gives over a disk of which this is seen
abbrev pub store_of : disks.State → Container → State
store_of disk container = store_state (image_state disk container.image) container.parts container.table.items

abbrev pub shown : {D : Type 0} → (D → disks.State) → Store D → State
shown states store = store_of (states store.disk.now) store.container.now

-- the store holds this container and this disk
pub record IsStoreOf {D : Type 0} (store : Store D) (container : MutBor Container) (disk : MutBor D) : Type 0 where
  pub same_container : store.container.ghost_name ≡ container.ghost_name
  pub container_now : store.container.now ≡ container.now
  pub same_disk : store.disk.ghost_name ≡ disk.ghost_name
  pub disk_now : store.disk.now ≡ disk.now

-- all of a container but its image, and what its parts remember, is as before
pub record IsKept (old new : Container) : Type 0 where
  pub header : new.header ≡ old.header
  pub parts : KeepsParts old.parts new.parts
  pub table : new.table.items ≡ old.table.items

-- what a call that reads leaves of an image and its disk
pub record ReadsImage (disk : disks.State) (image : ImageState) (disk_new : disks.State) (image_new : ImageState) (refusal : Option Bad) : Type 0 where
  pub stays : Stays (image_state disk image) (image_state disk_new image_new) refusal
  pub frame : Leaves Frame disk image disk_new image_new
  pub sectors : (number : ℕ) → Leaves (Sector number) disk image disk_new image_new
  pub spots : IsTrue (image_state disk image).told → (spot : Spot) → Leaves spot disk image disk_new image_new

-- the same header, parts and table; marks, what is remembered and the image may have changed
pub record SameContainer (old new : Container) : Type 0 where
  pub header : new.header ≡ old.header
  pub first : SamePart old.parts.first new.parts.first
  pub second : SameSecond SamePart old.parts.second new.parts.second
  pub table : new.table.items ≡ old.table.items

-- the same references, and all of the container but marks, what is remembered, and the image
pub record SameStore {D : Type 0} (old new : Store D) : Type 0 where
  pub same_container : new.container.ghost_name ≡ old.container.ghost_name
  pub same_disk : new.disk.ghost_name ≡ old.disk.ghost_name
  pub container : SameContainer old.container.now new.container.now

-- a block's mark was left alone in the part that has it, or all but the image; other spots are the image's
abbrev pub ContainerSpot : Spot → Container → Container → Type 0
ContainerSpot (Mark part level block) old new =
    PartSpot (Mark part level block) old.parts.first new.parts.first × SameSecond (PartSpot (Mark part level block)) old.parts.second new.parts.second
ContainerSpot Frame old new = IsKept old new
ContainerSpot spot old new = Unit {0}

-- from the one store to the other this spot was left alone
abbrev pub StoreKeeps : {D : Type 0} → (D → disks.State) → Spot → Store D → Store D → Type 0
StoreKeeps states spot old new =
    SameStore old new × ContainerSpot spot old.container.now new.container.now
    × Leaves spot (states old.disk.now) old.container.now.image (states new.disk.now) new.container.now.image

-- a put touches what it touches in the part that has its place
abbrev pub store_lands : {D : Type 0} → (D → disks.State) → Store D → ℕ → Spot → Type 0
store_lands states store =
    let container = store.container.now in
    PartsLand (bytes_of (image_state (states store.disk.now) container.image).cells) (ImageLands container.image.grain) container.parts.first
    container.parts.second

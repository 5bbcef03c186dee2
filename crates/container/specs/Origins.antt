-- Where the trees of an open image's parts came from.
use Rattle.std.specs.Prelude.{◌≡◌, ℕ, ◌<◌, IsTrue, List, Option, IfSome}
use Rattle.save_bytes.specs.declared.space.Bad.{Bad}
use Rattle.save_bytes.specs.Cells.{Cell}
use Rattle.save_bytes.specs.Refusals.{UnlessDisk}
use Rattle.save_disk.specs.State as disks
use Rattle.page_image.specs.Images.{image_state}
use Rattle.part_store.specs.declared.part.Part.{Part}
use Rattle.part_store.specs.Parts.{master_of}
use Rattle.part_store.specs.Ends.{PartCameFrom, chosen_cells}
use Rattle.container.specs.declared.open.Container.{Container}
use Rattle.container.specs.StoreHeld.{store_of}

-- the tree of a part came from contents and from the master hash in a table as they were
abbrev pub HasCome : (ℕ → Cell) → List ℕ → disks.State → Container → Part → Type 0
HasCome was was_table disk container part =
    PartCameFrom was (master_of was_table part.difi) (image_state disk container.image) part container.table.items

-- so did that of each part, from contents by its number
pub record HaveCome (was : ℕ → ℕ → Cell) (was_table : List ℕ) (disk : disks.State) (container : Container) : Type 0 where
  pub first : HasCome (was 0) was_table disk container container.parts.first
  pub second : IfSome container.parts.second (HasCome (was 1) was_table disk container)

-- a call leaves them come from where they came from, unless it was refused for the disk's sake
abbrev pub KeepsStoreOrigins : disks.State → Container → disks.State → Container → Option Bad → Type 0
KeepsStoreOrigins disk container disk_new container_new refusal =
    IsTrue (store_of disk container).told → (was : ℕ → ℕ → Cell) (was_table : List ℕ)
    → HaveCome was was_table disk container → UnlessDisk refusal (HaveCome was was_table disk_new container_new)

-- the bytes of level 3 that a part's selector chooses are those of contents as they were
abbrev pub IsPartSpared : (ℕ → Cell) → disks.State → Container → Part → Type 0
IsPartSpared was disk container part =
    (x : ℕ) → x < part.difi.dpfs3.size
    → chosen_cells (image_state disk container.image) part part.dpfs.selector x ≡ was x

-- so it is of each part, by its number
pub record AreSpared (was : ℕ → ℕ → Cell) (disk : disks.State) (container : Container) : Type 0 where
  pub first : IsPartSpared (was 0) disk container container.parts.first
  pub second : IfSome container.parts.second (IsPartSpared (was 1) disk container)

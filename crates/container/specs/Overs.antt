-- What calls on one part of an open image may change, and what calls on all of them may.
use Rattle.std.specs.Prelude.{◌≡◌, ℕ, List}
use Rattle.save_bytes.specs.State.{State}
use Rattle.save_bytes.specs.Spots.{Spot}
use Rattle.save_disk.specs.State as disks
use Rattle.dpfs_tree.specs.Picks.{bytes_of}
use Rattle.dpfs_tree.specs.Held.{ContentsLand}
use Rattle.ivfc_tree.specs.Held.{HashLands}
use Rattle.page_image.specs.Images.{image_state}
use Rattle.page_image.specs.Spots.{Leaves, ImageLands}
use Rattle.part_store.specs.declared.part.Part.{Part}
use Rattle.part_store.specs.Parts.{part_state}
use Rattle.part_store.specs.Spots.{SamePart, PartSpot}
use Rattle.container.specs.declared.open.Container.{Container}
use Rattle.container.specs.Stores.{PartsLand}
use Rattle.container.specs.StoreHeld.{SameContainer, ContainerSpot, store_of}

-- a part over a base, and the table that has its descriptor
pub record Over (A : Type 0) : Type 0 where
  pub base : A
  pub part : Part
  pub table : List ℕ

abbrev pub over_state : {A : Type 0} → (A → State) → Over A → State
over_state states over = part_state (states over.base) over.part over.table

-- from the one to the other this spot was left alone; the table is as before
abbrev pub OverKeeps : {A : Type 0} → (Spot → A → A → Type 0) → Spot → Over A → Over A → Type 0
OverKeeps keeps spot old new = SamePart old.part new.part × (new.table ≡ old.table)
    × PartSpot spot old.part new.part × keeps spot old.base new.base

-- which spots a put may touch, whatever number a mark has
abbrev pub over_lands : {A : Type 0} → (A → State) → (A → ℕ → Spot → Type 0) → Over A → ℕ → Spot → Type 0
over_lands states lands over =
    HashLands (ContentsLand (bytes_of (states over.base).cells) over.part.at over.part.difi over.part.dpfs.selector
    (lands over.base)) over.part.difi

-- a container over a disk
pub record Opened (D : Type 0) : Type 0 where
  pub container : Container
  pub disk : D

abbrev pub opened_state : {D : Type 0} → (D → disks.State) → Opened D → State
opened_state states opened = store_of (states opened.disk) opened.container

abbrev pub OpenedKeeps : {D : Type 0} → (D → disks.State) → Spot → Opened D → Opened D → Type 0
OpenedKeeps states spot old new = SameContainer old.container new.container × ContainerSpot spot old.container new.container
    × Leaves spot (states old.disk) old.container.image (states new.disk) new.container.image

abbrev pub opened_lands : {D : Type 0} → (D → disks.State) → Opened D → ℕ → Spot → Type 0
opened_lands states opened =
    let container = opened.container in
    PartsLand (bytes_of (image_state (states opened.disk) container.image).cells) (ImageLands container.image.grain) container.parts.first
    container.parts.second

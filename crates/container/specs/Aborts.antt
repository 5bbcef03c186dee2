-- What becomes of an open image where the changes of a transaction are dropped.
use Rattle.std.specs.Prelude.{◌≡◌, ℕ, ◌<◌, List, slice_index, Option, Some, None, IfSome}
use Rattle.save_bytes.specs.Cells.{Cell, Byte}
use Rattle.save_bytes.specs.State.{State}
use Rattle.save_disk.specs.State as disks
use Rattle.difi.specs.Contents.{view_size}
use Rattle.dpfs_tree.specs.Picks.{chosen}
use Rattle.ivfc_tree.specs.Marks.{is_marked}
use Rattle.ivfc_tree.specs.Origins.{IsBack}
use Rattle.ivfc_tree.specs.Settles.{dropped, TurnsMarks}
use Rattle.page_image.specs.Images.{image_state, byte_of}
use Rattle.part_store.specs.declared.part.Part.{Part}
use Rattle.part_store.specs.Parts.{contents_of}
use Rattle.part_store.specs.Ends.{EndsPart, HasNoChanges, TellsOrigin, chosen_cells}
use Rattle.container.specs.declared.open.Container.{Container}
use Rattle.container.specs.Signers.{Signing}
use Rattle.container.specs.Parts.{SameSecond, part_at}
use Rattle.container.specs.Containers.{IsOpenOf}
use Rattle.container.specs.StoreHeld.{SameContainer}
use Rattle.container.specs.Origins.{HaveCome}

-- of a part each mark in either tree was cleared, and nothing is known any more of blocks that were put or cleared
pub record DropsPart (old new : Part) : Type 0 where
  pub ends : EndsPart old.dpfs.selector old new
  pub descriptor : new.difi ≡ old.difi
  pub turned : TurnsMarks dropped old.ivfc new.ivfc
  pub unchanged : HasNoChanges new
  pub tells : TellsOrigin old new

-- so it is of each part, and all else of a container is as before
pub record DropsChanges (old new : Container) : Type 0 where
  pub header : new.header ≡ old.header
  pub image : new.image ≡ old.image
  pub table : new.table ≡ old.table
  pub first : DropsPart old.parts.first new.parts.first
  pub second : SameSecond DropsPart old.parts.second new.parts.second

-- a container was opened of an image, and since then nothing changed in it but what calls on its store may change
pub record WasOpenOf (sign : Signing) (image : List ℕ) (container : Container) : Type 0 where
  pub was : Container
  pub opened : IsOpenOf sign image was
  pub same : SameContainer was container

-- the chosen contents of a part are those as they were, but for blocks of level four that were put or cleared
abbrev pub IsPartBack : disks.State → Container → (ℕ → Cell) → Part → Type 0
IsPartBack disk container was part =
    let base = image_state disk container.image in
    IsBack (contents_of base part).shape part.difi (is_marked part.ivfc) was (chosen_cells base part part.dpfs.selector)

-- The parts' trees came from contents as they were, each part's by its number, and from the table. The contents that
-- the table's selectors choose are those still, but for blocks of level four that were put or cleared: external ones
-- are written in place.
pub record HaveOrigins (was : ℕ → ℕ → Cell) (disk : disks.State) (container : Container) : Type 0 where
  pub came : HaveCome was container.table.items disk container
  pub first : IsPartBack disk container (was 0) container.parts.first
  pub second : IfSome container.parts.second (IsPartBack disk container (was 1))

-- the contents of a part as they are read; where there is no part no byte of them counts
abbrev pub read_of : State → Option Part → ℕ → Cell
read_of base None x = Byte 0
read_of base (Some part) x = (contents_of base part).cells x

-- the contents of each part as they are now, by its number
abbrev pub contents_now : disks.State → Container → ℕ → ℕ → Cell
contents_now disk container number = read_of (image_state disk container.image) (part_at container.parts number)

-- the contents that each part's selector chooses in an image, by its number
abbrev pub chosen_in : List ℕ → Option Part → ℕ → Cell
chosen_in image None x = Byte 0
chosen_in image (Some part) x = Byte (chosen (λ y. slice_index image y) part.at part.difi part.difi.selector x)

abbrev pub contents_held : List ℕ → Container → ℕ → ℕ → Cell
contents_held image container number = chosen_in image (part_at container.parts number)

-- each part's tree came from the contents as they are now: a transaction begins
abbrev pub AreAtOrigin : disks.State → Container → Type 0
AreAtOrigin disk container = HaveOrigins (contents_now disk container) disk container

-- the contents that a part's selector chooses over a disk are those that it chooses in an image
abbrev pub IsPartHeld : List ℕ → disks.State → Container → Part → Type 0
IsPartHeld image disk container part =
    let chosen_of : (ℕ → ℕ) → ℕ → ℕ = λ bytes x. chosen bytes part.at part.difi part.difi.selector x in
    (x : ℕ) → x < view_size part.difi
    → chosen_of (byte_of disk container.image) x ≡ chosen_of (λ y. slice_index image y) x

-- those of each part are
pub record AreHeld (image : List ℕ) (disk : disks.State) (container : Container) : Type 0 where
  pub first : IsPartHeld image disk container container.parts.first
  pub second : IfSome container.parts.second (IsPartHeld image disk container)

-- The cells of an image's parts, over the image's whole list of bytes. A part is given by its number and its descriptor.
use Rattle.std.specs.Prelude.{◌≡◌, ℕ, ◌+◌, ◌/◌, ◌<◌, List, IfSome, Some, slice_index}
use Rattle.save_bytes.specs.Cells.{Cell, Byte}
use Rattle.save_bytes.specs.CellNumbers.{value_of}
use Rattle.container_header.specs.declared.header.Header.{Header}
use Rattle.difi.specs.declared.descriptor.Difi.{Difi}
use Rattle.difi.specs.Places.{block_size}
use Rattle.dpfs_tree.specs.Picks.{chosen}
use Rattle.ivfc_tree.specs.declared.path.BlockState.{BlockState}
use Rattle.ivfc_tree.specs.declared.view.Status.{Status}
use Rattle.ivfc_tree.specs.Levels.{level_of, HasBlock}
use Rattle.ivfc_tree.specs.View.{status_of}
use Rattle.ivfc_tree.specs.Paths.{path_state, cell_in}
use Rattle.part_store.specs.Parts.{master_of}
use Rattle.save_disk.specs.State as disks
use Rattle.page_image.specs.declared.state.ImageState.{ImageState}
use Rattle.page_image.specs.Images.{byte_of}
use Rattle.part_store.specs.declared.part.Part.{Part}
use Rattle.container.specs.declared.parts.Parts.{Parts}
use Rattle.container.specs.Parts.{part_at}
use Rattle.container.specs.Openings.{active_table, partition_of}

-- a part's contents: the bytes of DPFS level 3 that the bits choose, then those of external level four
abbrev pub contents_in : List ℕ → Header → ℕ → Difi → ℕ → Cell
contents_in image header part difi x = Byte (chosen (λ y. slice_index image y) (partition_of header part).at difi difi.selector x)

-- what the hash path of a block comes to, up to the master hash in the active table
unfoldable pub path_in : List ℕ → Header → ℕ → Difi → ℕ → ℕ → BlockState
path_in image header part difi level block =
    path_state (contents_in image header part difi) (master_of (active_table image header) difi) difi level block

-- the cell of byte x of a part's level four
abbrev pub cell_at : List ℕ → Header → ℕ → Difi → ℕ → Cell
cell_at image header part difi x =
    cell_in (path_in image header part difi 4 (x / block_size difi.ivfc4)) part (value_of (contents_in image header part difi ((level_of difi 4).at + x)))

-- an image over its disk is these bytes
abbrev pub IsHeld : List ℕ → disks.State → ImageState → Type 0
IsHeld image disk held = (x : ℕ) → x < held.len → byte_of disk held x ≡ slice_index image x

-- the cells of a store are those of the image: part 0's level four, followed by part 1's
pub record AreImageCells (image : List ℕ) (header : Header) (parts : Parts) (cells : ℕ → Cell) : Type 0 where
  pub first : (x : ℕ) → x < parts.first.difi.ivfc4.size → cells x ≡ cell_at image header 0 parts.first.difi x
  pub second : IfSome parts.second (λ part. (x : ℕ) → x < part.difi.ivfc4.size → cells (parts.first.difi.ivfc4.size + x) ≡ cell_at image header 1 part.difi x)

-- what is told of the blocks of its parts is what their paths come to in the image
abbrev pub AreImageStatuses : List ℕ → Header → Parts → (Part → ℕ → ℕ → Status) → Type 0
AreImageStatuses image header parts told =
    (number : ℕ) (part : Part) → part_at parts number ≡ Some part → (level block : ℕ) → HasBlock part.difi level block
    → told part level block ≡ status_of (path_in image header number part.difi level block)

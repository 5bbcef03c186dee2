-- An image that agrees with another one where that is live.
use Rattle.std.specs.Prelude.{◌≡◌, ℕ, ◌+◌, ◌/◌, ◌<◌, ◌≤◌, List, length, slice_index, Ok}
use Rattle.save_disk.specs.Keeps.{Agree}
use Rattle.save_bytes.specs.declared.extent.Extent.{Extent}
use Rattle.container_header.specs.declared.header.Header.{Header}
use Rattle.container_header.specs.Conditions.{reading as header_reading}
use Rattle.difi.specs.declared.descriptor.Difi.{Difi}
use Rattle.difi.specs.Places.{block_size}
use Rattle.difi.specs.Sound.{HasSoundLevels}
use Rattle.container.specs.Openings.{active_table, partition_of, part_reading}
use Rattle.live_image.specs.Live.{live_places}

-- the other image is as long, and has this one's bytes at its live places
pub record SameLive (image other : List ℕ) : Type 0 where
  pub size : length other ≡ length image
  pub live : Agree (live_places image) image other

-- the image has a part of this number, which is described so
pub record HasPart (image : List ℕ) (header : Header) (part : ℕ) (difi : Difi) : Type 0 where
  pub header_is : header_reading image ≡ Ok header
  pub counted : part < header.parts
  pub described : part_reading (active_table image header) header part ≡ Ok difi

-- a partition's levels are sound, and it lies in an image of a length
pub record LiesInImage (len : ℕ) (partition : Extent) (difi : Difi) : Type 0 where
  pub levels : HasSoundLevels difi partition.size
  pub inside : partition.at + partition.size ≤ len

-- where byte x of a part's level four lies, where that is external
abbrev pub external_at : Header → ℕ → Difi → ℕ → ℕ
external_at header part difi x = (partition_of header part).at + difi.external_at + x

-- both images have the same bytes in a block of external level four
abbrev pub SameBlock : List ℕ → List ℕ → Header → ℕ → Difi → ℕ → Type 0
SameBlock image other header part difi block =
    (x : ℕ) → x < difi.ivfc4.size → x / block_size difi.ivfc4 ≡ block
    → slice_index other (external_at header part difi x) ≡ slice_index image (external_at header part difi x)

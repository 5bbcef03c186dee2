-- A block of an open image's store.
use Rattle.std.specs.Prelude.{◌≡◌, ℕ, ◌+◌, ◌-◌, ◌*◌, ◌<◌, ◌≤◌, min, ◌==◌, List, IsTrue, if◌then◌else◌, ⊤}
use Rattle.save_bytes.specs.declared.space.Bad.{Bad}
use Rattle.save_bytes.specs.declared.space.Bad.TheVariants.{Disk as DiskFailed, Damaged as DamagedAt}
use Rattle.difi.specs.declared.descriptor.Difi.{Difi}
use Rattle.difi.specs.Places.{block_size, blocks_of}
use Rattle.save_disk.specs.State as disks
use Rattle.save_disk.specs.Tells.{tells}
use Rattle.page_image.specs.WriteOuts.{IsClean}
use Rattle.container.specs.Signers.{Signing}
use Rattle.container.specs.declared.open.Container.{Container}
use Rattle.container.specs.declared.parts.Parts.{Parts}
use Rattle.container.specs.Parts.{part_count}
use Rattle.container.specs.Containers.{IsOpenOf, IsWholeContainer, OfPart}
use Rattle.container.specs.ImageCells.{IsHeld}
use Rattle.container.specs.StoreHeld.{store_of}
use Rattle.save_top.specs.declared.peek.Miss.{Miss}
use Rattle.save_top.specs.declared.peek.Miss.TheVariants.{Memory, Disk, NoPart, NoBlock, Damaged}
use Rattle.save_top.specs.declared.peek.Place.{Place}
use Rattle.save_top.specs.Texts.{no_part_line, no_block_line, damaged_line}
use Rattle.save_top.specs.Output.{Reply, refused}

-- a container over its disk holds this image, as it was opened under a signer, nothing of it was changed, and what is
-- remembered of it is true
pub record Holds (sign : Signing) (image : List ℕ) (disk : disks.State) (container : Container) : Type 0 where
  pub whole : IsWholeContainer container
  pub opened : IsOpenOf sign image container
  pub held : IsHeld image disk container.image
  pub clean : IsClean container.image
  pub told : IsTrue (tells disk) → IsTrue (store_of disk container).told

-- where a part's level four begins in the store
abbrev pub part_start : Parts → ℕ → ℕ
part_start parts part = if part == 0 then 0 else parts.first.difi.ivfc4.size

-- the place of a block in the store, and how many bytes it has below level four's size
pub record IsPlaceIn (parts : Parts) (part block : ℕ) (place : Place) (difi : Difi) : Type 0 where
  pub there : block < blocks_of difi.ivfc4
  pub at : place.at ≡ part_start parts part + block * block_size difi.ivfc4
  pub len : place.len ≡ min (block_size difi.ivfc4) (difi.ivfc4.size - block * block_size difi.ivfc4)

pub record IsPlaceOf (container : Container) (part block : ℕ) (place : Place) : Type 0 where
  pub number : place.part ≡ part
  pub part_there : part < part_count container.parts.second
  pub in_part : OfPart container part (IsPlaceIn container.parts part block place)

-- there is no such part, or no such block
abbrev pub IsMissOf : Container → ℕ → ℕ → Miss → Type 0
IsMissOf container part block Memory = ⊥
IsMissOf container part block Disk = ⊥
IsMissOf container part block (NoPart have) = (have ≡ part_count container.parts.second) × (have ≤ part)
IsMissOf container part block (NoBlock have) = (part < part_count container.parts.second)
    × OfPart container part (λ difi. (have ≡ blocks_of difi.ivfc4) × (have ≤ block))
IsMissOf container part block (Damaged p level b) = ⊥

-- what is said where a block is not shown; want of memory is free, and that the disk failed is shown by its count
abbrev pub IsMissBy : Reply → Miss → Type 0
IsMissBy reply Memory = ⊤
IsMissBy reply Disk = ⊤
IsMissBy reply (NoPart have) = reply ≡ refused (no_part_line have)
IsMissBy reply (NoBlock have) = reply ≡ refused (no_block_line have)
IsMissBy reply (Damaged part level block) = reply ≡ refused (damaged_line part level block)

-- a refusal of the store as it is said
abbrev pub MatchBad : Bad → Miss → Type 0
MatchBad DiskFailed miss = miss ≡ Disk
MatchBad (DamagedAt part level block) miss = miss ≡ Damaged part level block

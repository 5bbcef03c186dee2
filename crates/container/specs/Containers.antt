-- What an open container holds.
use Rattle.std.specs.Prelude.{◌≡◌, ℕ, List, Some, Ok}
use Rattle.container_header.specs.Conditions.{reading as header_reading}
use Rattle.difi.specs.declared.descriptor.Difi.{Difi}
use Rattle.part_store.specs.declared.part.Part.{Part}
use Rattle.container.specs.Signers.{Signing}
use Rattle.container.specs.declared.open.Container.{Container}
use Rattle.container.specs.Openings.{active_table}
use Rattle.container.specs.Opens.{Opens}
use Rattle.container.specs.Parts.{part_at, AreRead, IsWhole}

-- What a container holds that was opened over a disk which tells its trace: the header and the active table of the image,
-- which opens, and the parts by the descriptors in that table, of which nothing was changed.
pub record IsOpenOf (sign : Signing) (image : List ℕ) (container : Container) : Type 0 where
  pub opens : Opens sign image
  pub header : header_reading image ≡ Ok container.header
  pub table : container.table.items ≡ active_table image container.header
  pub parts : AreRead container.table.items container.header container.parts

-- what holds of each container from its opening on
abbrev pub IsWholeContainer : Container → Type 0
IsWholeContainer container = IsWhole container.header container.image.len container.table.items container.parts

-- the container has a part of this number, and this holds of its descriptor
abbrev pub OfPart : Container → ℕ → (Difi → Type 0) → Type 0
OfPart container number P = (part : Part) × (part_at container.parts number ≡ Some part) × P part.difi

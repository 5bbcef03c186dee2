-- An image that opens under a signer: each condition for itself, and no order in which they are tried.
use Rattle.std.specs.Prelude.{◌≡◌, ℕ, ◌<◌, List, IsTrue}
use Rattle.sha2.specs.Sha256.{sha256}
use Rattle.save_bytes.specs.declared.extent.Extent.{Extent}
use Rattle.container_header.specs.declared.header.Header.{Header}
use Rattle.container_header.specs.Sound.{IsHeaderOf}
use Rattle.difi.specs.Fields.{fields}
use Rattle.difi.specs.Sound.{IsSoundDifi, IsDescriptor}
use Rattle.container.specs.Signers.{Signing}
use Rattle.container.specs.Openings.{tag_in, header_in, active_table, descriptor_of, partition_of}

-- the active table has the SHA-256 that the header says
abbrev pub TableMatches : List ℕ → Header → Type 0
TableMatches image header = sha256 (active_table image header) ≡ header.hash

-- no condition fails of the descriptor at a place in a table, for a partition
pub record IsSoundDescriptor (table : List ℕ) (place partition : Extent) : Type 0 where
  pub descriptor : IsDescriptor table place.at place.size
  pub sound : IsSoundDifi (fields table place.at) place.size partition.size

-- a part has such a descriptor
abbrev pub HasSoundDescriptor : List ℕ → Header → ℕ → Type 0
HasSoundDescriptor table header part = IsSoundDescriptor table (descriptor_of header part) (partition_of header part)

-- the image has a sound header, its active table matches it, each part has a sound descriptor in that, and a signer that
-- demands its tag finds it
pub record Opens (sign : Signing) (image : List ℕ) : Type 0 where
  pub header : Header
  pub sound : IsHeaderOf header image
  pub table : TableMatches image header
  pub parts : (part : ℕ) → part < header.parts → HasSoundDescriptor (active_table image header) header part
  pub tag : IsTrue sign.demands → tag_in image ≡ sign.tag (header_in image)

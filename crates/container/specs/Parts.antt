-- The parts of an image by the descriptors in its table.
use Rattle.std.specs.Prelude.{◌≡◌, ℕ, ◌<◌, ◌≤◌, false, List, length, Option, Some, None, IfSome}
use Rattle.std.specs.Prelude.{Ok, ◌==◌, if◌then◌else◌}
use Rattle.std.specs.Option.{option_map}
use Rattle.container_header.specs.declared.header.Header.{Header}
use Rattle.container_header.specs.Sound.{IsSoundHeader, IsDescriptorPlace}
use Rattle.difi.specs.Sound.{IsSoundDifi}
use Rattle.dpfs_tree.specs.Marks.{IsFreshContents, IsMadeForContents}
use Rattle.ivfc_tree.specs.Marks.{IsMadeFor, HasNoMarks}
use Rattle.part_store.specs.declared.part.Part.{Part}
use Rattle.part_store.specs.Spots.{KeepsMarks}
use Rattle.container.specs.declared.parts.Parts.{Parts}
use Rattle.container.specs.Openings.{descriptor_of, partition_of, part_reading}

-- how many parts there are, by whether there is a second
abbrev pub part_count : Option Part → ℕ
part_count None = 1
part_count (Some second) = 2

-- the part of a number
abbrev pub part_at : Parts → ℕ → Option Part
part_at parts number = if number == 0 then Some parts.first else (if number == 1 then parts.second else None)

-- the length of part 0's level four, where there is a part 1
abbrev pub split_of : Parts → Option ℕ
split_of parts = option_map (λ second. parts.first.difi.ivfc4.size) parts.second

-- there are one or two parts, and each has its descriptor in a table of so many bytes
pub record HasDescriptors (header : Header) (table_len : ℕ) : Type 0 where
  pub one : 1 ≤ header.parts
  pub two : header.parts ≤ 2
  pub each : (number : ℕ) → number < header.parts → IsDescriptorPlace (descriptor_of header number) table_len

-- a part is that of a header's partition: its descriptor stands in the table, no condition of it fails, and its place is
-- the partition's
pub record IsPartOf (header : Header) (number : ℕ) (part : Part) : Type 0 where
  pub number_is : part.number ≡ number
  pub place : part.at ≡ (partition_of header number).at
  pub in_table : part.difi.place ≡ (descriptor_of header number).at
  pub sound : IsSoundDifi part.difi (descriptor_of header number).size (partition_of header number).size
  pub contents : IsMadeForContents part.difi part.dpfs
  pub hashes : IsMadeFor part.difi part.ivfc

-- nothing of a part was changed
pub record IsUntouched (part : Part) : Type 0 where
  pub contents : IsFreshContents part.difi part.dpfs
  pub hashes : HasNoMarks part.ivfc

-- a part is what its descriptor in the table says, and nothing of it was changed
pub record IsPartRead (table : List ℕ) (header : Header) (number : ℕ) (part : Part) : Type 0 where
  pub part_of : IsPartOf header number part
  pub descriptor : part_reading table header number ≡ Ok part.difi
  pub untouched : IsUntouched part

-- there is a part for each partition, and it is what its descriptor in the table says
pub record AreRead (table : List ℕ) (header : Header) (parts : Parts) : Type 0 where
  pub count : part_count parts.second ≡ header.parts
  pub first : IsPartRead table header 0 parts.first
  pub second : IfSome parts.second (IsPartRead table header 1)

-- the header is sound for the image, the table as long as the header says, and there is a part for each partition
pub record IsWhole (header : Header) (image_len : ℕ) (table : List ℕ) (parts : Parts) : Type 0 where
  pub sound : IsSoundHeader header image_len
  pub table_len : length table ≡ header.table_size
  pub count : part_count parts.second ≡ header.parts
  pub first : IsPartOf header 0 parts.first
  pub second : IfSome parts.second (IsPartOf header 1)

-- no part has its level four behind its double-copy tree
pub record HaveNoExternal (parts : Parts) : Type 0 where
  pub first : parts.first.difi.external ≡ false
  pub second : IfSome parts.second (λ part. part.difi.external ≡ false)

-- a second part stays one, or none
abbrev pub SameSecond : (Part → Part → Type 0) → Option Part → Option Part → Type 0
SameSecond P None None = Unit {0}
SameSecond P None (Some new) = ⊥
SameSecond P (Some old) None = ⊥
SameSecond P (Some old) (Some new) = P old new

-- of each part all that its cells hang on is as before
pub record KeepsParts (old new : Parts) : Type 0 where
  pub first : KeepsMarks old.first new.first
  pub second : SameSecond KeepsMarks old.second new.second

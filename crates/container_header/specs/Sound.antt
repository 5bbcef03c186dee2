-- What is known of a header once no condition of its layout fails. Sums are of whole numbers.
use Rattle.std.specs.Prelude.{◌≡◌, ℕ, ◌≤◌, List, length, Some, ◌==◌, if◌then◌else◌}
use Rattle.save_bytes.specs.declared.extent.Extent.{Extent}
use Rattle.save_bytes.specs.Extents.{LiesInside, AreApart}
use Rattle.container_header.specs.declared.header.Header.{Header}
use Rattle.container_header.specs.Fields.{header_word}
use Rattle.container_header.specs.Conditions.{table_at, max_length, kind_of, version_of, fields_of}

-- the offset of the table that the active byte names, and that of the other one
abbrev pub active_at : Header → ℕ
active_at header = if header.active == 0 then header.primary else header.secondary

abbrev pub inactive_at : Header → ℕ
inactive_at header = if header.active == 0 then header.secondary else header.primary

-- a descriptor lies in the table, and is no shorter than its first part
pub record IsDescriptorPlace (descriptor : Extent) (table_size : ℕ) : Type 0 where
  pub shortest : 0x44 ≤ descriptor.size
  pub inside : LiesInside descriptor 0 table_size

-- a partition is not empty, and lies in the image behind its first 512 bytes
pub record IsPartition (partition : Extent) (image_length : ℕ) : Type 0 where
  pub some : 1 ≤ partition.size
  pub inside : LiesInside partition 512 image_length

-- no condition of the layout fails, for an image of a length
pub record IsSoundHeader (header : Header) (image_length : ℕ) : Type 0 where
  pub longest : image_length ≤ max_length
  pub one_part : 1 ≤ header.parts
  pub two_parts : header.parts ≤ 2
  pub active_byte : header.active ≤ 1
  pub least_table : 0x44 ≤ header.table_size
  pub largest_table : header.table_size ≤ 65536
  pub primary_inside : LiesInside (table_at header header.primary) 512 image_length
  pub secondary_inside : LiesInside (table_at header header.secondary) 512 image_length
  pub descriptor_a : IsDescriptorPlace header.desc_a header.table_size
  pub descriptor_b : header.parts ≡ 2 → IsDescriptorPlace header.desc_b header.table_size
  pub partition_a : IsPartition header.part_a image_length
  pub partition_b : header.parts ≡ 2 → IsPartition header.part_b image_length
  pub descriptors_apart : header.parts ≡ 2 → AreApart header.desc_a header.desc_b
  pub tables_apart : AreApart (table_at header header.primary) (table_at header header.secondary)
  pub primary_a_apart : AreApart (table_at header header.primary) header.part_a
  pub secondary_a_apart : AreApart (table_at header header.secondary) header.part_a
  pub primary_b_apart : header.parts ≡ 2 → AreApart (table_at header header.primary) header.part_b
  pub secondary_b_apart : header.parts ≡ 2 → AreApart (table_at header header.secondary) header.part_b
  pub partitions_apart : header.parts ≡ 2 → AreApart header.part_a header.part_b
  -- so of the active table and of the other one, whichever they are
  pub active_inside : LiesInside (table_at header (active_at header)) 512 image_length
  pub inactive_inside : LiesInside (table_at header (inactive_at header)) 512 image_length
  pub active_inactive_apart : AreApart (table_at header (active_at header)) (table_at header (inactive_at header))
  pub active_a_apart : AreApart (table_at header (active_at header)) header.part_a
  pub inactive_a_apart : AreApart (table_at header (inactive_at header)) header.part_a
  pub active_b_apart : header.parts ≡ 2 → AreApart (table_at header (active_at header)) header.part_b
  pub inactive_b_apart : header.parts ≡ 2 → AreApart (table_at header (inactive_at header)) header.part_b

-- the header is that of the image, and sound
pub record IsHeaderOf (header : Header) (image : List ℕ) : Type 0 where
  pub longer : 512 ≤ length image
  pub kind_is : kind_of image ≡ Some header.kind
  pub version_is : header_word image 0x04 ≡ version_of header.kind
  pub fields_are : fields_of header.kind image ≡ header
  pub sound : IsSoundHeader header (length image)

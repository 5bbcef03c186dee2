-- What a sound header is: the conditions over the whole image, in the order in which a fault is named.
use Rattle.std.specs.Prelude.{ℕ, ◌+◌, ◌-◌, Bool, ◌&&◌, ◌||◌, not, ◌==◌, nat_lt, bytes_eq, List, [], ◌∷◌, ◌++◌, length}
use Rattle.std.specs.Prelude.{take, replicate, Option, Some, None, Result, Ok, Err, if◌then◌else◌}
use Rattle.save_bytes.specs.declared.extent.Extent.{Extent}
use Rattle.container_header.specs.declared.header.Kind.{Kind}
use Rattle.container_header.specs.declared.header.Kind.TheVariants.{Disa, Diff}
use Rattle.container_header.specs.declared.header.Header.{Header}
use Rattle.container_header.specs.declared.fault.HeaderFault.{HeaderFault}
use Rattle.container_header.specs.declared.fault.HeaderFault.TheVariants.{NotImage, Version, Layout}
use Rattle.save_bytes.specs.Extents.{lies_inside, overlap, some_overlap}
use Rattle.container_header.specs.Fields.{header_bytes, header_word, disa_fields, diff_fields}

-- the kind that four bytes name: DISA or DIFF
abbrev pub kind_named : List ℕ → Option Kind
kind_named bytes = if bytes_eq bytes (0x44 ∷ 0x49 ∷ 0x53 ∷ 0x41 ∷ []) then Some Disa else if bytes_eq bytes
    (0x44 ∷ 0x49 ∷ 0x46 ∷ 0x46 ∷ []) then Some Diff else None

-- the kind that the four bytes at the header's front name
abbrev pub kind_of : List ℕ → Option Kind
kind_of image = kind_named (header_bytes image 0 4)

abbrev pub version_of : Kind → ℕ
version_of Disa = 0x40000
version_of Diff = 0x30000

abbrev pub fields_of : Kind → List ℕ → Header
fields_of Disa image = disa_fields image
fields_of Diff image = diff_fields image

abbrev pub table_at : Header → ℕ → Extent
table_at header at = record { at = at; size = header.table_size }

-- the tables and partitions that the header has
abbrev pub regions : Header → List Extent
regions header = table_at header header.primary ∷ table_at header header.secondary ∷ header.part_a ∷
    (if header.parts == 2 then header.part_b ∷ [] else [])

abbrev pub max_length : ℕ
max_length = 67108864

abbrev pub is_bad_descriptor : Header → Extent → Bool
is_bad_descriptor header descriptor = not (lies_inside descriptor 0 header.table_size) || nat_lt descriptor.size 0x44

abbrev pub is_bad_partition : Extent → ℕ → Bool
is_bad_partition partition image_length = (partition.size == 0) || not (lies_inside partition 512 image_length)

-- whether each condition of the layout fails, for the header of an image of a length. 1: the image is no longer than
-- 64 MiB; 2: one or two partitions
abbrev pub count_faults : Header → ℕ → List Bool
count_faults header image_length =
    nat_lt max_length image_length
    ∷ not (header.parts == 1 || header.parts == 2)
    ∷ []

-- 3: the active byte names a table; 4: the size of a table; 5, 6: both tables lie in the image behind its first 512
-- bytes
abbrev pub header_table_faults : Header → ℕ → List Bool
header_table_faults header image_length =
    not (header.active == 0 || header.active == 1)
    ∷ (nat_lt header.table_size 0x44 || nat_lt 65536 header.table_size)
    ∷ not (lies_inside (table_at header header.primary) 512 image_length)
    ∷ not (lies_inside (table_at header header.secondary) 512 image_length)
    ∷ []

-- 7, 8: each descriptor lies in the table, and is no shorter than its first part; 9: they lie apart
abbrev pub descriptor_faults : Header → List Bool
descriptor_faults header =
    is_bad_descriptor header header.desc_a
    ∷ (header.parts == 2 && is_bad_descriptor header header.desc_b)
    ∷ (header.parts == 2 && overlap header.desc_a header.desc_b)
    ∷ []

-- 10, 11: no partition is empty, and each lies in the image behind its first 512 bytes; 12: the tables and the
-- partitions lie apart
abbrev pub partition_faults : Header → ℕ → List Bool
partition_faults header image_length =
    is_bad_partition header.part_a image_length
    ∷ (header.parts == 2 && is_bad_partition header.part_b image_length)
    ∷ some_overlap (regions header)
    ∷ []

-- all twelve, in order
abbrev pub layout_faults : Header → ℕ → List Bool
layout_faults header image_length =
    count_faults header image_length ++ header_table_faults header image_length ++ descriptor_faults
    header ++ partition_faults header image_length

-- the number of the first condition that fails, where the first of the list has the number n
abbrev pub first_failing : ℕ → List Bool → Option ℕ
first_failing n [] = None
first_failing n (fails ∷ others) = if fails then Some n else first_failing (n + 1) others

-- the header, or the first condition of its layout that fails
abbrev pub checked : Header → Option ℕ → Result Header HeaderFault
checked header None = Ok header
checked header (Some condition) = Err (Layout condition)

abbrev pub reading_as : Option Kind → List ℕ → ℕ → Result Header HeaderFault
reading_as None image image_length = Err NotImage
reading_as (Some kind) image image_length =
    if header_word image 0x04 == version_of kind then checked (fields_of kind image)
    (first_failing 1 (layout_faults (fields_of kind image) image_length)) else Err Version

-- the header that these bytes give an image of a length, or the first fault
unfoldable pub reading_of : List ℕ → ℕ → Result Header HeaderFault
reading_of image image_length = if nat_lt image_length 512 then Err NotImage else reading_as (kind_of image) image
    image_length

-- the header of an image, or the first fault
abbrev pub reading : List ℕ → Result Header HeaderFault
reading image = reading_of image (length image)

-- the first 512 bytes of an image, with zeros after its end
abbrev pub first_bytes : List ℕ → List ℕ
first_bytes image = take 512 image ++ replicate (512 - length image) 0

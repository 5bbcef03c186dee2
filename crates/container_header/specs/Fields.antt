-- The header's fields as they stand in an image. The header's 0x100 bytes begin at 0x100; before it stands the
-- authentication field, so both lie in the first 512 bytes. Offsets below are counted from the header's first byte.
use Rattle.std.specs.Prelude.{ℕ, ◌+◌, List, ◌==◌, take, drop, slice_index, if◌then◌else◌}
use Rattle.save_bytes.specs.Fields.{number_at}
use Rattle.save_bytes.specs.declared.extent.Extent.{Extent}
use Rattle.container_header.specs.declared.header.Kind.TheVariants.{Disa, Diff}
use Rattle.container_header.specs.declared.header.Header.{Header}

-- the bytes of the header from an offset on
abbrev pub header_bytes : List ℕ → ℕ → ℕ → List ℕ
header_bytes image offset n = take n (drop (0x100 + offset) image)

abbrev pub header_byte : List ℕ → ℕ → ℕ
header_byte image offset = slice_index image (0x100 + offset)

-- a 32-bit field, and a 64-bit one
abbrev pub header_word : List ℕ → ℕ → ℕ
header_word image offset = number_at 4 image (0x100 + offset)

abbrev pub header_long : List ℕ → ℕ → ℕ
header_long image offset = number_at 8 image (0x100 + offset)

-- an offset field and the size field behind it
abbrev pub header_extent : List ℕ → ℕ → Extent
header_extent image offset = record { at = header_long image offset; size = header_long image (offset + 8) }

abbrev pub no_extent : Extent
no_extent = record { at = 0; size = 0 }

-- DISA: the fields of the second partition are looked at only where there are two
abbrev pub disa_fields : List ℕ → Header
disa_fields image = record {
  kind = Disa;
  parts = header_word image 0x08;
  secondary = header_long image 0x10;
  primary = header_long image 0x18;
  table_size = header_long image 0x20;
  desc_a = header_extent image 0x28;
  desc_b = if header_word image 0x08 == 2 then header_extent image 0x38 else no_extent;
  part_a = header_extent image 0x48;
  part_b = if header_word image 0x08 == 2 then header_extent image 0x58 else no_extent;
  active = header_byte image 0x68;
  hash = header_bytes image 0x6C 32;
  unique = 0;
  raw = header_bytes image 0 0x100;
}

-- DIFF: one partition, whose descriptor is the whole table; of the active field only the first byte is looked at
abbrev pub diff_fields : List ℕ → Header
diff_fields image = record {
  kind = Diff;
  parts = 1;
  secondary = header_long image 0x08;
  primary = header_long image 0x10;
  table_size = header_long image 0x18;
  desc_a = record { at = 0; size = header_long image 0x18 };
  desc_b = no_extent;
  part_a = header_extent image 0x20;
  part_b = no_extent;
  active = header_byte image 0x30;
  hash = header_bytes image 0x34 32;
  unique = header_long image 0x54;
  raw = header_bytes image 0 0x100;
}

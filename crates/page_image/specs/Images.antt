-- What a contract sees of an image over its disk.
use Rattle.std.specs.Prelude.{◌≡◌, ◌≢◌, ℕ, ◌+◌, ◌*◌, ◌/◌, ◌%◌, ◌<◌, ◌≤◌, Bool, true, false, not, ◌==◌, ◌&&◌, ◌||◌}
use Rattle.std.specs.Prelude.{nat_lt, if◌then◌else◌, IsTrue}
use Rattle.std.specs.Prelude.{List, length, slice_index, get_or, Option, Some, None}
use Rattle.save_bytes.specs.Cells.{Byte}
use Rattle.save_bytes.specs.State.{Shape, State}
use Rattle.save_disk.specs.Trace.{Told, image_now}
use Rattle.save_disk.specs.State as disks
use Rattle.save_disk.specs.Tells.{tells, image_told, all_below}
use Rattle.page_image.specs.declared.state.ImageState.{ImageState}

-- a frame that has this has the page
abbrev pub is_page : ℕ → Option ℕ → Bool
is_page page None = false
is_page page (Some held) = held == page

-- the frame that holds the page, if one does
abbrev pub frame_of : ImageState → ℕ → ℕ
frame_of image page = slice_index image.slots.items page

-- a frame holds the page
unfoldable pub is_held : ImageState → ℕ → Bool
is_held image page = is_page page (get_or image.pages.items (frame_of image page) None)

-- the byte at a place whose page is held
unfoldable pub held_byte : ImageState → ℕ → ℕ
held_byte image x = slice_index image.bytes.items (frame_of image (x / 4096) * 4096 + x % 4096)

-- A byte of the image: of the first 512, of a page that is held, or of the disk.
unfoldable pub byte_of : disks.State → ImageState → ℕ → ℕ
byte_of disk image x =
    if nat_lt x 512 then slice_index image.header x
    else if is_held image (x / 4096) then held_byte image x else slice_index (image_told disk) x

-- the mark of the sector that begins at a place, where its page is held
unfoldable pub mark_of : ImageState → ℕ → Bool
mark_of image x = get_or image.changed.items (frame_of image (x / 4096) * 8 + x % 4096 / 512) false

-- the sector that begins at a place is in the image and held, and has its mark
unfoldable pub is_changed_at : ImageState → ℕ → Bool
is_changed_at image x = nat_lt x image.len && (is_held image (x / 4096) && mark_of image x)

-- the sector has a byte that was put and is not on the disk yet
abbrev pub is_changed : ImageState → ℕ → Bool
is_changed image sector = is_changed_at image (sector * image.grain)

-- at least one and at most so many of the image's bytes from a place on
pub record IsHeldPiece (disk : disks.State) (image : ImageState) (at most : ℕ) (piece : List ℕ) : Type 0 where
  pub some : 1 ≤ length piece
  pub bounded : length piece ≤ most
  pub inside : at + length piece ≤ image.len
  pub bytes : (k : ℕ) → k < length piece → slice_index piece k ≡ byte_of disk image (at + k)

-- In a sector that is not changed each byte is on the disk, where reads of the sector are told. The first 512 bytes are
-- kept apart: a write of them that failed may leave others on the disk.
abbrev pub Mirrors : disks.State → ImageState → Type 0
Mirrors disk image = (told : Told) → disk.told ≡ Some told → (x : ℕ) → 512 ≤ x → x < image.len
    → IsTrue (told.sure (x / image.grain))
    → is_changed image (x / image.grain) ≡ false → slice_index (image_now told) x ≡ byte_of disk image x

-- the disk has the length and the grain of the one that was opened, and what the image has not changed
pub record IsDiskOf (disk : disks.State) (image : ImageState) : Type 0 where
  pub size : disk.size ≡ image.len
  pub grain : disk.grain ≡ image.grain
  pub mirrors : Mirrors disk image

-- the same as a test
abbrev pub is_mirrored_at : disks.State → ImageState → Told → ℕ → Bool
is_mirrored_at disk image told x =
    nat_lt x 512
    || (not (told.sure (x / image.grain))
    || (is_changed image (x / image.grain) || (slice_index (image_now told) x == byte_of disk image x)))

abbrev pub is_mirrored : disks.State → ImageState → Option Told → Bool
is_mirrored disk image None = true
is_mirrored disk image (Some told) = all_below (is_mirrored_at disk image told) image.len

abbrev pub is_disk_of : disks.State → ImageState → Bool
is_disk_of disk image = (disk.size == image.len) && ((disk.grain == image.grain) && is_mirrored disk image disk.told)

-- the shape of an image of a length: it is sound over its own disk
abbrev pub shape_of : ℕ → Bool → Shape
shape_of len is_sound = record {
  size = len;
  sound = is_sound;
  plain = true;
  first = 512;
  doubled = false;
  block_start = λ x. x;
  block_len = λ x. 1;
}

-- All cells are bytes. They are told where the disk tells its trace and each read.
abbrev pub image_state : disks.State → ImageState → State
image_state disk image = record {
  shape = shape_of image.len (is_disk_of disk image);
  told = tells disk;
  cells = λ x. Byte (byte_of disk image x);
  bottom = λ x. x;
  is_fixed = λ x. false;
  faults = disk.counts.disk;
}

-- each byte behind the first 512 is on the disk, where reads of its sector are told
abbrev pub IsStored : disks.State → ImageState → Type 0
IsStored disk image = (told : Told) → disk.told ≡ Some told → (x : ℕ) → 512 ≤ x → x < image.len
    → IsTrue (told.sure (x / image.grain))
    → slice_index (image_now told) x ≡ byte_of disk image x

-- the first 512 bytes are on the disk as the image has them
abbrev pub IsFrontStored : disks.State → ImageState → Type 0
IsFrontStored disk image = (x : ℕ) → x < 512 → slice_index (image_told disk) x ≡ slice_index image.header x

-- an image just opened: its bytes are the disk's, and none is changed
pub record IsOpened (disk : disks.State) (image : ImageState) : Type 0 where
  pub disk_of : IsDiskOf disk image
  pub bytes : IsTrue (tells disk) → (x : ℕ) → x < image.len → byte_of disk image x ≡ slice_index (image_told disk) x
  pub front : IsTrue (tells disk) → IsFrontStored disk image
  pub clean : (sector : ℕ) → is_changed image sector ≡ false

-- the bytes of an image from a place on that are not those of the disk lie in so many pages
abbrev pub DiffersWithin : ℕ → ℕ → disks.State → ImageState → Type 0
DiffersWithin first most disk image = (pages : List ℕ) × (length pages ≤ most)
    × ((x : ℕ) → first ≤ x → x < image.len → byte_of disk image x ≢ slice_index (image_told disk) x
    → (i : ℕ) × (i < length pages) × (slice_index pages i ≡ x / 4096))

-- What becomes of the frames of an image.
use Rattle.std.specs.Prelude.{◌≡◌, ◌⊎◌, ℕ, ◌+◌, ◌*◌, ◌/◌, ◌<◌, ◌≤◌, true, false, IsTrue, length, get_or, set}
use Rattle.std.specs.Prelude.{slice_index, Some, None}
use Rattle.save_disk.specs.Trace.{Told, image_now}
use Rattle.save_disk.specs.State as disks
use Rattle.page_image.specs.declared.state.ImageState.{ImageState}
use Rattle.page_image.specs.Images.{is_held, held_byte, is_changed}

-- the same length, grain and first bytes, and as many frames and pages
pub record SameFrames (old new : ImageState) : Type 0 where
  pub len : new.len ≡ old.len
  pub grain : new.grain ≡ old.grain
  pub header : new.header ≡ old.header
  pub frames : length new.pages.items ≡ length old.pages.items
  pub slots : length new.slots.items ≡ length old.slots.items

-- the same pages lie in the same frames
pub record KeepsFrames (old new : ImageState) : Type 0 where
  pub slots : new.slots.items ≡ old.slots.items
  pub pages : new.pages.items ≡ old.pages.items

-- a frame was asked for: all that is held is as before
pub record IsTouched (old new : ImageState) : Type 0 where
  pub same : SameFrames old new
  pub slots : new.slots.items ≡ old.slots.items
  pub pages : new.pages.items ≡ old.pages.items
  pub bytes : new.bytes.items ≡ old.bytes.items
  pub changed : new.changed.items ≡ old.changed.items

-- the frame holds no page
pub record IsEmptied (frame : ℕ) (old new : ImageState) : Type 0 where
  pub same : SameFrames old new
  pub slots : new.slots.items ≡ old.slots.items
  pub pages : new.pages.items ≡ set old.pages.items frame None
  pub bytes : new.bytes.items ≡ old.bytes.items
  pub changed : new.changed.items ≡ old.changed.items

-- the frame holds the page, with no mark
pub record TakesPage (frame page : ℕ) (old new : ImageState) : Type 0 where
  pub same : SameFrames old new
  pub slots : new.slots.items ≡ set old.slots.items page frame
  pub pages : new.pages.items ≡ set old.pages.items frame (Some page)
  pub bytes : new.bytes.items ≡ old.bytes.items
  pub clear : (k : ℕ) → k < 8 → get_or new.changed.items (frame * 8 + k) false ≡ false
  pub before : (k : ℕ) → k < frame * 8 → get_or new.changed.items k false ≡ get_or old.changed.items k false
  pub behind : (k : ℕ) → frame * 8 + 8 ≤ k → get_or new.changed.items k false ≡ get_or old.changed.items k false

-- the bytes of a frame alone are others
pub record IsFrameRead (frame : ℕ) (old new : ImageState) : Type 0 where
  pub same : SameFrames old new
  pub slots : new.slots.items ≡ old.slots.items
  pub pages : new.pages.items ≡ old.pages.items
  pub changed : new.changed.items ≡ old.changed.items
  pub before : (k : ℕ) → k < frame * 4096 → get_or new.bytes.items k 0 ≡ get_or old.bytes.items k 0
  pub behind : (k : ℕ) → frame * 4096 + 4096 ≤ k → get_or new.bytes.items k 0 ≡ get_or old.bytes.items k 0

-- a byte as a read of its sector gives it, where that is told
abbrev pub IsByteRead : disks.State → ℕ → ℕ → ℕ → Type 0
IsByteRead disk grain x byte = (told : Told) → disk.told ≡ Some told → IsTrue (told.sure (x / grain))
    → byte ≡ slice_index (image_now told) x

-- From one image to another some pages were given up and some were read, and nothing else: each sector is as much
-- changed, and each byte that is held now was held before, or was read from the disk and is not changed.
pub record IsRefilled (disk : disks.State) (old new : ImageState) : Type 0 where
  pub same : SameFrames old new
  pub changed : (sector : ℕ) → is_changed new sector ≡ is_changed old sector
  pub bytes : (x : ℕ) → x < old.len → is_held new (x / 4096) ≡ true
      → ((is_held old (x / 4096) ≡ true) × (held_byte new x ≡ held_byte old x))
      ⊎ ((is_changed new (x / old.grain) ≡ false) × IsByteRead disk old.grain x (held_byte new x))

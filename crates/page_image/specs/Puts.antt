-- What calls leave of what is held.
use Rattle.std.specs.Prelude.{◌≡◌, ◌≢◌, ℕ, ◌+◌, ◌/◌, ◌<◌, true, false, List, length, slice_index}
use Rattle.save_disk.specs.State as disks
use Rattle.save_disk.specs.Writes.{WritesTo}
use Rattle.page_image.specs.declared.state.ImageState.{ImageState}
use Rattle.page_image.specs.Images.{is_held, held_byte, is_changed}
use Rattle.page_image.specs.Frames.{SameFrames, KeepsFrames}

-- the sectors that have one of the n places from a place on are changed, and the others are as before
pub record Marks (at n : ℕ) (old new : ImageState) : Type 0 where
  pub met : (k : ℕ) → k < n → is_changed new ((at + k) / old.grain) ≡ true
  pub others : (sector : ℕ) → ((k : ℕ) → k < n → (at + k) / old.grain ≢ sector)
      → is_changed new sector ≡ is_changed old sector

-- a piece was put at a place of a page that is held
pub record IsImagePut (at : ℕ) (piece : List ℕ) (old new : ImageState) : Type 0 where
  pub same : SameFrames old new
  pub held : (page : ℕ) → is_held new page ≡ is_held old page
  pub written : (k : ℕ) → k < length piece → held_byte new (at + k) ≡ slice_index piece k
  pub others : (x : ℕ) → is_held old (x / 4096) ≡ true → ((k : ℕ) → k < length piece → x ≢ at + k)
      → held_byte new x ≡ held_byte old x
  pub marks : Marks at (length piece) old new

-- the sector is not changed any more
pub record IsUnmarked (sector : ℕ) (old new : ImageState) : Type 0 where
  pub same : SameFrames old new
  pub frames : KeepsFrames old new
  pub held : (page : ℕ) → is_held new page ≡ is_held old page
  pub bytes : (x : ℕ) → held_byte new x ≡ held_byte old x
  pub clean : is_changed new sector ≡ false
  pub others : (other : ℕ) → other ≢ sector → is_changed new other ≡ is_changed old other

-- sector 0 is changed, if its page is held
pub record IsFirstMarked (old new : ImageState) : Type 0 where
  pub same : SameFrames old new
  pub held : (page : ℕ) → is_held new page ≡ is_held old page
  pub bytes : (x : ℕ) → held_byte new x ≡ held_byte old x
  pub marked : is_held old 0 ≡ true → is_changed new 0 ≡ true
  pub others : (other : ℕ) → other ≢ 0 → is_changed new other ≡ is_changed old other

-- the first 512 bytes are these, and sector 0 is not changed
pub record IsHeaded (front : List ℕ) (old new : ImageState) : Type 0 where
  pub len : new.len ≡ old.len
  pub grain : new.grain ≡ old.grain
  pub header : new.header ≡ front
  pub frames : length new.pages.items ≡ length old.pages.items
  pub held : (page : ℕ) → is_held new page ≡ is_held old page
  pub bytes : (x : ℕ) → held_byte new x ≡ held_byte old x
  pub clean : is_changed new 0 ≡ false
  pub others : (other : ℕ) → other ≢ 0 → is_changed new other ≡ is_changed old other

-- each of the n places from a place on lies in a sector that is changed, or that was written in the call
abbrev pub IsPending : ℕ → ℕ → disks.State → disks.State → ImageState → Type 0
IsPending at n disk disk_new new =
    (k : ℕ) → k < n → is_changed new ((at + k) / new.grain) ≡ false → WritesTo ((at + k) / new.grain) disk disk_new

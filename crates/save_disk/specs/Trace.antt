-- What a disk tells of itself: its trace.
use Rattle.std.specs.Prelude.{ℕ, ◌+◌, ◌-◌, ◌*◌, ◌≡◌, Bool, IsTrue, List, [], ◌∷◌, ◌++◌, length, take, drop, replicate}

-- what happened at the desk
pub data Event : Type 0 where
  -- a sector, and all its bytes
  Write : (sector : ℕ) (bytes : List ℕ) → Event
  -- all writes before it are kept
  Sync : Event
  -- bytes taken by the output
  Said : (bytes : List ℕ) → Event

pub record Told : Type 0 where
  -- the bytes of the image when the trace began
  pub start : List ℕ
  -- the bytes of a sector
  pub grain : ℕ
  -- what happened since, in order
  pub events : List Event
  -- what is left of the source
  pub left : List ℕ
  -- whether reads of a sector are told: they are until a write of it fails
  pub sure : ℕ → Bool

-- the part of a sector that lies in the image
abbrev pub sector_cut : ℕ → List ℕ → ℕ → List ℕ
sector_cut grain image sector = take grain (drop (sector * grain) image)

-- a whole sector: after the image's end it has zeros
abbrev pub sector_of : ℕ → List ℕ → ℕ → List ℕ
sector_of grain image sector = sector_cut grain image sector ++ replicate
    (grain - length (sector_cut grain image sector)) 0

-- the image with other bytes in a sector: what lies past its end is not kept
unfoldable pub with_sector : ℕ → List ℕ → ℕ → List ℕ → List ℕ
with_sector grain image sector bytes = take (sector * grain) image ++ take (length image - sector * grain) bytes ++ drop
    (sector * grain + grain) image

-- the image with all writes of the events
abbrev pub image_after : ℕ → List ℕ → List Event → List ℕ
image_after grain image [] = image
image_after grain image (Write sector bytes ∷ events) = image_after grain (with_sector grain image sector bytes) events
image_after grain image (Sync ∷ events) = image_after grain image events
image_after grain image (Said bytes ∷ events) = image_after grain image events

-- the image as it is now
abbrev pub image_now : Told → List ℕ
image_now told = image_after told.grain told.start told.events

-- all that was said
abbrev pub said_of : List Event → List ℕ
said_of [] = []
said_of (Said bytes ∷ events) = bytes ++ said_of events
said_of (Write sector bytes ∷ events) = said_of events
said_of (Sync ∷ events) = said_of events

-- nothing happened but output
abbrev pub OnlySays : List Event → Type 0
OnlySays [] = Unit {0}
OnlySays (Said bytes ∷ events) = OnlySays events
OnlySays (Write sector bytes ∷ events) = ⊥
OnlySays (Sync ∷ events) = ⊥

-- no event yet, and every read is told
pub record IsFresh (told : Told) : Type 0 where
  pub silent : told.events ≡ []
  pub sure : (sector : ℕ) → IsTrue (told.sure sector)

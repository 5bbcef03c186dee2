-- What a stop leaves of some places of an image: of each byte that must not be lost.
use Rattle.std.specs.Prelude.{ℕ, ◌+◌, ◌-◌, ◌*◌, ◌<◌, ◌≤◌, ◌≡◌, ◌⊎◌, Bool, IsTrue, List, [], ◌∷◌, ◌++◌, length, take}
use Rattle.std.specs.Prelude.{slice_index}
use Rattle.save_disk.specs.Trace.{Event, Write, Sync, Told, image_after}
use Rattle.save_disk.specs.Stops.{synced, unsynced, EachWrite, Fits, CrashMayLeave, AtEachMoment}

-- where the write covers the place, it holds this byte there
abbrev pub HoldsAt : ℕ → ℕ → ℕ → ℕ → List ℕ → Type 0
HoldsAt grain x byte sector bytes = sector * grain ≤ x → x < sector * grain + grain
    → slice_index bytes (x - sector * grain) ≡ byte

-- the write holds the image's byte at each of the places that it covers
abbrev pub HoldsAll : (ℕ → Bool) → ℕ → List ℕ → ℕ → List ℕ → Type 0
HoldsAll places grain image sector bytes = (x : ℕ) → x < length image → IsTrue (places x)
    → HoldsAt grain x (slice_index image x) sector bytes

-- another image has this one's byte at each of the places
abbrev pub Agree : (ℕ → Bool) → List ℕ → List ℕ → Type 0
Agree places image other = (x : ℕ) → x < length image → IsTrue (places x) → slice_index other x ≡ slice_index image x

-- the places are kept: the last sync covers their bytes, and each write since then holds them
pub record Keeps (places : ℕ → Bool) (image : List ℕ) (grain : ℕ) (start : List ℕ) (events : List Event) : Type 0 where
  pub size : length image ≡ length start
  pub synced : Agree places image (image_after grain start (synced events))
  pub since : EachWrite (HoldsAll places grain image) (unsynced events)

-- at each moment of the events that were added behind others, each image that a stop may leave is such. It is asked
-- only
-- as long as each write is of a whole sector that begins inside the image
abbrev pub EachStop : (List ℕ → Type 0) → ℕ → List ℕ → List Event → List Event → Type 0
EachStop P grain start events added =
    AtEachMoment (λ front. EachWrite (Fits grain (length start)) (events ++ front) → (left : List ℕ)
    → CrashMayLeave grain start (events ++ front) left → P left) added

-- the same of a trace, where each write fits
abbrev pub StopsLeave : (List ℕ → Type 0) → Told → List Event → Type 0
StopsLeave P told added = AtEachMoment (λ front. (left : List ℕ)
    → CrashMayLeave told.grain told.start (told.events ++ front) left → P left) added

-- the events up to a moment of these
abbrev pub IsMomentOf : List Event → List Event → Type 0
IsMomentOf all events = (n : ℕ) × (events ≡ take n all)

-- what a commit adds behind its other writes: a sync, one write, and a sync
abbrev pub committing : List Event → ℕ → List ℕ → List Event
committing writes sector bytes = writes ++ Sync ∷ Write sector bytes ∷ Sync ∷ []

-- the image once a commit's one write is done
abbrev pub image_committed : ℕ → List ℕ → List Event → List Event → ℕ → List ℕ → List ℕ
image_committed grain start events writes sector bytes = image_after grain start
    (events ++ (writes ++ Write sector bytes ∷ []))

-- the places are as they were, or it is the image that the commit makes
abbrev pub IsOldOrNew : (ℕ → Bool) → List ℕ → ℕ → List ℕ → List Event → List Event → ℕ → List ℕ → List ℕ → Type 0
IsOldOrNew places image grain start events writes sector bytes left =
    Agree places image left ⊎ (left ≡ image_committed grain start events writes sector bytes)

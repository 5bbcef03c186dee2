-- What a stop may leave: each sector by itself is what the last sync kept, or any later write to it.
use Rattle.std.specs.Prelude.{ℕ, zero, suc, ◌+◌, ◌-◌, ◌*◌, ◌<◌, ◌≡◌, ◌⊎◌, Bool, true, false, ◌||◌, if◌then◌else◌}
use Rattle.std.specs.Prelude.{List, [], ◌∷◌, ◌++◌, length, take, Option, Some}
use Rattle.save_disk.specs.Trace.{Event, Write, Sync, Said, Told, sector_cut, image_after}

abbrev pub is_sync : Event → Bool
is_sync Sync = true
is_sync (Write sector bytes) = false
is_sync (Said bytes) = false

abbrev pub has_sync : List Event → Bool
has_sync [] = false
has_sync (event ∷ events) = is_sync event || has_sync events

-- the events up to the last sync, and those behind it
abbrev pub synced : List Event → List Event
synced [] = []
synced (event ∷ events) = if has_sync (event ∷ events) then event ∷ synced events else []

abbrev pub unsynced : List Event → List Event
unsynced [] = []
unsynced (event ∷ events) = if has_sync (event ∷ events) then unsynced events else event ∷ events

-- this write to the sector is among the events
abbrev pub HasWrite : List Event → ℕ → List ℕ → Type 0
HasWrite [] sector bytes = ⊥
HasWrite (event ∷ events) sector bytes = (event ≡ Write sector bytes) ⊎ HasWrite events sector bytes

-- each write among the events is such
abbrev pub EachWrite : (ℕ → List ℕ → Type 0) → List Event → Type 0
EachWrite Q events = (sector : ℕ) (bytes : List ℕ) → HasWrite events sector bytes → Q sector bytes

-- a write of a whole sector that begins inside the image
abbrev pub Fits : ℕ → ℕ → ℕ → List ℕ → Type 0
Fits grain size sector bytes = (length bytes ≡ grain) × (sector * grain < size)

-- how many syncs there were
abbrev pub syncs : List Event → ℕ
syncs [] = 0
syncs (event ∷ events) = (if is_sync event then 1 else 0) + syncs events

-- the events up to the nth sync
abbrev pub until_sync : List Event → ℕ → List Event
until_sync [] n = []
until_sync (event ∷ events) zero = []
until_sync (event ∷ events) (suc n) = event ∷ until_sync events (if is_sync event then n else suc n)

-- a sector's bytes that a stop may leave, cut to the image
abbrev pub IsVersion : ℕ → List ℕ → List Event → ℕ → List ℕ → Type 0
IsVersion grain start events sector piece =
    (piece ≡ sector_cut grain (image_after grain start (synced events)) sector)
    ⊎ ((bytes : List ℕ) × HasWrite (unsynced events) sector bytes
    × (piece ≡ take (length start - sector * grain) bytes))

-- each sector of the image is one of its versions
pub record CrashMayLeave (grain : ℕ) (start : List ℕ) (events : List Event) (image : List ℕ) : Type 0 where
  pub size : length image ≡ length start
  pub sectors : (sector : ℕ) → sector * grain < length start
      → IsVersion grain start events sector (sector_cut grain image sector)

-- no event is a write
abbrev pub HasNoWrite : List Event → Type 0
HasNoWrite events = (sector : ℕ) (bytes : List ℕ) → HasWrite events sector bytes → ⊥

-- at each moment of the events: of each of their fronts
abbrev pub AtEachMoment : (List Event → Type 0) → List Event → Type 0
AtEachMoment P events = (moment : ℕ) → P (take moment events)

-- since then there were such events, and nothing else
abbrev pub Since : (List Event → Type 0) → Told → Option Told → Type 0
Since P before after = (events : List Event) × P events
    × (after ≡ Some (record before { events = before.events ++ events }))

-- The state of a disk or desk, and what its calls do to it.
use Rattle.std.specs.Prelude.{ℕ, ◌+◌, ◌-◌, ◌^◌, ◌<◌, ◌≤◌, ◌≡◌, ◌≢◌, ◌⊎◌, min, List, [], ◌∷◌, ◌++◌, length, take, drop}
use Rattle.std.specs.Prelude.{Option, Some, None, MatchOption, IfSome, Result, OnErr, IsTrue}
use Rattle.std.specs.Option.{option_map}
use Rattle.save_disk.specs.Trace.{Event, Write, Told, sector_of, image_now}
use Rattle.save_disk.specs.Stops.{EachWrite, Fits}

-- how often each part of the desk has failed
pub record Counts : Type 0 where
  pub disk : ℕ
  pub source : ℕ
  pub sink : ℕ

pub record State : Type 0 where
  -- the trace, where the desk tells it
  pub told : Option Told
  -- the image's length in bytes
  pub size : ℕ
  -- the bytes of a sector
  pub grain : ℕ
  pub counts : Counts

-- what holds of every state: a sector has 512 or 4,096 bytes, the trace speaks of this disk, and each write that it
-- tells is of a whole sector that begins inside the image
pub record IsSound (state : State) : Type 0 where
  pub grain : (state.grain ≡ 512) ⊎ (state.grain ≡ 4096)
  pub size : state.size < 2 ^ 64
  pub told_size : IfSome state.told (λ told. length told.start ≡ state.size)
  pub told_grain : IfSome state.told (λ told. told.grain ≡ state.grain)
  pub told_writes : IfSome state.told (λ told. EachWrite (Fits told.grain (length told.start)) told.events)

-- the count is greater than before, or stands at its last value
abbrev pub Rose : ℕ → ℕ → Type 0
Rose before now = min (before + 1) (2 ^ 64 - 1) ≤ now

-- a call fails only where its count rose in the call
abbrev pub HasCause : {T E : Type 0} → ℕ → ℕ → Result T E → Type 0
HasCause before now result = OnErr result (Rose before now)

-- what no call changes, and that no count falls
pub record IsSteady (before after : State) : Type 0 where
  pub size : after.size ≡ before.size
  pub grain : after.grain ≡ before.grain
  pub disk : before.counts.disk ≤ after.counts.disk
  pub source : before.counts.source ≤ after.counts.source
  pub sink : before.counts.sink ≤ after.counts.sink

-- nothing happened
abbrev pub IsQuiet : State → State → Type 0
IsQuiet before after = after.told ≡ before.told

-- the trace with one more event
abbrev pub then_event : Event → Told → Told
then_event event told = record told { events = told.events ++ event ∷ [] }

-- this one event happened
abbrev pub Happens : Event → State → State → Type 0
Happens event before after = after.told ≡ option_map (then_event event) before.told

-- the bytes are those last written to the sector, where its reads are told
abbrev pub IsRead : State → ℕ → List ℕ → Type 0
IsRead state sector bytes = IfSome state.told (λ told. IsTrue (told.sure sector)
    → bytes ≡ sector_of told.grain (image_now told) sector)

-- a write that failed is an event or none, and of later reads of that sector nothing is told
pub record WriteFails (sector : ℕ) (bytes : List ℕ) (before after : Told) : Type 0 where
  pub start : after.start ≡ before.start
  pub grain : after.grain ≡ before.grain
  pub left : after.left ≡ before.left
  pub events : (after.events ≡ before.events) ⊎ (after.events ≡ before.events ++ Write sector bytes ∷ [])
  pub others : (other : ℕ) → other ≢ sector → after.sure other ≡ before.sure other

-- the trace went on as a relation says; a desk that tells nothing goes on telling nothing
abbrev pub GoesOn : (Told → Told → Type 0) → State → State → Type 0
GoesOn R before after = MatchOption before.told (after.told ≡ None)
    (λ told. (next : Told) × (after.told ≡ Some next) × R told next)

-- the same, of a disk that tells its trace
abbrev pub Goes : (Told → Told → Type 0) → State → State → Type 0
Goes R before after = (told : Told) → before.told ≡ Some told → (next : Told) × (after.told ≡ Some next) × R told next

-- n bytes were heard: the next of the source, and none exactly where none is left
pub record Hears (n : ℕ) (out : List ℕ) (before after : Told) : Type 0 where
  pub bytes : take n out ≡ take n before.left
  pub fits : n ≤ length before.left
  pub ended : n ≡ 0 → before.left ≡ []
  pub rest : after ≡ record before { left = drop n before.left }

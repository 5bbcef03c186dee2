-- What holds of a disk that tells its trace.
use Rattle.std.specs.Prelude.{ℕ, zero, suc, ◌/◌, ◌≡◌, Bool, true, false, ◌&&◌, List, [], Option, Some, None}
use Rattle.save_disk.specs.Trace.{Event, Told, IsFresh, image_now}
use Rattle.save_disk.specs.State.{State, Rose}
use Rattle.save_disk.specs.Stops.{Since}

-- where the disk tells its trace, such events came, and nothing else happened
abbrev pub Tells : (List Event → Type 0) → State → State → Type 0
Tells P before after = (told : Told) → before.told ≡ Some told → Since P told after.told

-- where the desk tells a trace that has no event yet and every read, by the image of its start
abbrev pub WhenFresh : (Told → Type 0) → State → Type 0
WhenFresh P before = (told : Told) → before.told ≡ Some told → IsFresh told → P told

-- no count of faults rose
pub record NoneRose (before after : State) : Type 0 where
  pub disk : Rose before.counts.disk after.counts.disk → ⊥
  pub source : Rose before.counts.source after.counts.source → ⊥
  pub sink : Rose before.counts.sink after.counts.sink → ⊥

-- each number below another passes
unfoldable pub all_below : (ℕ → Bool) → ℕ → Bool
all_below test zero = true
all_below test (suc n) = test n && all_below test n

-- a trace is told, and with it the read of each byte
abbrev pub is_sure : ℕ → Option Told → Bool
is_sure size None = false
is_sure size (Some told) = all_below (λ x. told.sure (x / told.grain)) size

-- the disk tells its trace and each read
abbrev pub tells : State → Bool
tells state = is_sure state.size state.told

abbrev pub image_of : Option Told → List ℕ
image_of None = []
image_of (Some told) = image_now told

-- the image as the trace gives it, where it is told
abbrev pub image_told : State → List ℕ
image_told state = image_of state.told

-- What a call on a disk did to its trace, where it only writes.
use Rattle.std.specs.Prelude.{ℕ, ◌+◌, ◌≤◌, ◌≡◌, Bool, ◌==◌, if◌then◌else◌, List, [], ◌∷◌, ◌++◌}
use Rattle.save_disk.specs.Trace.{Event, Write, Sync, Said, Told}
use Rattle.save_disk.specs.State.{State, GoesOn}

-- the events are writes, each of such bytes to such a sector
abbrev pub OnlyWrites : (ℕ → List ℕ → Type 0) → List Event → Type 0
OnlyWrites Q [] = Unit {0}
OnlyWrites Q (Write sector bytes ∷ events) = Q sector bytes × OnlyWrites Q events
OnlyWrites Q (Sync ∷ events) = ⊥
OnlyWrites Q (Said bytes ∷ events) = ⊥

-- since then there were such events. Of the source nothing was taken; of some sectors reads may be told no more.
pub record GrewBy (P : List Event → Type 0) (before after : Told) : Type 0 where
  pub start : after.start ≡ before.start
  pub grain : after.grain ≡ before.grain
  pub left : after.left ≡ before.left
  pub added : List Event
  pub events : after.events ≡ before.events ++ added
  pub such : P added

-- nothing happened but such writes
abbrev pub WritesOnly : (ℕ → List ℕ → Type 0) → State → State → Type 0
WritesOnly Q = GoesOn (GrewBy (OnlyWrites Q))

-- 1 for what holds, else 0
abbrev pub one_if : Bool → ℕ
one_if holds = if holds then 1 else 0

-- how many of the events write the sector
abbrev pub writes_to : ℕ → List Event → ℕ
writes_to sector [] = 0
writes_to sector (Write number bytes ∷ events) = one_if (number == sector) + writes_to sector events
writes_to sector (Sync ∷ events) = writes_to sector events
writes_to sector (Said bytes ∷ events) = writes_to sector events

-- the sector was written
abbrev pub WritesTo : ℕ → State → State → Type 0
WritesTo sector = GoesOn (GrewBy (λ events. 1 ≤ writes_to sector events))

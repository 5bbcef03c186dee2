-- Small traces, and what a stop leaves of them.
use Rattle.std.specs.Prelude.{ℕ, ◌+◌, ◌-◌, ◌≡◌, ◌⊎◌, ◌↔◌, nat_lt, Bool, List, [], ◌∷◌, ◌++◌, replicate}
use Rattle.save_disk.specs.Trace.{Write, Sync}
use Rattle.save_disk.specs.Stops.{CrashMayLeave}
use Rattle.save_disk.specs.Keeps.{HoldsAll, Agree, EachStop}

-- one sector of zeros, written with ones and then with twos
abbrev pub LeavesEitherWrite : ℕ → Type 0
LeavesEitherWrite grain =
    (left : List ℕ) → CrashMayLeave grain (replicate grain 0)
    (Write 0 (replicate grain 1) ∷ Write 0 (replicate grain 2) ∷ []) left
    ↔ ((left ≡ replicate grain 0) ⊎ ((left ≡ replicate grain 1) ⊎ (left ≡ replicate grain 2)))

-- the same with a sync between
abbrev pub LeavesSyncedOrLater : ℕ → Type 0
LeavesSyncedOrLater grain =
    (left : List ℕ) → CrashMayLeave grain (replicate grain 0)
    (Write 0 (replicate grain 1) ∷ Sync ∷ Write 0 (replicate grain 2) ∷ []) left
    ↔ ((left ≡ replicate grain 1) ⊎ (left ≡ replicate grain 2))

-- a sector and three bytes more, of which the second sector is written with sevens
abbrev pub LeavesShortSector : ℕ → Type 0
LeavesShortSector grain =
    (left : List ℕ) → CrashMayLeave grain (replicate (grain + 3) 0) (Write 1 (replicate grain 7) ∷ []) left
    → (left ≡ replicate (grain + 3) 0) ⊎ (left ≡ replicate grain 0 ++ replicate 3 7)

-- of a sector of fives the first two bytes are live
abbrev pub is_live : ℕ → Bool
is_live x = nat_lt x 2

abbrev pub HoldsLiveBytes : ℕ → Type 0
HoldsLiveBytes grain = EachStop (Agree is_live (replicate grain 5)) grain (replicate grain 5) []
    (Write 0 (5 ∷ 5 ∷ replicate (grain - 2) 9) ∷ Sync ∷ Write 0 (5 ∷ 5 ∷ replicate (grain - 2) 8) ∷ [])

abbrev pub LosesALiveByte : ℕ → Type 0
LosesALiveByte grain = HoldsAll is_live grain (replicate grain 5) 0 (5 ∷ 6 ∷ replicate (grain - 2) 9) → ⊥

-- What is left of a store while the desk below it says something.
use Rattle.std.specs.Prelude.{ℕ}
use Rattle.save_bytes.specs.State.{State}

-- the same space with another count of faults
abbrev pub with_faults : State → ℕ → State
with_faults s n = record s { faults = n }

-- Facts that depend on how a call ended. Its refusal is the error of its result, if there is one.
use Rattle.std.specs.Prelude.{ℕ, ◌+◌, ◌-◌, ◌^◌, ◌≤◌, min, Option, Some, None, ⊤}
use Rattle.save_bytes.specs.declared.space.Bad.{Bad}
use Rattle.save_bytes.specs.declared.space.Bad.TheVariants.{Disk, Damaged}

-- the count is greater than before, or stands at its last value
abbrev pub Rose : ℕ → ℕ → Type 0
Rose before now = min (before + 1) (2 ^ 64 - 1) ≤ now

-- P holds where the call was not refused
abbrev pub IfDone : Option Bad → Type 0 → Type 0
IfDone None P = P
IfDone (Some bad) P = ⊤

-- P holds where the call was refused for the disk's sake
abbrev pub OnDisk : Option Bad → Type 0 → Type 0
OnDisk None P = ⊤
OnDisk (Some Disk) P = P
OnDisk (Some (Damaged part level block)) P = ⊤

-- P holds where the call was not refused for the disk's sake
abbrev pub UnlessDisk : Option Bad → Type 0 → Type 0
UnlessDisk None P = P
UnlessDisk (Some Disk) P = ⊤
UnlessDisk (Some (Damaged part level block)) P = P

-- P holds of the numbers where the call was refused for a damaged cell
abbrev pub IfDamaged : Option Bad → (ℕ → ℕ → ℕ → Type 0) → Type 0
IfDamaged None P = ⊤
IfDamaged (Some Disk) P = ⊤
IfDamaged (Some (Damaged part level block)) P = P part level block

-- the call was not refused for a damaged cell
abbrev pub NeverDamaged : Option Bad → Type 0
NeverDamaged refusal = IfDamaged refusal (λ part level block. ⊥)

-- What hashers took.
use Rattle.std.specs.Prelude.{ℕ, List, ◌++◌}
use Rattle.sha2.specs.Hashers.{Holds256}
use Rattle.sha2.specs.declared.Sha256.{Sha256}

-- a hasher took these bytes behind what it held
abbrev pub Takes : Sha256 → Sha256 → List ℕ → Type 0
Takes old new bytes = (message : List ℕ) → Holds256 old message → Holds256 new (message ++ bytes)

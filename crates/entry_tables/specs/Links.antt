-- Lists of entries, in which each one names the next.
use Rattle.std.specs.Prelude.{◌≡◌, ◌≢◌, ℕ, List, [], ◌∷◌}

-- from a number on the links lead through these entries, none of them 0, to an end
abbrev pub LeadsTo : (ℕ → ℕ) → ℕ → List ℕ → ℕ → Type 0
LeadsTo next from [] end = from ≡ end
LeadsTo next from (e ∷ list) end = (from ≡ e) × (e ≢ 0) × LeadsTo next (next e) list end

-- a whole list, which ends at 0
abbrev pub LeadsToEnd : (ℕ → ℕ) → ℕ → List ℕ → Type 0
LeadsToEnd next from list = LeadsTo next from list 0

-- the last of a number and the entries behind it
abbrev pub last_of : ℕ → List ℕ → ℕ
last_of from [] = from
last_of from (e ∷ list) = last_of e list

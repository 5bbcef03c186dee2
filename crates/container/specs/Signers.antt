-- A signer, as what opens under it sees it.
use Rattle.std.specs.Prelude.{ℕ, Bool, List}

-- its tag of a header's 256 bytes, and whether an image without the right tag is refused
pub record Signing : Type 0 where
  pub tag : List ℕ → List ℕ
  pub demands : Bool

-- that of a value of a type with these
abbrev pub signing : {G : Type 0} → (G → List ℕ → List ℕ) → (G → Bool) → G → Signing
signing tag_of is_demanding signer = record { tag = tag_of signer; demands = is_demanding signer }

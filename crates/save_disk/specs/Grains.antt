-- The bytes that a sector may have.
use Rattle.std.specs.Prelude.{ℕ, ◌≡◌, ◌⊎◌, Bool, true, false, ◌==◌, ◌||◌, IsTrue}
use Rattle.std.proofs.Common.{inl, inr, eqb-true}

abbrev pub is_grain : ℕ → Bool
is_grain grain = (grain == 512) || (grain == 4096)

-- where one of two tests holds, so does what one of them says
one_of : (a b : Bool) {P Q : Type 0} → (IsTrue a → P) → (IsTrue b → Q) → IsTrue (a || b) → P ⊎ Q
one_of true b p q h = inl (p h)
one_of false b p q h = inr (q h)

-- a grain is one of the two
pub known_grain : (grain : ℕ) → IsTrue (is_grain grain) → (grain ≡ 512) ⊎ (grain ≡ 4096)
known_grain grain h = one_of (grain == 512) (grain == 4096) (λ e. eqb-true _ _ e) (λ e. eqb-true _ _ e) h

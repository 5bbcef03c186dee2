-- Puts into separate ranges, one behind another: all cells outside of them have softened at most.
use Rattle.std.proofs.Common.{◌≡◌, ◌≢◌, ◌⊎◌, ℕ, ◌+◌, ◌<◌, ◌≤◌, List, length, refl, sym, ◌∙◌, ap, subst, arith, inl, inr, ⊎_elim}
use Rattle.save_bytes.specs.Cells.{Cell, Byte, Blank, Spoilt}
use Rattle.save_bytes.specs.CellNumbers.{value_of}
use Rattle.save_bytes.specs.State.{State}
use Rattle.save_bytes.specs.Stays.{SameTwins}
use Rattle.save_bytes.specs.Puts.{IsMet, HasBlank, IsDeeper, SoftensFrom, HasPut}
use Rattle.save_bytes.specs.Writes.{IsWithin}
use Rattle.save_bytes.specs.Within.{MaySoften, ChangesWithin}
use Rattle.save_bytes.proofs.PutLemmas.{find_value}

pub MaySoften-same : (cell : Cell) → MaySoften cell cell
MaySoften-same (Byte value) = refl
MaySoften-same (Blank part level block) = inl refl
MaySoften-same (Spoilt part level block) = refl

-- what a cell that is blank at a level softens to, where it was blank at one not as deep before
deeper_still : (part level deeper block : ℕ) (new : Cell) → level < deeper → MaySoften (Blank part deeper block) new
    → (new ≡ Byte 0) ⊎ IsDeeper part level new
deeper_still part level deeper block new below soft =
    ⊎_elim
    (λ (same : new ≡ Blank part deeper block). inr (deeper, block, below, same))
    (λ (other : (new ≡ Byte 0) ⊎ IsDeeper part deeper new). ⊎_elim
    (λ (zero_byte : new ≡ Byte 0). inl zero_byte)
    (λ (more : IsDeeper part deeper new). inr (more.0, more.1, omega (arith, below, more.2), more.3)) other)
    soft

pub MaySoften-join : (cell mid new : Cell) → MaySoften cell mid → MaySoften mid new → MaySoften cell new
MaySoften-join (Byte value) mid new first second = subst (λ (c : Cell). MaySoften c new) first second
MaySoften-join (Blank part level block) mid new first second =
    ⊎_elim
    (λ (same : mid ≡ Blank part level block). subst (λ (c : Cell). MaySoften c new) same second)
    (λ (other : (mid ≡ Byte 0) ⊎ IsDeeper part level mid). ⊎_elim
    (λ (zero_byte : mid ≡ Byte 0). inr (inl (subst (λ (c : Cell). MaySoften c new) zero_byte second)))
    (λ (more : IsDeeper part level mid). inr (deeper_still part level more.0 more.1 new more.2
    (subst (λ (c : Cell). MaySoften c new) more.3 second))) other)
    first
MaySoften-join (Spoilt part level block) mid new first second = subst (λ (c : Cell). MaySoften c new) first second

-- a cell that softened has the same value
pub value_softens : (cell new : Cell) → MaySoften cell new → value_of new ≡ value_of cell
value_softens (Byte value) new soft = ap value_of soft
value_softens (Blank part level block) new soft =
    ⊎_elim
    (λ (same : new ≡ Blank part level block). ap value_of same)
    (λ (other : (new ≡ Byte 0) ⊎ IsDeeper part level new). ⊎_elim
    (λ (zero_byte : new ≡ Byte 0). ap value_of zero_byte)
    (λ (more : IsDeeper part level new). ap value_of more.3) other)
    soft
value_softens (Spoilt part level block) new soft = ap value_of soft

-- what a put makes of a cell that it does not write
softens_from : (was : State) (at n x : ℕ) (old new : Cell) → SoftensFrom was at n x old new → MaySoften old new
softens_from was at n x (Byte value) new soft = soft
softens_from was at n x (Blank part level block) new soft =
    ⊎_elim
    (λ (met : IsMet was at n x). inr (inl (soft.met met)))
    (λ (unmet : (k : ℕ) → k < n → was.shape.block_start (was.bottom x) ≢ was.shape.block_start (was.bottom (at + k))).
    ⊎_elim
    (λ (same : new ≡ Blank part level block). inl same)
    (λ (deeper : HasBlank was at n part level block × IsDeeper part level new). inr (inr deeper.1))
    (soft.unmet (λ met. unmet met.0 met.1 met.2)))
    (find_value (λ k. was.shape.block_start (was.bottom (at + k))) (was.shape.block_start (was.bottom x)) n)
softens_from was at n x (Spoilt part level block) new soft = soft

-- a put changes its range
pub ChangesWithin-put : (was : State) (at : ℕ) (bytes : List ℕ) (new : ℕ → Cell) → at + length bytes ≤ was.shape.size
    → HasPut was at bytes new → ChangesWithin was (IsWithin at (length bytes)) new
ChangesWithin-put was at bytes new fits put x inside out =
    softens_from was at (length bytes) x (was.cells x) (new x)
    (put.others x inside (λ k within same. out (at + k, omega (arith, within, fits), (omega arith, omega (arith, within)), same)))

-- no call, no change
pub ChangesWithin-same : (s : State) (Written : ℕ → Type 0) (new : ℕ → Cell) → ((x : ℕ) → x < s.shape.size → new x ≡ s.cells x)
    → ChangesWithin s Written new
ChangesWithin-same s Written new same x inside out =
    subst (λ (c : Cell). MaySoften (s.cells x) c) (sym (same x inside)) (MaySoften-same (s.cells x))

-- fewer places are some of more
pub ChangesWithin-wider : (s : State) (Few Many : ℕ → Type 0) (new : ℕ → Cell) → ((x : ℕ) → x < s.shape.size → Few x → Many x)
    → ChangesWithin s Few new → ChangesWithin s Many new
ChangesWithin-wider s Few Many new wider h x inside out =
    h x inside (λ (y, below, few, same). out (y, below, wider y below few, same))

-- a change behind a change
pub ChangesWithin-join : (s t : State) (Written : ℕ → Type 0) (new : ℕ → Cell) → t.shape.size ≡ s.shape.size → SameTwins s t
    → ChangesWithin s Written t.cells → ChangesWithin t Written new → ChangesWithin s Written new
ChangesWithin-join s t Written new size twins first second x inside out =
    MaySoften-join (s.cells x) (t.cells x) (new x) (first x inside out)
    (second x (omega (arith, size, inside)) (λ (y, below, written, same).
    (let in_s : y < s.shape.size = omega (arith, size, below) in
    out (y, in_s, written, sym (twins.bottom x inside) ∙ same ∙ twins.bottom y in_s))))

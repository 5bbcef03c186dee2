-- Cells that ease, one step behind another, and a put behind them.
use Rattle.std.proofs.Common.{◌≡◌, ◌⊎◌, ℕ, ◌+◌, ◌/◌, ◌<◌, ◌≤◌, refl, sym, ◌∙◌}
use Rattle.std.proofs.Common.{subst, arith, inl, inr, ⊎_elim}
use Rattle.save_bytes.specs.Cells.{Cell, Byte, Blank, Spoilt, IsBlank}
use Rattle.save_bytes.specs.Puts.{IsDeeper}
use Rattle.difi.specs.declared.descriptor.Difi.{Difi}
use Rattle.difi.specs.Places.{block_size}
use Rattle.ivfc_tree.specs.Eases.{MeetsBlock, ShowsBlank, EasesFrom, Eases}

module _ (difi : Difi) (at n : ℕ) where
  -- a cell that stays has eased
  pub EasesFrom-same : (cells : ℕ → Cell) (x : ℕ) (old new : Cell) → new ≡ old → EasesFrom difi cells at n x old new
  EasesFrom-same cells x (Byte value) new same = same
  EasesFrom-same cells x (Blank part level block) new same = inl same
  EasesFrom-same cells x (Spoilt part level block) new same = same

  -- only a cell that was blank is blank
  eased_blank : (cells : ℕ → Cell) (x : ℕ) (old new : Cell) → EasesFrom difi cells at n x old new → IsBlank new
      → IsBlank old
  eased_blank cells x (Byte value) new eased blank = absurd (rw eased at blank)
  eased_blank cells x (Blank part level block) new eased blank = tt
  eased_blank cells x (Spoilt part level block) new eased blank = absurd (rw eased at blank)

  pub Eases-same : (old new : ℕ → Cell) → ((x : ℕ) → x < difi.ivfc4.size → new x ≡ old x) → Eases difi at n old new
  Eases-same old new same = record {
    each = λ x below. EasesFrom-same old x (old x) (new x) (same x below);
    joined = λ x y in_x in_y blank e. sym (same x in_x) ∙ e ∙ same y in_y;
  }

  module _ (fits : at + n ≤ difi.ivfc4.size) (old mid new : ℕ → Cell) (first : Eases difi at n old mid)
      (second : Eases difi at n mid new) where
    shows_before : (x part level block : ℕ) → x < difi.ivfc4.size → old x ≡ Blank part level block → mid x ≡ Blank
        part level block
        → ShowsBlank mid at n part level block → ShowsBlank old at n part level block
    shows_before x part level block below was is (k, within, there) =
        (k, within, first.joined (at + k) x (omega (arith, within, fits)) below (rw there tt) (there ∙ sym is) ∙ was)

    join_blank : (x part level block : ℕ) → x < difi.ivfc4.size → old x ≡ Blank part level block
        → EasesFrom difi old at n x (Blank part level block) (mid x) → EasesFrom difi mid at n x (mid x) (new x)
        → EasesFrom difi old at n x (Blank part level block) (new x)
    join_blank x part level block below was one two =
        ⊎_elim
        (λ (same : mid x ≡ Blank part level block).
        ⊎_elim
        (λ (stays : new x ≡ Blank part level block). inl stays)
        (λ (more : ShowsBlank mid at n part level block
        × ((MeetsBlock difi at n (x / block_size difi.ivfc4) × (new x ≡ Byte 0)) ⊎ IsDeeper part level (new x))).
        inr (shows_before x part level block below was same more.0, more.1))
        (subst (λ (c : Cell). EasesFrom difi mid at n x c (new x)) same two))
        (λ (eased : ShowsBlank old at n part level block
        × ((MeetsBlock difi at n (x / block_size difi.ivfc4) × (mid x ≡ Byte 0)) ⊎ IsDeeper part level (mid x))).
        inr (
          eased.0,
          ⊎_elim
              (λ (zero_byte : MeetsBlock difi at n (x / block_size difi.ivfc4) × (mid x ≡ Byte 0)).
              inl (zero_byte.0, subst (λ (c : Cell). EasesFrom difi mid at n x c (new x)) zero_byte.1 two))
              (λ (deeper : IsDeeper part level (mid x)).
              ⊎_elim
              (λ (stays : new x ≡ Blank part deeper.0 deeper.1). inr (deeper.0, deeper.1, deeper.2, stays))
              (λ (more : ShowsBlank mid at n part deeper.0 deeper.1
              × ((MeetsBlock difi at n (x / block_size difi.ivfc4) × (new x ≡ Byte 0)) ⊎ IsDeeper part deeper.0
              (new x))).
              ⊎_elim
              (λ (zero_byte : MeetsBlock difi at n (x / block_size difi.ivfc4) × (new x ≡ Byte 0)). inl zero_byte)
              (λ (still : IsDeeper part deeper.0 (new x)). inr (
                still.0,
                still.1,
                omega (arith, deeper.2, still.2),
                still.3,
              ))
              more.1)
              (subst (λ (c : Cell). EasesFrom difi mid at n x c (new x)) deeper.3 two))
              eased.1,
        ))
        one

    join_each : (x : ℕ) → x < difi.ivfc4.size → (cell : Cell) → old x ≡ cell → EasesFrom difi old at n x cell (mid x)
        → EasesFrom difi mid at n x (mid x) (new x) → EasesFrom difi old at n x cell (new x)
    join_each x below (Byte value) was one two = subst (λ (c : Cell). EasesFrom difi mid at n x c (new x)) one two
    join_each x below (Blank part level block) was one two = join_blank x part level block below was one two
    join_each x below (Spoilt part level block) was one two = subst (λ (c : Cell). EasesFrom difi mid at n x c
        (new x)) one two

    -- cells that eased twice eased
    pub Eases-join : Eases difi at n old new
    Eases-join = record {
      each = λ x below. join_each x below (old x) refl (first.each x below) (second.each x below);
      joined = λ x y in_x in_y blank same.
          first.joined x y in_x in_y (eased_blank mid x (mid x) (new x) (second.each x in_x) blank)
          (second.joined x y in_x in_y blank same);
    }

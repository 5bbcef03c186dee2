-- One step down a path.
use Rattle.std.proofs.Common.{◌≡◌, ◌≢◌, ℕ, zero, suc, ◌-◌, ◌≤◌, true, false, List, refl, arith}
use Rattle.save_bytes.specs.Cells.{Cell}
use Rattle.difi.specs.declared.descriptor.Difi.{Difi}
use Rattle.ivfc_tree.specs.declared.path.BlockState.{BlockState}
use Rattle.ivfc_tree.specs.declared.path.BlockState.TheVariants.{Good, Blank as BlankAt, Bad as BadAt}
use Rattle.ivfc_tree.specs.declared.state.IvfcState.{IvfcState}
use Rattle.ivfc_tree.specs.Levels.{parent_of}
use Rattle.ivfc_tree.specs.Marks.{is_marked}
use Rattle.ivfc_tree.specs.Paths.{own_state, after, marked_state, block_state}

pub after-fault : (found above own : BlockState) → found ≡ above → found ≢ Good → found ≡ after above own
after-fault found Good own is fault = absurd (fault is)
after-fault found (BlankAt upper at) own is fault = is
after-fault found (BadAt upper at) own is fault = is

module _ (cells : ℕ → Cell) (master : List ℕ) (difi : Difi) (state : IvfcState) where
  pub step-marked : (level block : ℕ) → 1 ≤ level → is_marked state level block ≡ true
      → Good ≡ block_state cells master difi state level block
  unfolding marked_state
  step-marked zero block some marked = absurd (omega (arith, some))
  step-marked (suc level) block some marked = rw marked refl

  -- what is said of the block above decides, unless that holds
  step : (level block : ℕ) → 1 ≤ level → is_marked state level block ≡ false
      → block_state cells master difi state level block
      ≡ after (block_state cells master difi state (level - 1) (parent_of difi (level - 1) block))
      (own_state cells master difi level block)
  unfolding marked_state
  step zero block some marked = absurd (omega (arith, some))
  step (suc level) block some marked = let one : suc level - 1 ≡ level = omega arith in rw (marked, one) refl

-- What blocks that are not marked tell of the tree as the transaction began.
use Rattle.std.proofs.Common.{◌≡◌, ◌≢◌, ◌⊎◌, ℕ, zero, suc, ◌≤◌, Bool, true, false, List, refl}
use Rattle.std.proofs.Common.{sym, ◌∙◌, inl, inr, arith, ⊎_elim, if◌then◌else◌}
use Rattle.std.specs.Str.{bytes_eq}
use Rattle.std.proofs.lemmas.Bool.{cases_Bool}
use Rattle.sha2.specs.Sha256.{sha256}
use Rattle.save_bytes.specs.Cells.{Cell}
use Rattle.save_bytes.specs.State.{Shape}
use Rattle.difi.specs.declared.descriptor.Difi.{Difi}
use Rattle.ivfc_tree.specs.declared.path.BlockState.{BlockState}
use Rattle.ivfc_tree.specs.declared.path.BlockState.TheVariants.{Good, Blank as BlankAt, Bad as BadAt}
use Rattle.ivfc_tree.specs.Levels.{HasBlock, padded_block, hash_entry, zero_entry, parent_of}
use Rattle.ivfc_tree.specs.Paths.{judged, own_state, after, marked_state, path_state}
use Rattle.ivfc_tree.specs.View.{HasTree}
use Rattle.ivfc_tree.specs.ViewLaws.{parent_there}
use Rattle.ivfc_tree.specs.Origins.{CameFrom, TellsSame, IsBared, MarksMore}

-- where what is said of a block is good, the block above it is good, and so is what it tells itself
after_good : (above own : BlockState) → after above own ≡ Good → (above ≡ Good) × (own ≡ Good)
after_good Good own is = (refl, is)
after_good (BlankAt level block) own is = absurd (cc)
after_good (BadAt level block) own is = absurd (cc)

-- a state that names a block at fault names none below a level
abbrev IsAbove : ℕ → BlockState → Type 0
IsAbove level Good = Unit {0}
IsAbove level (BlankAt upper at) = upper ≤ level
IsAbove level (BadAt upper at) = upper ≤ level

judged_above : (level block : ℕ) (entry digest : List ℕ) → IsAbove level (judged level block entry digest)
judged_above level block entry digest =
    ⊎_elim (λ (none : bytes_eq entry zero_entry ≡ true). rw none (omega arith))
    (λ (some : bytes_eq entry zero_entry ≡ false).
    ⊎_elim (λ (good : bytes_eq entry digest ≡ true). rw (some, good) tt)
    (λ (bad : bytes_eq entry digest ≡ false). rw (some, bad) (omega arith)) (cases_Bool (bytes_eq entry digest)))
    (cases_Bool (bytes_eq entry zero_entry))

after_above : (level : ℕ) (above own : BlockState) → IsAbove level above → IsAbove (suc level) own
    → IsAbove (suc level) (after above own)
after_above level Good own h k = k
after_above level (BlankAt upper at) own h k = omega (arith, h)
after_above level (BadAt upper at) own h k = omega (arith, h)

if_above : (level : ℕ) (mark : Bool) (found : BlockState) → IsAbove level found → IsAbove level (if mark then
    Good else found)
if_above level true found h = tt
if_above level false found h = h

state_above : (cells : ℕ → Cell) (master : List ℕ) (difi : Difi) (marked : ℕ → ℕ → Bool) (level block : ℕ)
    → IsAbove level (marked_state cells master difi marked level block)
unfolding marked_state
state_above cells master difi marked zero block = tt
state_above cells master difi marked (suc level) block =
    if_above (suc level) (marked (suc level) block) _
    (after_above level (marked_state cells master difi marked level (parent_of difi level block)) _
    (state_above cells master difi marked level (parent_of difi level block))
    (judged_above (suc level) block (hash_entry cells master difi (suc level) block)
    (sha256 (padded_block cells difi (suc level) block))))

-- a state is good, or names the block itself as one of another digest
abbrev pub IsGoodOrBad : ℕ → ℕ → BlockState → Type 0
IsGoodOrBad level block found = (found ≡ Good) ⊎ (found ≡ BadAt level block)

-- below such a state the block above is good
after_own : (level block : ℕ) (above own : BlockState) → IsAbove level above → IsGoodOrBad (suc level) block (after
    above own)
    → (above ≡ Good) × (own ≢ BlankAt (suc level) block)
after_own level block Good own h is = (
  refl,
  λ blank. ⊎_elim (λ good. absurd (cc (good, blank))) (λ bad. absurd
      (cc (bad, blank))) is,
)
after_own level block (BlankAt upper at) own h is = absurd (⊎_elim (λ good. absurd (cc (good))) (λ bad. absurd
    (cc (bad))) is)
after_own level block (BadAt upper at) own h is =
    absurd (⊎_elim (λ good. absurd (cc (good)))
    (λ (bad : BadAt upper at ≡ BadAt (suc level) block). let same : upper ≡ suc level = cc in omega (
      arith,
      same,
      h,
    )) is)

-- without marks, and without a mark
pub path_step : (cells : ℕ → Cell) (master : List ℕ) (difi : Difi) (level block : ℕ) → path_state cells master
    difi (suc level) block
    ≡ after (path_state cells master difi level (parent_of difi level block)) (own_state cells master difi (suc
    level) block)
unfolding marked_state
path_step cells master difi level block = refl

unmarked_step : (cells : ℕ → Cell) (master : List ℕ) (difi : Difi) (marked : ℕ → ℕ → Bool) (level block : ℕ)
    → marked (suc level) block ≡ false → marked_state cells master difi marked (suc level) block
    ≡ after (marked_state cells master difi marked level (parent_of difi level block)) (own_state cells master
    difi (suc level) block)
unfolding marked_state
unmarked_step cells master difi marked level block isnt = rw isnt refl

marked_good : (cells : ℕ → Cell) (master : List ℕ) (difi : Difi) (marked : ℕ → ℕ → Bool) (level block : ℕ)
    → marked (suc level) block ≡ true → marked_state cells master difi marked (suc level) block ≡ Good
unfolding marked_state
marked_good cells master difi marked level block is = rw is refl

pub top_good : (cells : ℕ → Cell) (master : List ℕ) (difi : Difi) (marked : ℕ → ℕ → Bool) (block : ℕ)
    → marked_state cells master difi marked 0 block ≡ Good
unfolding marked_state
top_good cells master difi marked block = refl

-- where no block is marked, which marks are asked makes no difference
pub state-none : (cells : ℕ → Cell) (master : List ℕ) (difi : Difi) (none : ℕ → ℕ → Bool)
    → ((level block : ℕ) → none level block ≡ false) → (level block : ℕ)
    → marked_state cells master difi none level block ≡ path_state cells master difi level block
unfolding marked_state
state-none cells master difi none isnt zero block = refl
state-none cells master difi none isnt (suc level) block =
    rw (isnt (suc level) block, state-none cells master difi none isnt level (parent_of difi level block)) refl

-- before the first change
pub CameFrom-none : (difi : Difi) (marked : ℕ → ℕ → Bool) (was : ℕ → Cell) (master : List ℕ)
    → ((level block : ℕ) → marked level block ≡ false) → CameFrom difi marked was master was master
CameFrom-none difi marked was master none = record {
  kept = λ level block there isnt good. refl;
  zeroed = λ level block there isnt is. (let no = none (suc level) (parent_of difi (suc level) block) in absurd
      (cc (no, is)));
}

module _ (base : Shape) (difi : Difi) (master_len : ℕ) (tree : HasTree base difi master_len) (marked : ℕ → ℕ → Bool)
    (was cells : ℕ → Cell) (was_master master : List ℕ) (came : CameFrom difi marked was was_master cells master)
  where
    -- the block above one lies in the tree too
    above_there : (level block : ℕ) → HasBlock difi (suc (suc level)) block
        → HasBlock difi (suc level) (parent_of difi (suc level) block)
    above_there level block there =
        (parent_there base difi master_len (suc level) block tree (omega arith) there).parent

    -- a block whose path held is good while it is not marked
    came_good : (level block : ℕ) → HasBlock difi (suc level) block → marked (suc level) block ≡ false
        → path_state was was_master difi (suc level) block ≡ Good
        → marked_state cells master difi marked (suc level) block ≡ Good
    came_good zero block there isnt good =
        let parts = after_good _ _ (rw path_step at good) in
        unmarked_step cells master difi marked 0 block isnt
        ∙ rw (top_good cells master difi marked (parent_of difi 0 block), came.kept 0 block there isnt parts.0)
        parts.1
    came_good (suc level) block there isnt good =
        let above = parent_of difi (suc level) block in
        let parts = after_good _ _ (rw path_step at good) in
        let upper : marked_state cells master difi marked (suc level) above ≡ Good =
        ⊎_elim (λ (is : marked (suc level) above ≡ true). marked_good cells master difi marked level above is)
        (λ (no : marked (suc level) above ≡ false). came_good level above (above_there level block there) no parts.0)
        (cases_Bool (marked (suc level) above)) in
        unmarked_step cells master difi marked (suc level) block isnt
        ∙ rw (upper, came.kept (suc level) block there isnt parts.0) parts.1

    -- a block that is not marked, and is good or at fault itself, was so
    came_back : (level block : ℕ) → HasBlock difi (suc level) block → marked (suc level) block ≡ false
        → IsGoodOrBad (suc level) block (marked_state cells master difi marked (suc level) block)
        → path_state was was_master difi (suc level) block ≡ marked_state cells master difi marked (suc level) block
    came_back zero block there isnt own =
        let above = parent_of difi 0 block in
        let was_top = top_good was was_master difi (λ level block. false) above in
        let now_top = top_good cells master difi marked above in
        path_step was was_master difi 0 block
        ∙ rw (was_top, ← came.kept 0 block there isnt was_top) (sym (unmarked_step cells master difi marked 0 block
        isnt ∙ rw now_top refl))
    came_back (suc level) block there isnt own =
        let above = parent_of difi (suc level) block in
        let step = unmarked_step cells master difi marked (suc level) block isnt in
        let parts = after_own (suc level) block _ _ (state_above cells master difi marked (suc level) above) (rw
        step at own) in
        let upper : path_state was was_master difi (suc level) above ≡ Good =
        ⊎_elim
        (λ (is : marked (suc level) above ≡ true).
        ⊎_elim (λ (held : path_state was was_master difi (suc level) above ≡ Good). held)
        (λ (bare : own_state cells master difi (suc (suc level)) block ≡ BlankAt (suc (suc level)) block). absurd
        (parts.1 bare))
        (came.zeroed level block there isnt is))
        (λ (no : marked (suc level) above ≡ false). came_back level above (above_there level block there) no
        (inl parts.0) ∙ parts.0)
        (cases_Bool (marked (suc level) above)) in
        path_step was was_master difi (suc level) block
        ∙ rw (upper, ← came.kept (suc level) block there isnt upper) (sym (step ∙ rw parts.0 refl))

    pub came_back_at : (level block : ℕ) → HasBlock difi level block → marked level block ≡ false
        → IsGoodOrBad level block (marked_state cells master difi marked level block)
        → path_state was was_master difi level block ≡ marked_state cells master difi marked level block
    came_back_at zero block there isnt own = absurd (omega (arith, there.in_tree.0))
    came_back_at (suc level) block there isnt own = came_back level block there isnt own

    module _ (still : ℕ → ℕ → Bool) (new : ℕ → Cell) (new_master : List ℕ)
        (step : MarksMore difi marked still cells master new new_master) where
      more_kept : (level block : ℕ) → HasBlock difi (suc level) block → still (suc level) block ≡ false
          → path_state was was_master difi level (parent_of difi level block) ≡ Good
          → own_state new new_master difi (suc level) block ≡ own_state was was_master difi (suc level) block
      more_kept zero block there isnt good =
          ⊎_elim (λ (same : TellsSame difi marked still cells master new new_master 0 block).
          same.own ∙ came.kept 0 block there (step.more 1 block isnt) good)
          (λ (bared : IsBared difi marked cells master new new_master 0 block). absurd (omega (arith, bared.below)))
          (step.unmarked 0 block there isnt)
      more_kept (suc level) block there isnt good =
          ⊎_elim (λ (same : TellsSame difi marked still cells master new new_master (suc level) block).
          same.own ∙ came.kept (suc level) block there (step.more (suc (suc level)) block isnt) good)
          (λ (bared : IsBared difi marked cells master new new_master (suc level) block).
          absurd (bared.spoilt (came_good level (parent_of difi (suc level) block) (above_there level block there)
          bared.above good)))
          (step.unmarked (suc level) block there isnt)

      more_zeroed : (level block : ℕ) → HasBlock difi (suc (suc level)) block → still (suc (suc level)) block ≡ false
          → still (suc level) (parent_of difi (suc level) block) ≡ true
          → (path_state was was_master difi (suc level) (parent_of difi (suc level) block) ≡ Good)
          ⊎ (own_state new new_master difi (suc (suc level)) block ≡ BlankAt (suc (suc level)) block)
      more_zeroed level block there isnt is =
          let above = parent_of difi (suc level) block in
          let was_unmarked = step.more (suc (suc level)) block isnt in
          ⊎_elim (λ (same : TellsSame difi marked still cells master new new_master (suc level) block).
          ⊎_elim
          (λ (before : marked (suc level) above ≡ true).
          ⊎_elim (λ (held : path_state was was_master difi (suc level) above ≡ Good). inl held)
          (λ (bare : own_state cells master difi (suc (suc level)) block ≡ BlankAt (suc (suc level)) block). inr
          (same.own ∙ bare))
          (came.zeroed level block there was_unmarked before))
          (λ (no : marked (suc level) above ≡ false).
          let good = same.above (omega arith) no is in
          inl (came_back level above (above_there level block there) no (inl good) ∙ good))
          (cases_Bool (marked (suc level) above)))
          (λ (bared : IsBared difi marked cells master new new_master (suc level) block). inr bared.own)
          (step.unmarked (suc level) block there isnt)

      -- a change more
      pub CameFrom-more : CameFrom difi still was was_master new new_master
      CameFrom-more = record { kept = more_kept; zeroed = more_zeroed }

-- What each block comes to once one more is marked: as it is where it is good, and zero where it was never written.
use Rattle.std.proofs.Common.{◌≡◌, ◌≢◌, ℕ, zero, suc, ◌<◌, ◌≤◌, Bool, true, false, List, length}
use Rattle.std.proofs.Common.{refl, sym, ◌∙◌, subst, arith, ⊎_elim}
use Rattle.std.proofs.lemmas.Bool.{cases_Bool, cases_eq}
use Rattle.save_bytes.specs.Cells.{Cell}
use Rattle.save_bytes.specs.State.{Shape}
use Rattle.difi.specs.declared.descriptor.Difi.{Difi}
use Rattle.ivfc_tree.specs.declared.path.BlockState.{BlockState}
use Rattle.ivfc_tree.specs.declared.path.BlockState.TheVariants.{Good, Blank as BlankAt}
use Rattle.ivfc_tree.specs.Levels.{HasBlock, parent_of}
use Rattle.ivfc_tree.specs.Paths.{own_state, after, marked_state}
use Rattle.ivfc_tree.specs.View.{HasTree}
use Rattle.ivfc_tree.specs.ViewLaws.{parent_there}
use Rattle.ivfc_tree.specs.Eases.{MarksOne, ZeroesBlock}
use Rattle.ivfc_tree.proofs.ZeroLemmas.{own_stays, own_zero}
use Rattle.ivfc_tree.proofs.NameLemmas.{state_marked, state_step, state_top}

-- what a block comes to once a blank one is zero and marked: the same; it is that one, and good; or it lies below that
-- one,
-- and is blank by a block of the next level
pub data Becomes (difi : Difi) (level block l c : ℕ) (old new : BlockState) : Type 0 where
  Remains : (same : new ≡ old) → Becomes difi level block l c old new
  TurnsGood : (at : l ≡ level) (is : c ≡ block) (was : old ≡ BlankAt level block) (now : new ≡ Good) → Becomes difi
      level block l c old new
  TurnsDeeper : (below : ℕ) (deep : level < l) (under : parent_of difi level below ≡ block)
      (was : old ≡ BlankAt level block)
      (now : new ≡ BlankAt (suc level) below) → Becomes difi level block l c old new

-- the block below, where what it is by itself is the same
step_below : (difi : Difi) (level block l c : ℕ) (old new own_old own_new : BlockState) → own_new ≡ own_old
    → (l ≡ level → parent_of difi l c ≢ block) → Becomes difi level block l (parent_of difi l c) old new
    → Becomes difi level block (suc l) c (after old own_old) (after new own_new)
step_below difi level block l c old new own_old own_new own apart (Remains same) = Remains (rw (same, own) refl)
step_below difi level block l c old new own_old own_new own apart (TurnsGood at is was now) = absurd (apart at is)
step_below difi level block l c old new own_old own_new own apart (TurnsDeeper below deep under was now) =
    TurnsDeeper below (omega (arith, deep)) under (rw was refl) (rw now refl)

module _ (base : Shape) (difi : Difi) (master : List ℕ) (tree : HasTree base difi (length master)) (level block : ℕ)
    (there : HasBlock difi level block) (one other : ℕ → Cell) (zeroed : ZeroesBlock base.size difi level block one
    other)
    (marked still : ℕ → ℕ → Bool) (marks : MarksOne level block marked still)
    (was : marked_state one master difi marked level block ≡ BlankAt level block) where
  abbrev pub before : ℕ → ℕ → BlockState
  before = marked_state one master difi marked

  abbrev pub now : ℕ → ℕ → BlockState
  now = marked_state other master difi still

  pub block_now : (l c : ℕ) → l ≡ level → c ≡ block → now l c ≡ Good
  block_now zero c at is = absurd (omega (arith, at, there.in_tree.0))
  block_now (suc l) c at is =
      state_marked other master difi still l c
      (subst (λ (n : ℕ). still n c ≡ true) (sym at) (subst (λ (b : ℕ). still level b ≡ true) (sym is) marks.here))

  pub block_before : (l c : ℕ) → l ≡ level → c ≡ block → before l c ≡ BlankAt level block
  block_before l c at is = subst (λ (n : ℕ). before n c ≡ BlankAt level block) (sym at)
      (subst (λ (b : ℕ). before level b ≡ BlankAt level block) (sym is) was)

  free_step : (l c : ℕ) → HasBlock difi (suc l) c → (suc l ≡ level → c ≢ block) → marked (suc l) c ≡ false → still
      (suc l) c ≡ false
      → Becomes difi level block l (parent_of difi l c) (before l (parent_of difi l c)) (now l (parent_of difi l c))
      → Becomes difi level block (suc l) c (before (suc l) c) (now (suc l) c)
  free_step l c here apart free free_still above =
      let p = parent_of difi l c in
      let step = state_step one master difi marked l c free in
      let then_step = state_step other master difi still l c free_still in
      let below : (l ≡ level → p ≢ block) → Becomes difi level block (suc l) c (before (suc l) c) (now (suc l) c) =
      λ elsewhere.
      (let own = own_stays base difi master tree level block there one other zeroed (suc l) c here apart
      (λ next in_block. elsewhere (omega (arith, next))
      (subst (λ (n : ℕ). parent_of difi n c ≡ block) (sym (one_less next)) in_block)) in
      rw (step, then_step) (step_below difi level block l c (before l p) (now l p) _ _ own elsewhere above)) in
      ⊎_elim
      (λ (same : l ≡ level).
      ⊎_elim
      (λ (under : p ≡ block).
      (let child : HasBlock difi (suc level) c = subst (λ (n : ℕ). HasBlock difi (suc n) c) same here in
      let parent : parent_of difi level c ≡ block = subst (λ (n : ℕ). parent_of difi n c ≡ block) same under in
      let own = own_zero base difi master tree level block there one other zeroed c child parent in
      let good = block_now l p same under in
      let blank = block_before l p same under in
      TurnsDeeper c (omega (arith, same)) parent (rw (step, blank) refl)
      (rw (then_step, good) (subst (λ (n : ℕ). own_state other master difi (suc n) c ≡ BlankAt (suc level) c)
      (sym same) own))))
      (λ (elsewhere : p ≢ block). below (λ _. elsewhere))
      (cases_eq p block))
      (λ (elsewhere : l ≢ level). below (λ at. absurd (elsewhere at)))
      (cases_eq l level) where
        one_less : {m n : ℕ} → suc m ≡ suc n → m ≡ n
        one_less next = omega (arith, next)

  pub becomes : (l c : ℕ) → (1 ≤ l → HasBlock difi l c) → Becomes difi level block l c (before l c) (now l c)
  becomes zero c here = Remains (rw (state_top one master difi marked c, state_top other master difi still c) refl)
  becomes (suc l) c here =
      let there_c = here (omega arith) in
      let elsewhere : (suc l ≡ level → c ≢ block) → Becomes difi level block (suc l) c (before (suc l) c)
      (now (suc l) c) =
      λ apart.
      (let same = marks.others (suc l) c apart in
      ⊎_elim
      (λ (yes : marked (suc l) c ≡ true). Remains
      (rw (state_marked one master difi marked l c yes, state_marked other master difi still l c (same ∙ yes)) refl))
      (λ (no : marked (suc l) c ≡ false).
      free_step l c there_c apart no (same ∙ no)
      (becomes l (parent_of difi l c)
      (λ some. (parent_there base difi (length master) l c tree some there_c).parent)))
      (cases_Bool (marked (suc l) c))) in
      ⊎_elim
      (λ (at : suc l ≡ level).
      ⊎_elim
      (λ (is : c ≡ block). TurnsGood at is (block_before (suc l) c at is) (block_now (suc l) c at is))
      (λ (other_block : c ≢ block). elsewhere (λ _. other_block))
      (cases_eq c block))
      (λ (other_level : suc l ≢ level). elsewhere (λ at. absurd (other_level at)))
      (cases_eq (suc l) level)

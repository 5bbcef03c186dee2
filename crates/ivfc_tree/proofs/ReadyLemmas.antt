-- What a block that was made ready does to the cells of a view, and the path of a block down to level four.
use Rattle.std.proofs.Common.{◌≡◌, ◌≢◌, ◌⊎◌, ℕ, zero, suc, ◌+◌, ◌/◌, ◌<◌, ◌≤◌, Bool, true, false, List, length}
use Rattle.std.proofs.Common.{refl, sym, ◌∙◌, ap, subst, arith, inl, inr, ⊎_elim}
use Rattle.std.proofs.lemmas.Bool.{cases_Bool, cases_eq}
use Rattle.save_bytes.specs.Cells.{Cell, Byte, Blank, IsBlank}
use Rattle.save_bytes.specs.CellNumbers.{value_of}
use Rattle.save_bytes.specs.State.{Shape}
use Rattle.difi.specs.declared.descriptor.Difi.{Difi}
use Rattle.difi.specs.Places.{block_size}
use Rattle.ivfc_tree.specs.declared.path.BlockState.{BlockState}
use Rattle.ivfc_tree.specs.declared.path.BlockState.TheVariants.{Good, Blank as BlankAt, Bad as BadAt}
use Rattle.ivfc_tree.specs.Levels.{level_of, HasBlock, parent_of}
use Rattle.ivfc_tree.specs.Paths.{marked_state, cell_in}
use Rattle.ivfc_tree.specs.Origins.{TellsSame, MarksMore}
use Rattle.ivfc_tree.proofs.OriginLemmas.{CameFrom-more}
use Rattle.ivfc_tree.specs.View.{HasTree}
use Rattle.ivfc_tree.specs.ViewLaws.{level4_size, level4_log, block_of_there, place_inside, own-same, parent_there}
use Rattle.ivfc_tree.specs.Eases.{MeetsBlock, ShowsBlank, EasesFrom, Eases, marked_cell, MarksOne, ZeroesBlock}
use Rattle.ivfc_tree.specs.Eases.{StaysUnder, Prepares}
use Rattle.ivfc_tree.proofs.EaseLemmas.{EasesFrom-same, Eases-same, Eases-join}
use Rattle.ivfc_tree.proofs.ZeroLemmas.{level_byte, block_byte, own_stays, own_zero}
use Rattle.ivfc_tree.proofs.NameLemmas.{marked_here, state_marked, state_step, state_top, blank_by}
use Rattle.ivfc_tree.proofs.BecomesLemmas.{Becomes, Remains, TurnsGood, TurnsDeeper, block_before, block_now, becomes}

pub StaysUnder-same : (level : ℕ) (old new : BlockState) → new ≡ old → StaysUnder level old new
StaysUnder-same level Good new same = same
StaysUnder-same level (BlankAt upper block) new same = λ _. same
StaysUnder-same level (BadAt upper block) new same = same

StaysUnder-join : (level : ℕ) (old mid new : BlockState) → StaysUnder level old mid → StaysUnder level mid new
    → StaysUnder level old new
StaysUnder-join level Good mid new one two = subst (λ (s : BlockState). StaysUnder level s new) one two
StaysUnder-join level (BlankAt upper block) mid new one two = λ own. subst
    (λ (s : BlockState). StaysUnder level s new) (one own) two own
StaysUnder-join level (BadAt upper block) mid new one two = subst (λ (s : BlockState). StaysUnder level s new) one two

-- one more mark is a mark more
pub marks_grow : (level block : ℕ) (marked still : ℕ → ℕ → Bool) → MarksOne level block marked still → (l b : ℕ)
    → marked l b ≡ true → still l b ≡ true
marks_grow level block marked still marks l b is =
    ⊎_elim
    (λ (at : l ≡ level).
    ⊎_elim
    (λ (same : b ≡ block). subst (λ (n : ℕ). still n b ≡ true) (sym at)
    (subst (λ (m : ℕ). still level m ≡ true) (sym same) marks.here))
    (λ (other : b ≢ block). marks.others l b (λ _. other) ∙ is)
    (cases_eq b block))
    (λ (other : l ≢ level). marks.others l b (λ at. absurd (other at)) ∙ is)
    (cases_eq l level)

-- the block that a cell names
cell_name : (s : BlockState) (part value level block : ℕ) → cell_in s part value ≡ Blank part level block → s ≡
    BlankAt level block
cell_name Good part value level block e = absurd (cc)
cell_name (BlankAt l b) part value level block e = let same_level : l ≡ level = cc in let same_block : b ≡ block =
    cc in cc
cell_name (BadAt l b) part value level block e = absurd (cc)

-- one more mark set, none is cleared
pub not_before : (marked still : ℕ → ℕ → Bool) → ((level block : ℕ) → marked level block ≡ true → still level block ≡
    true)
    → (level block : ℕ) → still level block ≡ false → marked level block ≡ false
not_before marked still grows level block free =
    ⊎_elim (λ (is_marked : marked level block ≡ true). absurd (let grown = grows level block is_marked in cc))
    (λ (free_before : marked level block ≡ false). free_before) (cases_Bool (marked level block))

-- cells and blocks that stay were made ready
module _ (base : Shape) (difi : Difi) (master : List ℕ) (tree : HasTree base difi (length master)) (at n : ℕ)
    (one other : ℕ → Cell)
    (marked still : ℕ → ℕ → Bool) where
  more_same : ((level block : ℕ) → HasBlock difi level block
      → marked_state other master difi still level block ≡ marked_state one master difi marked level block)
      → ((x : ℕ) → x < base.size → other x ≡ one x) → ((level block : ℕ) → marked level block ≡ true → still level
      block ≡ true)
      → MarksMore difi marked still one master other master
  more_same states bytes grows = record {
    more = not_before marked still grows;
    unmarked = λ level block there free.
        inl (record {
          own = own-same base difi tree.levels other one bytes master (suc level) block there.in_tree;
          above = λ some before after.
              (let parent = parent_there base difi (length master) level block tree some there in
              sym (states level (parent_of difi level block) parent.parent)
              ∙ marked_here other master difi still level (parent_of difi level block) some after);
        });
  }

  pub prepares_same : ((level block : ℕ) → HasBlock difi level block
      → marked_state other master difi still level block ≡ marked_state one master difi marked level block)
      → ((x : ℕ) → x < base.size → other x ≡ one x) → ((level block : ℕ) → marked level block ≡ true → still level
      block ≡ true)
      → Prepares master difi at n one marked other still
  prepares_same states bytes grows = record {
    eases = λ part. Eases-same difi at n _ _
        (λ x below. rw (
          states 4 (x / block_size difi.ivfc4) (block_of_there difi x below),
          bytes _ (place_inside base difi (length master) x tree below),
        ) refl);
    stays = λ level block there free. StaysUnder-same level _ _ (states level block there);
    grows = grows;
    origins = λ was was_master came.
        CameFrom-more base difi (length master) tree marked was one was_master master came still other master
        (more_same states bytes grows);
  }

-- blocks that were made ready for a range, and then more of them
pub Prepares-join : (master : List ℕ) (difi : Difi) (at n : ℕ) → at + n ≤ difi.ivfc4.size → (one mid other : ℕ → Cell)
    (marked more still : ℕ → ℕ → Bool) → Prepares master difi at n one marked mid more → Prepares master difi at n mid
    more other still
    → Prepares master difi at n one marked other still
Prepares-join master difi at n fits one mid other marked more still first second = record {
  eases = λ part. Eases-join difi at n fits _ _ _ (first.eases part) (second.eases part);
  stays = λ level block there free.
      (let before_free : more level block ≡ false =
      ⊎_elim (λ (yes : more level block ≡ true). absurd (let grown = second.grows level block yes in cc))
      (λ (free_before : more level block ≡ false). free_before) (cases_Bool (more level block)) in
      StaysUnder-join level _ _ _ (first.stays level block there before_free) (second.stays level block there free));
  grows = λ level block is. second.grows level block (first.grows level block is);
  origins = λ was was_master came. second.origins was was_master (first.origins was was_master came);
}

-- a good block is marked, and all come to the same
pub good_keeps : (cells : ℕ → Cell) (master : List ℕ) (difi : Difi) (level block : ℕ) (marked still : ℕ → ℕ → Bool)
    → MarksOne level block marked still → marked_state cells master difi marked level block ≡ Good → (l c : ℕ)
    → marked_state cells master difi still l c ≡ marked_state cells master difi marked l c
good_keeps cells master difi level block marked still marks good zero c =
    state_top cells master difi still c ∙ sym (state_top cells master difi marked c)
good_keeps cells master difi level block marked still marks good (suc l) c =
    let elsewhere : (suc l ≡ level → c ≢ block)
    → marked_state cells master difi still (suc l) c ≡ marked_state cells master difi marked (suc l) c =
    λ apart.
    (let same = marks.others (suc l) c apart in
    let above = good_keeps cells master difi level block marked still marks good l (parent_of difi l c) in
    ⊎_elim
    (λ (yes : marked (suc l) c ≡ true). state_marked cells master difi still l c (same ∙ yes) ∙ sym
    (state_marked cells master difi marked l c yes))
    (λ (free : marked (suc l) c ≡ false). rw (
      state_step cells master difi still l c (same ∙ free),
      state_step cells
          master difi marked l c free,
      above,
    ) refl)
    (cases_Bool (marked (suc l) c))) in
    ⊎_elim
    (λ (here : suc l ≡ level).
    ⊎_elim
    (λ (is : c ≡ block).
    (let is_marked : still (suc l) c ≡ true =
    subst (λ (m : ℕ). still m c ≡ true) (sym here) (subst (λ (b : ℕ). still level b ≡ true) (sym is) marks.here) in
    let was : marked_state cells master difi marked (suc l) c ≡ Good =
    subst (λ (m : ℕ). marked_state cells master difi marked m c ≡ Good) (sym here)
    (subst (λ (b : ℕ). marked_state cells master difi marked level b ≡ Good) (sym is) good) in
    state_marked cells master difi still l c is_marked ∙ sym was))
    (λ (other : c ≢ block). elsewhere (λ _. other))
    (cases_eq c block))
    (λ (other : suc l ≢ level). elsewhere (λ here. absurd (other here)))
    (cases_eq (suc l) level)

module _ (base : Shape) (difi : Difi) (master : List ℕ) (tree : HasTree base difi (length master)) (level block : ℕ)
    (there : HasBlock difi level block) (one other : ℕ → Cell) (zeroed : ZeroesBlock base.size difi level block one
    other)
    (marked still : ℕ → ℕ → Bool) (marks : MarksOne level block marked still)
    (was : marked_state one master difi marked level block ≡ BlankAt level block) where
  abbrev change : (l c : ℕ) → HasBlock difi l c
      → Becomes difi level block l c (marked_state one master difi marked l c)
      (marked_state other master difi still l c)
  change l c here = becomes base difi master tree level block there one other zeroed marked still marks was l c
      (λ _. here)

  -- the byte of a place of level four that does not lie in the block
  other_byte : (x : ℕ) → x < difi.ivfc4.size → (4 ≡ level → x / block_size difi.ivfc4 ≢ block)
      → value_of (other ((level_of difi 4).at + x)) ≡ value_of (one ((level_of difi 4).at + x))
  other_byte x below apart =
      ap value_of (level_byte base difi master tree level block there one other zeroed 4 x (omega arith, omega arith)
      (rw level4_size below) (rw level4_log apart))

  zero_byte : (x : ℕ) → x < difi.ivfc4.size → 4 ≡ level → x / block_size difi.ivfc4 ≡ block
      → value_of (other ((level_of difi 4).at + x)) ≡ 0
  zero_byte x below at is =
      let inside : x < (level_of difi level).size = subst (λ (m : ℕ). x < (level_of difi m).size) at
      (rw level4_size below) in
      let here : x / block_size (level_of difi level) ≡ block =
      subst (λ (m : ℕ). x / block_size (level_of difi m) ≡ block) at (rw level4_log is) in
      ap value_of (subst (λ (m : ℕ). other ((level_of difi m).at + x) ≡ Byte 0) (sym at)
      (block_byte base difi master tree level block there one other zeroed x inside here))

  module _ (part at n : ℕ)
      (shows : ShowsBlank (marked_cell one part master difi marked) at n part level block)
      (met : 4 ≡ level → MeetsBlock difi at n block) where
    abbrev old_cell : ℕ → Cell
    old_cell = marked_cell one part master difi marked

    abbrev new_cell : ℕ → Cell
    new_cell = marked_cell other part master difi still

    eased_cell : (x value later : ℕ) (old new : BlockState) → later ≡ value
        → (4 ≡ level → x / block_size difi.ivfc4 ≢ block)
        → Becomes difi level block 4 (x / block_size difi.ivfc4) old new
        → EasesFrom difi old_cell at n x (cell_in old part value) (cell_in new part later)
    eased_cell x value later old new same apart (Remains is) =
        EasesFrom-same difi at n old_cell x (cell_in old part value) (cell_in new part later) (rw (is, same) refl)
    eased_cell x value later old new same apart (TurnsGood here is was_blank good) = absurd (apart here is)
    eased_cell x value later old new same apart (TurnsDeeper below deep under was_blank is) =
        subst (λ (s : BlockState). EasesFrom difi old_cell at n x (cell_in s part value) (cell_in new part later))
        (sym was_blank)
        (inr (shows, inr (suc level, below, omega arith, rw is refl)))

    zeroed_cell : (x : ℕ) → x < difi.ivfc4.size → 4 ≡ level → x / block_size difi.ivfc4 ≡ block
        → EasesFrom difi old_cell at n x (old_cell x) (new_cell x)
    zeroed_cell x below here is =
        let blank = block_before base difi master tree level block there one other zeroed marked still marks was 4 _
        here is in
        let good = block_now base difi master tree level block there one other zeroed marked still marks was 4 _ here
        is in
        let byte = zero_byte x below here is in
        subst (λ (s : BlockState). EasesFrom difi old_cell at n x (cell_in s part
        (value_of (one ((level_of difi 4).at + x)))) (new_cell x))
        (sym blank)
        (inr (shows, inl (subst (λ (b : ℕ). MeetsBlock difi at n b) (sym is) (met here), rw (good, byte) refl)))

    each_eases : (x : ℕ) → x < difi.ivfc4.size → EasesFrom difi old_cell at n x (old_cell x) (new_cell x)
    each_eases x below =
        let elsewhere : (4 ≡ level → x / block_size difi.ivfc4 ≢ block) → EasesFrom difi old_cell at n x (old_cell x)
        (new_cell x) =
        λ apart. eased_cell x _ _ _ _ (other_byte x below apart) apart
        (change 4 (x / block_size difi.ivfc4) (block_of_there difi x below)) in
        ⊎_elim
        (λ (here : 4 ≡ level).
        ⊎_elim (λ (is : x / block_size difi.ivfc4 ≡ block). zeroed_cell x below here is)
        (λ (other_block : x / block_size difi.ivfc4 ≢ block). elsewhere (λ _. other_block))
        (cases_eq (x / block_size difi.ivfc4) block))
        (λ (other_level : 4 ≢ level). elsewhere (λ here. absurd (other_level here)))
        (cases_eq 4 level)

    -- a cell that is blank was so before by the same block, or by the one that was made ready, and names a block below
    -- that
    Traces : ℕ → Type 0
    Traces x = (new_cell x ≡ old_cell x) ⊎ ((old_cell x ≡ Blank part level block)
        × ((d : ℕ) × (parent_of difi level d ≡ block) × (new_cell x ≡ Blank part (suc level) d)))

    traced : (x value later : ℕ) (old new : BlockState) → later ≡ value
        → (4 ≡ level → x / block_size difi.ivfc4 ≢ block)
        → Becomes difi level block 4 (x / block_size difi.ivfc4) old new
        → (cell_in new part later ≡ cell_in old part value) ⊎ ((cell_in old part value ≡ Blank part level block)
        × ((d : ℕ) × (parent_of difi level d ≡ block) × (cell_in new part later ≡ Blank part (suc level) d)))
    traced x value later old new same apart (Remains is) = inl (rw (is, same) refl)
    traced x value later old new same apart (TurnsGood here is was_blank good) = absurd (apart here is)
    traced x value later old new same apart (TurnsDeeper below deep under was_blank is) =
        inr (rw was_blank refl, (below, under, rw is refl))

    trace : (x : ℕ) → x < difi.ivfc4.size → IsBlank (new_cell x) → Traces x
    unfolding Traces
    trace x below blank =
        let elsewhere : (4 ≡ level → x / block_size difi.ivfc4 ≢ block) → Traces x =
        λ apart. traced x _ _ _ _ (other_byte x below apart) apart (change 4 (x / block_size difi.ivfc4)
        (block_of_there difi x below)) in
        ⊎_elim
        (λ (here : 4 ≡ level).
        ⊎_elim
        (λ (is : x / block_size difi.ivfc4 ≡ block).
        absurd (rw (block_now base difi master tree level block there one other zeroed marked still marks was 4 _ here
        is) at blank))
        (λ (other_block : x / block_size difi.ivfc4 ≢ block). elsewhere (λ _. other_block))
        (cases_eq (x / block_size difi.ivfc4) block))
        (λ (other_level : 4 ≢ level). elsewhere (λ here. absurd (other_level here)))
        (cases_eq 4 level)

    -- no cell named a block below the one that was blank
    not_below : (x d : ℕ) → parent_of difi level d ≡ block → old_cell x ≡ Blank part (suc level) d → ⊥
    not_below x d under is =
        let state = cell_name (marked_state one master difi marked 4 (x / block_size difi.ivfc4)) part _ (suc level) d
        is in
        let found = blank_by one master difi marked 4 (x / block_size difi.ivfc4) (suc level) d state in
        let good : marked_state one master difi marked level block ≡ Good =
        subst (λ (b : ℕ). marked_state one master difi marked level b ≡ Good) under (found.above level refl) in
        cc

    joined_eases : (x y : ℕ) → x < difi.ivfc4.size → y < difi.ivfc4.size → IsBlank (new_cell x) → new_cell x ≡
        new_cell y
        → old_cell x ≡ old_cell y
    unfolding Traces
    joined_eases x y in_x in_y blank same =
        ⊎_elim
        (λ (x_same : new_cell x ≡ old_cell x).
        ⊎_elim
        (λ (y_same : new_cell y ≡ old_cell y). sym x_same ∙ same ∙ y_same)
        (λ (y_deep : (old_cell y ≡ Blank part level block)
        × ((d : ℕ) × (parent_of difi level d ≡ block) × (new_cell y ≡ Blank part (suc level) d))).
        absurd (not_below x y_deep.1.0 y_deep.1.1 (sym x_same ∙ same ∙ y_deep.1.2)))
        (trace y in_y (subst IsBlank same blank)))
        (λ (x_deep : (old_cell x ≡ Blank part level block)
        × ((d : ℕ) × (parent_of difi level d ≡ block) × (new_cell x ≡ Blank part (suc level) d))).
        ⊎_elim
        (λ (y_same : new_cell y ≡ old_cell y). absurd (not_below y x_deep.1.0 x_deep.1.1
        (sym y_same ∙ sym same ∙ x_deep.1.2)))
        (λ (y_deep : (old_cell y ≡ Blank part level block)
        × ((d : ℕ) × (parent_of difi level d ≡ block) × (new_cell y ≡ Blank part (suc level) d))). x_deep.0 ∙ sym
        y_deep.0)
        (trace y in_y (subst IsBlank same blank)))
        (trace x in_x blank)

    pub zeroed_eases : Eases difi at n old_cell new_cell
    zeroed_eases = record { each = each_eases; joined = joined_eases }

  stays_under : (l c : ℕ) (old new : BlockState) → still l c ≡ false → Becomes difi level block l c old new
      → StaysUnder l old new
  stays_under l c old new free (Remains same) = StaysUnder-same l old new same
  stays_under l c old new free (TurnsGood at is was_blank good) =
      absurd (let here = marks.here in
      let freed : still level block ≡ false =
      subst (λ (m : ℕ). still m block ≡ false) at (subst (λ (b : ℕ). still l b ≡ false) is free) in
      cc)
  stays_under l c old new free (TurnsDeeper below deep under was_blank is) =
      subst (λ (s : BlockState). StaysUnder l s new) (sym was_blank) (λ own. absurd (omega (arith, own, deep)))

  -- no block that is not marked tells anything else, but those whose entries the block has
  same_told : (l c : ℕ) → HasBlock difi (suc l) c → still (suc l) c ≡ false → (l ≡ level → parent_of difi l c ≢ block)
      → TellsSame difi marked still one master other master l c
  same_told l c here free elsewhere = record {
    own = own_stays base difi master tree level block there one other zeroed (suc l) c here
        (λ at is. (let marked_here = marks.here in
        let freed : still level block ≡ false =
        subst (λ (m : ℕ). still m block ≡ false) at (subst (λ (b : ℕ). still (suc l) b ≡ false) is free) in cc))
        (λ next under. (let same : l ≡ level = omega (arith, next) in
        elsewhere same (subst (λ (m : ℕ). parent_of difi m c ≡ block) (sym same) under)));
    above = λ some before after.
        absurd (let p = parent_of difi l c in
        let same = marks.others l p elsewhere in cc);
  }

  zeroed_more : MarksMore difi marked still one master other master
  zeroed_more = record {
    more = not_before marked still (marks_grow level block marked still marks);
    unmarked = λ l c here free.
        ⊎_elim
        (λ (at : l ≡ level).
        ⊎_elim
        (λ (under : parent_of difi l c ≡ block).
        (let child : HasBlock difi (suc level) c = subst (λ (m : ℕ). HasBlock difi (suc m) c) at here in
        let below : parent_of difi level c ≡ block = subst (λ (m : ℕ). parent_of difi m c ≡ block) at under in
        let free_before : marked level block ≡ false = unmarked_blank was in
        inr (record {
          below = omega (arith, at, there.in_tree.0);
          above = rw (at, below) free_before;
          spoilt = λ good.
              (let state : marked_state one master difi marked level block ≡ Good = rw (at, below) at good in cc);
          own = rw at (own_zero base difi master tree level block there one other zeroed c child below);
        })))
        (λ (elsewhere : parent_of difi l c ≢ block). inl (same_told l c here free (λ _. elsewhere)))
        (cases_eq (parent_of difi l c) block))
        (λ (elsewhere : l ≢ level). inl (same_told l c here free (λ at. absurd (elsewhere at))))
        (cases_eq l level);
  } where
    unmarked_blank : marked_state one master difi marked level block ≡ BlankAt level block → marked level block ≡ false
    unmarked_blank is = (blank_by one master difi marked level block level block is).unmarked

  -- a block that became zero was made ready for a range that shows it
  pub zeroed_prepares : (at n : ℕ) → ((part : ℕ) → ShowsBlank (marked_cell one part master difi marked) at n part
      level block)
      → (4 ≡ level → MeetsBlock difi at n block) → Prepares master difi at n one marked other still
  zeroed_prepares at n shows met = record {
    eases = λ part. zeroed_eases part at n (shows part) met;
    stays = λ l c here free. stays_under l c _ _ free (change l c here);
    grows = marks_grow level block marked still marks;
    origins = λ was_cells was_master came.
        CameFrom-more base difi (length master) tree marked was_cells one was_master master came still other master
        zeroed_more;
  }

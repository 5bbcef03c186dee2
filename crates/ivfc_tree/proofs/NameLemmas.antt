-- The blocks above a block, and the one that a block is blank by.
use Rattle.std.proofs.Common.{◌≡◌, ◌⊎◌, ℕ, zero, suc, ◌<◌, ◌≤◌, Bool, true, false, List, length}
use Rattle.std.proofs.Common.{if◌then◌else◌, refl, sym, ◌∙◌, ap, subst, arith, inl, inr, ⊎_elim}
use Rattle.std.proofs.lemmas.Bool.{cases_Bool, cases_lt}
use Rattle.std.specs.Str.{bytes_eq}
use Rattle.sha2.specs.Sha256.{sha256}
use Rattle.save_bytes.specs.Cells.{Cell}
use Rattle.save_bytes.specs.State.{Shape}
use Rattle.difi.specs.declared.descriptor.Difi.{Difi}
use Rattle.ivfc_tree.specs.declared.path.BlockState.{BlockState}
use Rattle.ivfc_tree.specs.declared.path.BlockState.TheVariants.{Good, Blank as BlankAt, Bad as BadAt}
use Rattle.ivfc_tree.specs.Levels.{HasBlock, padded_block, hash_entry, zero_entry, parent_of}
use Rattle.ivfc_tree.specs.Paths.{block_above, own_state, after, marked_state}
use Rattle.ivfc_tree.specs.View.{HasTree}
use Rattle.ivfc_tree.specs.ViewLaws.{parent_there}
use Rattle.ivfc_tree.proofs.PathLemmas.{block_above-here, block_above-higher}

-- by itself a block is blank in its own name alone
judged_name : (level block upper at : ℕ) (none same : Bool)
    → (if none then BlankAt level block else (if same then Good else BadAt level block)) ≡ BlankAt upper at
    → (level ≡ upper) × (block ≡ at)
judged_name level block upper at true same e = (cc, cc)
judged_name level block upper at false true e = absurd (cc)
judged_name level block upper at false false e = absurd (cc)

own_name : (cells : ℕ → Cell) (master : List ℕ) (difi : Difi) (level block upper at : ℕ)
    → own_state cells master difi level block ≡ BlankAt upper at → (level ≡ upper) × (block ≡ at)
own_name cells master difi level block upper at =
    let entry = hash_entry cells master difi level block in
    judged_name level block upper at (bytes_eq entry zero_entry) (bytes_eq entry
    (sha256 (padded_block cells difi level block)))

after_blank : (above own : BlockState) (upper at : ℕ) → after above own ≡ BlankAt upper at
    → ((above ≡ Good) × (own ≡ BlankAt upper at)) ⊎ (above ≡ BlankAt upper at)
after_blank Good own upper at e = inl (refl, e)
after_blank (BlankAt level block) own upper at e = inr e
after_blank (BadAt level block) own upper at e = absurd (cc)

above_of_good : (above own : BlockState) → after above own ≡ Good → above ≡ Good
above_of_good Good own e = refl
above_of_good (BlankAt level block) own e = absurd (cc)
above_of_good (BadAt level block) own e = absurd (cc)

-- the block of a level above that has the entry of the one on the next level
pub block_above-parent : (difi : Difi) (level block upper : ℕ) → 1 ≤ upper → upper < level
    → parent_of difi upper (block_above difi level block (suc upper)) ≡ block_above difi level block upper
block_above-parent difi zero block upper some below = absurd (omega (arith, below))
block_above-parent difi (suc level) block upper some below =
    ⊎_elim
    (λ (higher : upper < level).
    rw (
      block_above-higher difi level block (suc upper) (omega (arith, higher)),
      block_above-higher difi level block upper below,
    )
    (block_above-parent difi level (parent_of difi level block) upper some higher))
    (λ (last : level ≤ upper).
    (let here : upper ≡ level = omega (arith, last, below) in
    rw (here, block_above-here difi level block, block_above-higher difi level block level (omega arith))
    (sym (block_above-itself level (parent_of difi level block) (omega (arith, here, some))))))
    (cases_lt upper level) where
      block_above-itself : (l c : ℕ) → 1 ≤ l → block_above difi l c l ≡ c
      block_above-itself zero c h = absurd (omega (arith, h))
      block_above-itself (suc l) c h = block_above-here difi l c

-- it is there
pub above_there : (base : Shape) (difi : Difi) (master_len : ℕ) → HasTree base difi master_len → (level block upper : ℕ)
    → HasBlock difi level block → 1 ≤ upper → upper ≤ level → HasBlock difi upper (block_above difi level block upper)
above_there base difi master_len tree zero block upper there some within = absurd (omega (arith, some, within))
above_there base difi master_len tree (suc level) block upper there some within =
    ⊎_elim
    (λ (higher : upper < suc level).
    (let parent = parent_there base difi master_len level block tree (omega (arith, some, higher)) there in
    rw (block_above-higher difi level block upper higher)
    (above_there base difi master_len tree level (parent_of difi level block) upper parent.parent some
    (omega (arith, higher)))))
    (λ (last : suc level ≤ upper).
    (let here : upper ≡ suc level = omega (arith, last, within) in
    rw (here, block_above-here difi level block) there))
    (cases_lt upper (suc level))

module _ (cells : ℕ → Cell) (master : List ℕ) (difi : Difi) (marked : ℕ → ℕ → Bool) where
  abbrev state : ℕ → ℕ → BlockState
  state = marked_state cells master difi marked

  pub state_marked : (level block : ℕ) → marked (suc level) block ≡ true → state (suc level) block ≡ Good
  unfolding marked_state
  state_marked level block is = rw is refl

  pub state_step : (level block : ℕ) → marked (suc level) block ≡ false
      → state (suc level) block ≡ after (state level (parent_of difi level block))
      (own_state cells master difi (suc level) block)
  unfolding marked_state
  state_step level block is = rw is refl

  pub state_top : (block : ℕ) → state zero block ≡ Good
  unfolding marked_state
  state_top block = refl

  -- a block that is blank is so by an unmarked block on its path, above which the path holds
  pub record IsBlankBy (level block upper at : ℕ) : Type 0 where
    pub some : 1 ≤ upper
    pub within : upper ≤ level
    pub there : at ≡ block_above difi level block upper
    pub unmarked : marked upper at ≡ false
    pub itself : state upper at ≡ BlankAt upper at
    pub above : (higher : ℕ) → suc higher ≡ upper → state higher (parent_of difi higher at) ≡ Good

  pub blank_by : (level block upper at : ℕ) → state level block ≡ BlankAt upper at → IsBlankBy level block upper at
  blank_by zero block upper at is = absurd (let top = state_top block in cc)
  blank_by (suc level) block upper at is =
      ⊎_elim
      (λ (yes : marked (suc level) block ≡ true). absurd (let good = state_marked level block yes in cc))
      (λ (no : marked (suc level) block ≡ false).
      (let own = own_state cells master difi (suc level) block in
      let step = state_step level block no in
      ⊎_elim
      (λ (here : (state level (parent_of difi level block) ≡ Good) × (own ≡ BlankAt upper at)).
      (let name = own_name cells master difi (suc level) block upper at here.1 in
      subst (λ (u : ℕ). IsBlankBy (suc level) block u at) name.0
      (subst (λ (b : ℕ). IsBlankBy (suc level) block (suc level) b) name.1
      (record {
        some = omega arith;
        within = omega arith;
        there = sym (block_above-here difi level block);
        unmarked = no;
        itself = is ∙ sym (ap (λ (u : ℕ). BlankAt u at) name.0) ∙ sym (ap (λ (b : ℕ). BlankAt (suc level) b) name.1);
        above = λ higher next. (let same : higher ≡ level = omega (arith, next) in rw same here.0);
      }))))
      (λ (above : state level (parent_of difi level block) ≡ BlankAt upper at).
      (let found = blank_by level (parent_of difi level block) upper at above in
      record {
        some = found.some;
        within = omega (arith, found.within);
        there = found.there ∙ sym (block_above-higher difi level block upper (omega (arith, found.within)));
        unmarked = found.unmarked;
        itself = found.itself;
        above = found.above;
      }))
      (after_blank (state level (parent_of difi level block)) own upper at (sym step ∙ is))))
      (cases_Bool (marked (suc level) block))

-- a marked block is good, by its own level
pub marked_here : (cells : ℕ → Cell) (master : List ℕ) (difi : Difi) (marked : ℕ → ℕ → Bool) (level block : ℕ) → 1 ≤
    level
    → marked level block ≡ true → marked_state cells master difi marked level block ≡ Good
marked_here cells master difi marked zero block some is = absurd (omega (arith, some))
marked_here cells master difi marked (suc level) block some is = state_marked cells master difi marked level block is

module _ (base : Shape) (difi : Difi) (master : List ℕ) (tree : HasTree base difi (length master)) (cells : ℕ → Cell)
    (marked : ℕ → ℕ → Bool)
    (closed : (upper block : ℕ) → 1 ≤ upper → HasBlock difi (suc upper) block → marked (suc upper) block ≡ true
    → marked upper (parent_of difi upper block) ≡ true) where
  -- above a block whose path holds all paths do
  above_good : (level block : ℕ) → 1 ≤ level → HasBlock difi (suc level) block → marked_state cells master difi marked
      (suc level) block ≡ Good
      → marked_state cells master difi marked level (parent_of difi level block) ≡ Good
  above_good zero block some there good = absurd (omega (arith, some))
  above_good (suc level) block some there good =
      ⊎_elim
      (λ (yes : marked (suc (suc level)) block ≡ true).
      state_marked cells master difi marked level (parent_of difi (suc level) block)
      (closed (suc level) block some there yes))
      (λ (no : marked (suc (suc level)) block ≡ false).
      above_of_good _ (own_state cells master difi (suc (suc level)) block)
      (sym (state_step cells master difi marked (suc level) block no) ∙ good))
      (cases_Bool (marked (suc (suc level)) block))

  pub path_good : (level block upper : ℕ) → HasBlock difi level block → marked_state cells master difi marked level
      block ≡ Good
      → 1 ≤ upper → upper ≤ level → marked_state cells master difi marked upper (block_above difi level block upper) ≡
      Good
  path_good zero block upper there good some within = absurd (omega (arith, some, within))
  path_good (suc level) block upper there good some within =
      ⊎_elim
      (λ (higher : upper < suc level).
      (let deep : 1 ≤ level = omega (arith, some, higher) in
      let parent = parent_there base difi (length master) level block tree deep there in
      rw (block_above-higher difi level block upper higher)
      (path_good level (parent_of difi level block) upper parent.parent (above_good level block deep there good) some
      (omega (arith, higher)))))
      (λ (last : suc level ≤ upper).
      (let here : upper ≡ suc level = omega (arith, last, within) in
      rw (here, block_above-here difi level block) good))
      (cases_lt upper (suc level))

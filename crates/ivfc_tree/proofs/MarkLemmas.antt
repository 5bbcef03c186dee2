-- A mark that is set.
use Rattle.std.proofs.Common.{◌≡◌, ◌≢◌, ℕ, ◌<◌, length, set, refl, ◌∙◌, ⊎_elim, get_or-set_same, get_or-set_other}
use Rattle.std.proofs.lemmas.Bool.{cases_eq, ne_eqb}
use Rattle.std.proofs.lemmas.List.{length-set}
use Rattle.difi.specs.declared.descriptor.Difi.{Difi}
use Rattle.difi.specs.Places.{blocks_of}
use Rattle.ivfc_tree.specs.declared.marks.BlockMark.{BlockMark}
use Rattle.ivfc_tree.specs.declared.marks.BlockMark.TheVariants.{Unknown}
use Rattle.ivfc_tree.specs.declared.marks.Marks.{Marks}
use Rattle.ivfc_tree.specs.declared.state.IvfcState.{IvfcState}
use Rattle.ivfc_tree.specs.Levels.{level_of, HasBlock}
use Rattle.ivfc_tree.specs.Marks.{level_marks, mark_in, IsMadeFor, IsSet}
use Rattle.ivfc_tree.specs.ViewLaws.{by_level, level4_size, level4_log}

-- where one level's marks are those of before with one set, and the other levels' are those of before
module _ (level block : ℕ) (mark : BlockMark) (old new : Marks) (inside : block < length (level_marks old level))
    (is : level_marks new level ≡ set (level_marks old level) block mark)
    (same : (l : ℕ) → l ≢ level → level_marks new l ≡ level_marks old l) where
  set_others : (l b : ℕ) → (l ≡ level → b ≡ block → ⊥) → mark_in new l b ≡ mark_in old l b
  unfolding mark_in
  set_others l b other =
      ⊎_elim
      (λ (here : l ≡ level).
      rw (here, is) (get_or-set_other (level_marks old level) block b mark Unknown (other here)))
      (λ (there : l ≢ level). rw (same l there) refl)
      (cases_eq l level)

  set_many : (l : ℕ) → length (level_marks new l) ≡ length (level_marks old l)
  set_many l =
      ⊎_elim
      (λ (here : l ≡ level). rw (here, is) (length-set (level_marks old level) block mark))
      (λ (there : l ≢ level). rw (same l there) refl)
      (cases_eq l level)

  pub mark_set : IsSet level block mark old new
  unfolding mark_in
  mark_set = record {
    here = rw is (get_or-set_same (level_marks old level) block mark Unknown inside);
    others = set_others;
    many = set_many;
  }

-- where level 1's changed, and so on
module _ (old new : Marks) where
  pub others1 : new.level2 ≡ old.level2 → new.level3 ≡ old.level3 → new.level4 ≡ old.level4
      → (l : ℕ) → l ≢ 1 → level_marks new l ≡ level_marks old l
  others1 two three four l other = rw (ne_eqb l 1 other, two, three, four) refl

  pub others2 : new.level1 ≡ old.level1 → new.level3 ≡ old.level3 → new.level4 ≡ old.level4
      → (l : ℕ) → l ≢ 2 → level_marks new l ≡ level_marks old l
  others2 one three four l other = rw (ne_eqb l 2 other, one, three, four) refl

  pub others3 : new.level1 ≡ old.level1 → new.level2 ≡ old.level2 → new.level4 ≡ old.level4
      → (l : ℕ) → l ≢ 3 → level_marks new l ≡ level_marks old l
  others3 one two four l other = rw (ne_eqb l 3 other, one, two, four) refl

  pub others4 : new.level1 ≡ old.level1 → new.level2 ≡ old.level2 → new.level3 ≡ old.level3
      → (l : ℕ) → l ≢ 4 → level_marks new l ≡ level_marks old l
  others4 one two three l other = rw (ne_eqb l 4 other, one, two, three) refl

-- a state has a mark for each block of the tree that it was made for
pub mark_there : (difi : Difi) (state : IvfcState) (level block : ℕ) → IsMadeFor difi state → HasBlock difi level block
    → block < length (level_marks state.marks level)
unfolding level_of
mark_there difi state level block made there =
    let many = by_level (λ level. length (level_marks state.marks level) ≡ blocks_of (level_of difi level))
    made.marks1 made.marks2
    made.marks3
    (made.marks4 ∙ rw (level4_size difi, level4_log difi) refl)
    level there.in_tree in
    rw many there.in_level

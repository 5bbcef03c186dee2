-- The path of a block of level four, one level of it made ready after another.
use Rattle.std.proofs.Common.{◌≡◌, ℕ, suc, ◌+◌, ◌<◌, ◌≤◌, Bool, true, false, List, length}
use Rattle.std.proofs.Common.{refl, ◌∙◌, ap, subst, arith, ⊎_elim}
use Rattle.std.proofs.lemmas.Bool.{cases_lt}
use Rattle.save_bytes.specs.Cells.{Cell, Blank}
use Rattle.save_bytes.specs.CellNumbers.{value_of}
use Rattle.save_bytes.specs.State.{Shape}
use Rattle.difi.specs.declared.descriptor.Difi.{Difi}
use Rattle.ivfc_tree.specs.declared.path.BlockState.{BlockState}
use Rattle.ivfc_tree.specs.declared.path.BlockState.TheVariants.{Good, Blank as BlankAt}
use Rattle.ivfc_tree.specs.Levels.{level_of, HasBlock}
use Rattle.ivfc_tree.specs.Paths.{block_above, marked_state, cell_in}
use Rattle.ivfc_tree.specs.View.{HasTree}
use Rattle.ivfc_tree.specs.ViewLaws.{state-same}
use Rattle.ivfc_tree.specs.Eases.{MeetsBlock, Prepares, IsGoodTo, ReadiesBlock}
use Rattle.ivfc_tree.proofs.PathLemmas.{block_above-here}
use Rattle.ivfc_tree.proofs.NameLemmas.{above_there, IsBlankBy, blank_by}
use Rattle.ivfc_tree.proofs.BecomesLemmas.{Becomes, Remains, TurnsGood, TurnsDeeper, block_now, becomes}
use Rattle.ivfc_tree.proofs.ReadyLemmas.{marks_grow, good_keeps, prepares_same, zeroed_prepares}

good_stays : {difi : Difi} {level block l c : ℕ} {old new : BlockState} → Becomes difi level block l c old new → old ≡
    Good → new ≡ Good
good_stays (Remains same) good = same ∙ good
good_stays (TurnsGood at is was now) good = now
good_stays (TurnsDeeper below deep under was now) good = absurd (cc)

module _ (base : Shape) (difi : Difi) (master : List ℕ) (tree : HasTree base difi (length master)) (block : ℕ)
    (there : HasBlock difi 4 block) (one other : ℕ → Cell) (marked still : ℕ → ℕ → Bool) (last level : ℕ)
    (deepest : last ≤ 4)
    (some : 1 ≤ level) (within : level ≤ last) where
  abbrev here : ℕ
  here = block_above difi 4 block level

  here_there : HasBlock difi level here
  here_there = above_there base difi (length master) tree 4 block level there some (omega (arith, within, deepest))

  -- a block of the path is good: it is marked, and nothing else changes
  module _ (from : ℕ) (below : level < from) (good_to : IsGoodTo one master difi marked block last from)
      (readied : ReadiesBlock base.size difi level here false one marked other still) where
    good_same : (l c : ℕ) → HasBlock difi l c → marked_state other master difi still l c ≡ marked_state one master
        difi marked l c
    good_same l c here_c =
        state-same base difi master tree other one (readied.same refl) still still (λ m b. refl) l c here_c
        ∙ good_keeps one master difi level here marked still readied.marks (good_to.good level some below within) l c

    pub good_step : IsGoodTo other master difi still block last from
    good_step = record {
      some = good_to.some;
      good = λ l least less deep. good_same l _ (above_there base difi (length master) tree 4 block l there least
          (omega (arith, deep, deepest))) ∙ good_to.good l least less deep;
      blank = λ deep. good_same 4 block there ∙ good_to.blank deep;
    }

    pub good_prepares : (at n : ℕ) → Prepares master difi at n one marked other still
    good_prepares at n = prepares_same base difi master tree at n one other marked still good_same (readied.same refl)
        (marks_grow level here marked still readied.marks)

  -- or it is blank: it is marked, and zero
  module _ (good_to : IsGoodTo one master difi marked block last level)
      (readied : ReadiesBlock base.size difi level here true one marked other still) where
    found : IsBlankBy one master difi marked 4 block level here
    found = blank_by one master difi marked 4 block level here (good_to.blank within)

    was_blank : marked_state one master difi marked level here ≡ BlankAt level here
    was_blank = found.itself

    change : (l c : ℕ) → HasBlock difi l c
        → Becomes difi level here l c (marked_state one master difi marked l c)
        (marked_state other master difi still l c)
    change l c here_c = becomes base difi master tree level here here_there one other
        (readied.zeroed found.unmarked refl) marked still readied.marks
        was_blank l c (λ _. here_c)

    next_blank : suc level ≤ 4 → (old new : BlockState) → marked_state other master difi still 4 block ≡ new
        → old ≡ BlankAt level here → Becomes difi level here 4 block old new → new ≡ BlankAt (suc level)
        (block_above difi 4 block (suc level))
    next_blank deep old new now was (Remains same) =
        absurd (let marked_here = readied.marks.here in
        let free = (blank_by other master difi still 4 block level here (now ∙ same ∙ was)).unmarked in cc)
    next_blank deep old new now was (TurnsGood at is was_here good) = absurd (omega (arith, at, deep))
    next_blank deep old new now was (TurnsDeeper below deeper under was_here is) =
        is ∙ ap (λ (b : ℕ). BlankAt (suc level) b) (blank_by other master difi still 4 block (suc level) below
        (now ∙ is)).there

    pub blank_step : IsGoodTo other master difi still block last (suc level)
    blank_step = record {
      some = omega arith;
      good = λ l least less deep.
          ⊎_elim
          (λ (above : l < level).
          good_stays (change l _ (above_there base difi (length master) tree 4 block l there least
          (omega (arith, deep, deepest)))) (good_to.good l least above deep))
          (λ (last : level ≤ l).
          (let same : l ≡ level = omega (arith, last, less) in
          block_now base difi master tree level here here_there one other (readied.zeroed found.unmarked refl) marked
          still readied.marks
          was_blank l (block_above difi 4 block l) same (ap (λ (m : ℕ). block_above difi 4 block m) same)))
          (cases_lt l level);
      blank = λ deep. next_blank (omega (arith, deep, deepest)) _ _ refl (good_to.blank within) (change 4 block there);
    }

    pub blank_prepares : (at n : ℕ) → MeetsBlock difi at n block → Prepares master difi at n one marked other still
    blank_prepares at n (k, less, is) =
        zeroed_prepares base difi master tree level here here_there one other (readied.zeroed found.unmarked refl)
        marked still readied.marks
        was_blank at n
        (λ part. (
          k,
          less,
          subst (λ (b : ℕ). cell_in (marked_state one master difi marked 4 b) part
              (value_of (one ((level_of difi 4).at + (at + k)))) ≡ Blank part level here) is
              (rw (good_to.blank within) refl),
        ))
        (λ last. (k, less, rw (← last, block_above-here difi 3 block) is))

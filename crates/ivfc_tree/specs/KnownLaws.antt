-- The test on what is remembered, as facts.
use Rattle.std.proofs.Common.{◌≡◌, ℕ, zero, suc, ◌<◌, ◌≤◌, Bool, true, false, List, refl, arith, ⊎_elim}
use Rattle.std.proofs.lemmas.Bool.{and_parts, and_from, eq-eqb, eqb-true, cases_lt, cases_Bool}
use Rattle.save_bytes.specs.Cells.{Cell}
use Rattle.difi.specs.declared.descriptor.Difi.{Difi}
use Rattle.difi.specs.Places.{blocks_of}
use Rattle.ivfc_tree.specs.declared.marks.BlockMark.{BlockMark}
use Rattle.ivfc_tree.specs.declared.marks.BlockMark.TheVariants.{Unknown, Put, KnownGood, KnownBlank, KnownBad}
use Rattle.ivfc_tree.specs.declared.path.BlockState.{BlockState}
use Rattle.ivfc_tree.specs.declared.path.BlockState.TheVariants.{Good, Blank as BlankAt, Bad as BadAt}
use Rattle.ivfc_tree.specs.declared.state.IvfcState.{IvfcState}
use Rattle.ivfc_tree.specs.Levels.{IsLevel, level_of, HasBlock, parent_of}
use Rattle.ivfc_tree.specs.Marks.{mark_at, is_marked}
use Rattle.ivfc_tree.specs.Known.{HasMarkedParents, Agrees, Remembers, passes_below, same_path, agrees_with}
use Rattle.ivfc_tree.specs.Known.{is_covered, is_right, remembers}
use Rattle.ivfc_tree.specs.ViewLaws.{by_level}

-- a number below the bound passes
passes_below-at : (test : ℕ → Bool) (n x : ℕ) → passes_below test n ≡ true → x < n → test x ≡ true
unfolding passes_below
passes_below-at test zero x all below = absurd (omega (arith, below))
passes_below-at test (suc n) x all below =
    let both = and_parts _ _ all in
    ⊎_elim (λ (lower : x < n). passes_below-at test n x both.1 lower)
    (λ (top : n ≤ x). let same : x ≡ n = omega (arith, below, top) in rw same both.0)
    (cases_lt x n)

passes_below-all : (test : ℕ → Bool) (n : ℕ) → ((x : ℕ) → x < n → test x ≡ true) → passes_below test n ≡ true
unfolding passes_below
passes_below-all test zero each = refl
passes_below-all test (suc n) each =
    and_from _ _ (each n (omega arith)) (passes_below-all test n (λ x below. each x (omega (arith, below))))

-- two states are the same
same_path-is : (found other : BlockState) → same_path found other ≡ true → found ≡ other
same_path-is Good Good h = refl
same_path-is Good (BlankAt upper at) h = absurd (cc)
same_path-is Good (BadAt upper at) h = absurd (cc)
same_path-is (BlankAt level block) Good h = absurd (cc)
same_path-is (BlankAt level block) (BlankAt upper at) h =
    let both = and_parts _ _ h in
    rw (eqb-true level upper both.0, eqb-true block at both.1) refl
same_path-is (BlankAt level block) (BadAt upper at) h = absurd (cc)
same_path-is (BadAt level block) Good h = absurd (cc)
same_path-is (BadAt level block) (BlankAt upper at) h = absurd (cc)
same_path-is (BadAt level block) (BadAt upper at) h =
    let both = and_parts _ _ h in
    rw (eqb-true level upper both.0, eqb-true block at both.1) refl

is-same_path : (found : BlockState) → same_path found found ≡ true
is-same_path Good = refl
is-same_path (BlankAt level block) = and_from _ _ (eq-eqb level level refl) (eq-eqb block block refl)
is-same_path (BadAt level block) = and_from _ _ (eq-eqb level level refl) (eq-eqb block block refl)

agrees_from : (mark : BlockMark) (level block : ℕ) (found : BlockState) → agrees_with mark level block found ≡ true
    → Agrees mark level block found
agrees_from Unknown level block found h = tt
agrees_from Put level block found h = tt
agrees_from KnownGood level block found h = same_path-is found Good h
agrees_from KnownBlank level block found h = same_path-is found (BlankAt level block) h
agrees_from KnownBad level block found h = same_path-is found (BadAt level block) h

agrees_to : (mark : BlockMark) (level block : ℕ) (found : BlockState) → Agrees mark level block found
    → agrees_with mark level block found ≡ true
agrees_to Unknown level block found h = refl
agrees_to Put level block found h = refl
agrees_to KnownGood level block found h = rw h refl
agrees_to KnownBlank level block found h = rw h (is-same_path (BlankAt level block))
agrees_to KnownBad level block found h = rw h (is-same_path (BadAt level block))

module _ (cells : ℕ → Cell) (master : List ℕ) (difi : Difi) (state : IvfcState) where
  abbrev right : ℕ → ℕ → Bool
  right = is_right cells master difi state

  abbrev all_right : ℕ → Type 0
  all_right level = passes_below (right level) (blocks_of (level_of difi level)) ≡ true

  each_right : remembers cells master difi state ≡ true → (level : ℕ) → IsLevel level → all_right level
  unfolding remembers
  each_right h =
      let first = and_parts _ _ h in
      let second = and_parts _ _ first.1 in
      let third = and_parts _ _ second.1 in
      by_level all_right first.0 second.0 third.0 third.1

  covered_from : (upper block : ℕ) → 1 ≤ upper → is_covered difi state (suc upper) block ≡ true
      → is_marked state (suc upper) block ≡ true
      → is_marked state upper (parent_of difi upper block) ≡ true
  covered_from zero block some h marked = absurd (omega (arith, some))
  covered_from (suc upper) block some h marked = rw marked at h

  pub true-remembers : remembers cells master difi state ≡ true → Remembers cells master difi state
  true-remembers h =
      let at : (level block : ℕ) → HasBlock difi level block → right level block ≡ true =
      λ level block there. passes_below-at (right level) _ block (each_right h level there.in_tree) there.in_level in
      record {
        closed = λ upper block some there marked.
            covered_from upper block some (and_parts _ _ (at (suc upper) block there)).0 marked;
        agrees = λ level block there. agrees_from (mark_at state level block) level block _
            (and_parts _ _ (at level block there)).1;
      }

  covered_to : HasMarkedParents difi state → (level block : ℕ) → HasBlock difi level block
      → is_covered difi state level block ≡ true
  covered_to closed zero block there = refl
  covered_to closed (suc zero) block there = refl
  covered_to closed (suc (suc upper)) block there =
      ⊎_elim
      (λ (marked : is_marked state (suc (suc upper)) block ≡ true).
      rw marked (closed (suc upper) block (omega arith) there marked))
      (λ (not : is_marked state (suc (suc upper)) block ≡ false). rw not refl)
      (cases_Bool (is_marked state (suc (suc upper)) block))

  pub remembers-true : Remembers cells master difi state → remembers cells master difi state ≡ true
  unfolding remembers
  remembers-true h =
      let all : (level : ℕ) → IsLevel level → all_right level = λ level here. passes_below-all (right level) _
      (λ block below. let there : HasBlock difi level block = record { in_tree = here; in_level = below } in
      and_from _ _ (covered_to h.closed level block there)
      (agrees_to (mark_at state level block) level block _ (h.agrees level block there))) in
      and_from _ _ (all 1 (omega arith, omega arith))
      (and_from _ _ (all 2 (omega arith, omega arith))
      (and_from _ _ (all 3 (omega arith, omega arith)) (all 4 (omega arith, omega arith))))

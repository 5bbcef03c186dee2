-- Where a path begins to be blank, and what is remembered once blocks were made ready.
use Rattle.std.proofs.Common.{◌≡◌, ◌⊎◌, ℕ, zero, suc, ◌+◌, ◌-◌, ◌*◌, ◌/◌, ◌<◌, ◌≤◌, Bool, true, false, List, length}
use Rattle.std.proofs.Common.{refl, sym, ◌∙◌, ap, subst, arith, inl, inr, ⊎_elim}
use Rattle.std.proofs.lemmas.Bool.{cases_Bool, cases_lt}
use Rattle.std.proofs.lemmas.Nat.{shl-shr}
use Rattle.save_bytes.specs.Cells.{Cell}
use Rattle.save_bytes.specs.State.{Shape}
use Rattle.difi.specs.declared.descriptor.Difi.{Difi}
use Rattle.difi.specs.Places.{block_size}
use Rattle.difi.proofs.PlaceLemmas.{block_begins}
use Rattle.ivfc_tree.specs.declared.marks.BlockMark.{BlockMark}
use Rattle.ivfc_tree.specs.declared.marks.BlockMark.TheVariants.{Unknown, Put, KnownGood, KnownBlank, KnownBad}
use Rattle.ivfc_tree.specs.declared.path.BlockState.{BlockState}
use Rattle.ivfc_tree.specs.declared.path.BlockState.TheVariants.{Good, Blank as BlankAt, Bad as BadAt}
use Rattle.ivfc_tree.specs.declared.state.IvfcState.{IvfcState}
use Rattle.ivfc_tree.specs.Levels.{IsLevel, HasBlock, parent_of}
use Rattle.ivfc_tree.specs.Marks.{mark_at, is_put, is_marked, SameMarks}
use Rattle.ivfc_tree.specs.Paths.{block_above, marked_state, block_state}
use Rattle.ivfc_tree.specs.Known.{HasMarkedParents, Agrees, Remembers}
use Rattle.ivfc_tree.specs.View.{HasTree}
use Rattle.ivfc_tree.specs.ViewLaws.{level4_size, level4_log, parent_there, state-same}
use Rattle.ivfc_tree.specs.Eases.{MeetsBlock, StaysUnder, Prepares, IsGoodTo}
use Rattle.ivfc_tree.specs.Readies.{IsUnspoiltPath, IsBlankFrom, IsInPath, PutsPath, ReadiesPath}
use Rattle.ivfc_tree.proofs.ReadyLemmas.{Prepares-join, prepares_same}
use Rattle.ivfc_tree.proofs.PathLemmas.{block_above-here, block_above-higher}
use Rattle.ivfc_tree.proofs.NameLemmas.{marked_here, block_above-parent, above_there, state_step, blank_by, path_good}

-- the block above one that is above a block is above that
pub block_above-above : (difi : Difi) (level block mid upper : ℕ) → upper ≤ mid → mid ≤ level
    → block_above difi mid (block_above difi level block mid) upper ≡ block_above difi level block upper
unfolding block_above
block_above-above difi zero block mid upper low high =
    let none : mid ≡ zero = omega (arith, high) in rw none refl
block_above-above difi (suc level) block mid upper low high =
    ⊎_elim
    (λ (higher : mid < suc level).
    rw (
      block_above-higher difi level block mid higher,
      block_above-higher difi level block upper
          (omega (arith, low, higher)),
    )
    (block_above-above difi level (parent_of difi level block) mid upper low (omega (arith, higher))))
    (λ (last : suc level ≤ mid).
    (let here : mid ≡ suc level = omega (arith, last, high) in
    subst (λ (m : ℕ). block_above difi m (block_above difi (suc level) block m) upper ≡ block_above difi (suc level)
    block upper) (sym here)
    (ap (λ (b : ℕ). block_above difi (suc level) b upper) (block_above-here difi level block))))
    (cases_lt mid (suc level))

module _ (base : Shape) (difi : Difi) (master : List ℕ) (tree : HasTree base difi (length master)) (cells : ℕ → Cell)
    (marked : ℕ → ℕ → Bool)
    (closed : (upper block : ℕ) → 1 ≤ upper → HasBlock difi (suc upper) block → marked (suc upper) block ≡ true
    → marked upper (parent_of difi upper block) ≡ true) where
  -- below a block that is blank all are blank by the same
  blank_down : (level block upper l b : ℕ) → HasBlock difi level block → 1 ≤ upper → upper ≤ level
      → marked_state cells master difi marked upper (block_above difi level block upper) ≡ BlankAt l b
      → marked_state cells master difi marked level block ≡ BlankAt l b
  blank_down zero block upper l b there some within is = absurd (omega (arith, some, within))
  blank_down (suc level) block upper l b there some within is =
      ⊎_elim
      (λ (higher : upper < suc level).
      (let deep : 1 ≤ level = omega (arith, some, higher) in
      let p = parent_of difi level block in
      let parent = parent_there base difi (length master) level block tree deep there in
      let above = blank_down level p upper l b parent.parent some (omega (arith, higher))
      (rw (block_above-higher difi level block upper higher) at is) in
      ⊎_elim
      (λ (is_marked : marked (suc level) block ≡ true).
      absurd (let good = marked_here cells master difi marked level p deep
      (closed level block deep there is_marked) in cc))
      (λ (free : marked (suc level) block ≡ false). rw (state_step cells master difi marked level block free, above)
      refl)
      (cases_Bool (marked (suc level) block))))
      (λ (last : suc level ≤ upper).
      (let here : upper ≡ suc level = omega (arith, last, within) in
      rw (here, block_above-here difi level block) at is))
      (cases_lt upper (suc level))

  module _ (block : ℕ) (there : HasBlock difi 4 block) (last from : ℕ) (some_last : 1 ≤ last) (deepest : last ≤ 4) where
    -- a path as it is found is good to where it was found to be blank
    pub good_start : (s : BlockState) → marked_state cells master difi marked last (block_above difi 4 block last) ≡ s
        → IsUnspoiltPath s → IsBlankFrom s from → IsGoodTo cells master difi marked block last from
    good_start Good is unspoilt behind = record {
      some = omega (arith, behind);
      good = λ level some below within.
          rw (← block_above-above difi 4 block last level within deepest)
          (path_good base difi master tree cells marked closed last (block_above difi 4 block last) level
          (above_there base difi (length master) tree 4 block last there some_last deepest) is some within);
      blank = λ within. absurd (omega (arith, within, behind, deepest));
    }
    good_start (BlankAt l b) is unspoilt behind =
        let found = blank_by cells master difi marked last (block_above difi 4 block last) l b is in
        let name : b ≡ block_above difi 4 block l = found.there ∙ block_above-above difi 4 block last l found.within
        deepest in
        record {
          some = omega (arith, behind, found.some);
          good = λ level some below within.
              (let higher : ℕ = l - 1 in
              let next : suc higher ≡ l = omega (arith, found.some) in
              let least : 1 ≤ higher = omega (arith, some, below, behind) in
              let top : higher < 4 = omega (arith, found.some, found.within, deepest) in
              let up : parent_of difi higher b ≡ block_above difi 4 block higher =
              ap (λ (n : ℕ). parent_of difi higher n) (name ∙ ap (λ (n : ℕ). block_above difi 4 block n) (sym next))
              ∙ block_above-parent difi 4 block higher least top in
              let good = rw up at (found.above higher next) in
              rw (← block_above-above difi 4 block higher level (omega (arith, below, behind)) (omega (arith, top)))
              (path_good base difi master tree cells marked closed higher (block_above difi 4 block higher) level
              (above_there base difi (length master) tree 4 block higher there least (omega (arith, top))) good some
              (omega (arith, below, behind))));
          blank = λ within.
              blank_down 4 block last l b there some_last deepest is
              ∙ ap (λ (n : ℕ). BlankAt l n) name
              ∙ sym (ap (λ (m : ℕ). BlankAt m (block_above difi 4 block m)) behind);
        }
    good_start (BadAt l b) is unspoilt behind = absurd unspoilt

-- what a mark says stays true of a block that comes to the same
agrees_after : (mark : BlockMark) (level block : ℕ) (old new : BlockState)
    → (is_put mark ≡ false → StaysUnder level old new)
    → Agrees mark level block old → Agrees mark level block new
agrees_after Unknown level block old new stays agrees = tt
agrees_after Put level block old new stays agrees = tt
agrees_after KnownGood level block old new stays agrees = subst (λ (s : BlockState). StaysUnder level s new) agrees
    (stays refl)
agrees_after KnownBlank level block old new stays agrees = subst (λ (s : BlockState). StaysUnder level s new) agrees
    (stays refl) refl
agrees_after KnownBad level block old new stays agrees = subst (λ (s : BlockState). StaysUnder level s new) agrees
    (stays refl)

pub remembers_after : (master : List ℕ) (difi : Difi) (old new : ℕ → Cell) (was now : IvfcState) → HasMarkedParents
    difi now
    → ((level block : ℕ) → (mark_at now level block ≡ mark_at was level block) ⊎ (mark_at now level block ≡ Put))
    → ((level block : ℕ) → HasBlock difi level block → is_marked now level block ≡ false
    → StaysUnder level (block_state old master difi was level block) (block_state new master difi now level block))
    → Remembers old master difi was → Remembers new master difi now
remembers_after master difi old new was now closed marks stays before = record {
  closed = closed;
  agrees = λ level block there.
      ⊎_elim
      (λ (same : mark_at now level block ≡ mark_at was level block).
      subst (λ (m : BlockMark). Agrees m level block (block_state new master difi now level block)) (sym same)
      (agrees_after (mark_at was level block) level block (block_state old master difi was level block)
      (block_state new master difi now level block)
      (λ free. stays level block there (ap is_put same ∙ free)) (before.agrees level block there)))
      (λ (put : mark_at now level block ≡ Put).
      subst (λ (m : BlockMark). Agrees m level block (block_state new master difi now level block)) (sym put) tt)
      (marks level block);
}

-- the marks of a path that was made ready go up to the top
pub path_closed : (difi : Difi) (block last : ℕ) (was now : IvfcState) → last ≤ 4 → PutsPath difi block last was now
    → ((level : ℕ) → 1 ≤ level → level ≤ last → is_marked now level (block_above difi 4 block level) ≡ true)
    → HasMarkedParents difi was → ((level other : ℕ) → is_marked was level other ≡ true → is_marked now level other ≡
    true)
    → HasMarkedParents difi now
path_closed difi block last was now deepest puts marked closed grows upper other some there is =
    ⊎_elim
    (λ (same : mark_at now (suc upper) other ≡ mark_at was (suc upper) other).
    grows upper (parent_of difi upper other) (closed upper other some there (sym (ap is_put same) ∙ is)))
    (λ (put : (mark_at now (suc upper) other ≡ Put) × ((1 ≤ suc upper) × (suc upper ≤ 4)) × (suc upper ≤ last)
    × IsInPath difi block (suc upper) other).
    (let up : parent_of difi upper other ≡ block_above difi 4 block upper =
    ap (λ (n : ℕ). parent_of difi upper n) put.3 ∙ block_above-parent difi 4 block upper some
    (omega (arith, put.2, deepest)) in
    rw up (marked upper some (omega (arith, put.2)))))
    (puts.each (suc upper) other)

-- and no block is freed
pub path_grows : (difi : Difi) (block last : ℕ) (was now : IvfcState) → PutsPath difi block last was now
    → (level other : ℕ)
    → is_marked was level other ≡ true → is_marked now level other ≡ true
path_grows difi block last was now puts level other is =
    ⊎_elim
    (λ (same : mark_at now level other ≡ mark_at was level other). ap is_put same ∙ is)
    (λ (put : (mark_at now level other ≡ Put) × ((1 ≤ level) × (level ≤ 4)) × (level ≤ last) × IsInPath difi block
    level other). ap is_put put.0)
    (puts.each level other)

-- where the block of a place of level four begins, that meets the block alone
record IsMetAlone (difi : Difi) (block : ℕ) : Type 0 where
  fits : block * block_size difi.ivfc4 + 1 ≤ difi.ivfc4.size
  met : MeetsBlock difi (block * block_size difi.ivfc4) 1 block

met_alone : (difi : Difi) (block : ℕ) → HasBlock difi 4 block → IsMetAlone difi block
met_alone difi block there =
    let below = rw (level4_size, level4_log) at there.in_level in
    let plain : block * block_size difi.ivfc4 + 0 ≡ block * block_size difi.ivfc4 = omega arith in
    record {
      fits = omega (arith, block_begins block difi.ivfc4.size difi.ivfc4.log below);
      met = (0, omega arith, sym (ap (λ (n : ℕ). n / block_size difi.ivfc4) plain ∙ shl-shr block difi.ivfc4.log));
    }

module _ (base : Shape) (difi : Difi) (master : List ℕ) (tree : HasTree base difi (length master)) (block : ℕ)
    (there : HasBlock difi 4 block) (last : ℕ) (deepest : last ≤ 4) (old mid new : ℕ → Cell)
    (same : (x : ℕ) → x < base.size → mid x ≡ old x) (was looked now : IvfcState) (marks : SameMarks was looked) where
  -- the path was made ready behind a look at it
  pub path_ready : Remembers mid master difi looked → PutsPath difi block last looked now
      → ((level : ℕ) → 1 ≤ level → level ≤ last → is_marked now level (block_above difi 4 block level) ≡ true)
      → ((at n : ℕ) → at + n ≤ difi.ivfc4.size → MeetsBlock difi at n block
      → Prepares master difi at n mid (is_marked looked) new (is_marked now))
      → ReadiesPath master difi block last old was new now
  path_ready known puts marked readied =
      let look : (at n : ℕ) → Prepares master difi at n old (is_marked was) mid (is_marked looked) =
      λ at n. prepares_same base difi master tree at n old mid (is_marked was) (is_marked looked)
      (λ level other here. state-same base difi master tree mid old same (is_marked looked) (is_marked was) marks
      level other here) same
      (λ level other is. marks level other ∙ is) in
      let alone = met_alone difi block there in
      let one = readied (block * block_size difi.ivfc4) 1 alone.fits alone.met in
      let closed = path_closed difi block last looked now deepest puts marked known.closed
      (path_grows difi block last looked now puts) in
      record {
        prepares = λ at n fits met. Prepares-join master difi at n fits old mid new (is_marked was) (is_marked looked)
            (is_marked now)
            (look at n) (readied at n fits met);
        remembers = remembers_after master difi mid new looked now closed
            (λ level other. ⊎_elim (λ (stays : mark_at now level other ≡ mark_at looked level other). inl stays)
            (λ (put : (mark_at now level other ≡ Put) × IsLevel level × (level ≤ last) × IsInPath difi block level
            other). inr put.0)
            (puts.each level other))
            one.stays known;
        marked = marked;
      }

-- One level more of a path that is made ready, as the calls say it.
use Rattle.std.proofs.Common.{◌≡◌, ◌≢◌, ◌⊎◌, ℕ, suc, ◌+◌, ◌-◌, ◌<◌, ◌≤◌, max, Bool, true, false, List, length, refl}
use Rattle.std.proofs.Common.{sym, ◌∙◌}
use Rattle.std.proofs.Common.{ap, subst, arith, inl, inr, ⊎_elim}
use Rattle.std.proofs.Math.Dec.{leb}
use Rattle.std.proofs.lemmas.Bool.{cases_lt, cases_eq, le-leb, lt-leb}
use Rattle.save_bytes.specs.Cells.{Cell}
use Rattle.save_bytes.specs.State.{Shape}
use Rattle.save_bytes.specs.Writes.{IsWithin}
use Rattle.difi.specs.declared.descriptor.Difi.{Difi}
use Rattle.difi.specs.Places.{block_size}
use Rattle.ivfc_tree.specs.declared.marks.BlockMark.TheVariants.{Put}
use Rattle.ivfc_tree.specs.declared.state.IvfcState.{IvfcState}
use Rattle.ivfc_tree.specs.Levels.{IsLevel, level_of, HasBlock, block_begin, len_of}
use Rattle.ivfc_tree.specs.Marks.{mark_at, is_put, SameMarks, AsManyMarks, MarksBlock}
use Rattle.ivfc_tree.specs.Paths.{block_above}
use Rattle.ivfc_tree.specs.View.{HasLevels, HasTree}
use Rattle.ivfc_tree.specs.Eases.{MeetsBlock, Prepares, IsGoodTo, ReadiesBlock}
use Rattle.ivfc_tree.specs.Readies.{PathSites, IsInPath, MarksWithin, PutsPath}
use Rattle.ivfc_tree.proofs.ByteLemmas.{block_from}
use Rattle.ivfc_tree.proofs.LevelLemmas.{block_placed}
use Rattle.ivfc_tree.proofs.ReadyLemmas.{Prepares-join}
use Rattle.ivfc_tree.proofs.RouteLemmas.{good_step, good_prepares, blank_step, blank_prepares}

pub PutsPath-same : (difi : Difi) (block last : ℕ) (state : IvfcState) → PutsPath difi block last state state
PutsPath-same difi block last state = record { many = λ level. refl; each = λ level other. inl refl }

-- a block of the path was marked behind others
pub puts_more : (difi : Difi) (block last level : ℕ) (old mid new : IvfcState) → IsLevel level → level ≤ last
    → PutsPath difi block last old mid → MarksBlock level (block_above difi 4 block level) mid new → PutsPath difi
    block last old new
puts_more difi block last level old mid new here within before marks =
    let above = block_above difi 4 block level in
    let others : (l b : ℕ) → (l ≡ level → b ≢ above)
    → (mark_at new l b ≡ mark_at old l b) ⊎ ((mark_at new l b ≡ Put) × IsLevel l × (l ≤ last) × IsInPath difi block l
    b) =
    λ l b other.
    (let same = marks.0.others l b other in
    ⊎_elim
    (λ (stays : mark_at mid l b ≡ mark_at old l b). inl (same ∙ stays))
    (λ (put : (mark_at mid l b ≡ Put) × IsLevel l × (l ≤ last) × IsInPath difi block l b). inr
    (same ∙ put.0, put.1, put.2, put.3))
    (before.each l b)) in
    record {
      many = λ l. marks.0.many l ∙ before.many l;
      each = λ l b.
          ⊎_elim
          (λ (at : l ≡ level).
          ⊎_elim
          (λ (is : b ≡ above).
          inr (
            ap (λ (m : ℕ). mark_at new m b) at ∙ ap (λ (m : ℕ). mark_at new level m) is ∙ marks.0.here,
            subst IsLevel (sym at) here,
            omega (arith, at, within),
            is ∙ ap (λ (m : ℕ). block_above difi 4 block m) (sym at),
          ))
          (λ (other : b ≢ above). others l b (λ _. other))
          (cases_eq b above))
          (λ (other : l ≢ level). others l b (λ at. absurd (other at)))
          (cases_eq l level);
    }

-- the places of a block of the path
pub block_sites : (base : Shape) (difi : Difi) (block level : ℕ) → HasLevels base difi → HasBlock difi level
    (block_above difi 4 block level)
    → (x : ℕ) → IsWithin (block_begin difi level (block_above difi 4 block level))
    (len_of difi level (block_above difi 4 block level)) x
    → PathSites difi block x
block_sites base difi block level levels there x within =
    let place = level_of difi level in
    let above = block_above difi 4 block level in
    let begins = (block_placed base difi level above levels there).begins in (
      level,
      x - place.at,
      there.in_tree,
      (
        omega (arith, within.0, within.1, begins),
        block_from (x - place.at) above (block_size place) (omega (arith, within.0))
            (omega (arith, within.0, within.1)),
      ),
      omega (arith, within.0),
    )

module _ (base : Shape) (difi : Difi) (master : List ℕ) (tree : HasTree base difi (length master)) (block : ℕ)
    (there : HasBlock difi 4 block) (one mid new : ℕ → Cell) (marked more still : ℕ → ℕ → Bool) (from last level : ℕ)
    (deepest : last ≤ 4) (some : 1 ≤ level) (within : level ≤ last) where
  abbrev Stage : (ℕ → Cell) → (ℕ → ℕ → Bool) → ℕ → Type 0
  Stage cells marks next = IsGoodTo cells master difi marks block last (max from next)
      × ((at n : ℕ) → at + n ≤ difi.ivfc4.size → MeetsBlock difi at n block → Prepares master difi at n one marked
      cells marks)

  stage_good : level < from → Stage mid more level
      → ReadiesBlock base.size difi level (block_above difi 4 block level) false mid more new still → Stage new still
      (level + 1)
  stage_good below before readied =
      let same : max from level ≡ from = omega (arith, below) in
      let next : from ≡ max from (level + 1) = omega (arith, below) in
      let good_to : IsGoodTo mid master difi more block last from =
      subst (λ (f : ℕ). IsGoodTo mid master difi more block last f) same before.0 in (
        subst (λ (f : ℕ). IsGoodTo new master difi still block last f) next
            (good_step base difi master tree block there mid new more still last level deepest some within from below
            good_to readied),
        λ at n fits met. Prepares-join master difi at n fits one mid new marked more still (before.1 at n fits met)
            (good_prepares base difi master tree block there mid new more still last level deepest some within from
            below good_to readied at n),
      )

  stage_blank : from ≤ level → Stage mid more level
      → ReadiesBlock base.size difi level (block_above difi 4 block level) true mid more new still → Stage new still
      (level + 1)
  stage_blank behind before readied =
      let same : max from level ≡ level = omega (arith, behind) in
      let next : suc level ≡ max from (level + 1) = omega (arith, behind) in
      let good_to : IsGoodTo mid master difi more block last level =
      subst (λ (f : ℕ). IsGoodTo mid master difi more block last f) same before.0 in (
        subst (λ (f : ℕ). IsGoodTo new master difi still block last f) next
            (blank_step base difi master tree block there mid new more still last level deepest some within good_to
            readied),
        λ at n fits met. Prepares-join master difi at n fits one mid new marked more still (before.1 at n fits met)
            (blank_prepares base difi master tree block there mid new more still last level deepest some within
            good_to readied at n met),
      )

  -- the block of the next level was made ready
  pub stage : Stage mid more level
      → ReadiesBlock base.size difi level (block_above difi 4 block level) (leb from level) mid more new still → Stage
      new still (level + 1)
  stage before readied =
      ⊎_elim
      (λ (below : level < from). stage_good below before
      (subst (λ (b : Bool). ReadiesBlock base.size difi level (block_above difi 4 block level) b mid more new still)
      (lt-leb from level below) readied))
      (λ (behind : from ≤ level). stage_blank behind before
      (subst (λ (b : Bool). ReadiesBlock base.size difi level (block_above difi 4 block level) b mid more new still)
      (le-leb from level behind) readied))
      (cases_lt level from)

-- behind a look, only blocks of the path were marked
pub puts_within : (difi : Difi) (block last : ℕ) (was looked now : IvfcState) → SameMarks was looked → AsManyMarks was
    looked
    → PutsPath difi block last looked now → MarksWithin (IsInPath difi block) was now
puts_within difi block last was looked now same many puts = record {
  many = λ level. puts.many level ∙ many level;
  others = λ level other here apart.
      ⊎_elim
      (λ (stays : mark_at now level other ≡ mark_at looked level other). ap is_put stays ∙ same level other)
      (λ (put : (mark_at now level other ≡ Put) × IsLevel level × (level ≤ last) × IsInPath difi block level other).
      absurd (apart put.3))
      (puts.each level other);
}

-- Bytes of level four that were written where each block is marked.
use Rattle.std.proofs.Common.{◌≡◌, ◌⊎◌, ℕ, zero, suc, ◌+◌, ◌-◌, ◌*◌, ◌/◌, ◌<◌, ◌≤◌, Bool, true, false, List, length}
use Rattle.std.proofs.Common.{get_or}
use Rattle.std.proofs.Common.{refl, sym, ◌∙◌, ap, subst, arith, inl, inr, ⊎_elim}
use Rattle.std.proofs.lemmas.Bool.{cases_Bool, cases_lt}
use Rattle.std.proofs.lemmas.Nat.{shl-shr}
use Rattle.save_bytes.specs.Cells.{Cell, Byte, Blank, Spoilt, IsByte, IsBlank}
use Rattle.save_bytes.specs.State.{State, Shape}
use Rattle.save_bytes.specs.Puts.{IsMet, HasBlank, IsDeeper, SoftensFrom, HasPut}
use Rattle.save_bytes.specs.Writes.{IsWithin}
use Rattle.difi.specs.declared.descriptor.Difi.{Difi}
use Rattle.difi.specs.Places.{block_size}
use Rattle.ivfc_tree.specs.Levels.{IsLevel, level_of, HasBlock, block_begin, parent_of}
use Rattle.ivfc_tree.specs.Paths.{own_state, marked_state}
use Rattle.ivfc_tree.specs.View.{HasTree}
use Rattle.ivfc_tree.specs.ViewLaws.{level4_size, level4_log, block_of_there, parent_there}
use Rattle.ivfc_tree.specs.Origins.{MarksMore}
use Rattle.ivfc_tree.specs.Eases.{MeetsBlock, ShowsBlank, EasesFrom, Eases, marked_cell}
use Rattle.ivfc_tree.proofs.ByteLemmas.{block_from, own_kept}
use Rattle.ivfc_tree.proofs.LevelLemmas.{block_placed}
use Rattle.ivfc_tree.proofs.ReadyLemmas.{not_before}
use Rattle.ivfc_tree.proofs.NameLemmas.{state_marked, state_step, state_top}

module _ (base : Shape) (difi : Difi) (master : List ℕ) (tree : HasTree base difi (length master))
    (one other : ℕ → Cell)
    (marked still : ℕ → ℕ → Bool)
    (upper : (level y : ℕ) → IsLevel level → level < 4 → y < (level_of difi level).size
    → other ((level_of difi level).at + y) ≡ one ((level_of difi level).at + y))
    (fourth : (x : ℕ) → x < difi.ivfc4.size → still 4 (x / block_size difi.ivfc4) ≡ false
    → other ((level_of difi 4).at + x) ≡ one ((level_of difi 4).at + x))
    (marks : (level block : ℕ) → level < 4 → still level block ≡ marked level block)
    (grows : (level block : ℕ) → marked level block ≡ true → still level block ≡ true) where
  -- the bytes of an unmarked block, and of each entry
  byte_kept : (level block y : ℕ) → HasBlock difi level block → still level block ≡ false → y <
      (level_of difi level).size
      → y / block_size (level_of difi level) ≡ block → other ((level_of difi level).at + y) ≡ one
      ((level_of difi level).at + y)
  byte_kept level block y there free inside of =
      ⊎_elim
      (λ (above : level < 4). upper level y there.in_tree above inside)
      (λ (last : 4 ≤ level).
      (let is : level ≡ 4 = omega (arith, last, there.in_tree.1) in
      let in_four : y < (level_of difi 4).size = subst (λ (m : ℕ). y < (level_of difi m).size) is inside in
      let of_four : y / block_size (level_of difi 4) ≡ block = subst (λ (m : ℕ). y / block_size (level_of difi m) ≡
      block) is of in
      let free_four : still 4 block ≡ false = subst (λ (m : ℕ). still m block ≡ false) is free in
      subst (λ (m : ℕ). other ((level_of difi m).at + y) ≡ one ((level_of difi m).at + y)) (sym is)
      (fourth y (rw level4_size at in_four) (subst (λ (b : ℕ). still 4 b ≡ false) (sym (rw level4_log at of_four))
      free_four))))
      (cases_lt level 4)

  own_same_where : (level block : ℕ) → HasBlock difi level block → still level block ≡ false
      → own_state other master difi level block ≡ own_state one master difi level block
  own_same_where level block there free =
      let place = level_of difi level in
      let begins = (block_placed base difi level block tree.levels there).begins in
      own_kept base difi master tree one other level block there
      (λ k less.
      (let at : block_begin difi level block + k ≡ place.at + (block * block_size place + k) = omega arith in
      rw at (byte_kept level block (block * block_size place + k) there free (omega (arith, less, begins))
      (block_from (block * block_size place + k) block (block_size place) (omega arith) (omega (arith, less))))))
      (λ above some next k less.
      (let parent = parent_there base difi (length master) above block tree some
      (subst (λ (n : ℕ). HasBlock difi n block) next there) in
      upper above (32 * block + k) parent.parent.in_tree (omega (arith, next, there.in_tree.1))
      (omega (arith, less, parent.inside))))

  -- each block above level four, and each that is not marked, comes to the same
  pub state_kept : (level block : ℕ) → (1 ≤ level → HasBlock difi level block) → (level ≡ 4 → still level block ≡ false)
      → marked_state other master difi still level block ≡ marked_state one master difi marked level block
  state_kept zero block there free = state_top other master difi still block ∙ sym
      (state_top one master difi marked block)
  state_kept (suc level) block there free =
      let here = there (omega arith) in
      ⊎_elim
      (λ (yes : still (suc level) block ≡ true).
      (let above : suc level < 4 = ⊎_elim (λ (less : suc level < 4). less)
      (λ (last : 4 ≤ suc level). absurd (let free_here = free (omega (arith, last, here.in_tree.1)) in cc))
      (cases_lt (suc level) 4) in
      state_marked other master difi still level block yes
      ∙ sym (state_marked one master difi marked level block (sym (marks (suc level) block above) ∙ yes))))
      (λ (is_free : still (suc level) block ≡ false).
      (let was_free : marked (suc level) block ≡ false =
      ⊎_elim
      (λ (less : suc level < 4). sym (marks (suc level) block less) ∙ is_free)
      (λ (last : 4 ≤ suc level).
      (let four : suc level ≡ 4 = omega (arith, last, here.in_tree.1) in
      ⊎_elim
      (λ (was : marked (suc level) block ≡ true).
      absurd (let grown = grows (suc level) block was in
      cc))
      (λ (free_before : marked (suc level) block ≡ false). free_before)
      (cases_Bool (marked (suc level) block))))
      (cases_lt (suc level) 4) in
      let parent = state_kept level (parent_of difi level block)
      (λ some. (parent_there base difi (length master) level block tree some here).parent)
      (λ last. absurd (omega (arith, last, here.in_tree.1))) in
      let own = own_same_where (suc level) block here is_free in
      rw (
        state_step other master difi still level block is_free,
        state_step one master difi marked level block
            was_free,
        parent,
        own,
      ) refl))
      (cases_Bool (still (suc level) block))

  -- no block that is not marked tells anything else
  pub written_more : MarksMore difi marked still one master other master
  written_more = record {
    more = not_before marked still grows;
    unmarked = λ level block there free.
        inl (record {
          own = own_same_where (suc level) block there free;
          above = λ some before after.
              absurd (let same = marks level (parent_of difi level block) (omega (arith, there.in_tree.1)) in cc);
        });
  }

  module _ (part x : ℕ) (below : x < difi.ivfc4.size) where
    -- a byte that was written is one of the view, and any other cell stays where its block is not newly marked
    pub written_cell : (value : ℕ) → still 4 (x / block_size difi.ivfc4) ≡ true → other ((level_of difi 4).at + x) ≡
        Byte value
        → marked_cell other part master difi still x ≡ Byte value
    written_cell value is_marked is = rw (
      state_marked other master difi still 3 (x / block_size difi.ivfc4)
          is_marked,
      is,
    ) refl

    pub kept_cell : (still 4 (x / block_size difi.ivfc4) ≡ true → marked 4 (x / block_size difi.ivfc4) ≡ true)
        → other ((level_of difi 4).at + x) ≡ one ((level_of difi 4).at + x)
        → marked_cell other part master difi still x ≡ marked_cell one part master difi marked x
    kept_cell was same =
        let block = x / block_size difi.ivfc4 in
        ⊎_elim
        (λ (yes : still 4 block ≡ true).
        rw (
          state_marked other master difi still 3 block yes,
          state_marked one master difi marked 3 block (was yes),
          same,
        ) refl)
        (λ (free : still 4 block ≡ false).
        rw (state_kept 4 block (λ _. block_of_there difi x below) (λ _. free), same) refl)
        (cases_Bool (still 4 block))

-- Bytes were put behind the blocks that were made ready for them: each other cell of these blocks was a byte by then.
module _ (difi : Difi) (was : State) (at : ℕ) (bytes : List ℕ) (mid new : ℕ → Cell)
    (size : was.shape.size ≡ difi.ivfc4.size)
    (start : (x : ℕ) → was.shape.block_start x ≡ x / block_size difi.ivfc4 * block_size difi.ivfc4)
    (bottom : (x : ℕ) → was.bottom x ≡ x)
    (fits : at + length bytes ≤ difi.ivfc4.size) (eases : Eases difi at (length bytes) was.cells mid)
    (range : (k : ℕ) → k < length bytes → new (at + k) ≡ Byte (get_or bytes k 0))
    (others : (x : ℕ) → x < difi.ivfc4.size → ¬ IsWithin at (length bytes) x → new x ≡ mid x)
    (met_bytes : (x : ℕ) → x < difi.ivfc4.size → MeetsBlock difi at (length bytes) (x / block_size difi.ivfc4)
    → ¬ IsWithin at (length bytes) x → IsByte (mid x)) where
  -- a place that the range meets lies in a block that it meets
  meets : (x : ℕ) → IsMet was at (length bytes) x → MeetsBlock difi at (length bytes) (x / block_size difi.ivfc4)
  meets x (k, less, same) =
      let blocks : x / block_size difi.ivfc4 * block_size difi.ivfc4 ≡ (at + k) / block_size difi.ivfc4 * block_size
      difi.ivfc4 =
      sym (start x) ∙ sym (ap was.shape.block_start (bottom x)) ∙ same ∙ ap was.shape.block_start (bottom (at + k))
      ∙ start (at + k) in (
        k,
        less,
        sym (shl-shr (x / block_size difi.ivfc4) difi.ivfc4.log) ∙ ap (λ (m : ℕ). m / block_size difi.ivfc4) blocks
            ∙ shl-shr ((at + k) / block_size difi.ivfc4) difi.ivfc4.log,
      )

  met : (x : ℕ) → MeetsBlock difi at (length bytes) (x / block_size difi.ivfc4) → IsMet was at (length bytes) x
  met x (k, less, same) = (
    k,
    less,
    ap was.shape.block_start (bottom x) ∙ start x ∙ ap (λ (m : ℕ). m * block_size difi.ivfc4) same ∙ sym
        (start (at + k))
        ∙ sym (ap was.shape.block_start (bottom (at + k))),
  )

  blank_met : (x part level block : ℕ) (cell : Cell) → EasesFrom difi was.cells at (length bytes) x
      (Blank part level block) cell
      → IsByte cell → cell ≡ Byte 0
  blank_met x part level block cell eased byte =
      ⊎_elim
      (λ (same : cell ≡ Blank part level block). absurd (rw same at byte))
      (λ (more : ShowsBlank was.cells at (length bytes) part level block
      × ((MeetsBlock difi at (length bytes) (x / block_size difi.ivfc4) × (cell ≡ Byte 0)) ⊎ IsDeeper part level cell)).
      ⊎_elim
      (λ (zeros : MeetsBlock difi at (length bytes) (x / block_size difi.ivfc4) × (cell ≡ Byte 0)). zeros.1)
      (λ (deeper : IsDeeper part level cell). absurd (rw deeper.3 at byte))
      more.1)
      eased

  blank_unmet : (x part level block : ℕ) (cell : Cell) → EasesFrom difi was.cells at (length bytes) x
      (Blank part level block) cell
      → ¬ IsMet was at (length bytes) x
      → (cell ≡ Blank part level block) ⊎ (HasBlank was at (length bytes) part level block × IsDeeper part level cell)
  blank_unmet x part level block cell eased unmet =
      ⊎_elim
      (λ (same : cell ≡ Blank part level block). inl same)
      (λ (more : ShowsBlank was.cells at (length bytes) part level block
      × ((MeetsBlock difi at (length bytes) (x / block_size difi.ivfc4) × (cell ≡ Byte 0)) ⊎ IsDeeper part level cell)).
      ⊎_elim
      (λ (zeros : MeetsBlock difi at (length bytes) (x / block_size difi.ivfc4) × (cell ≡ Byte 0)). absurd
      (unmet (met x zeros.0)))
      (λ (deeper : IsDeeper part level cell). inr (more.0, deeper))
      more.1)
      eased

  softens : (x : ℕ) → x < difi.ivfc4.size → ¬ IsWithin at (length bytes) x → (cell : Cell)
      → EasesFrom difi was.cells at (length bytes) x cell (mid x) → SoftensFrom was at (length bytes) x cell (mid x)
  softens x below out (Byte value) eased = eased
  softens x below out (Blank part level block) eased = record {
    met = λ hit. blank_met x part level block (mid x) eased (met_bytes x below (meets x hit) out);
    unmet = λ missed. blank_unmet x part level block (mid x) eased missed;
  }
  softens x below out (Spoilt part level block) eased = eased

  -- a blank cell was not written
  outside : (x : ℕ) → IsBlank (new x) → ¬ IsWithin at (length bytes) x
  outside x blank within =
      let place : at + (x - at) ≡ x = omega (arith, within.0) in
      rw (← place, range (x - at) (omega (arith, within.0, within.1))) at blank

  pub eased_put : HasPut was at bytes new
  eased_put = record {
    written = λ x k below less same.
        (let place : x ≡ at + k = sym (bottom x) ∙ same ∙ bottom (at + k) in
        rw place (range k less));
    others = λ x below apart.
        (let inside : x < difi.ivfc4.size = omega (arith, size, below) in
        let out : ¬ IsWithin at (length bytes) x = λ within.
        (let place : x ≡ at + (x - at) = omega (arith, within.0) in
        apart (x - at) (omega (arith, within.0, within.1)) (ap was.bottom place)) in
        subst (λ (c : Cell). SoftensFrom was at (length bytes) x (was.cells x) c) (sym (others x inside out))
        (softens x inside out (was.cells x) (eases.each x inside)));
    joined = λ x y in_x in_y blank same.
        (let x_in : x < difi.ivfc4.size = omega (arith, size, in_x) in
        let y_in : y < difi.ivfc4.size = omega (arith, size, in_y) in
        let x_is = others x x_in (outside x blank) in
        let y_is = others y y_in (outside y (subst IsBlank same blank)) in
        eases.joined x y x_in y_in (subst IsBlank x_is blank) (sym x_is ∙ same ∙ y_is));
  }

-- Bytes that were put into level four behind the blocks that were made ready for them.
use Rattle.std.proofs.Common.{◌≡◌, ℕ, ◌+◌, ◌-◌, ◌/◌, ◌<◌, ◌≤◌, true, false, List, length, get_or, refl, sym}
use Rattle.std.proofs.Common.{subst, arith, inl}
use Rattle.save_bytes.specs.Cells.{Cell, IsByte, AreBytesAt}
use Rattle.save_bytes.specs.State.{State, Shape, IsWritable}
use Rattle.save_bytes.specs.Writes.{IsWithin}
use Rattle.save_bytes.specs.Puts.{HasPut}
use Rattle.difi.specs.declared.descriptor.Difi.{Difi}
use Rattle.difi.specs.Places.{block_size}
use Rattle.ivfc_tree.specs.declared.state.IvfcState.{IvfcState}
use Rattle.ivfc_tree.specs.Levels.{IsLevel, level_of}
use Rattle.ivfc_tree.specs.Marks.{is_marked}
use Rattle.ivfc_tree.specs.View.{HasTree, view_state, cell_of}
use Rattle.ivfc_tree.specs.ViewLaws.{level4_size, level4_log}
use Rattle.ivfc_tree.specs.Eases.{MeetsBlock, marked_cell}
use Rattle.ivfc_tree.specs.Readies.{RangeSites, ReadiesRange, PutsContents}
use Rattle.ivfc_tree.proofs.OriginLemmas.{CameFrom-more}
use Rattle.ivfc_tree.proofs.PathLemmas.{block_above-here}
use Rattle.ivfc_tree.proofs.NameLemmas.{state_marked}
use Rattle.ivfc_tree.proofs.ReadyLemmas.{StaysUnder-same}
use Rattle.ivfc_tree.proofs.WrittenLemmas.{state_kept, written_more, written_cell, kept_cell, eased_put}
use Rattle.ivfc_tree.proofs.StartLemmas.{remembers_after}

-- the range lies in the base, where level four does
pub range_writable : (base : Shape) (difi : Difi) (master_len at n : ℕ) → HasTree base difi master_len → at + n ≤
    difi.ivfc4.size
    → IsWritable base ((level_of difi 4).at + at) n
range_writable base difi master_len at n tree fits =
    let inside = tree.levels.inside 4 (omega arith, omega arith) in
    record {
      inside = record { sound = tree.levels.sound; inside = omega (arith, inside, level4_size difi) };
      behind_first = omega (arith, tree.levels.first);
    }

-- its places are of the paths of its bytes
pub range_sites : (difi : Difi) (at n : ℕ) → at + n ≤ difi.ivfc4.size → (x : ℕ) → IsWithin ((level_of difi 4).at + at)
    n x
    → RangeSites difi at n x
range_sites difi at n fits x (from, below) =
    let k : ℕ = x - ((level_of difi 4).at + at) in (
      k,
      4,
      at + k,
      omega (arith, from, below),
      (omega arith, omega arith),
      (
        rw level4_size (omega (arith, from, below)),
        rw level4_log (sym (block_above-here difi 3 ((at + k) / block_size difi.ivfc4))),
      ),
      omega (arith, from),
    )

module _ (base : State) (difi : Difi) (master : List ℕ) (tree : HasTree base.shape difi (length master)) (at : ℕ)
    (bytes : List ℕ)
    (fits : at + length bytes ≤ difi.ivfc4.size) (mid new : ℕ → Cell) (was now : IvfcState)
    (range : ReadiesRange master difi at (length bytes) (length bytes) base.cells was mid now)
    (put : AreBytesAt new ((level_of difi 4).at + at) bytes)
    (others : (x : ℕ) → x < base.shape.size → ¬ IsWithin ((level_of difi 4).at + at) (length bytes) x → new x ≡ mid x)
  where
    abbrev four : ℕ
    four = (level_of difi 4).at

    level4_inside : (x : ℕ) → x < difi.ivfc4.size → four + x < base.shape.size
    level4_inside x below = omega (arith, below, tree.levels.inside 4 (omega arith, omega arith), level4_size difi)

    -- other levels have their bytes
    upper_stays : (level y : ℕ) → IsLevel level → level < 4 → y < (level_of difi level).size
        → new ((level_of difi level).at + y) ≡ mid ((level_of difi level).at + y)
    upper_stays level y here above inside =
        let place = (level_of difi level).at + y in
        let size = level4_size difi in
        others place (omega (arith, inside, tree.levels.inside level here))
        (λ within. tree.levels.apart level 4 here.0 above (omega arith) place (omega arith) (omega (arith, inside))
        (omega (arith, within.0))
        (omega (arith, within.1, fits, size)))

    contents_stay : (x : ℕ) → x < difi.ivfc4.size → ¬ IsWithin at (length bytes) x → new (four + x) ≡ mid (four + x)
    contents_stay x below out =
        others (four + x) (level4_inside x below) (λ within. out (omega (arith, within.0), omega (arith, within.1)))

    -- so have unmarked blocks of level four
    free_stays : (x : ℕ) → x < difi.ivfc4.size → is_marked now 4 (x / block_size difi.ivfc4) ≡ false → new (four + x) ≡
        mid (four + x)
    free_stays x below free =
        contents_stay x below (λ within.
        (let place : at + (x - at) ≡ x = omega (arith, within.0) in
        let marked = range.marked (x - at) (omega (arith, within.0, within.1)) in
        let here : is_marked now 4 (x / block_size difi.ivfc4) ≡ true = rw place at marked in
        cc))

    met_byte : (part x : ℕ) → MeetsBlock difi at (length bytes) (x / block_size difi.ivfc4)
        → IsByte (marked_cell mid part master difi (is_marked now) x)
    met_byte part x (k, less, is) =
        let marked : is_marked now 4 (x / block_size difi.ivfc4) ≡ true =
        subst (λ (b : ℕ). is_marked now 4 b ≡ true) (sym is) (range.marked k less) in
        rw (state_marked mid master difi (is_marked now) 3 (x / block_size difi.ivfc4) marked) tt

    contents_put : (part : ℕ)
        → HasPut (view_state base part master difi was) at bytes (cell_of new part master difi now)
    contents_put part =
        eased_put difi (view_state base part master difi was) at bytes
        (marked_cell mid part master difi (is_marked now))
        (marked_cell new part master difi (is_marked now)) refl (λ x. refl) (λ x. refl) fits (range.prepares.eases part)
        (λ k less.
        (let place : four + (at + k) ≡ four + at + k = omega arith in
        written_cell base.shape difi master tree mid new (is_marked now) (is_marked now) upper_stays free_stays
        (λ level block above. refl)
        (λ level block is. is) part (at + k) (omega (arith, less, fits)) (get_or bytes k 0) (range.marked k less)
        (rw place (put k less))))
        (λ x below out.
        kept_cell base.shape difi master tree mid new (is_marked now) (is_marked now) upper_stays free_stays
        (λ level block above. refl)
        (λ level block is. is) part x below (λ is. is) (contents_stay x below out))
        (λ x below met out. met_byte part x met)

    -- they make a put of the view
    pub puts_contents : PutsContents base master difi was at bytes new now
    puts_contents = record {
      put = contents_put;
      remembers = remembers_after master difi mid new now now range.remembers.closed (λ level block. inl refl)
          (λ level block there free. StaysUnder-same level _ _
          (state_kept base.shape difi master tree mid new (is_marked now) (is_marked now) upper_stays free_stays
          (λ l b above. refl)
          (λ l b is. is) level block (λ _. there) (λ last. free))) range.remembers;
      origins = λ was_cells was_master came.
          CameFrom-more base.shape difi (length master) tree (is_marked now) was_cells mid was_master master
          (range.prepares.origins was_cells was_master came) (is_marked now) new master
          (written_more base.shape difi master tree mid new (is_marked now) (is_marked now) upper_stays free_stays
          (λ level block above. refl) (λ level block is. is));
    }

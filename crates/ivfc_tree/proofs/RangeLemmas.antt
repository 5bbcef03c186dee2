-- The blocks that a range meets, made ready one after another.
use Rattle.std.proofs.Common.{◌≡◌, ◌⊎◌, ℕ, ◌+◌, ◌-◌, ◌/◌, ◌%◌, ◌<◌, ◌≤◌, true, Option, None, List, length, refl, ◌∙◌}
use Rattle.std.proofs.Common.{ap, arith, ⊎_elim}
use Rattle.std.proofs.lemmas.Bool.{cases_lt}
use Rattle.std.proofs.lemmas.Nat.{pow_pos, div-add-mod'}
use Rattle.save_bytes.specs.Cells.{Cell, Byte, Blank, Spoilt, IsUnspoilt}
use Rattle.save_bytes.specs.CellNumbers.{value_of}
use Rattle.save_bytes.specs.declared.space.Bad.{Bad}
use Rattle.save_bytes.specs.State.{Shape, State}
use Rattle.save_bytes.specs.Spots.{Spot}
use Rattle.save_bytes.specs.Writes.{Writes}
use Rattle.save_bytes.proofs.WriteLemmas.{Writes-wider, Writes-join}
use Rattle.save_bytes.specs.Puts.{IsDeeper}
use Rattle.difi.specs.declared.descriptor.Difi.{Difi}
use Rattle.difi.specs.Places.{block_size}
use Rattle.ivfc_tree.specs.declared.path.BlockState.{BlockState}
use Rattle.ivfc_tree.specs.declared.path.BlockState.TheVariants.{Good, Blank as BlankAt, Bad as BadAt}
use Rattle.ivfc_tree.specs.declared.state.IvfcState.{IvfcState}
use Rattle.ivfc_tree.specs.Levels.{level_of}
use Rattle.ivfc_tree.specs.Marks.{is_marked}
use Rattle.ivfc_tree.specs.Paths.{block_above, block_state, cell_in}
use Rattle.ivfc_tree.specs.Known.{Remembers}
use Rattle.ivfc_tree.specs.View.{HasTree}
use Rattle.ivfc_tree.specs.Eases.{MeetsBlock, ShowsBlank, EasesFrom, marked_cell}
use Rattle.ivfc_tree.specs.Readies.{IsUnspoiltPath, HasNoSpoilt, PathSites, RangeSites, IsInPath, IsInPaths}
use Rattle.ivfc_tree.specs.Readies.{MarksWithin, ReadiesPath, ReadiesRange}
use Rattle.ivfc_tree.proofs.ByteLemmas.{block_from}
use Rattle.ivfc_tree.proofs.PathLemmas.{block_above-here}
use Rattle.ivfc_tree.proofs.ReadyLemmas.{Prepares-join, prepares_same}

pub MarksWithin-same : (blocks : ℕ → ℕ → Type 0) (s : IvfcState) → MarksWithin blocks s s
MarksWithin-same blocks s = record { many = λ level. refl; others = λ level block here apart. refl }

-- marks behind marks, of some blocks and of more
pub within_more : (few many : ℕ → ℕ → Type 0) (s t u : IvfcState) → ((level block : ℕ) → few level block → many level
    block)
    → MarksWithin many s t → MarksWithin few t u → MarksWithin many s u
within_more few many s t u wider h k = record {
  many = λ level. k.many level ∙ h.many level;
  others = λ level block here apart.
      k.others level block here (λ one. apart (wider level block one)) ∙ h.others level block here apart;
}

-- a path that is blank or holds shows no spoilt cell, and the other way round
pub path_unspoilt : (s : BlockState) (part value : ℕ) → IsUnspoilt (cell_in s part value) → IsUnspoiltPath s
path_unspoilt Good part value h = tt
path_unspoilt (BlankAt level block) part value h = tt
path_unspoilt (BadAt level block) part value h = absurd h

cell_unspoilt : (s : BlockState) (part value : ℕ) → IsUnspoiltPath s → IsUnspoilt (cell_in s part value)
cell_unspoilt Good part value h = tt
cell_unspoilt (BlankAt level block) part value h = tt
cell_unspoilt (BadAt level block) part value h = absurd h

eased_unspoilt : (difi : Difi) (cells : ℕ → Cell) (at n x : ℕ) (old new : Cell) → EasesFrom difi cells at n x old new
    → IsUnspoilt old
    → IsUnspoilt new
eased_unspoilt difi cells at n x (Byte value) new eased h = rw eased tt
eased_unspoilt difi cells at n x (Blank part level block) new eased h =
    ⊎_elim
    (λ (same : new ≡ Blank part level block). rw same tt)
    (λ (more : ShowsBlank cells at n part level block
    × ((MeetsBlock difi at n (x / block_size difi.ivfc4) × (new ≡ Byte 0)) ⊎ IsDeeper part level new)).
    ⊎_elim
    (λ (zeros : MeetsBlock difi at n (x / block_size difi.ivfc4) × (new ≡ Byte 0)). rw zeros.1 tt)
    (λ (deeper : IsDeeper part level new). rw deeper.3 tt)
    more.1)
    eased
eased_unspoilt difi cells at n x (Spoilt part level block) new eased h = absurd h

-- places up to the end of a block lie in it
pub same_block_on : (x k size : ℕ) → 0 < size → k < size - x % size → (x + k) / size ≡ x / size
same_block_on x k size some less =
    let split = div-add-mod' x size in
    block_from (x + k) (x / size) size (omega (arith, split)) (omega (arith, split, less))

-- the places and the blocks of one path are of the range
module _ (difi : Difi) (at n done block : ℕ) (less : done < n) (is : block ≡ (at + done) / block_size difi.ivfc4) where
  pub path_sites : (x : ℕ) → PathSites difi block x → RangeSites difi at n x
  path_sites x (level, y, here, on, there) = (
    done,
    level,
    y,
    less,
    here,
    (on.0, on.1 ∙ ap (λ (b : ℕ). block_above difi 4 b level) is),
    there,
  )

  pub path_blocks : (level other : ℕ) → IsInPath difi block level other → IsInPaths difi at n level other
  path_blocks level other on = (done, less, on ∙ ap (λ (b : ℕ). block_above difi 4 b level) is)

  -- so one path more marks and writes what the range may
  pub path_marks : (s t u : IvfcState) → MarksWithin (IsInPaths difi at n) s t → MarksWithin (IsInPath difi block) t u
      → MarksWithin (IsInPaths difi at n) s u
  path_marks s t u = within_more (IsInPath difi block) (IsInPaths difi at n) s t u path_blocks

  pub path_writes : {A : Type 0} (states : A → State) (keeps : Spot → A → A → Type 0) (lands : A → ℕ → Spot → Type 0)
      → ((spot : Spot) (s t u : A) → keeps spot s t → keeps spot t u → keeps spot s u) → (s t u : A)
      (refusal : Option Bad) → Writes states keeps lands (RangeSites difi at n) s t None
      → Writes states keeps lands (PathSites difi block) t u refusal
      → Writes states keeps lands (RangeSites difi at n) s u refusal
  path_writes states keeps lands join s t u refusal before next =
      Writes-join states keeps lands join (RangeSites difi at n) s t u refusal before
      (Writes-wider states keeps lands (PathSites difi block) (RangeSites difi at n) t u refusal
      (λ told x below site. path_sites x site) next)

module _ (base : Shape) (difi : Difi) (master : List ℕ) (tree : HasTree base difi (length master)) (at n : ℕ)
    (fits : at + n ≤ difi.ivfc4.size) (one mid new : ℕ → Cell) (was then_state now : IvfcState) where
  pub range_start : Remembers one master difi was → ReadiesRange master difi at n 0 one was one was
  range_start known = record {
    prepares = prepares_same base difi master tree at n one one (is_marked was) (is_marked was)
        (λ level block there. refl) (λ x below. refl)
        (λ level block is. is);
    remembers = known;
    marked = λ k none. absurd (omega (arith, none));
  }

  module _ (done : ℕ) (less : done < n) (before : ReadiesRange master difi at n done one was mid then_state) where
    -- the next block of the range is not spoilt either
    pub next_unspoilt : HasNoSpoilt one master difi was at n
        → IsUnspoiltPath (block_state mid master difi then_state 4 (block_above difi 4
        ((at + done) / block_size difi.ivfc4) 4))
    next_unspoilt ready =
        let x = at + done in
        let block = x / block_size difi.ivfc4 in
        let below : x < difi.ivfc4.size = omega (arith, less, fits) in
        let eased = (before.prepares.eases 0).each x below in
        let cell = eased_unspoilt difi (marked_cell one 0 master difi (is_marked was)) at n x _ _ eased
        (cell_unspoilt (block_state one master difi was 4 block) 0 (value_of (one ((level_of difi 4).at + x)))
        (ready done less)) in
        rw block_above-here (path_unspoilt (block_state mid master difi then_state 4 block) 0
        (value_of (mid ((level_of difi 4).at + x))) cell)

    pub range_more : (run : ℕ) → run ≤ block_size difi.ivfc4 - (at + done) % block_size difi.ivfc4
        → ReadiesPath master difi ((at + done) / block_size difi.ivfc4) 4 mid then_state new now
        → ReadiesRange master difi at n (done + run) one was new now
    range_more run short path =
        let size = block_size difi.ivfc4 in
        let step = path.prepares at n fits (done, less, refl) in
        let marked : is_marked now 4 ((at + done) / size) ≡ true =
        rw block_above-here at (path.marked 4 (omega arith) (omega arith)) in
        record {
          prepares = Prepares-join master difi at n fits one mid new (is_marked was) (is_marked then_state)
              (is_marked now) before.prepares step;
          remembers = path.remembers;
          marked = λ k within.
              ⊎_elim
              (λ (front : k < done). step.grows 4 ((at + k) / size) (before.marked k front))
              (λ (behind : done ≤ k).
              (let place : at + k ≡ at + done + (k - done) = omega (arith, behind) in
              let same = same_block_on (at + done) (k - done) size (pow_pos difi.ivfc4.log)
              (omega (arith, behind, within, short)) in
              rw (place, same) marked))
              (cases_lt k done);
        }

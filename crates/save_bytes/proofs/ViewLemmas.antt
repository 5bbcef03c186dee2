-- A space that shows the cells of another at places of its own.
use Rattle.std.proofs.Common.{◌≡◌, ◌≢◌, ℕ, ◌+◌, ◌<◌, ◌≤◌, List, length, IsTrue, Option, Some, None, ◌∙◌, ap, arith, inl, inr, ⊎_elim}
use Rattle.save_bytes.specs.declared.space.Bad.{Bad}
use Rattle.save_bytes.specs.declared.space.Bad.TheVariants.{Disk, Damaged}
use Rattle.save_bytes.specs.Cells.{Cell, Byte, Blank, Spoilt, IsUnspoilt}
use Rattle.save_bytes.specs.State.{State}
use Rattle.save_bytes.specs.Answers.{IsReady, IsFirstSpoilt}
use Rattle.save_bytes.specs.Puts.{IsMet, SoftensFrom, HasPut}

-- each place of the view is a place of the base
pub record Shows (base view : State) (place : ℕ → ℕ) : Type 0 where
  pub inside : (x : ℕ) → x < view.shape.size → place x < base.shape.size
  pub told : view.told ≡ base.told
  pub plain : IsTrue view.shape.plain → IsTrue base.shape.plain
  pub cells : (x : ℕ) → x < view.shape.size → view.cells x ≡ base.cells (place x)
  pub bottom : (x : ℕ) → x < view.shape.size → view.bottom x ≡ base.bottom (place x)
  pub block_start : view.shape.block_start ≡ base.shape.block_start

-- the n places from one on lie side by side in the base
abbrev pub IsRun : (ℕ → ℕ) → ℕ → ℕ → Type 0
IsRun place at n = (k : ℕ) → k < n → place (at + k) ≡ place at + k

module _ (base view : State) (place : ℕ → ℕ) (shows : Shows base view place) (at n : ℕ) (fits : at + n ≤ view.shape.size) (run : IsRun place at n) where
  -- a cell of the run, in the view and in the base
  run_cell : (k : ℕ) → k < n → view.cells (at + k) ≡ base.cells (place at + k)
  run_cell k h = shows.cells (at + k) (omega arith) ∙ ap base.cells (run k h)

  run_bottom : (k : ℕ) → k < n → view.bottom (at + k) ≡ base.bottom (place at + k)
  run_bottom k h = shows.bottom (at + k) (omega arith) ∙ ap base.bottom (run k h)

  shown_first_spoilt : (part level block : ℕ) → IsFirstSpoilt base.cells (place at) n part level block → IsFirstSpoilt view.cells at n part level block
  shown_first_spoilt part level block first = record {
    k = first.k;
    within = first.within;
    spoilt = run_cell first.k first.within ∙ first.spoilt;
    before = λ j h. rw (run_cell j (omega (arith, first.within, h))) (first.before j h);
  }

  shown_unspoilt : ((k : ℕ) → k < n → IsUnspoilt (base.cells (place at + k))) → (k : ℕ) → k < n → IsUnspoilt (view.cells (at + k))
  shown_unspoilt all k h = rw (run_cell k h) (all k h)

  -- what a call answers of the run in the base, it answers of the view
  pub shown_ready : (refusal : Option Bad) → IsReady base (place at) n refusal → IsReady view at n refusal
  shown_ready None ready = record { done = λ told. shown_unspoilt (ready.done (rw shows.told at told)); damaged = λ told. tt; plain = λ plain. tt }
  shown_ready (Some Disk) ready = record { done = λ told. tt; damaged = λ told. tt; plain = λ plain. tt }
  shown_ready (Some (Damaged part level block)) ready = record {
    done = λ told. tt;
    damaged = λ told. shown_first_spoilt part level block (ready.damaged (rw shows.told at told));
    plain = λ plain. ready.plain (shows.plain plain);
  }

  shown_met : (x : ℕ) → x < view.shape.size → IsMet view at n x → IsMet base (place at) n (place x)
  shown_met x below (k, within, same) = (k, within, rw (shows.block_start, shows.bottom x below, run_bottom k within) at same)

  base_met : (x : ℕ) → x < view.shape.size → IsMet base (place at) n (place x) → IsMet view at n x
  base_met x below (k, within, same) = (k, within, rw (shows.block_start, shows.bottom x below, run_bottom k within) same)

  shown_softens : (x : ℕ) → x < view.shape.size → (old new : Cell) → SoftensFrom base (place at) n (place x) old new → SoftensFrom view at n x old new
  shown_softens x below (Byte value) new soft = soft
  shown_softens x below (Blank part level block) new soft = record {
    met = λ met. soft.met (shown_met x below met);
    unmet = λ unmet. ⊎_elim inl (λ (blank, deeper). inr
        ((blank.0, blank.1, run_cell blank.0 blank.1 ∙ blank.2), deeper))
        (soft.unmet (λ met. unmet (base_met x below met)));
  }
  shown_softens x below (Spoilt part level block) new soft = soft

-- what a put leaves in the base, it leaves in the view
pub shown_put : (base view : State) (place : ℕ → ℕ) (at : ℕ) (bytes : List ℕ) (base_new view_new : ℕ → Cell)
    → Shows base view place → at + length bytes ≤ view.shape.size → IsRun place at (length bytes)
    → ((x : ℕ) → x < view.shape.size → view_new x ≡ base_new (place x)) → HasPut base (place at) bytes base_new
    → HasPut view at bytes view_new
shown_put base view place at bytes base_new view_new shows fits run new put = record {
  written = λ x k below within same.
      (let there = rw (shows.bottom x below, run_bottom base view place shows at (length bytes) fits run k within) at same in
      new x below ∙ put.written (place x) k (shows.inside x below) within there);
  others = λ x below apart.
      (let missed : (k : ℕ) → k < length bytes
      → base.bottom (place x) ≢ base.bottom (place at + k) =
      λ k within same. apart k within
      (rw (shows.bottom x below, run_bottom base view place shows at (length bytes) fits run k within) same) in
      let soft = put.others (place x) (shows.inside x below) missed in
      rw (shows.cells x below, new x below)
      (shown_softens base view place shows at (length bytes) fits run x below (base.cells (place x))
      (base_new (place x)) soft));
  joined = λ x y in_x in_y blank same.
      (let there = put.joined (place x) (place y) (shows.inside x in_x) (shows.inside y in_y)
      (rw (new x in_x) at blank) (rw (new x in_x, new y in_y) at same) in
      rw (shows.cells x in_x, shows.cells y in_y) there);
}

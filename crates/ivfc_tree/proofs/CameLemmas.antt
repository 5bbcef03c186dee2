-- Where a view's tree came from, over its calls.
use Rattle.std.proofs.Common.{◌≡◌, ℕ, ◌<◌, IsTrue, List, length, Option, Some, None, sym, ◌∙◌, inl, inr, suc, ⊎_elim}
use Rattle.std.proofs.lemmas.Bool.{and_parts}
use Rattle.save_bytes.specs.declared.space.Bad.{Bad}
use Rattle.save_bytes.specs.declared.space.Bad.TheVariants.{Disk, Damaged}
use Rattle.save_bytes.specs.Cells.{Cell}
use Rattle.save_bytes.specs.State.{Shape, State}
use Rattle.save_bytes.specs.Refusals.{IfDone, NeverDamaged}
use Rattle.save_bytes.specs.Spots.{Spot}
use Rattle.save_bytes.specs.Stays.{SameCells, SameTwins}
use Rattle.save_bytes.specs.Reads.{Reads}
use Rattle.ivfc_tree.specs.KeepLaws.{WhereKept}
use Rattle.save_bytes.proofs.SpaceLemmas.{UnlessDisk-map}
use Rattle.difi.specs.declared.descriptor.Difi.{Difi}
use Rattle.ivfc_tree.specs.declared.state.IvfcState.{IvfcState}
use Rattle.ivfc_tree.specs.declared.view.IvfcView.{IvfcView}
use Rattle.ivfc_tree.specs.Levels.{parent_of}
use Rattle.ivfc_tree.specs.Marks.{is_marked, SameMarks}
use Rattle.ivfc_tree.specs.View.{HasTree}
use Rattle.ivfc_tree.specs.ViewLaws.{own-same}
use Rattle.ivfc_tree.specs.Held.{shown, SameHold, HashKeeps, hash_lands}
use Rattle.ivfc_tree.specs.Origins.{CameFrom}
use Rattle.ivfc_tree.specs.PutViews.{KeepsOrigins}
use Rattle.ivfc_tree.specs.Readies.{PutsContents}

-- the same cells and the same marks came from the same trees
pub came_same : (base : Shape) (difi : Difi) (master : List ℕ) → HasTree base difi (length master) → (cells new : ℕ → Cell)
    → ((x : ℕ) → x < base.size → new x ≡ cells x) → (state later : IvfcState) → SameMarks state later
    → (was : ℕ → Cell) (was_master : List ℕ) → CameFrom difi (is_marked state) was was_master cells master
    → CameFrom difi (is_marked later) was was_master new master
came_same base difi master tree cells new same state later marks was was_master came = record {
  kept = λ level block there none good.
      own-same base difi tree.levels new cells same master (suc level) block there.in_tree
      ∙ came.kept level block there (sym (marks (suc level) block) ∙ none) good;
  zeroed = λ level block there none above.
      ⊎_elim
      (λ good. inl good)
      (λ blank. inr (own-same base difi tree.levels new cells same master (suc (suc level)) block there.in_tree
      ∙ blank))
      (came.zeroed level block there (sym (marks (suc (suc level)) block) ∙ none)
      (sym (marks (suc level) (parent_of difi (suc level) block)) ∙ above));
}

module _ {S : Type 0} (states : S → State) (keeps : Spot → S → S → Type 0) (lands : S → ℕ → Spot → Type 0)
    (s t : IvfcView S) where
  -- a call that reads
  pub came_read : HasTree (states s.base.now).shape s.difi.now (length s.master.now)
      → WhereKept states keeps (λ s t. SameCells (states s) (states t) × SameTwins (states s) (states t))
      → (refusal : Option Bad) → Reads (shown states) (HashKeeps keeps) (hash_lands lands) s t refusal
      → KeepsOrigins states s t refusal
  came_read tree law refusal reads told was was_master came =
      UnlessDisk-map refusal
      (λ (later : IsTrue (shown states t).told).
      (let frame = reads.frame in
      let below = law s.base.now t.base.now tree.levels.sound tree.levels.single (and_parts _ _ told).0
      (and_parts _ _ later).0
      (λ spot. (reads.spots told spot).2) in
      rw (frame.0.same_difi, frame.1.1)
      (came_same (states s.base.now).shape s.difi.now s.master.now tree (states s.base.now).cells
      (states t.base.now).cells below.0
      s.state.now t.state.now frame.1.0 was was_master came)))
      (reads.stays.space.told told)

  -- and one that puts
  pub came_put : SameHold s t → t.master.now ≡ s.master.now → (refusal : Option Bad) → NeverDamaged refusal
      → (at : ℕ) (bytes : List ℕ)
      → (IsTrue (shown states s).told
      → IfDone refusal (PutsContents (states s.base.now) s.master.now s.difi.now s.state.now at bytes
      (states t.base.now).cells t.state.now))
      → KeepsOrigins states s t refusal
  came_put hold master_now None never at bytes puts told was was_master came =
      rw (hold.same_difi, master_now) ((puts told).origins was was_master came)
  came_put hold master_now (Some Disk) never at bytes puts told was was_master came = tt
  came_put hold master_now (Some (Damaged part level block)) never at bytes puts told was was_master came = absurd never

-- one call behind another
pub came_then : {S : Type 0} (states : S → State) (s t u : IvfcView S) (refusal : Option Bad)
    → (IsTrue (shown states s).told → IsTrue (shown states t).told) → KeepsOrigins states s t None
    → KeepsOrigins states t u refusal → KeepsOrigins states s u refusal
came_then states s t u refusal told first next here was was_master came =
    next (told here) was was_master (first here was was_master came)

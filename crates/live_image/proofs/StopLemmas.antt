-- What a stop leaves of an image whose live places are kept.
use Rattle.std.proofs.Common.{◌≡◌, ◌⊎◌, ⊎_elim, inl, inr, ℕ, ◌≤◌, List, sym, ◌∙◌, subst}
use Rattle.save_disk.specs.Trace.{Event}
use Rattle.save_disk.specs.Stops.{CrashMayLeave, EachWrite}
use Rattle.save_disk.specs.Keeps.{HoldsAll, Agree, Keeps, EachStop, committing, image_committed}
use Rattle.save_disk.proofs.Kept.{kept_leaves}
use Rattle.save_disk.proofs.Commits.{commit_leaves, stops-map}
use Rattle.container.specs.Signers.{Signing}
use Rattle.container.specs.Opens.{Opens}
use Rattle.live_image.specs.Live.{live_places}
use Rattle.live_image.specs.Same.{SameLive}
use Rattle.live_image.proofs.OpeningLemmas.{opens_same}

module _ (image : List ℕ) (grain : ℕ) (start : List ℕ) (events : List Event) (some : 1 ≤ grain)
    (keeps : Keeps (live_places image) image grain start events) where
  pub stop_agrees : (left : List ℕ) → CrashMayLeave grain start events left → SameLive image left
  stop_agrees left leaves = record {
    size = leaves.size ∙ sym keeps.size;
    live = kept_leaves (live_places image) image grain start events some keeps left leaves;
  }

  module _ (writes : List Event) (sector : ℕ) (bytes : List ℕ)
      (holds : EachWrite (HoldsAll (live_places image) grain image) writes) where
    pub commit_agrees : EachStop
        (λ left. SameLive image left ⊎ (left ≡ image_committed grain start events writes sector bytes))
        grain start events (committing writes sector bytes)
    commit_agrees moment fits left leaves =
        ⊎_elim
        (λ (agrees : Agree (live_places image) image left). inl
        (record { size = leaves.size ∙ sym keeps.size; live = agrees }))
        inr
        (commit_leaves (live_places image) image grain start events writes sector bytes some keeps holds moment fits
        left leaves)

    pub commit_opens : (sign : Signing) → Opens sign image
        → Opens sign (image_committed grain start events writes sector bytes)
        → EachStop (Opens sign) grain start events (committing writes sector bytes)
    commit_opens sign old new =
        stops-map (λ left. SameLive image left ⊎ (left ≡ image_committed grain start events writes sector bytes))
        (Opens sign)
        grain start events (committing writes sector bytes)
        (λ left. ⊎_elim
        (λ (agrees : SameLive image left). (opens_same image left agrees sign).0 old)
        (λ (made : left ≡ image_committed grain start events writes sector bytes). subst (Opens sign) (sym made) new))
        commit_agrees

-- A commit on a disk that tells its trace.
use Rattle.std.proofs.Common.{◌≡◌, ⊎_elim, ℕ, ◌<◌, ◌≤◌, Bool, List, ◌++◌, length, take, drop, Some, sym, subst, ◌∙◌, ap}
use Rattle.std.proofs.Common.{arith, append_assoc}
use Rattle.std.proofs.lemmas.List.{take-take, take_all, take-append-drop, length-take}
use Rattle.std.proofs.lemmas.Bool.{cases_lt}
use Rattle.save_disk.specs.Trace.{Event, Told}
use Rattle.save_disk.specs.State.{State, IsSound, Goes}
use Rattle.save_disk.specs.Stops.{EachWrite, Fits}
use Rattle.save_disk.specs.Writes.{GrewBy}
use Rattle.save_disk.specs.Keeps.{HoldsAll, Keeps, EachStop, StopsLeave, IsMomentOf, IsOldOrNew, committing}
use Rattle.save_disk.proofs.Moments.{each_write-front}
use Rattle.save_disk.proofs.Told.{told_grain, told_writes}
use Rattle.save_disk.proofs.Commits.{commit_leaves}

-- a front of a front
front_of_front : (moment n : ℕ) (all : List Event) → (k : ℕ) × (take moment (take n all) ≡ take k all)
front_of_front moment n all =
    ⊎_elim
    (λ (early : moment < n). let found : (k : ℕ) × (take moment (take n all) ≡ take k all) =
    (moment, take-take moment n all (omega arith)) in found)
    (λ (late : n ≤ moment). let found : (k : ℕ)
    × (take moment (take n all) ≡ take k all) =
    (n, take_all moment (take n all) (omega (arith, length-take n all))) in found)
    (cases_lt moment n)

-- where each write fits, what holds at each moment of a list holds at each of its fronts
front_stops :
    (P : List ℕ → Type 0) (told : Told) (all added : List Event) → IsMomentOf all added
    → EachWrite (Fits told.grain (length told.start)) (told.events ++ added)
    → EachStop P told.grain told.start told.events all → StopsLeave P told added
front_stops P told all added (n, is) fits stops moment left leaves =
    let found = front_of_front moment n all in
    let same : take moment added ≡ take found.0 all = ap (take moment) is ∙ found.1 in
    let whole : (told.events ++ take moment added) ++ drop moment added ≡ told.events ++ added =
    append_assoc told.events (take moment added) (drop moment added)
    ∙ ap (λ (l : List Event). told.events ++ l) (take-append-drop moment added) in
    let fit : EachWrite (Fits told.grain (length told.start)) (told.events ++ take moment added) =
    each_write-front (Fits told.grain (length told.start)) (told.events ++ take moment added) (drop moment added)
    (subst (EachWrite (Fits told.grain (length told.start))) (sym whole) fits) in
    (rw (← same) at (stops found.0)) fit left leaves

module _ (places : ℕ → Bool) (image : List ℕ) (before after : State) (told : Told) (writes : List Event) (sector : ℕ)
    (bytes : List ℕ) where
  abbrev pub IsSafe : List ℕ → Type 0
  IsSafe = IsOldOrNew places image told.grain told.start told.events writes sector bytes

  abbrev pub Commits : Told → Told → Type 0
  Commits = GrewBy (IsMomentOf (committing writes sector bytes))

  some_grain : before.told ≡ Some told → IsSound before → 1 ≤ told.grain
  some_grain begins first =
      let grain = told_grain before told first begins in
      ⊎_elim (λ (narrow : before.grain ≡ 512). omega arith) (λ (wide : before.grain ≡ 4096). omega arith) first.grain

  grown : (next : Told) → after.told ≡ Some next → 1 ≤ told.grain → IsSound after
      → Keeps places image told.grain told.start told.events → EachWrite (HoldsAll places told.grain image) writes
      → Commits told next → GrewBy (StopsLeave IsSafe told) told next
  grown next is some sound keeps holds grew =
      let fits : EachWrite (Fits told.grain (length told.start)) (told.events ++ grew.added) =
      rw (grew.grain, grew.start, grew.events) at (told_writes after next sound is) in
      let stops = commit_leaves places image told.grain told.start told.events writes sector bytes some keeps holds in
      record {
        start = grew.start;
        grain = grew.grain;
        left = grew.left;
        added = grew.added;
        events = grew.events;
        such = front_stops IsSafe told (committing writes sector bytes) grew.added grew.such fits stops;
      }

  -- while a call adds a commit's events, or the first of them, a stop leaves what was or the new image
  pub commit_on_disk : before.told ≡ Some told → IsSound before → IsSound after
      → Keeps places image told.grain told.start told.events → EachWrite (HoldsAll places told.grain image) writes
      → Goes Commits before after → Goes (GrewBy (StopsLeave IsSafe told)) before after
  commit_on_disk begins first sound keeps holds goes now is =
      let same : told ≡ now = cc in
      let went = goes now is in
      let grew : Commits told went.0 = subst (λ (t : Told). Commits t went.0) (sym same) went.2 in
      let leaves = grown went.0 went.1 (some_grain begins first) sound keeps holds grew in
      (went.0, went.1, subst (λ (t : Told). GrewBy (StopsLeave IsSafe told) t went.0) same leaves)

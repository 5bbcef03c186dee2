-- What a stop leaves at any moment of a commit: what was, or the new image.
use Rattle.std.proofs.Common.{◌≡◌, ◌≢◌, ◌⊎◌, ⊎_elim, inl, inr, ℕ, zero, suc, ◌+◌, ◌-◌, ◌*◌, ◌<◌, ◌≤◌, Bool, min, List}
use Rattle.std.proofs.Common.{[], ◌∷◌, ◌++◌, length, take, drop, refl, sym, ◌∙◌, ap, subst, arith, append_assoc}
use Rattle.std.proofs.Common.{get_or-take}
use Rattle.std.proofs.lemmas.List.{append-nil, ext_get_or, take-append-le, length-take, length-drop}
use Rattle.std.proofs.lemmas.Bool.{cases_lt, cases_eq}
use Rattle.std.proofs.Math.Nat.{mul-le-mul_right, suc-mul}
use Rattle.std.proofs.Math.Seq.{take-append-add}
use Rattle.save_disk.specs.Trace.{Event, Write, Sync, sector_cut, with_sector, image_after}
use Rattle.save_disk.specs.Stops.{synced, unsynced, HasWrite, HasNoWrite, EachWrite, Fits, CrashMayLeave}
use Rattle.save_disk.specs.Keeps.{HoldsAll, Agree, Keeps, EachStop, IsOldOrNew, committing, image_committed}
use Rattle.save_disk.proofs.SectorBytes.{length-with_sector, sector_cut-byte, with_sector-before, with_sector-behind}
use Rattle.save_disk.proofs.SectorBytes.{with_sector-inside}
use Rattle.save_disk.proofs.Sectors.{same_from_sectors}
use Rattle.save_disk.proofs.Moments.{has_write-right, each_write-front, each_write-take, each_write-append}
use Rattle.save_disk.proofs.Moments.{image_after-append, length-image_after, synced-open, unsynced-open, synced-sync}
use Rattle.save_disk.proofs.Moments.{unsynced-sync, synced-unsynced, moments_join}
use Rattle.save_disk.proofs.Kept.{keeps_more, keeps_now, kept_leaves, synced_keeps, synced_leaves}

-- sectors of an image with other bytes in a sector
module _ (grain : ℕ) (image : List ℕ) (sector : ℕ) (bytes : List ℕ) (begins : sector * grain < length image)
    (whole : length bytes ≡ grain) where
  long : length (with_sector grain image sector bytes) ≡ length image
  long = length-with_sector grain image sector bytes begins whole

  length_cut : (l : List ℕ) (n : ℕ) → length (sector_cut grain l n) ≡ min grain (length l - n * grain)
  length_cut l n = length-take grain (drop (n * grain) l) ∙ ap (min grain) (length-drop (n * grain) l)

  -- the sector that was written
  pub cut_own : sector_cut grain (with_sector grain image sector bytes) sector
      ≡ take (length image - sector * grain) bytes
  cut_own =
      ext_get_or 0 (sector_cut grain (with_sector grain image sector bytes) sector)
      (take (length image - sector * grain) bytes)
      (omega (
        arith,
        length_cut (with_sector grain image sector bytes) sector,
        long,
        length-take
            (length image - sector * grain) bytes,
      ))
      (λ k below.
      let small : k < grain = omega (arith, length_cut (with_sector grain image sector bytes) sector) in
      let inside : sector * grain + k < length image =
      omega (arith, length_cut (with_sector grain image sector bytes) sector, long) in
      sector_cut-byte grain (with_sector grain image sector bytes) sector k small
      ∙ with_sector-inside grain image sector bytes begins whole k small inside
      ∙ sym (get_or-take (length image - sector * grain) bytes k 0 (omega arith)))

  -- another sector
  pub cut_other :
      (other : ℕ) → other ≢ sector
      → sector_cut grain (with_sector grain image sector bytes) other ≡ sector_cut grain image other
  cut_other other apart =
      ext_get_or 0 (sector_cut grain (with_sector grain image sector bytes) other) (sector_cut grain image other)
      (length_cut (with_sector grain image sector bytes) other ∙ ap (λ (n : ℕ). min grain (n - other * grain)) long
      ∙ sym (length_cut image other))
      (λ k below.
      let small : k < grain = omega (arith, length_cut (with_sector grain image sector bytes) other) in
      let inside : other * grain + k < length image =
      omega (arith, length_cut (with_sector grain image sector bytes) other, long) in
      sector_cut-byte grain (with_sector grain image sector bytes) other k small
      ∙ ⊎_elim
      (λ (lower : other < sector). with_sector-before grain image sector bytes begins whole (other * grain + k)
      (below_sector other sector k lower small))
      (λ (upper : sector ≤ other). with_sector-behind grain image sector bytes begins whole (other * grain + k)
      (behind_sector other sector k upper (λ same. apart (sym same))) inside)
      (cases_lt other sector)
      ∙ sym (sector_cut-byte grain image other k small))
    where
      below_sector : (a b k : ℕ) → a < b → k < grain → a * grain + k < b * grain
      below_sector a b k lower small = let more : suc a ≤ b =
          omega arith in omega (arith, mul-le-mul_right grain more, suc-mul a grain)

      behind_sector : (b a k : ℕ) → a ≤ b → a ≢ b → a * grain + grain ≤ b * grain + k
      behind_sector b a k upper apart = let more : suc a ≤ b =
          omega arith in omega (arith, mul-le-mul_right grain more, suc-mul a grain)

-- where one write came since the last sync, a stop leaves the image before it or the one behind it
module _ (grain : ℕ) (start : List ℕ) (events : List Event) (sector : ℕ) (bytes : List ℕ) (left : List ℕ)
    (some : 1 ≤ grain) (fits : EachWrite (Fits grain (length start)) (events ++ Write sector bytes ∷ []))
    (kept : unsynced events ≡ []) (leaves : CrashMayLeave grain start (events ++ Write sector bytes ∷ []) left) where
  -- one of the two versions of the sector that is written
  old_or_new :
      (image : List ℕ) → image ≡ image_after grain start events → length image ≡ length start → (n : ℕ)
      → n * grain < length start
      → (sector_cut grain left n ≡ sector_cut grain image n)
      ⊎ ((n ≡ sector) × (sector_cut grain left n ≡ take (length image - n * grain) bytes))
  old_or_new image is same n below =
      let all : synced (events ++ Write sector bytes ∷ []) ≡ events =
      synced-open (Write sector bytes ∷ []) refl events ∙ sym (append-nil (synced events))
      ∙ ap (λ (l : List Event). synced events ++ l) (sym kept) ∙ synced-unsynced events in
      let one : unsynced (events ++ Write sector bytes ∷ []) ≡ Write sector bytes ∷ [] =
      unsynced-open (Write sector bytes ∷ []) refl events
      ∙ ap (λ (l : List Event). l ++ Write sector bytes ∷ []) kept in
      ⊎_elim
      (λ (old : sector_cut grain left n
      ≡ sector_cut grain (image_after grain start (synced (events ++ Write sector bytes ∷ []))) n).
      inl (old ∙ ap (λ (l : List Event). sector_cut grain (image_after grain start l) n) all
      ∙ ap (λ (l : List ℕ). sector_cut grain l n) (sym is)))
      (λ (new : (written : List ℕ) × HasWrite (unsynced (events ++ Write sector bytes ∷ [])) n written
      × (sector_cut grain left n ≡ take (length start - n * grain) written)).
      ⊎_elim
      (λ (here : Write sector bytes ≡ Write n new.0).
      let same_bytes : bytes ≡ new.0 = cc in
      inr (
        cc,
        new.2 ∙ ap (λ (k : ℕ). take (k - n * grain) new.0) (sym same)
            ∙ ap (take (length image - n * grain)) (sym same_bytes),
      ))
      (λ none. absurd none)
      (subst (λ (l : List Event). HasWrite l n new.0) one new.1))
      (leaves.sectors n below)

  whole_write :
      (image : List ℕ) → image ≡ image_after grain start events → length image ≡ length start
      → (left ≡ image) ⊎ (left ≡ with_sector grain image sector bytes)
  whole_write image is same =
      let fit = fits sector bytes (has_write-right events (Write sector bytes ∷ []) sector bytes (inl refl)) in
      let begins : sector * grain < length image = omega (arith, fit.1) in
      ⊎_elim
      (λ (old : sector_cut grain left sector ≡ sector_cut grain image sector).
      inl (same_from_sectors grain left image some (leaves.size ∙ sym same) (λ n below.
      ⊎_elim (λ e. e) (λ (here : (n ≡ sector) × (sector_cut grain left n ≡ take (length image - n * grain) bytes)).
      rw here.0 old) (old_or_new image is same n (omega arith)))))
      (λ (new : (sector ≡ sector) × (sector_cut grain left sector ≡ take (length image - sector * grain) bytes)).
      inr (same_from_sectors grain left (with_sector grain image sector bytes) some
      (leaves.size ∙ sym same ∙ sym (length-with_sector grain image sector bytes begins fit.0)) (λ n below.
      ⊎_elim
      (λ (here : n ≡ sector). rw here (new.1 ∙ sym (cut_own grain image sector bytes begins fit.0)))
      (λ (apart : n ≢ sector).
      ⊎_elim (λ (e : sector_cut grain left n ≡ sector_cut grain image n). e
      ∙ sym (cut_other grain image sector bytes begins fit.0 n apart))
      (λ (here : (n ≡ sector) × (sector_cut grain left n ≡ take (length image - n * grain) bytes)). absurd
      (apart here.0)) (old_or_new image is same n
      (omega (arith, length-with_sector grain image sector bytes begins fit.0))))
      (cases_eq n sector))))
      (old_or_new image is same sector fit.1)

  pub one_write_leaves : (left ≡ image_after grain start events)
      ⊎ (left ≡ image_after grain start (events ++ Write sector bytes ∷ []))
  one_write_leaves =
      let image = image_after grain start events in
      let same : length (image_after grain start events) ≡ length start =
      length-image_after grain start events
      (each_write-front (Fits grain (length start)) events (Write sector bytes ∷ []) fits) in
      ⊎_elim inl (λ new. inr (new ∙ sym (image_after-append grain start events (Write sector bytes ∷ []))))
      (whole_write (image_after grain start events) refl same)

take_empty : (k : ℕ) → take {A = Event} k [] ≡ []
take_empty zero = refl
take_empty (suc k) = refl

-- a whole commit, whose last event is a sync
module _ (events writes : List Event) (sector : ℕ) (bytes : List ℕ) where
  ends_synced : events ++ committing writes sector bytes ≡ (events ++ (writes ++ Sync ∷ Write sector bytes ∷ [])) ++
      Sync ∷ []
  ends_synced =
      ap (λ (l : List Event). events ++ l) (sym (append_assoc writes (Sync ∷ Write sector bytes ∷ []) (Sync ∷ [])))
      ∙ sym (append_assoc events (writes ++ Sync ∷ Write sector bytes ∷ []) (Sync ∷ []))

  pub none_since : HasNoWrite (unsynced (events ++ committing writes sector bytes))
  none_since number written has =
      let none : unsynced (events ++ committing writes sector bytes) ≡ [] = ap unsynced ends_synced
      ∙ unsynced-sync (events ++ (writes ++ Sync ∷ Write sector bytes ∷ [])) in
      subst (λ (l : List Event). HasWrite l number written) none has

  all_kept : synced (events ++ committing writes sector bytes)
      ≡ (events ++ (writes ++ Sync ∷ Write sector bytes ∷ [])) ++ Sync ∷ []
  all_kept = ap synced ends_synced ∙ synced-sync (events ++ (writes ++ Sync ∷ Write sector bytes ∷ []))

module _ (grain : ℕ) (start : List ℕ) (events writes : List Event) (sector : ℕ) (bytes : List ℕ) where
  -- a sync changes no image
  pub image_synced : image_after grain start (events ++ (writes ++ Sync ∷ Write sector bytes ∷ []))
      ≡ image_committed grain start events writes sector bytes
  image_synced =
      image_after-append grain start events (writes ++ Sync ∷ Write sector bytes ∷ [])
      ∙ image_after-append grain (image_after grain start events) writes (Sync ∷ Write sector bytes ∷ [])
      ∙ sym (image_after-append grain (image_after grain start events) writes (Write sector bytes ∷ []))
      ∙ sym (image_after-append grain start events (writes ++ Write sector bytes ∷ []))

  pub image_kept : image_after grain start (synced (events ++ committing writes sector bytes))
      ≡ image_committed grain start events writes sector bytes
  image_kept = ap (image_after grain start) (all_kept events writes sector bytes)
      ∙ image_after-append grain start (events ++ (writes ++ Sync ∷ Write sector bytes ∷ [])) (Sync ∷ [])
      ∙ image_synced

  -- behind a commit any places of the new image are kept
  pub commit_keeps :
      (places : ℕ → Bool) → EachWrite (Fits grain (length start)) (events ++ committing writes sector bytes)
      → Keeps places (image_committed grain start events writes sector bytes) grain start
      (events ++ committing writes sector bytes)
  commit_keeps places fits = subst
      (λ (l : List ℕ). Keeps places l grain start (events ++ committing writes sector bytes)) image_kept
      (synced_keeps places grain start (events ++ committing writes sector bytes) fits
      (none_since events writes sector bytes))

module _ (places : ℕ → Bool) (image : List ℕ) (grain : ℕ) (start : List ℕ) (events writes : List Event) (sector : ℕ)
    (bytes : List ℕ) (some : 1 ≤ grain) (keeps : Keeps places image grain start events)
    (holds : EachWrite (HoldsAll places grain image) writes) where
  -- a front of the commit's events
  abbrev pub IsSafe : List Event → Type 0
  IsSafe front = EachWrite (Fits grain (length start)) (events ++ front) → (left : List ℕ)
      → CrashMayLeave grain start (events ++ front) left
      → IsOldOrNew places image grain start events writes sector bytes left

  -- while it has no write but those that hold the places
  safe_held : (front : List Event) → EachWrite (HoldsAll places grain image) front → IsSafe front
  safe_held front held fits left leaves =
      inl (kept_leaves places image grain start (events ++ front) some
      (keeps_more places image grain start events front fits held keeps) left leaves)

  no_write_in_sync : EachWrite (HoldsAll places grain image) (Sync ∷ [])
  no_write_in_sync = λ s b has. ⊎_elim (λ (e : Sync ≡ Write s b). absurd (cc)) (λ none. absurd none) has

  synced_front : (writes ++ Sync ∷ []) ++ Write sector bytes ∷ [] ≡ writes ++ Sync ∷ Write sector bytes ∷ []
  synced_front = append_assoc writes (Sync ∷ []) (Write sector bytes ∷ [])

  -- with the one write behind the sync
  safe_written : IsSafe (writes ++ Sync ∷ Write sector bytes ∷ [])
  safe_written fits left leaves =
      let middle : List Event = events ++ (writes ++ Sync ∷ []) in
      let whole : (events ++ (writes ++ Sync ∷ [])) ++ Write sector
      bytes ∷ [] ≡ events ++ (writes ++ Sync ∷ Write sector bytes ∷ []) =
      append_assoc events (writes ++ Sync ∷ []) (Write sector bytes ∷ [])
      ∙ ap (λ (l : List Event). events ++ l) synced_front in
      let split : events ++ (writes ++ Sync ∷ []) ≡ (events ++ writes) ++ Sync ∷ [] =
      sym (append_assoc events writes (Sync ∷ [])) in
      let fits_whole : EachWrite (Fits grain (length start))
      ((events ++ (writes ++ Sync ∷ [])) ++ Write sector bytes ∷ []) =
      subst (EachWrite (Fits grain (length start))) (sym whole) fits in
      let leaves_whole : CrashMayLeave grain start ((events ++ (writes ++ Sync ∷ [])) ++ Write sector bytes ∷ [])
      left = subst (λ (l : List Event). CrashMayLeave grain start l left) (sym whole) leaves in
      let none : unsynced (events ++ (writes ++ Sync ∷ [])) ≡ [] = ap unsynced split
      ∙ unsynced-sync (events ++ writes) in
      let fits_middle : EachWrite (Fits grain (length start)) (events ++ (writes ++ Sync ∷ [])) =
      each_write-front (Fits grain (length start)) (events ++ (writes ++ Sync ∷ [])) (Write sector bytes ∷ [])
      fits_whole in
      let kept : Keeps places image grain start (events ++ (writes ++ Sync ∷ [])) =
      keeps_more places image grain start events (writes ++ Sync ∷ []) fits_middle
      (each_write-append (HoldsAll places grain image) writes (Sync ∷ []) holds no_write_in_sync) keeps in
      ⊎_elim
      (λ (old : left ≡ image_after grain start (events ++ (writes ++ Sync ∷ []))). inl
      (subst (Agree places image) (sym old)
      (keeps_now places image grain start (events ++ (writes ++ Sync ∷ [])) fits_middle kept)))
      (λ (new : left ≡ image_after grain start ((events ++ (writes ++ Sync ∷ [])) ++ Write sector bytes ∷ [])). inr
      (new ∙ ap (image_after grain start) whole ∙ image_synced grain start events writes sector bytes))
      (one_write_leaves grain start (events ++ (writes ++ Sync ∷ [])) sector bytes left some fits_whole none
      leaves_whole)

  -- with the sync behind that
  safe_synced : IsSafe (committing writes sector bytes)
  safe_synced fits left leaves =
      let is = (synced_leaves grain start (events ++ committing writes sector bytes) left some fits
      (none_since events writes sector bytes)).0 leaves in
      inr (is ∙ image_kept grain start events writes sector bytes)

  safe_tail : (k : ℕ) → IsSafe (writes ++ take k (Sync ∷ Write sector bytes ∷ Sync ∷ []))
  safe_tail zero = rw (append-nil) (safe_held writes holds)
  safe_tail (suc zero) =
      safe_held (writes ++ Sync ∷ [])
      (each_write-append (HoldsAll places grain image) writes (Sync ∷ []) holds no_write_in_sync)
  safe_tail (suc (suc zero)) = safe_written
  safe_tail (suc (suc (suc k))) = rw (take_empty k) safe_synced

  -- at each moment of a commit a stop leaves the places as they were, or the new image
  pub commit_leaves : EachStop (IsOldOrNew places image grain start events writes sector bytes) grain start events
      (committing writes sector bytes)
  commit_leaves moment =
      ⊎_elim
      (λ (early : moment < length writes). subst IsSafe
      (sym (take-append-le moment writes (Sync ∷ Write sector bytes ∷ Sync ∷ []) (omega arith)))
      (safe_held (take moment writes) (each_write-take (HoldsAll places grain image) moment writes holds)))
      (λ (late : length writes ≤ moment).
      let k : length writes + (moment - length writes) ≡ moment = omega arith in
      subst (λ (m : ℕ). IsSafe (take m (committing writes sector bytes))) k
      (subst IsSafe (sym (take-append-add writes (Sync ∷ Write sector bytes ∷ Sync ∷ []) (moment - length writes)))
      (safe_tail (moment - length writes))))
      (cases_lt moment (length writes))

-- the same where there is no such write
pub held_leaves :
    (places : ℕ → Bool) (image : List ℕ) (grain : ℕ) (start : List ℕ) (events added : List Event) → 1 ≤ grain
    → Keeps places image grain start events → EachWrite (HoldsAll places grain image) added
    → EachStop (Agree places image) grain start events added
held_leaves places image grain start events added some keeps holds moment fits left leaves =
    kept_leaves places image grain start (events ++ take moment added) some
    (keeps_more places image grain start events (take moment added) fits
    (each_write-take (HoldsAll places grain image) moment added holds) keeps) left leaves

-- stops while events come, and while more come behind them
pub stops-append :
    (P : List ℕ → Type 0) (grain : ℕ) (start : List ℕ) (events xs ys : List Event)
    → EachStop P grain start events xs → EachStop P grain start (events ++ xs) ys
    → EachStop P grain start events (xs ++ ys)
stops-append P grain start events xs ys first second =
    moments_join (λ front. EachWrite (Fits grain (length start)) (events ++ front) → (left : List ℕ)
    → CrashMayLeave grain start (events ++ front) left → P left) xs ys first
    (λ moment. subst (λ (l : List Event). EachWrite (Fits grain (length start)) l → (left : List ℕ)
    → CrashMayLeave grain start l left → P left) (append_assoc events xs (take moment ys)) (second moment))

pub stops-map :
    (P Q : List ℕ → Type 0) (grain : ℕ) (start : List ℕ) (events added : List Event)
    → ((left : List ℕ) → P left → Q left) → EachStop P grain start events added
    → EachStop Q grain start events added
stops-map P Q grain start events added f stops moment fits left leaves = f left (stops moment fits left leaves)

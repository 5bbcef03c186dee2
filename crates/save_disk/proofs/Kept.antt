-- Places that are kept: any write that holds them keeps them, and so does a sync.
use Rattle.std.proofs.Common.{◌≡◌, ◌↔◌, ⊎_elim, inl, inr, ℕ, ◌+◌, ◌-◌, ◌*◌, ◌/◌, ◌%◌, ◌<◌, ◌≤◌, Bool, false, List, []}
use Rattle.std.proofs.Common.{◌∷◌, ◌++◌, length, take, get_or, refl, sym, ◌∙◌, ap, subst, arith, append_assoc}
use Rattle.std.proofs.Common.{get_or-take}
use Rattle.std.proofs.lemmas.List.{append-nil}
use Rattle.std.proofs.lemmas.Nat.{div-add-mod', mod_below}
use Rattle.std.proofs.lemmas.Bool.{cases_lt}
use Rattle.save_disk.specs.Trace.{Event, Write, Sync, Said, sector_cut, with_sector, image_after}
use Rattle.save_disk.specs.Stops.{synced, unsynced, has_sync, HasWrite, HasNoWrite, EachWrite, Fits, CrashMayLeave}
use Rattle.save_disk.specs.Keeps.{HoldsAll, Agree, Keeps}
use Rattle.save_disk.proofs.SectorBytes.{length-with_sector, sector_cut-byte, with_sector-before, with_sector-behind}
use Rattle.save_disk.proofs.SectorBytes.{with_sector-inside}
use Rattle.save_disk.proofs.Sectors.{same_from_sectors, in_synced, in_unsynced}
use Rattle.save_disk.proofs.Moments.{each_write-front, each_write-append, image_after-append, length-image_after}
use Rattle.save_disk.proofs.Moments.{synced-open, unsynced-open, synced-sync, unsynced-sync, synced-unsynced}

-- a write that holds the places leaves an image that agrees on them
agree_written :
    (places : ℕ → Bool) (image other : List ℕ) (grain sector : ℕ) (bytes : List ℕ) → length other ≡ length image
    → Fits grain (length image) sector bytes → HoldsAll places grain image sector bytes → Agree places image other
    → Agree places image (with_sector grain other sector bytes)
agree_written places image other grain sector bytes long fits holds agree x inside live =
    let begins : sector * grain < length other = omega (arith, fits.1) in
    ⊎_elim
    (λ (before : x < sector * grain). with_sector-before grain other sector bytes begins fits.0 x before
    ∙ agree x inside live)
    (λ (from : sector * grain ≤ x).
    ⊎_elim
    (λ (below : x < sector * grain + grain).
    let place : x ≡ sector * grain + (x - sector * grain) = omega arith in
    ap (λ (y : ℕ). get_or (with_sector grain other sector bytes) y 0) place
    ∙ with_sector-inside grain other sector bytes begins fits.0 (x - sector * grain) (omega arith) (omega arith)
    ∙ holds x inside live from below)
    (λ (behind : sector * grain + grain ≤ x). with_sector-behind grain other sector bytes begins fits.0 x behind
    (omega arith) ∙ agree x inside live)
    (cases_lt x (sector * grain + grain)))
    (cases_lt x (sector * grain))

agree_after :
    (places : ℕ → Bool) (image other : List ℕ) (grain : ℕ) (events : List Event) → length other ≡ length image
    → EachWrite (Fits grain (length image)) events → EachWrite (HoldsAll places grain image) events
    → Agree places image other → Agree places image (image_after grain other events)
agree_after places image other grain [] long fits holds agree = agree
agree_after places image other grain (Write sector bytes ∷ events) long fits holds agree =
    let fit = fits sector bytes (inl refl) in
    let hold = holds sector bytes (inl refl) in
    let same : length (with_sector grain other sector bytes) ≡ length image =
    length-with_sector grain other sector bytes (omega (arith, fit.1)) fit.0 ∙ long in
    agree_after places image (with_sector grain other sector bytes) grain events same (λ s b has. fits s b (inr has))
    (λ s b has. holds s b (inr has)) (agree_written places image other grain sector bytes long fit hold agree)
agree_after places image other grain (Sync ∷ events) long fits holds agree =
    agree_after places image other grain events long (λ s b has. fits s b (inr has)) (λ s b has. holds s b (inr has))
    agree
agree_after places image other grain (Said bytes ∷ events) long fits holds agree =
    agree_after places image other grain events long (λ s b has. fits s b (inr has)) (λ s b has. holds s b (inr has))
    agree

module _ (grain : ℕ) (start : List ℕ) (events : List Event) (fits : EachWrite (Fits grain (length start)) events) where
  pub fits_synced : EachWrite (Fits grain (length start)) (synced events)
  fits_synced = λ sector bytes has. fits sector bytes (in_synced events sector bytes has)

  fits_unsynced : EachWrite (Fits grain (length start)) (unsynced events)
  fits_unsynced = λ sector bytes has. fits sector bytes (in_unsynced events sector bytes has)

  pub length-synced : length (image_after grain start (synced events)) ≡ length start
  length-synced = length-image_after grain start (synced events) fits_synced

  -- what came since the last sync, behind what it kept
  image_unsynced : image_after grain start events ≡ image_after grain (image_after grain start (synced events))
      (unsynced events)
  image_unsynced = ap (image_after grain start) (sym (synced-unsynced events))
      ∙ image_after-append grain start (synced events) (unsynced events)

module _ (places : ℕ → Bool) (image : List ℕ) (grain : ℕ) (start : List ℕ) where
  -- an event that is no sync
  keeps_open :
      (events : List Event) (event : Event) → has_sync (event ∷ []) ≡ false
      → EachWrite (HoldsAll places grain image) (event ∷ []) → Keeps places image grain start events
      → Keeps places image grain start (events ++ event ∷ [])
  keeps_open events event none holds keeps = record {
    size = keeps.size;
    synced = subst (λ (l : List Event). Agree places image (image_after grain start l))
        (sym (synced-open (event ∷ []) none events)) keeps.synced;
    since = subst (EachWrite (HoldsAll places grain image)) (sym (unsynced-open (event ∷ []) none events))
        (each_write-append (HoldsAll places grain image) (unsynced events) (event ∷ []) keeps.since holds);
  }

  -- with all writes the places have their bytes
  pub keeps_now :
      (events : List Event) → EachWrite (Fits grain (length start)) events → Keeps places image grain start events
      → Agree places image (image_after grain start events)
  keeps_now events fits keeps =
      let fit : EachWrite (Fits grain (length image)) (unsynced events) =
      rw keeps.size (fits_unsynced grain start events fits) in
      rw (image_unsynced grain start events fits)
      (agree_after places image (image_after grain start (synced events)) grain (unsynced events)
      (length-synced grain start events fits ∙ sym keeps.size) fit keeps.since keeps.synced)

  keeps_sync :
      (events : List Event) → EachWrite (Fits grain (length start)) events → Keeps places image grain start events
      → Keeps places image grain start (events ++ Sync ∷ [])
  keeps_sync events fits keeps = record {
    size = keeps.size;
    synced = subst (λ (l : List Event). Agree places image (image_after grain start l)) (sym (synced-sync events))
        (subst (Agree places image) (sym (image_after-append grain start events (Sync ∷ [])))
        (keeps_now events fits keeps));
    since = subst (EachWrite (HoldsAll places grain image)) (sym (unsynced-sync events))
        (λ sector bytes has. absurd has);
  }

  keeps_event :
      (events : List Event) (event : Event) → EachWrite (Fits grain (length start)) events
      → EachWrite (HoldsAll places grain image) (event ∷ []) → Keeps places image grain start events
      → Keeps places image grain start (events ++ event ∷ [])
  keeps_event events (Write sector bytes) fits holds keeps = keeps_open events (Write sector bytes) refl holds keeps
  keeps_event events Sync fits holds keeps = keeps_sync events fits keeps
  keeps_event events (Said bytes) fits holds keeps = keeps_open events (Said bytes) refl holds keeps

  -- more events keep the places, where each write among them holds them
  pub keeps_more :
      (events added : List Event) → EachWrite (Fits grain (length start)) (events ++ added)
      → EachWrite (HoldsAll places grain image) added → Keeps places image grain start events
      → Keeps places image grain start (events ++ added)
  keeps_more events [] fits holds keeps = subst (Keeps places image grain start) (sym (append-nil events)) keeps
  keeps_more events (event ∷ added) fits holds keeps =
      let whole : (events ++ event ∷ []) ++ added ≡ events ++ event ∷ added = append_assoc events (event ∷ []) added in
      let first : EachWrite (HoldsAll places grain image) (event ∷ []) =
      each_write-front (HoldsAll places grain image) (event ∷ []) added holds in
      let next = keeps_event events event (each_write-front (Fits grain (length start)) events (event ∷ added) fits)
      first keeps in
      subst (Keeps places image grain start) whole
      (keeps_more (events ++ event ∷ []) added (subst (EachWrite (Fits grain (length start))) (sym whole) fits)
      (λ s b has. holds s b (inr has)) next)

  -- each image that a stop may leave has the places' bytes
  pub kept_leaves :
      (events : List Event) → 1 ≤ grain → Keeps places image grain start events → (left : List ℕ)
      → CrashMayLeave grain start events left → Agree places image left
  kept_leaves events some keeps left leaves x inside live =
      let n = x / grain in
      let k = x % grain in
      let whole : x / grain * grain + x % grain ≡ x = div-add-mod' x grain in
      let small : x % grain < grain = mod_below x grain some in
      let place : (l : List ℕ) → get_or (sector_cut grain l (x / grain)) (x % grain) 0 ≡ get_or l x 0 =
      λ l. sector_cut-byte grain l (x / grain) (x % grain) small ∙ ap (λ (y : ℕ). get_or l y 0) whole in
      sym (place left)
      ∙ ⊎_elim
      (λ (kept : sector_cut grain left (x / grain) ≡ sector_cut grain (image_after grain start (synced events))
      (x / grain)).
      ap (λ (l : List ℕ). get_or l (x % grain) 0) kept ∙ place (image_after grain start (synced events))
      ∙ keeps.synced x inside live)
      (λ (later : (bytes : List ℕ) × HasWrite (unsynced events) (x / grain) bytes
      × (sector_cut grain left (x / grain) ≡ take (length start - x / grain * grain) bytes)).
      let offset : x - x / grain * grain ≡ x % grain = omega arith in
      ap (λ (l : List ℕ). get_or l (x % grain) 0) later.2
      ∙ get_or-take (length start - x / grain * grain) later.0 (x % grain) 0 (omega (arith, keeps.size))
      ∙ ap (λ (y : ℕ). get_or later.0 y 0) (sym offset)
      ∙ keeps.since (x / grain) later.0 later.1 x inside live (omega arith) (omega arith))
      (leaves.sectors (x / grain) (omega (arith, keeps.size)))

-- where nothing was written since the last sync, any places of the image as it is are kept
pub synced_keeps :
    (places : ℕ → Bool) (grain : ℕ) (start : List ℕ) (events : List Event)
    → EachWrite (Fits grain (length start)) events → HasNoWrite (unsynced events)
    → Keeps places (image_after grain start (synced events)) grain start events
synced_keeps places grain start events fits none = record {
  size = length-synced grain start events fits;
  synced = λ x inside live. refl;
  since = λ sector bytes has. absurd (none sector bytes has);
}

-- and a stop leaves that image and no other
pub synced_leaves :
    (grain : ℕ) (start : List ℕ) (events : List Event) (left : List ℕ) → 1 ≤ grain
    → EachWrite (Fits grain (length start)) events → HasNoWrite (unsynced events)
    → CrashMayLeave grain start events left ↔ (left ≡ image_after grain start (synced events))
synced_leaves grain start events left some fits none =
    let long = length-synced grain start events fits in (
      λ leaves.
          same_from_sectors grain left (image_after grain start (synced events)) some (leaves.size ∙ sym long)
          (λ sector below. ⊎_elim (λ e. e) (λ written. absurd (none sector written.0 written.1))
          (leaves.sectors sector (omega arith))),
      λ is. record {
        size = ap length is ∙ long;
        sectors = λ sector below. inl (ap (λ (l : List ℕ). sector_cut grain l sector) is);
      },
    )

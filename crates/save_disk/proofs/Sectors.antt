-- Images and their sectors.
use Rattle.std.proofs.Common.{◌≡◌, ℕ, ◌+◌, ◌*◌, ◌/◌, ◌%◌, ◌<◌, ◌≤◌, Bool, true, false, List, [], ◌∷◌, length, get_or}
use Rattle.std.proofs.Common.{drop, refl, sym, ◌∙◌, ap, inl, inr, ⊎_elim, cond, arith, get_or-take, get_or-drop}
use Rattle.std.proofs.lemmas.List.{ext_get_or}
use Rattle.std.proofs.lemmas.Nat.{div-add-mod'}
use Rattle.save_disk.specs.Trace.{Event, Write, Sync, Said, sector_cut, image_after}
use Rattle.save_disk.specs.Stops.{has_sync, synced, unsynced, HasWrite, HasNoWrite, CrashMayLeave}

-- a byte of a sector is the image's
in_sector : (grain : ℕ) (xs : List ℕ) (sector k : ℕ) → k < grain
    → get_or (sector_cut grain xs sector) k 0 ≡ get_or xs (sector * grain + k) 0
in_sector grain xs sector k h = get_or-take grain (drop (sector * grain) xs) k 0 h ∙ get_or-drop (sector * grain) xs k 0

-- images of one length whose sectors agree are one image
pub same_from_sectors : (grain : ℕ) (xs ys : List ℕ) → 1 ≤ grain → length xs ≡ length ys
    → ((sector : ℕ) → sector * grain < length ys → sector_cut grain xs sector ≡ sector_cut grain ys sector) → xs ≡ ys
same_from_sectors grain xs ys some long cuts =
    ext_get_or 0 xs ys long (λ i h.
    let whole : i / grain * grain + i % grain ≡ i = div-add-mod' i grain in
    let small : i % grain < grain = omega arith in
    let cut = cuts (i / grain) (omega (arith, h)) in
    ap (λ (k : ℕ). get_or xs k 0) (sym whole)
    ∙ sym (in_sector grain xs (i / grain) (i % grain) small)
    ∙ ap (λ (l : List ℕ). get_or l (i % grain) 0) cut
    ∙ in_sector grain ys (i / grain) (i % grain) small
    ∙ ap (λ (k : ℕ). get_or ys k 0) whole)

-- what holds of both outcomes of a test holds of its outcome
pick : (b : Bool) (P : List Event → Type 0) {xs ys : List Event} → P xs → P ys → P (cond b xs ys)
pick true P x y = x
pick false P x y = y

-- what holds of the whole trace holds of its parts
pub in_unsynced : (events : List Event) (sector : ℕ) (bytes : List ℕ) → HasWrite (unsynced events) sector bytes
    → HasWrite events sector bytes
in_unsynced [] sector bytes has = has
in_unsynced (event ∷ events) sector bytes has =
    pick (has_sync (event ∷ events)) (λ l. HasWrite l sector bytes → HasWrite (event ∷ events) sector bytes)
    (λ h. inr (in_unsynced events sector bytes h)) (λ h. h) has

pub in_synced : (events : List Event) (sector : ℕ) (bytes : List ℕ) → HasWrite (synced events) sector bytes
    → HasWrite events sector bytes
in_synced [] sector bytes has = has
in_synced (event ∷ events) sector bytes has =
    pick (has_sync (event ∷ events)) (λ l. HasWrite l sector bytes → HasWrite (event ∷ events) sector bytes)
    (λ h. ⊎_elim (λ e. inl e) (λ later. inr (in_synced events sector bytes later)) h) (λ h. absurd h) has

-- events without a write leave an image as it is
pub image_unwritten : (grain : ℕ) (image : List ℕ) (events : List Event) → HasNoWrite events
    → image_after grain image events ≡ image
image_unwritten grain image [] none = refl
image_unwritten grain image (Write sector bytes ∷ events) none = absurd (none sector bytes (inl refl))
image_unwritten grain image (Sync ∷ events) none = image_unwritten grain image events
    (λ sector bytes has. none sector bytes (inr has))
image_unwritten grain image (Said said ∷ events) none = image_unwritten grain image events
    (λ sector bytes has. none sector bytes (inr has))

-- a stop leaves a trace without a write as it began
pub unwritten_leaves : (grain : ℕ) (start : List ℕ) (events : List Event) (image : List ℕ) → 1 ≤ grain
    → HasNoWrite events → CrashMayLeave grain start events image → image ≡ start
unwritten_leaves grain start events image some none leaves =
    let kept : image_after grain start (synced events) ≡ start =
    image_unwritten grain start (synced events)
    (λ sector bytes has. none sector bytes (in_synced events sector bytes has)) in
    same_from_sectors grain image start some leaves.size (λ sector h.
    ⊎_elim (λ e. e ∙ ap (λ (l : List ℕ). sector_cut grain l sector) kept)
    (λ written. absurd (none sector written.0 (in_unsynced events sector written.0 written.1)))
    (leaves.sectors sector h))

-- and it may leave that
pub unwritten_may_leave : (grain : ℕ) (start : List ℕ) (events : List Event) (image : List ℕ) → HasNoWrite events
    → image ≡ start → CrashMayLeave grain start events image
unwritten_may_leave grain start events image none is =
    let kept : image_after grain start (synced events) ≡ start =
    image_unwritten grain start (synced events)
    (λ sector bytes has. none sector bytes (in_synced events sector bytes has)) in
    record {
      size = ap length is;
      sectors = λ sector h. inl (ap (λ (l : List ℕ). sector_cut grain l sector) (is ∙ sym kept));
    }

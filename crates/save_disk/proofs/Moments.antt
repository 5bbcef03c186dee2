-- Lists of events taken apart and put together: their writes, their syncs and their images.
use Rattle.std.proofs.Common.{◌≡◌, ⊎_elim, inl, inr, ◌⊎◌, ℕ, zero, suc, ◌+◌, ◌≤◌, Bool, true, false, ◌||◌, cond, List}
use Rattle.std.proofs.Common.{[], ◌∷◌, ◌++◌, length, take, drop, refl, sym, ◌∙◌, ap, subst, arith, zero-add}
use Rattle.std.proofs.lemmas.List.{take-append-drop}
use Rattle.save_disk.specs.Trace.{Event, Write, Sync, Said, with_sector, image_after}
use Rattle.save_disk.specs.Stops.{is_sync, has_sync, synced, unsynced, HasWrite, EachWrite, Fits, syncs, until_sync}
use Rattle.save_disk.specs.Stops.{AtEachMoment}
use Rattle.save_disk.proofs.SectorBytes.{length-with_sector}

-- a write among events behind events is among the first or among the second
pub has_write-left :
    (xs ys : List Event) (sector : ℕ) (bytes : List ℕ) → HasWrite xs sector bytes → HasWrite (xs ++ ys) sector bytes
has_write-left [] ys sector bytes has = absurd has
has_write-left (event ∷ xs) ys sector bytes has = ⊎_elim (λ here. inl here)
    (λ later. inr (has_write-left xs ys sector bytes later)) has

pub has_write-right :
    (xs ys : List Event) (sector : ℕ) (bytes : List ℕ) → HasWrite ys sector bytes → HasWrite (xs ++ ys) sector bytes
has_write-right [] ys sector bytes has = has
has_write-right (event ∷ xs) ys sector bytes has = inr (has_write-right xs ys sector bytes has)

has_write-cases :
    (xs ys : List Event) (sector : ℕ) (bytes : List ℕ) → HasWrite (xs ++ ys) sector bytes
    → HasWrite xs sector bytes ⊎ HasWrite ys sector bytes
has_write-cases [] ys sector bytes has = inr has
has_write-cases (event ∷ xs) ys sector bytes has =
    ⊎_elim (λ here. inl (inl here))
    (λ later. ⊎_elim (λ h. inl (inr h)) (λ h. inr h) (has_write-cases xs ys sector bytes later)) has

module _ (Q : ℕ → List ℕ → Type 0) where
  pub each_write-front : (xs ys : List Event) → EachWrite Q (xs ++ ys) → EachWrite Q xs
  each_write-front xs ys each = λ sector bytes has. each sector bytes (has_write-left xs ys sector bytes has)

  pub each_write-append : (xs ys : List Event) → EachWrite Q xs → EachWrite Q ys → EachWrite Q (xs ++ ys)
  each_write-append xs ys first second = λ sector bytes has. ⊎_elim (first sector bytes) (second sector bytes)
      (has_write-cases xs ys sector bytes has)

  pub each_write-take : (n : ℕ) (events : List Event) → EachWrite Q events → EachWrite Q (take n events)
  each_write-take n events each = each_write-front (take n events) (drop n events)
      (subst (EachWrite Q) (sym (take-append-drop n events)) each)

-- the images of events behind events
pub image_after-append :
    (grain : ℕ) (image : List ℕ) (xs ys : List Event)
    → image_after grain image (xs ++ ys) ≡ image_after grain (image_after grain image xs) ys
image_after-append grain image [] ys = refl
image_after-append grain image (Write sector bytes ∷ xs) ys =
    image_after-append grain (with_sector grain image sector bytes) xs ys
image_after-append grain image (Sync ∷ xs) ys = image_after-append grain image xs ys
image_after-append grain image (Said bytes ∷ xs) ys = image_after-append grain image xs ys

-- writes of whole sectors that begin inside keep the length
pub length-image_after :
    (grain : ℕ) (image : List ℕ) (events : List Event) → EachWrite (Fits grain (length image)) events
    → length (image_after grain image events) ≡ length image
length-image_after grain image [] fits = refl
length-image_after grain image (Write sector bytes ∷ events) fits =
    let fit = fits sector bytes (inl refl) in
    let same : length (with_sector grain image sector bytes) ≡ length image =
    length-with_sector grain image sector bytes fit.1 fit.0 in
    length-image_after grain (with_sector grain image sector bytes) events
    (λ number written has. subst (λ (n : ℕ). Fits grain n number written) (sym same)
    (fits number written (inr has))) ∙ same
length-image_after grain image (Sync ∷ events) fits = length-image_after grain image events
    (λ number written has. fits number written (inr has))
length-image_after grain image (Said bytes ∷ events) fits = length-image_after grain image events
    (λ number written has. fits number written (inr has))

-- whether there is a sync among events behind events
has_sync-append : (xs ys : List Event) → has_sync (xs ++ ys) ≡ has_sync xs || has_sync ys
has_sync-append [] ys = refl
has_sync-append (Write sector bytes ∷ xs) ys = has_sync-append xs ys
has_sync-append (Sync ∷ xs) ys = refl
has_sync-append (Said bytes ∷ xs) ys = has_sync-append xs ys

or-false : (b : Bool) → (b || false) ≡ b
or-false true = refl
or-false false = refl

or-true : (b : Bool) → (b || true) ≡ true
or-true true = refl
or-true false = refl

-- events without a sync are not yet kept
module _ (ys : List Event) (none : has_sync ys ≡ false) where
  same_test : (xs : List Event) → has_sync (xs ++ ys) ≡ has_sync xs
  same_test xs = has_sync-append xs ys ∙ ap (λ (b : Bool). has_sync xs || b) none ∙ or-false (has_sync xs)

  unsynced_whole : (zs : List Event) → has_sync zs ≡ false → unsynced zs ≡ zs
  unsynced_whole [] free = refl
  unsynced_whole (event ∷ zs) free = ap (λ (b : Bool). cond b (unsynced zs) (event ∷ zs)) free

  synced_none : (zs : List Event) → has_sync zs ≡ false → synced zs ≡ []
  synced_none [] free = refl
  synced_none (event ∷ zs) free = ap (λ (b : Bool). cond b (event ∷ synced zs) []) free

  pub synced-open : (xs : List Event) → synced (xs ++ ys) ≡ synced xs
  synced-open [] = synced_none ys none
  synced-open (event ∷ xs) =
      ap (λ (b : Bool). cond b (event ∷ synced (xs ++ ys)) []) (same_test (event ∷ xs))
      ∙ ap (λ (l : List Event). cond (has_sync (event ∷ xs)) (event ∷ l) []) (synced-open xs)

  pub unsynced-open : (xs : List Event) → unsynced (xs ++ ys) ≡ unsynced xs ++ ys
  unsynced-open [] = unsynced_whole ys none
  unsynced-open (event ∷ xs) =
      ap (λ (b : Bool). cond b (unsynced (xs ++ ys)) (event ∷ xs ++ ys)) (same_test (event ∷ xs))
      ∙ ap (λ (l : List Event). cond (has_sync (event ∷ xs)) l (event ∷ xs ++ ys)) (unsynced-open xs)
      ∙ push (has_sync (event ∷ xs)) (unsynced xs) (event ∷ xs)
    where
      push : (b : Bool) (us vs : List Event) → cond b (us ++ ys) (vs ++ ys) ≡ cond b us vs ++ ys
      push true us vs = refl
      push false us vs = refl

-- a sync at the end keeps all
has_last : (xs : List Event) → has_sync (xs ++ Sync ∷ []) ≡ true
has_last xs = has_sync-append xs (Sync ∷ []) ∙ or-true (has_sync xs)

pub synced-sync : (xs : List Event) → synced (xs ++ Sync ∷ []) ≡ xs ++ Sync ∷ []
synced-sync [] = refl
synced-sync (event ∷ xs) = ap (λ (b : Bool). cond b (event ∷ synced (xs ++ Sync ∷ [])) []) (has_last (event ∷ xs))
    ∙ ap (λ (l : List Event). event ∷ l) (synced-sync xs)

pub unsynced-sync : (xs : List Event) → unsynced (xs ++ Sync ∷ []) ≡ []
unsynced-sync [] = refl
unsynced-sync (event ∷ xs) = ap (λ (b : Bool). cond b (unsynced (xs ++ Sync ∷ [])) (event ∷ xs ++ Sync ∷ []))
    (has_last (event ∷ xs)) ∙ unsynced-sync xs

-- what the last sync kept and what came since
pub synced-unsynced : (events : List Event) → synced events ++ unsynced events ≡ events
synced-unsynced [] = refl
synced-unsynced (event ∷ events) = both (has_sync (event ∷ events)) (synced-unsynced events)
  where
    both :
        (b : Bool) → synced events ++ unsynced events ≡ events
        → cond b (event ∷ synced events) [] ++ cond b (unsynced events) (event ∷ events) ≡ event ∷ events
    both true so_far = ap (λ (l : List Event). event ∷ l) so_far
    both false so_far = refl

-- a law at each moment of events, and behind them at each of others, holds at each of all
pub moments_join :
    (P : List Event → Type 0) (xs ys : List Event) → AtEachMoment P xs → AtEachMoment (λ front. P (xs ++ front)) ys
    → AtEachMoment P (xs ++ ys)
moments_join P [] ys first second = second
moments_join P (event ∷ xs) ys first second =
    at (moments_join (λ front. P (event ∷ front)) xs ys (λ m. first (suc m)) second)
  where
    at : AtEachMoment (λ front. P (event ∷ front)) (xs ++ ys) → (moment : ℕ) → P (take moment ((event ∷ xs) ++ ys))
    at later zero = first zero
    at later (suc moment) = later moment

-- later events don't move an earlier sync
pub until_sync-more :
    (events more : List Event) (n : ℕ) → n ≤ syncs events → until_sync (events ++ more) n ≡ until_sync events n
until_sync-more [] more n few = let none : n ≡ 0 = omega arith in rw none (first more)
  where
    first : (events : List Event) → until_sync events 0 ≡ []
    first [] = refl
    first (event ∷ events) = refl
until_sync-more (event ∷ events) more zero few = refl
until_sync-more (Write sector bytes ∷ events) more (suc n) few =
    ap (λ (l : List Event). Write sector bytes ∷ l) (until_sync-more events more (suc n) (omega arith))
until_sync-more (Sync ∷ events) more (suc n) few = ap (λ (l : List Event). Sync ∷ l)
    (until_sync-more events more n (omega arith))
until_sync-more (Said bytes ∷ events) more (suc n) few = ap (λ (l : List Event). Said bytes ∷ l)
    (until_sync-more events more (suc n) (omega arith))

none_counted : (events : List Event) → has_sync events ≡ false → syncs events ≡ 0
none_counted [] free = refl
none_counted (Write sector bytes ∷ events) free = omega (arith, none_counted events free)
none_counted (Sync ∷ events) free = absurd (cc)
none_counted (Said bytes ∷ events) free = omega (arith, none_counted events free)

some_counted : (events : List Event) → has_sync events ≡ true → 1 ≤ syncs events
some_counted [] has = absurd (cc)
some_counted (Write sector bytes ∷ events) has = omega (arith, some_counted events has)
some_counted (Sync ∷ events) has = omega arith
some_counted (Said bytes ∷ events) has = omega (arith, some_counted events has)

until_open :
    (event : Event) (events : List Event) (n : ℕ) → is_sync event ≡ false → 1 ≤ n
    → until_sync (event ∷ events) n ≡ event ∷ until_sync events n
until_open event events zero free some = absurd (omega arith)
until_open event events (suc n) free some = ap (λ (b : Bool). event ∷ until_sync events (cond b n (suc n))) free

opened :
    (event : Event) (events : List Event) → is_sync event ≡ false → synced events ≡ until_sync events (syncs events)
    → cond (has_sync events) (event ∷ synced events) [] ≡ until_sync (event ∷ events) (0 + syncs events)
opened event events free so_far = both (has_sync events) refl
  where
    both :
        (b : Bool) → has_sync events ≡ b
        → cond (has_sync events) (event ∷ synced events) [] ≡ until_sync (event ∷ events) (0 + syncs events)
    both true has = rw (
      has,
      zero-add (syncs events),
      until_open event events (syncs events) free
          (some_counted events has),
    ) (ap (λ (l : List Event). event ∷ l) so_far)
    both false none = rw (none, zero-add (syncs events), none_counted events none) refl

one-add : (n : ℕ) → 1 + n ≡ suc n
one-add n = omega arith

-- what the last sync kept are the events up to it
pub synced-until : (events : List Event) → synced events ≡ until_sync events (syncs events)
synced-until [] = refl
synced-until (Write sector bytes ∷ events) = opened (Write sector bytes) events refl (synced-until events)
synced-until (Sync ∷ events) = rw (one-add (syncs events)) (ap (λ (l : List Event). Sync ∷ l) (synced-until events))
synced-until (Said bytes ∷ events) = opened (Said bytes) events refl (synced-until events)

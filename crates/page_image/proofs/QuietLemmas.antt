-- What calls write, by the spots that they leave alone.
use Rattle.std.proofs.Common.{◌≡◌, ◌≢◌, ℕ, ◌<◌, false, List, [], ◌∷◌, ◌++◌, Option, Some, None, MatchOption, refl, sym}
use Rattle.std.proofs.Common.{◌∙◌, ap, subst}
use Rattle.std.specs.Bool.{⊤}
use Rattle.std.proofs.Math.Path.{fun_ext}
use Rattle.std.proofs.lemmas.List.{append-nil}
use Rattle.save_bytes.specs.declared.space.Bad.{Bad}
use Rattle.save_bytes.specs.Reads.{Reads}
use Rattle.save_bytes.specs.Spots.{Spot, Place, Sector, Frame, Misses}
use Rattle.save_disk.specs.Trace.{Event, Write, Sync, Said, Told}
use Rattle.save_disk.specs.State as disks
use Rattle.save_disk.specs.Writes.{OnlyWrites, GrewBy, WritesOnly}
use Rattle.save_disk.proofs.Growth.{WritesOnly-map, WritesOnly-all}
use Rattle.page_image.specs.declared.state.ImageState.{ImageState}
use Rattle.page_image.specs.declared.image.Image.{Image}
use Rattle.page_image.specs.Images.{byte_of, is_changed}
use Rattle.page_image.specs.Spots.{Leaves, ImageLands}
use Rattle.save_disk.specs.Keeps.{HoldsAt}
use Rattle.page_image.specs.Held.{shown, ImageKeeps}
use Rattle.page_image.specs.Laws.{SureFrom}
use Rattle.page_image.specs.WriteOuts.{IsClean}
use Rattle.page_image.specs.Allowed.{IsAllowedWrite, LeavesMissed}

-- a write of no sector
abbrev OfNone : ℕ → List ℕ → Type 0
OfNone sector bytes = (number : ℕ) → sector ≢ number

-- then there are no events
no_writes : (events : List Event) → OnlyWrites OfNone events → events ≡ []
no_writes [] none = refl
no_writes (Write sector bytes ∷ events) none = absurd (none.0 sector refl)
no_writes (Sync ∷ events) none = absurd none
no_writes (Said bytes ∷ events) none = absurd none

-- a trace to which nothing was added, and of which each read is told as before
same_told : (a b : Told) → GrewBy (OnlyWrites OfNone) a b → ((number : ℕ) → b.sure number ≡ a.sure number) → b ≡ a
same_told a b grew sure =
    let events : b.events ≡ a.events = grew.events
    ∙ ap (λ (more : List Event). a.events ++ more) (no_writes grew.added grew.such) ∙ append-nil a.events in
    λ t. record {
      start = grew.start t;
      grain = grew.grain t;
      events = events t;
      left = grew.left t;
      sure = fun_ext sure t;
    }

-- the same of what a disk tells of its trace
went_same : (o p : Option Told)
    → MatchOption o (p ≡ None) (λ told. (next : Told) × (p ≡ Some next) × GrewBy (OnlyWrites OfNone) told next)
    → ((number : ℕ) → SureFrom number o p) → p ≡ o
went_same None p grew sure = grew
went_same (Some told) p (next, is, grew) sure =
    is
    ∙ ap {B = Option Told} Some
    (same_told told next grew (λ number.
    (let mine = sure number in
    let same : mine.0 ≡ next = some_same mine.0 next (sym mine.1 ∙ is) in
    subst (λ (t : Told). t.sure number ≡ told.sure number) same mine.2)))
  where
    some_same : (x y : Told) → Some x ≡ Some y → x ≡ y
    some_same x y same = cc

module _ (disk : disks.State) (image : ImageState) (disk_new : disks.State) (image_new : ImageState)
    (clean : IsClean image)
    (leaves : (number : ℕ) → Leaves (Sector number) disk image disk_new image_new) where
  -- a call that leaves alone each sector of an image of which nothing is changed leaves the disk's trace as it is
  pub quiet_where_clean : disks.IsQuiet disk disk_new
  quiet_where_clean =
      went_same disk.told disk_new.told
      (WritesOnly-all (λ (number sector : ℕ) (bytes : List ℕ). sector ≢ number) (λ sector bytes. ⊤) disk disk_new
      (leaves 0).0.writes (λ number. ((leaves number).1 (clean number)).1))
      (λ number. ((leaves number).1 (clean number)).2)

  -- and changes nothing of the image
  pub clean_where_clean : IsClean image_new
  clean_where_clean = λ number. ((leaves number).1 (clean number)).0

module _ {D : Type 0} (states : D → disks.State) (lands : Image D → ℕ → Spot → Type 0) (s t : Image D)
    (refusal : Option Bad)
    (reads : Reads (shown states) (ImageKeeps states) lands s t refusal) (clean : IsClean s.image.now) where
  -- so does a call that reads, on every disk
  pub quiet_reads : disks.IsQuiet (states s.disk.now) (states t.disk.now)
  quiet_reads =
      quiet_where_clean (states s.disk.now) s.image.now (states t.disk.now) t.image.now clean
      (λ number. (reads.sectors number).1)

  pub clean_reads : IsClean t.image.now
  clean_reads =
      clean_where_clean (states s.disk.now) s.image.now (states t.disk.now) t.image.now clean
      (λ number. (reads.sectors number).1)

-- a place that is missed, or a sector that is missed and not changed
data Left (i : ImageState) (at n : ℕ) : Type 0 where
  a_place : (x : ℕ) → x < i.len → Misses (ImageLands i.grain) at n (Place x) → Left i at n
  a_sector : (sector : ℕ) → is_changed i sector ≡ false → Misses (ImageLands i.grain) at n (Sector sector) → Left i at n

module _ (d : disks.State) (i : ImageState) (at n : ℕ) where
  -- what each of them asks of a write
  asks : Left i at n → ℕ → List ℕ → Type 0
  asks (a_place x inside misses) = HoldsAt i.grain x (byte_of d i x)
  asks (a_sector sector clean misses) = λ written bytes. written ≢ sector

  module _ (e : disks.State) (j : ImageState) (leaves : LeavesMissed at n d i e j) where
    each : (left : Left i at n) → WritesOnly (asks left) d e
    unfolding asks
    each (a_place x inside misses) = ((leaves (Place x) misses).1 inside).1
    each (a_sector sector clean misses) = ((leaves (Sector sector) misses).1 clean).1

    pub allowed : WritesOnly (IsAllowedWrite d i at n) d e
    unfolding asks
    allowed =
        let base = (leaves Frame (λ k below lands. lands)).0.writes in
        WritesOnly-map (λ sector bytes. (left : Left i at n) → asks left sector bytes) (IsAllowedWrite d i at n)
        (λ sector bytes all. record {
          changed = λ clean misses. all (a_sector sector clean misses) refl;
          bytes = λ x inside misses. all (a_place x inside misses);
        }) d e
        (WritesOnly-all asks (λ sector bytes. ⊤) d e base each)

-- What a write of a changed sector leaves.
use Rattle.std.proofs.Common.{◌≡◌, ◌≢◌, ◌⊎◌, ℕ, ◌+◌, ◌-◌, ◌*◌, ◌/◌, ◌%◌, ◌<◌, ◌≤◌, Bool, true, false, not, ◌&&◌, IsTrue}
use Rattle.std.proofs.Common.{List, [], ◌∷◌, length}
use Rattle.std.proofs.Common.{get_or, Result, Ok, Err, OnOk, OnErr, Option, Some, None, MatchOption, refl, sym, ◌∙◌, ap}
use Rattle.std.proofs.Common.{subst, arith, inl, inr, ⊎_elim}
use Rattle.std.specs.Bool.{⊤}
use Rattle.std.specs.Option.{option_map}
use Rattle.std.proofs.lemmas.Nat.{div-add-mod', div-mul-add, mod_below}
use Rattle.std.proofs.lemmas.Bool.{cases_lt, cases_eq, cases_Bool, eq-eqb, ne_eqb}
use Rattle.save_bytes.specs.Spots.{Spot, Place, Sector}
use Rattle.save_disk.specs.Trace.{Event, Write, Told, with_sector, image_now}
use Rattle.save_disk.specs.State as disks
use Rattle.save_disk.specs.Tells.{tells, is_sure, image_of}
use Rattle.save_disk.specs.Writes.{OnlyWrites, GrewBy, one_if, writes_to, WritesTo}
use Rattle.save_disk.specs.Keeps.{HoldsAt}
use Rattle.save_disk.proofs.SectorBytes.{with_sector-before, with_sector-behind, with_sector-inside}
use Rattle.save_disk.proofs.Told.{told_grain, now_size}
use Rattle.save_disk.proofs.Growth.{grew_happens, grew_failed, came_from, image_written, image_unchanged}
use Rattle.page_image.specs.declared.state.ImageState.{ImageState}
use Rattle.page_image.specs.Images.{is_held, held_byte, byte_of, is_changed, IsDiskOf, Mirrors, IsStored}
use Rattle.page_image.specs.Spots.{SureAsBefore, SameImageSpot, Leaves}
use Rattle.page_image.specs.Laws.{SureFrom}
use Rattle.page_image.specs.Puts.{IsUnmarked}
use Rattle.page_image.specs.WriteOuts.{IsOwnWrite, WritesEach, WritesSome, IsWrittenOut, IsWrittenInPart, IsClean}
use Rattle.page_image.proofs.SectorLemmas.{some_grain, sector_page}
use Rattle.page_image.proofs.FrameLemmas.{byte_front, byte_held, byte_unheld, changed_parts}
use Rattle.page_image.proofs.DiskLemmas.{true-disk_of}

-- what holds besides holds where a call failed
pub on_err : {T E P : Type 0} (r : Result T E) → P → OnErr r P
on_err (Ok value) p = tt
on_err (Err e) p = p

-- what two facts make of a call that is done
pub both_weaker : {T E P Q R : Type 0} (r : Result T E) → (P → Q → R) → OnOk r P → OnOk r Q → OnOk r R
both_weaker (Ok value) f p q = f p q
both_weaker (Err e) f p q = tt

-- what follows of a call however it ends
pub either_way : {T E P Q R : Type 0} (r : Result T E) → (P → R) → (Q → R) → OnOk r P → OnErr r Q → R
either_way (Ok value) f g p q = f p
either_way (Err e) f g p q = g q

-- where no sector is changed each byte is on the disk
pub clean_stored : (d : disks.State) (i : ImageState) → Mirrors d i → IsClean i → IsStored d i
clean_stored d i mirrors clean told is x behind below sure = mirrors told is x behind below sure (clean (x / i.grain))

-- an event ends nothing that is told of reads
pub tells_happened : (event : Event) (d e : disks.State) → disks.IsSteady d e → disks.Happens event d e
    → tells e ≡ tells d
tells_happened event d e steady happens = ap (λ (n : ℕ). is_sure n e.told) steady.size ∙ ap (is_sure d.size) happens
    ∙ still d.told
  where
    still : (o : Option Told) → is_sure d.size (option_map (disks.then_event event) o) ≡ is_sure d.size o
    still None = refl
    still (Some told) = refl

module _ (n : ℕ) (bytes : List ℕ) (sector : ℕ) where
  -- a write that is done changes of no sector what is told of reads
  pub sure_written : (o p : Option Told) → p ≡ option_map (disks.then_event (Write n bytes)) o → SureFrom sector o p
  sure_written None p is = is
  sure_written (Some told) p is = (disks.then_event (Write n bytes) told, is, refl)

  -- and one that failed, of its own sector alone
  pub sure_failed : (o p : Option Told) → sector ≢ n
      → MatchOption o (p ≡ None) (λ told. (next : Told) × (p ≡ Some next) × disks.WriteFails n bytes told next)
      → SureFrom sector o p
  sure_failed None p apart is = is
  sure_failed (Some told) p apart (next, is, fails) = (next, is, fails.others sector apart)

-- this write alone, and no event or this write
abbrev pub IsThis : ℕ → List ℕ → List Event → Type 0
IsThis n bytes events = events ≡ Write n bytes ∷ []

abbrev pub IsThisOrNone : ℕ → List ℕ → List Event → Type 0
IsThisOrNone n bytes events = (events ≡ []) ⊎ (events ≡ Write n bytes ∷ [])

-- the same events, of which something else is known
pub grew_as : {P Q : List Event → Type 0} (a b : Told) (grew : GrewBy P a b) → Q grew.added → GrewBy Q a b
grew_as a b h such = record {
  start = h.start;
  grain = h.grain;
  left = h.left;
  added = h.added;
  events = h.events;
  such = such;
}

some_same : (x y : Told) → Some x ≡ Some y → x ≡ y
some_same x y same = cc

-- what is told of a sector's reads at two moments that are known
pub sure_back : (sector : ℕ) (d e : disks.State) (told next : Told) → SureAsBefore sector d e → d.told ≡ Some told
    → e.told ≡ Some next
    → next.sure sector ≡ told.sure sector
sure_back sector d e told next same was is =
    let from = came_from (λ before after. after.sure sector ≡ before.sure sector) d e next same is in
    from.2 ∙ ap (λ (t : Told). t.sure sector) (some_same from.0 told (sym from.1 ∙ was))

-- a place lies in its sector
pub in_sector : (x n grain : ℕ) → 1 ≤ grain → x / grain ≡ n → (n * grain ≤ x) × (x < n * grain + grain)
in_sector x n grain some same =
    let split = div-add-mod' x grain in
    let rest = mod_below x grain some in
    let place : x ≡ n * grain + x % grain = rw same at (sym split) in
    (omega arith, omega arith)

-- a place that lies in another sector lies before it or behind
sides : (x n grain : ℕ) → x / grain ≢ n → (x < n * grain) ⊎ (n * grain + grain ≤ x)
sides x n grain apart =
    ⊎_elim inl
    (λ (from : n * grain ≤ x).
    ⊎_elim
    (λ (below : x < n * grain + grain).
    let place : x ≡ n * grain + (x - n * grain) = omega arith in
    absurd (apart (ap (λ (y : ℕ). y / grain) place ∙ div-mul-add n grain (x - n * grain) (omega arith))))
    inr (cases_lt x (n * grain + grain)))
    (cases_lt x (n * grain))

module _ (n : ℕ) (bytes : List ℕ) (grain : ℕ) (long : length bytes ≡ grain) where
  module _ (told next : Told) (same_grain : told.grain ≡ grain) (starts : n * grain < length (image_now told)) where
    -- in another sector the image of the disk stays, whether the write came or not
    pub stays_apart : GrewBy (IsThisOrNone n bytes) told next → (x : ℕ) → x < length (image_now told) → x / grain ≢ n
        → get_or (image_now next) x 0 ≡ get_or (image_now told) x 0
    stays_apart grew x inside apart =
        ⊎_elim
        (λ none. ap (λ (l : List ℕ). get_or l x 0) (image_unchanged told next (grew_as told next grew none)))
        (λ this.
        ap (λ (l : List ℕ). get_or l x 0)
        (image_written told next n bytes (grew_as told next grew this)
        ∙ ap (λ (g : ℕ). with_sector g (image_now told) n bytes) same_grain)
        ∙ ⊎_elim (with_sector-before grain (image_now told) n bytes starts long x)
        (λ behind. with_sector-behind grain (image_now told) n bytes starts long x behind inside)
        (sides x n grain apart))
        grew.such

    -- in its own it has what was written
    pub stays_own : GrewBy (IsThis n bytes) told next → (x : ℕ) → x < length (image_now told) → 1 ≤ grain
        → x / grain ≡ n
        → get_or (image_now next) x 0 ≡ get_or bytes (x - n * grain) 0
    stays_own grew x inside some here =
        let (from, below) = in_sector x n grain some here in
        let k : ℕ = x - n * grain in
        let place : x ≡ n * grain + k = omega arith in
        ap (λ (l : List ℕ). get_or l x 0)
        (image_written told next n bytes grew ∙ ap (λ (g : ℕ). with_sector g (image_now told) n bytes) same_grain)
        ∙ ap (λ (y : ℕ). get_or (with_sector grain (image_now told) n bytes) y 0) place
        ∙ with_sector-inside grain (image_now told) n bytes starts long k (omega arith) (omega arith)

  -- and so with what is told of it
  pub told_apart : (o p : Option Told)
      → MatchOption o (p ≡ None) (λ told. (next : Told) × (p ≡ Some next) × GrewBy (IsThisOrNone n bytes) told next)
      → ((told : Told) → o ≡ Some told → (told.grain ≡ grain) × (n * grain < length (image_now told)))
      → (x : ℕ) → ((told : Told) → o ≡ Some told → x < length (image_now told)) → x / grain ≢ n
      → get_or (image_of p) x 0 ≡ get_or (image_of o) x 0
  told_apart None p is fits x inside apart = ap (λ (o : Option Told). get_or (image_of o) x 0) is
  told_apart (Some told) p (next, is, grew) fits x inside apart =
      let facts = fits told refl in
      ap (λ (o : Option Told). get_or (image_of o) x 0) is
      ∙ stays_apart told next facts.0 facts.1 grew x (inside told refl) apart

-- an image with the same bytes, of which each sector but one is as much changed
pub record SameBut (n : ℕ) (i j : ImageState) : Type 0 where
  pub len : j.len ≡ i.len
  pub grain : j.grain ≡ i.grain
  pub header : j.header ≡ i.header
  pub frames : length j.pages.items ≡ length i.pages.items
  pub held : (page : ℕ) → is_held j page ≡ is_held i page
  pub bytes : (x : ℕ) → held_byte j x ≡ held_byte i x
  pub others : (sector : ℕ) → sector ≢ n → is_changed j sector ≡ is_changed i sector

-- so is one of which a sector was unmarked
pub SameBut-unmarked : (n : ℕ) (i j : ImageState) → IsUnmarked n i j → SameBut n i j
SameBut-unmarked n i j h = record {
  len = h.same.len;
  grain = h.same.grain;
  header = h.same.header;
  frames = h.same.frames;
  held = h.held;
  bytes = h.bytes;
  others = h.others;
}

SameBut-same : (n : ℕ) (i : ImageState) → SameBut n i i
SameBut-same n i = record {
  len = refl;
  grain = refl;
  header = refl;
  frames = refl;
  held = λ page. refl;
  bytes = λ x. refl;
  others = λ sector apart. refl;
}

module _ (d : disks.State) (i : ImageState) (n : ℕ) (bytes : List ℕ) (own : IsOwnWrite d i n bytes)
    (sound : disks.IsSound d) (disk_of : IsDiskOf d i) where
  -- a byte of the write is the image's
  own_byte : (x : ℕ) → x < i.len → n * i.grain ≤ x → x < n * i.grain + i.grain
      → get_or bytes (x - n * i.grain) 0 ≡ byte_of d i x
  own_byte x inside from below =
      let place : n * i.grain + (x - n * i.grain) ≡ x = omega arith in
      own.bytes.each (x - n * i.grain) (omega arith) (omega arith) ∙ ap (byte_of d i) place

  -- a sector that is not changed is another
  other_sector : (sector : ℕ) → is_changed i sector ≡ false → sector ≢ n
  other_sector sector clean same =
      let changed = own.changed in
      let here : is_changed i n ≡ false = ap (is_changed i) (sym same) ∙ clean in
      absurd (cc)

  begins : n * i.grain < i.len
  begins = (changed_parts i (n * i.grain) own.changed).0

  -- a page that is not held has no place in the sector
  unheld_apart : (x : ℕ) → is_held i (x / 4096) ≡ false → x / i.grain ≢ n
  unheld_apart x none here =
      let held = (changed_parts i (n * i.grain) own.changed).1 in
      let same : n * i.grain / 4096 ≡ x / 4096 = ap (λ (s : ℕ). s * i.grain / 4096) (sym here)
      ∙ sector_page i.grain i.layout.known x in
      let gone : is_held i (n * i.grain / 4096) ≡ false = ap (is_held i) same ∙ none in
      absurd (cc)

  told_fits : (told : Told) → d.told ≡ Some told → (told.grain ≡ i.grain) × (length (image_now told) ≡ i.len)
  told_fits told is = (told_grain d told sound is ∙ disk_of.grain, now_size d told sound is ∙ disk_of.size)

  module _ (e : disks.State) (j : ImageState) (steady : disks.IsSteady d e) (same : SameBut n i j)
      (grew : disks.GoesOn (GrewBy (IsThisOrNone n bytes)) d e)
      (sure : (sector : ℕ) → sector ≢ n → SureAsBefore sector d e)
      (this : is_changed j n ≡ false → disks.GoesOn (GrewBy (IsThis n bytes)) d e) where
    byte_kept : (x : ℕ) → x < i.len → byte_of e j x ≡ byte_of d i x
    byte_kept x inside =
        ⊎_elim
        (λ (front : x < 512). byte_front e j x front ∙ ap (λ (l : List ℕ). get_or l x 0) same.header
        ∙ sym (byte_front d i x front))
        (λ (behind : 512 ≤ x).
        ⊎_elim
        (λ (held : is_held i (x / 4096) ≡ true).
        byte_held e j x behind (same.held (x / 4096) ∙ held) ∙ same.bytes x ∙ sym (byte_held d i x behind held))
        (λ (none : is_held i (x / 4096) ≡ false).
        byte_unheld e j x behind (same.held (x / 4096) ∙ none)
        ∙ told_apart n bytes i.grain own.bytes.long d.told e.told grew
        (λ told is. (let fits = told_fits told is in let start = begins in (fits.0, omega arith)))
        x (λ told is. (let fits = told_fits told is in omega arith)) (unheld_apart x none)
        ∙ sym (byte_unheld d i x behind none))
        (cases_Bool (is_held i (x / 4096))))
        (cases_lt x 512)

    mirrors : Mirrors e j
    mirrors next is x behind below_now sure_now clean_now =
        let inside : x < i.len = subst (λ (m : ℕ). x < m) same.len below_now in
        let clean : is_changed j (x / i.grain) ≡ false =
        subst (λ (g : ℕ). is_changed j (x / g) ≡ false) same.grain clean_now in
        let told_sure : IsTrue (next.sure (x / i.grain)) =
        subst (λ (g : ℕ). IsTrue (next.sure (x / g))) same.grain sure_now in
        let some = some_grain i.grain i.layout.known in
        let start = begins in
        ⊎_elim
        (λ (here : x / i.grain ≡ n).
        let from = came_from (GrewBy (IsThis n bytes)) d e next (this (ap (is_changed j) (sym here) ∙ clean)) is in
        let fits = told_fits from.0 from.1 in
        let (low, high) = in_sector x n i.grain some here in
        stays_own n bytes i.grain own.bytes.long from.0 next fits.0 (omega arith) from.2 x (omega arith) some here
        ∙ own_byte x inside low high ∙ sym (byte_kept x inside))
        (λ (apart : x / i.grain ≢ n).
        let from = came_from (GrewBy (IsThisOrNone n bytes)) d e next grew is in
        let fits = told_fits from.0 from.1 in
        let before : IsTrue (from.0.sure (x / i.grain)) =
        sym (sure_back (x / i.grain) d e from.0 next (sure (x / i.grain) apart) from.1 is) ∙ told_sure in
        stays_apart n bytes i.grain own.bytes.long from.0 next fits.0 (omega arith) from.2 x (omega arith) apart
        ∙ disk_of.mirrors from.0 from.1 x behind inside before (sym (same.others (x / i.grain) apart) ∙ clean)
        ∙ sym (byte_kept x inside))
        (cases_eq (x / i.grain) n)

    now_disk_of : IsDiskOf e j
    now_disk_of = record {
      size = steady.size ∙ disk_of.size ∙ sym same.len;
      grain = steady.grain ∙ disk_of.grain ∙ sym same.grain;
      mirrors = mirrors;
    }

    -- what is left where the trace may have this write more
    module _ (pending : is_changed j n ≡ false → WritesTo n d e)
        (grow : (P : List Event → Type 0) → P [] → P (Write n bytes ∷ []) → disks.GoesOn (GrewBy P) d e) where
      still : (sector : ℕ) → is_changed i sector ≡ true → is_changed j sector ≡ false → WritesTo sector d e
      still sector changed clean =
          ⊎_elim
          (λ (here : sector ≡ n). subst (λ (s : ℕ). WritesTo s d e) (sym here)
          (pending (ap (is_changed j) (sym here) ∙ clean)))
          (λ (apart : sector ≢ n). let marks = same.others sector apart in absurd (cc))
          (cases_eq sector n)

      left_spot : (spot : Spot) → SameImageSpot spot d i e j
      left_spot (Place x) = λ inside. (
        byte_kept x inside,
        grow (OnlyWrites (HoldsAt i.grain x (byte_of d i x))) tt
            (λ from below. own_byte x inside from below, tt),
      )
      left_spot (Sector number) = λ clean.
          (let apart = other_sector number clean in
          let grew = grow (OnlyWrites (λ sector written. sector ≢ number)) tt (λ is. apart (sym is), tt) in
          (same.others number apart ∙ clean, grew, sure number apart))
      left_spot other = tt

      left : (spot : Spot) → Leaves spot d i e j
      left spot = (
        record {
          len = same.len;
          grain = same.grain;
          frames = same.frames;
          steady = steady;
          writes = grow (OnlyWrites (λ sector written. ⊤)) tt (tt, tt);
          sound = true-disk_of e j now_disk_of ∙ sym (true-disk_of d i disk_of);
          pending = still;
        },
        left_spot spot,
      )

  -- the sector was written
  pub leaves_written : (e : disks.State) (j : ImageState) → disks.IsSteady d e → SameBut n i j
      → disks.Happens (Write n bytes) d e
      → (spot : Spot) → Leaves spot d i e j
  leaves_written e j steady same happens =
      left e j steady same
      (grew_happens (IsThisOrNone n bytes) (Write n bytes) d e happens (inr refl))
      (λ sector apart. sure_written n bytes sector d.told e.told happens)
      (λ clean. grew_happens (IsThis n bytes) (Write n bytes) d e happens refl)
      (λ clean. grew_happens (λ events. 1 ≤ writes_to n events) (Write n bytes) d e happens
      (rw (eq-eqb n n refl) (omega arith)))
      (λ P none such. grew_happens P (Write n bytes) d e happens such)

  -- the write failed, and the sector stays changed
  pub leaves_failed : (e : disks.State) → disks.IsSteady d e → disks.GoesOn (disks.WriteFails n bytes) d e
      → (spot : Spot) → Leaves spot d i e i
  leaves_failed e steady fails =
      left e i steady (SameBut-same n i)
      (grew_failed (IsThisOrNone n bytes) n bytes d e fails (inl refl) (inr refl))
      (λ sector apart. sure_failed n bytes sector d.told e.told apart fails)
      (λ clean. let changed = own.changed in absurd (cc))
      (λ clean. let changed = own.changed in absurd (cc))
      (λ P none such. grew_failed P n bytes d e fails none such)

  -- a write that is done
  pub wrote_this : (e : disks.State) (j : ImageState) → disks.IsSteady d e → IsUnmarked n i j
      → disks.Happens (Write n bytes) d e → IsWrittenOut d i e j
  wrote_this e j steady unmarked happens = record {
    went = record {
      leaves = leaves_written e j steady (SameBut-unmarked n i j unmarked) happens;
      frames = unmarked.frames;
      fewer = fewer;
    };
    written = grew_happens (WritesEach d i (λ sector. not (is_changed j sector))) (Write n bytes) d e happens
        (record { own = (own, tt); count = one_write });
    told = tells_happened (Write n bytes) d e steady happens;
  } where
    fewer : (sector : ℕ) → is_changed j sector ≡ true → is_changed i sector ≡ true
    fewer sector changed =
        ⊎_elim (λ (here : sector ≡ n). ap (is_changed i) here ∙ own.changed)
        (λ (apart : sector ≢ n). sym (unmarked.others sector apart) ∙ changed)
        (cases_eq sector n)

    one_write : (m : ℕ) → writes_to m (Write n bytes ∷ []) ≡ one_if (not (is_changed j m) && is_changed i m)
    one_write m =
        ⊎_elim
        (λ (here : n ≡ m).
        rw (eq-eqb n m here, ap (is_changed i) (sym here) ∙ own.changed, ap (is_changed j) (sym here) ∙ unmarked.clean)
        refl)
        (λ (apart : n ≢ m).
        rw (ne_eqb n m apart, unmarked.others m (λ same. apart (sym same))) (none (is_changed i m)))
        (cases_eq n m)
      where
        none : (b : Bool) → 0 + 0 ≡ one_if (not b && b)
        none true = refl
        none false = refl

  -- and one that failed
  pub wrote_this_or_none : (e : disks.State) → disks.IsSteady d e → disks.GoesOn (disks.WriteFails n bytes) d e
      → IsWrittenInPart d i e i
  wrote_this_or_none e steady fails = record {
    went = record {
      leaves = leaves_failed e steady fails;
      frames = record { slots = refl; pages = refl };
      fewer = λ sector changed. changed;
    };
    written = grew_failed (WritesSome d i (λ sector. true)) n bytes d e fails
        (record { own = tt; count = λ m. omega arith })
        (record { own = (own, tt); count = one_at_most });
  } where
    one_at_most : (m : ℕ) → writes_to m (Write n bytes ∷ []) ≤ one_if (true && is_changed i m)
    one_at_most m =
        ⊎_elim
        (λ (here : n ≡ m). rw (eq-eqb n m here, ap (is_changed i) (sym here) ∙ own.changed) (omega arith))
        (λ (apart : n ≢ m). rw (ne_eqb n m apart) (omega arith))
        (cases_eq n m)

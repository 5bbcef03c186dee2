-- What a put leaves, page by page.
use Rattle.std.proofs.Common.{◌≡◌, ◌≢◌, ◌⊎◌, ℕ, ◌+◌, ◌-◌, ◌*◌, ◌/◌, ◌%◌, ◌<◌, ◌≤◌, true, false, IsTrue, List, length}
use Rattle.std.proofs.Common.{get_or, take, drop}
use Rattle.std.proofs.Common.{refl, sym, ◌∙◌, ap, subst, arith, inl, inr, ⊎_elim}
use Rattle.std.specs.Bool.{⊤}
use Rattle.std.proofs.lemmas.List.{get_or-take, get_or-drop, length-drop, length-take-le}
use Rattle.std.proofs.lemmas.Bool.{cases_lt, cases_eq, cases_Bool}
use Rattle.save_bytes.specs.Spots.{Spot, Place, Sector, Frame, Misses}
use Rattle.save_disk.specs.State as disks
use Rattle.save_disk.specs.Tells.{tells}
use Rattle.save_disk.specs.Writes.{WritesOnly, WritesTo}
use Rattle.save_disk.specs.Keeps.{HoldsAt}
use Rattle.save_disk.proofs.Growth.{WritesOnly-quiet, WritesOnly-join, WritesOnly-map, WritesOnly-all, WritesTo-first}
use Rattle.save_disk.proofs.Growth.{WritesTo-later}
use Rattle.save_disk.proofs.Telling.{steady_start}
use Rattle.page_image.specs.declared.state.ImageState.{ImageState}
use Rattle.page_image.specs.Images.{is_held, byte_of, is_changed, Mirrors, IsDiskOf}
use Rattle.page_image.specs.Spots.{SameImage, SameImageSpot, LeavesTold, IsToldFor, ImageLands}
use Rattle.page_image.specs.Allowed.{HoldsImage, IsOldOrNewSector}
use Rattle.page_image.specs.Frames.{SameFrames}
use Rattle.page_image.specs.Puts.{Marks, IsImagePut}
use Rattle.page_image.specs.PutFronts.{PutsSome, HasFirst, PutsFirst}
use Rattle.page_image.specs.Laws.{sure_start, SameImage-same, SameImageSpot-same, SameImage-join, SameImageSpot-join}
use Rattle.page_image.proofs.FrameLemmas.{byte_front, byte_held, byte_unheld}
use Rattle.page_image.proofs.DiskLemmas.{true-disk_of}
use Rattle.page_image.proofs.SectorLemmas.{place_page}

-- a piece was put at a place, and no byte of the image is another besides
pub record IsPiecePut (disk : disks.State) (at : ℕ) (piece : List ℕ) (old new : ImageState) : Type 0 where
  pub same : SameFrames old new
  pub bytes : HasFirst at piece (length piece) disk old disk new
  pub marks : Marks at (length piece) old new

-- so it is where it was put into a page that is held
module _ (e : disks.State) (j k : ImageState) (at : ℕ) (piece : List ℕ) (put : IsImagePut at piece j k)
    (behind : 512 ≤ at)
    (in_page : at % 4096 + length piece ≤ 4096) (there : is_held j (at / 4096) ≡ true) where
  put_byte : (m : ℕ) → m < length piece → byte_of e k (at + m) ≡ get_or piece m 0
  put_byte m below =
      let page : (at + m) / 4096 ≡ at / 4096 = omega arith in
      byte_held e k (at + m) (omega arith) (put.held ((at + m) / 4096) ∙ ap (is_held j) page ∙ there)
      ∙ put.written m below

  other_byte : (x : ℕ) → ((m : ℕ) → m < length piece → x ≢ at + m) → byte_of e k x ≡ byte_of e j x
  other_byte x apart =
      ⊎_elim
      (λ (front : x < 512). byte_front e k x front ∙ ap (λ (l : List ℕ). get_or l x 0) put.same.header
      ∙ sym (byte_front e j x front))
      (λ (from : 512 ≤ x).
      ⊎_elim
      (λ (held : is_held j (x / 4096) ≡ true).
      byte_held e k x from (put.held (x / 4096) ∙ held) ∙ put.others x held apart ∙ sym (byte_held e j x from held))
      (λ (none : is_held j (x / 4096) ≡ false). byte_unheld e k x from (put.held (x / 4096) ∙ none)
      ∙ sym (byte_unheld e j x from none))
      (cases_Bool (is_held j (x / 4096))))
      (cases_lt x 512)

  pub put_held : IsPiecePut e at piece j k
  put_held = record {
    same = put.same;
    bytes = record { written = put_byte; others = λ x inside. other_byte x };
    marks = put.marks;
  }

-- what such a put leaves
module _ (e : disks.State) (j k : ImageState) (at : ℕ) (piece : List ℕ) (disk_of : IsDiskOf e j)
    (put : IsPiecePut e at piece j k) where
  -- a sector that is not changed now has no place of the piece
  unmet : (sector : ℕ) → is_changed k sector ≡ false → (m : ℕ) → m < length piece → (at + m) / j.grain ≢ sector
  unmet sector clean m within same =
      let met = put.marks.met m within in
      let changed : is_changed k sector ≡ true = ap (is_changed k) (sym same) ∙ met in
      absurd (cc)

  mirrors : Mirrors e k
  mirrors told is x from below_now sure_now clean_now =
      let inside : x < j.len = subst (λ (n : ℕ). x < n) put.same.len below_now in
      let sure : IsTrue (told.sure (x / j.grain)) =
      subst (λ (g : ℕ). IsTrue (told.sure (x / g))) put.same.grain sure_now in
      let clean : is_changed k (x / j.grain) ≡ false =
      subst (λ (g : ℕ). is_changed k (x / g) ≡ false) put.same.grain clean_now in
      let missed = unmet (x / j.grain) clean in
      disk_of.mirrors told is x from inside sure (sym (put.marks.others (x / j.grain) missed) ∙ clean)
      ∙ sym (put.bytes.others x inside (λ m within same. missed m within (ap (λ (y : ℕ). y / j.grain) (sym same))))

  put_disk_of : IsDiskOf e k
  put_disk_of = record {
    size = disk_of.size ∙ sym put.same.len;
    grain = disk_of.grain ∙ sym put.same.grain;
    mirrors = mirrors;
  }

  put_image : SameImage e j e k
  put_image = record {
    len = put.same.len;
    grain = put.same.grain;
    frames = put.same.frames;
    steady = steady_start e;
    writes = WritesOnly-quiet (λ sector bytes. ⊤) e e refl;
    sound = true-disk_of e k put_disk_of ∙ sym (true-disk_of e j disk_of);
    pending = λ sector changed clean. absurd (let same = put.marks.others sector (unmet sector clean) in cc);
  }

  -- a spot that the put misses is left alone
  put_spot : (spot : Spot) → Misses (ImageLands j.grain) at (length piece) spot → SameImageSpot spot e j e k
  put_spot (Place x) misses = λ inside. (
    put.bytes.others x inside (λ m within same. misses m within (sym same)),
    WritesOnly-quiet (HoldsAt j.grain x (byte_of e j x)) e e refl,
  )
  put_spot (Sector number) misses =
      λ clean. (
        put.marks.others number misses ∙ clean,
        WritesOnly-quiet (λ sector bytes. sector ≢ number) e e refl,
        sure_start number e.told,
      )
  put_spot other misses = tt

-- each write of a call that leaves each place alone holds the image
pub holds_image : (d e : disks.State) (i j : ImageState) → tells d ≡ true → LeavesTold d i e j
    → WritesOnly (HoldsImage d i) d e
holds_image d e i j told leaves =
    WritesOnly-map (λ sector bytes. (x : ℕ) → x < i.len → HoldsAt i.grain x (byte_of d i x) sector bytes)
    (HoldsImage d i) (λ sector bytes h. h) d e
    (WritesOnly-all (λ (x sector : ℕ) (bytes : List ℕ). x < i.len → HoldsAt i.grain x (byte_of d i x) sector bytes)
    (λ sector bytes. ⊤) d e
    (leaves Frame tt).0.writes each)
  where
    each : (x : ℕ) → WritesOnly (λ (sector : ℕ) (bytes : List ℕ). x < i.len
        → HoldsAt i.grain x (byte_of d i x) sector bytes) d e
    each x =
        ⊎_elim
        (λ (inside : x < i.len).
        WritesOnly-map (HoldsAt i.grain x (byte_of d i x))
        (λ sector bytes. x < i.len → HoldsAt i.grain x (byte_of d i x) sector bytes)
        (λ sector bytes h below. h) d e (((leaves (Place x) told).1 inside).1))
        (λ (past : i.len ≤ x).
        WritesOnly-map (λ sector bytes. ⊤) (λ sector bytes. x < i.len → HoldsAt i.grain x (byte_of d i x) sector bytes)
        (λ sector bytes h below. absurd (omega arith)) d e (leaves Frame tt).0.writes)
        (cases_lt x i.len)

-- a page is reached, and then put into
module _ (d e : disks.State) (i j k : ImageState) (at : ℕ) (piece : List ℕ) (leaves : LeavesTold d i e j)
    (told : tells e ≡ tells d) (disk_of : IsDiskOf e j)
    (put : IsPiecePut e at piece j k) where
  reached : SameImage d i e j
  reached = (leaves Frame tt).0

  missed_there : (spot : Spot) → Misses (ImageLands i.grain) at (length piece) spot
      → Misses (ImageLands j.grain) at (length piece) spot
  missed_there spot misses = λ m below lands.
      misses m below (subst (λ (g : ℕ). ImageLands g (at + m) spot) reached.grain lands)

  first_spot : IsTrue (tells d) → (spot : Spot) → IsToldFor spot d → Misses (ImageLands i.grain) at (length piece) spot
      → SameImageSpot spot d i e k
  first_spot is spot asked misses =
      SameImageSpot-join d e e i j k spot reached.len reached.grain (leaves spot asked).1
      (put_spot e j k at piece disk_of put spot (missed_there spot misses))

  asked : IsTrue (tells d) → (spot : Spot) → IsToldFor spot d
  asked is (Place x) = is
  asked is other = tt

  place_same : IsTrue (tells d) → (x : ℕ) → x < i.len → byte_of e j x ≡ byte_of d i x
  place_same is x inside = ((leaves (Place x) is).1 inside).0

  pub puts_first : at + length piece ≤ i.len → PutsFirst at piece (length piece) d i e k
  puts_first fits = record {
    some = record {
      hold = SameImage-join d e e i j k reached (put_image e j k at piece disk_of put);
      spots = λ is spot misses. first_spot is spot (asked is spot) misses;
      old_or_new = λ is.
          WritesOnly-map (HoldsImage d i) (IsOldOrNewSector d i e k) (λ sector bytes h. record { either = inl h }) d e
          (holds_image d e i j is leaves);
    };
    put = λ is. record {
      written = put.bytes.written;
      others = λ x inside apart. put.bytes.others x (omega (arith, reached.len)) apart ∙ place_same is x inside;
    };
    pending = λ m below clean. absurd (clean_met m below clean);
    told = told;
  } where
    clean_met : (m : ℕ) → m < length piece → is_changed k ((at + m) / k.grain) ≡ false → ⊥
    clean_met m below clean =
        let met = put.marks.met m below in
        let same : is_changed k ((at + m) / k.grain) ≡ is_changed k ((at + m) / j.grain) =
        ap (λ (g : ℕ). is_changed k ((at + m) / g)) put.same.grain in
        cc

-- nothing was put yet
pub puts_none : (at : ℕ) (bytes : List ℕ) (d : disks.State) (i : ImageState) → PutsFirst at bytes 0 d i d i
puts_none at bytes d i = record {
  some = record {
    hold = SameImage-same d i;
    spots = λ is spot misses. SameImageSpot-same spot d i;
    old_or_new = λ is. WritesOnly-quiet (IsOldOrNewSector d i d i) d d refl;
  };
  put = λ is. record { written = λ m below. absurd (omega arith); others = λ x inside apart. refl };
  pending = λ m below clean. absurd (omega arith);
  told = refl;
}

-- a write that holds a sector of an image holds it of another image with the same bytes there
other_image : (d e : disks.State) (i j : ImageState) (sector : ℕ) (written : List ℕ) → j.len ≡ i.len → j.grain ≡ i.grain
    → ((x : ℕ) → x < i.len → x / 4096 ≡ sector * i.grain / 4096 → byte_of e j x ≡ byte_of d i x)
    → HoldsImage e j sector written → HoldsImage d i sector written
other_image d e i j sector written len grain same holds x inside from below =
    let start : sector * j.grain ≡ sector * i.grain = ap (λ (g : ℕ). sector * g) grain in
    let m : ℕ = x - sector * i.grain in
    let place : sector * i.grain + m ≡ x = omega arith in
    let page : x / 4096 ≡ sector * i.grain / 4096 = ap (λ (y : ℕ). y / 4096) (sym place)
    ∙ place_page i.grain i.layout.known sector m (omega arith) in
    ap (λ (n : ℕ). get_or written (x - n) 0) (sym start) ∙ holds x (omega arith) (omega arith) (omega arith)
    ∙ same x inside page

-- behind the first bytes of a put
module _ (at : ℕ) (bytes : List ℕ) (done : ℕ) (d e f : disks.State) (i j k : ImageState)
    (first : PutsFirst at bytes done d i e j) (hold : SameImage e j f k) where
  same : SameImage d i e j
  same = first.some.hold

  told_now : IsTrue (tells d) → IsTrue (tells e)
  told_now is = first.told ∙ is

  -- a spot that the whole put misses is left alone, where the call that comes next leaves it alone
  later_spot : IsTrue (tells d) → (spot : Spot) → Misses (ImageLands i.grain) at (length bytes) spot
      → SameImageSpot spot e j f k → SameImageSpot spot d i f k
  later_spot is spot misses next =
      SameImageSpot-join d e f i j k spot same.len same.grain (first.some.spots is spot misses) next

  -- a call comes next that leaves each byte as it is
  module _ (leaves : LeavesTold e j f k) where
    still : IsTrue (tells d) → (sector : ℕ) (written : List ℕ) → HoldsImage e j sector written
        → HoldsImage f k sector written
    still is sector written =
        other_image f e k j sector written (sym hold.len) (sym hold.grain)
        (λ x inside page. sym ((leaves (Place x) (told_now is)).1 (omega (arith, hold.len))).0)

    old_or_still : IsTrue (tells d) → (sector : ℕ) (written : List ℕ) → IsOldOrNewSector d i e j sector written
        → IsOldOrNewSector d i f k sector written
    old_or_still is sector written h =
        record { either = ⊎_elim (λ old. inl old) (λ new. inr (still is sector written new)) h.either }

    asks : IsTrue (tells e) → (spot : Spot) → IsToldFor spot e
    asks is (Place x) = is
    asks is other = tt

    pub puts_some : PutsSome at (length bytes) d i f k
    puts_some = record {
      hold = SameImage-join d e f i j k same hold;
      spots = λ is spot misses. later_spot is spot misses (leaves spot (asks (told_now is) spot)).1;
      old_or_new = λ is.
          WritesOnly-join (IsOldOrNewSector d i f k) d e f
          (WritesOnly-map (IsOldOrNewSector d i e j) (IsOldOrNewSector d i f k) (old_or_still is) d e
          (first.some.old_or_new is))
          (WritesOnly-map (HoldsImage e j) (IsOldOrNewSector d i f k)
          (λ sector written h. record { either = inr (still is sector written h) }) e f
          (holds_image e f j k (told_now is) leaves));
    }

  -- the next ones are put, which lie in one page; what was put before lies in others
  module _ (n : ℕ) (next : PutsFirst (at + done) (take n (drop done bytes)) n e j f k) (fits : done + n ≤ length bytes)
      (in_page : (at + done) % 4096 + n ≤ 4096)
      (fresh : (done ≡ 0) ⊎ ((at + done) % 4096 ≡ 0)) where
    abbrev part : List ℕ
    part = take n (drop done bytes)

    long : length part ≡ n
    long = length-take-le n (drop done bytes) (omega (arith, length-drop done bytes))

    -- a page with one of the next bytes had none of those that were put
    not_before : IsTrue (tells d) → (x : ℕ) → x < i.len → x / 4096 ≡ (at + done) / 4096 → byte_of e j x ≡ byte_of d i x
    not_before is x inside page =
        (first.put is).others x inside
        (λ m below here. ⊎_elim (λ none. absurd (omega arith)) (λ starts. absurd (omega arith)) fresh)

    -- and another page has none of the next ones
    not_now : IsTrue (tells d) → (x : ℕ) → x < j.len → x / 4096 ≢ (at + done) / 4096 → byte_of f k x ≡ byte_of e j x
    not_now is x inside page = (next.put (told_now is)).others x inside (λ m below here. page (omega arith))

    turned : IsTrue (tells d) → (sector : ℕ) (written : List ℕ) → HoldsImage e j sector written
        → IsOldOrNewSector d i f k sector written
    turned is sector written holds = record {
      either = ⊎_elim
          (λ (here : sector * i.grain / 4096 ≡ (at + done) / 4096).
          inl (other_image d e i j sector written same.len same.grain
          (λ x inside page. not_before is x inside (page ∙ here)) holds))
          (λ (away : sector * i.grain / 4096 ≢ (at + done) / 4096).
          inr
          (other_image f e k j sector written (sym hold.len) (sym hold.grain)
          (λ x inside page.
          (let grain : sector * k.grain / 4096 ≡ sector * i.grain / 4096 =
          ap (λ (g : ℕ). sector * g / 4096) (hold.grain ∙ same.grain) in
          sym (not_now is x (omega (arith, hold.len)) (λ is_there. away (sym grain ∙ sym page ∙ is_there)))))
          holds))
          (cases_eq (sector * i.grain / 4096) ((at + done) / 4096));
    }

    old_or_turned : IsTrue (tells d) → (sector : ℕ) (written : List ℕ) → IsOldOrNewSector d i e j sector written
        → IsOldOrNewSector d i f k sector written
    old_or_turned is sector written h = ⊎_elim (λ old. record { either = inl old }) (turned is sector written) h.either

    turned_or_new : IsTrue (tells d) → (sector : ℕ) (written : List ℕ) → IsOldOrNewSector e j f k sector written
        → IsOldOrNewSector d i f k sector written
    turned_or_new is sector written h = ⊎_elim (turned is sector written) (λ new. record { either = inr new }) h.either

    misses_next : (spot : Spot) → Misses (ImageLands i.grain) at (length bytes) spot
        → Misses (ImageLands j.grain) (at + done) (length part) spot
    misses_next spot misses m below lands =
        let place : at + (done + m) ≡ at + done + m = omega arith in
        misses (done + m) (omega (arith, long))
        (subst (λ (x : ℕ). ImageLands i.grain x spot) (sym place)
        (subst (λ (g : ℕ). ImageLands g (at + done + m) spot) same.grain lands))

    next_byte : (m : ℕ) → done ≤ m → m < done + n → get_or part (m - done) 0 ≡ get_or bytes m 0
    next_byte m from below =
        get_or-take n (drop done bytes) (m - done) 0 (omega arith) ∙ get_or-drop done bytes (m - done) 0
        ∙ ap (λ (x : ℕ). get_or bytes x 0) (omega arith)

    written_more : IsTrue (tells d) → at + done + n ≤ i.len → (m : ℕ) → m < done + n
        → byte_of f k (at + m) ≡ get_or bytes m 0
    written_more is inside m below =
        ⊎_elim
        (λ (low : m < done).
        (next.put (told_now is)).others (at + m) (omega (arith, same.len)) (λ l small here. omega arith)
        ∙ (first.put is).written m low)
        (λ (from : done ≤ m).
        ap (byte_of f k) (omega arith) ∙ (next.put (told_now is)).written (m - done) (omega arith)
        ∙ next_byte m from below)
        (cases_lt m done)

    pending_more : (m : ℕ) → m < done + n → is_changed k ((at + m) / k.grain) ≡ false
        → WritesTo ((at + m) / k.grain) d f
    pending_more m below clean =
        ⊎_elim
        (λ (low : m < done).
        let there : (at + m) / j.grain ≡ (at + m) / k.grain = ap (λ (g : ℕ). (at + m) / g) (sym hold.grain) in
        ⊎_elim
        (λ (still_changed : is_changed j ((at + m) / k.grain) ≡ true).
        WritesTo-later ((at + m) / k.grain) (λ sector written. ⊤) d e f same.writes
        (hold.pending ((at + m) / k.grain) still_changed clean))
        (λ (was : is_changed j ((at + m) / k.grain) ≡ false).
        WritesTo-first ((at + m) / k.grain) (λ sector written. ⊤) d e f
        (subst (λ (s : ℕ). WritesTo s d e) there (first.pending m low (ap (is_changed j) there ∙ was))) hold.writes)
        (cases_Bool (is_changed j ((at + m) / k.grain))))
        (λ (from : done ≤ m).
        let place : at + done + (m - done) ≡ at + m = omega arith in
        let there : (at + done + (m - done)) / k.grain ≡ (at + m) / k.grain = ap (λ (x : ℕ). x / k.grain) place in
        WritesTo-later ((at + m) / k.grain) (λ sector written. ⊤) d e f same.writes
        (subst (λ (s : ℕ). WritesTo s e f) there
        (next.pending (m - done) (omega arith) (ap (is_changed k) there ∙ clean))))
        (cases_lt m done)

    pub puts_more : at + length bytes ≤ i.len → PutsFirst at bytes (done + n) d i f k
    puts_more inside = record {
      some = record {
        hold = SameImage-join d e f i j k same hold;
        spots = λ is spot misses. later_spot is spot misses
            (next.some.spots (told_now is) spot (misses_next spot misses));
        old_or_new = λ is.
            WritesOnly-join (IsOldOrNewSector d i f k) d e f
            (WritesOnly-map (IsOldOrNewSector d i e j) (IsOldOrNewSector d i f k) (old_or_turned is) d e
            (first.some.old_or_new is))
            (WritesOnly-map (IsOldOrNewSector e j f k) (IsOldOrNewSector d i f k) (turned_or_new is) e f
            (next.some.old_or_new (told_now is)));
      };
      put = λ is. record {
        written = written_more is (omega arith);
        others = λ x below apart.
            (next.put (told_now is)).others x (omega (arith, same.len))
            (λ m small here. apart (done + m) (omega arith) (omega arith))
            ∙ (first.put is).others x below (λ m small. apart m (omega arith));
      };
      pending = pending_more;
      told = next.told ∙ first.told;
    }

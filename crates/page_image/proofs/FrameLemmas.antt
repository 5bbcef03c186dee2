-- What the frames of an image hold.
use Rattle.std.proofs.Common.{◌≡◌, ℕ, ◌+◌, ◌*◌, ◌/◌, ◌%◌, ◌<◌, ◌≤◌, Bool, true, false, ◌&&◌, ltb, List, length, get_or}
use Rattle.std.proofs.Common.{Option, Some, None, refl, sym, ◌∙◌, ap, arith, ⊎_elim}
use Rattle.std.proofs.Math.Nat.{zero-mul}
use Rattle.std.proofs.lemmas.List.{get_or_past}
use Rattle.std.proofs.lemmas.Bool.{cases_lt, and_parts, and_left, and_right, ltb-true, lt-ltb, le-ltb, eqb-true, eq-eqb}
use Rattle.save_disk.specs.State as disks
use Rattle.save_disk.specs.Tells.{image_told}
use Rattle.page_image.specs.declared.state.ImageState.{ImageState}
use Rattle.page_image.specs.Images.{is_page, frame_of, is_held, held_byte, byte_of, mark_of, is_changed_at, is_changed}
use Rattle.page_image.specs.Images.{IsHeldPiece}
use Rattle.page_image.specs.Frames.{SameFrames}
use Rattle.page_image.specs.WriteOuts.{IsSectorOf}
use Rattle.page_image.proofs.SectorLemmas.{sector_page, place_page, place_rest, behind_front}

-- one call behind another
pub SameFrames-join : (i j k : ImageState) → SameFrames i j → SameFrames j k → SameFrames i k
SameFrames-join i j k first next = record {
  len = next.len ∙ first.len;
  grain = next.grain ∙ first.grain;
  header = next.header ∙ first.header;
  frames = next.frames ∙ first.frames;
  slots = next.slots ∙ first.slots;
}

-- a frame that has the page
pub is_page-some : (page : ℕ) (o : Option ℕ) → is_page page o ≡ true → o ≡ Some page
is_page-some page None is = absurd (cc)
is_page-some page (Some held) is = ap {B = Option ℕ} Some (eqb-true held page is)

module _ (i : ImageState) (page : ℕ) where
  pub held_from : get_or i.pages.items (frame_of i page) None ≡ Some page → is_held i page ≡ true
  unfolding is_held
  held_from is = ap (is_page page) is ∙ eq-eqb page page refl

  -- it is so where the frame has the page
  pub held_as : (frame : ℕ) (o : Option ℕ) → frame ≡ frame_of i page → o ≡ get_or i.pages.items frame None
      → is_page page o ≡ is_held i page
  unfolding is_held
  held_as frame o same is = ap (is_page page) (is ∙ ap (λ (f : ℕ). get_or i.pages.items f None) same)

  pub unheld_past : (frame : ℕ) → frame ≡ frame_of i page → length i.pages.items ≤ frame → false ≡ is_held i page
  unheld_past frame same past = held_as frame None same (sym (get_or_past i.pages.items frame None past))

  module _ (held : is_held i page ≡ true) where
    pub held_in : get_or i.pages.items (frame_of i page) None ≡ Some page
    unfolding is_held
    held_in = is_page-some page (get_or i.pages.items (frame_of i page) None) held

    pub held_frame : frame_of i page < length i.pages.items
    held_frame =
        ⊎_elim (λ (below : frame_of i page < length i.pages.items). below)
        (λ (past : length i.pages.items ≤ frame_of i page).
        let none = get_or_past i.pages.items (frame_of i page) None past in
        let some = held_in in
        absurd (cc))
        (cases_lt (frame_of i page) (length i.pages.items))

module _ (d : disks.State) (i : ImageState) (x : ℕ) where
  -- a byte of the first 512
  pub byte_front : x < 512 → byte_of d i x ≡ get_or i.header x 0
  unfolding byte_of
  byte_front below = rw (lt-ltb x 512 below) refl

  -- a byte of a page that is held, and one of a page that is not
  pub byte_held : 512 ≤ x → is_held i (x / 4096) ≡ true → byte_of d i x ≡ held_byte i x
  unfolding byte_of
  byte_held from held = rw (le-ltb x 512 from, held) refl

  pub byte_unheld : 512 ≤ x → is_held i (x / 4096) ≡ false → byte_of d i x ≡ get_or (image_told d) x 0
  unfolding byte_of
  byte_unheld from none = rw (le-ltb x 512 from, none) refl

module _ (i : ImageState) (x : ℕ) where
  pub changed_parts : is_changed_at i x ≡ true → (x < i.len) × (is_held i (x / 4096) ≡ true) × (mark_of i x ≡ true)
  unfolding is_changed_at
  changed_parts is =
      let parts = and_parts _ _ is in
      let more = and_parts _ _ parts.1 in
      (ltb-true x i.len parts.0, more.0, more.1)

  pub changed_from : x < i.len → is_held i (x / 4096) ≡ true → is_changed_at i x ≡ mark_of i x
  unfolding is_changed_at
  changed_from below held = rw (lt-ltb x i.len below, held) refl

  pub changed_outside : i.len ≤ x → is_changed_at i x ≡ false
  unfolding is_changed_at
  changed_outside past = and_left _ _ (le-ltb x i.len past)

  pub changed_unheld : is_held i (x / 4096) ≡ false → is_changed_at i x ≡ false
  unfolding is_changed_at
  changed_unheld none = and_right _ _ (and_left _ _ none)

  pub changed_unmarked : mark_of i x ≡ false → is_changed_at i x ≡ false
  unfolding is_changed_at
  changed_unmarked none = and_right _ _ (and_right _ _ none)

-- a place of a page that is not held lies in a sector that is not changed
pub clean_unheld : (i : ImageState) (x : ℕ) → is_held i (x / 4096) ≡ false → is_changed i (x / i.grain) ≡ false
clean_unheld i x none =
    changed_unheld i (x / i.grain * i.grain) (ap (is_held i) (sector_page i.grain i.layout.known x) ∙ none)

same_test : (t u h g m n : Bool) → t ≡ u → h ≡ g → (g ≡ true → m ≡ n) → (t && (h && m)) ≡ (u && (g && n))
same_test t u h true m n long held mark = rw (long, held, mark refl) refl
same_test t u h false m n long held mark = rw (long, held) refl

-- two images of one length, which hold a page alike, and have a mark of it alike where they do
pub changed_alike : (i j : ImageState) (x : ℕ) → j.len ≡ i.len → is_held j (x / 4096) ≡ is_held i (x / 4096)
    → (is_held i (x / 4096) ≡ true → mark_of j x ≡ mark_of i x) → is_changed_at j x ≡ is_changed_at i x
unfolding is_changed_at
changed_alike i j x len held mark =
    same_test (ltb x j.len) (ltb x i.len) (is_held j (x / 4096)) (is_held i (x / 4096)) (mark_of j x) (mark_of i x)
    (ap (λ (n : ℕ). ltb x n) len) held mark

-- a byte of a page that is held, and the mark of a sector in one
module _ (i : ImageState) (x f : ℕ) (held : is_held i (x / 4096) ≡ true) (same : f ≡ frame_of i (x / 4096)) where
  pub frame_fits : f < 16
  frame_fits = let below = held_frame i (x / 4096) held in let layout = i.layout in omega arith

  pub byte_fits : f * 4096 + x % 4096 + 4096 ≤ length i.bytes.items + x % 4096
  byte_fits = let below = held_frame i (x / 4096) held in let layout = i.layout in omega arith

  pub mark_fits : f * 8 + x % 4096 / 512 + 8 ≤ length i.changed.items + x % 4096 / 512
  mark_fits = let below = held_frame i (x / 4096) held in let layout = i.layout in omega arith

-- the mark of a sector, where it was found
pub changed_here : (i : ImageState) (x at : ℕ) → x < i.len → is_held i (x / 4096) ≡ true
    → at ≡ frame_of i (x / 4096) * 8 + x % 4096 / 512
    → get_or i.changed.items at false ≡ is_changed_at i x
unfolding mark_of
changed_here i x at below held same =
    ap (λ (k : ℕ). get_or i.changed.items k false) same ∙ sym (changed_from i x below held)

-- the bytes of a sector whose page is held, as they were found
module _ (d : disks.State) (i : ImageState) (s start : ℕ) (out : List ℕ) (held : is_held i (s * i.grain / 4096) ≡ true)
    (is : start ≡ frame_of i (s * i.grain / 4096) * 4096 + s * i.grain % 4096) (long : length out ≡ i.grain) where
  sector_byte : (k : ℕ) → k < i.grain → 512 ≤ s * i.grain + k
      → get_or i.bytes.items (start + k) 0 ≡ byte_of d i (s * i.grain + k)
  unfolding held_byte
  sector_byte k below behind =
      let page = place_page i.grain i.layout.known s k below in
      let rest = place_rest i.grain i.layout.known s k below in
      let index : start + k ≡ frame_of i ((s * i.grain + k) / 4096) * 4096 + (s * i.grain + k) % 4096 =
      (let there : start + k ≡ frame_of i (s * i.grain / 4096) * 4096 + (s * i.grain + k) % 4096 = omega arith in there)
      ∙ ap (λ (p : ℕ). frame_of i p * 4096 + (s * i.grain + k) % 4096) (sym page) in
      ap (λ (n : ℕ). get_or i.bytes.items n 0) index
      ∙ sym (byte_held d i (s * i.grain + k) behind (ap (is_held i) page ∙ held))

  pub sector_of_later : (s ≡ 0 → ⊥) → ((k : ℕ) → k < i.grain → get_or out k 0 ≡ get_or i.bytes.items (start + k) 0)
      → IsSectorOf d i s out
  sector_of_later later bytes = record {
    long = long;
    each = λ k below inside. bytes k below
        ∙ sector_byte k below (behind_front i.grain i.layout.known s k (omega arith));
  }

  pub sector_of_first : s ≡ 0 → ((k : ℕ) → k < 512 → get_or out k 0 ≡ get_or i.header k 0)
      → ((k : ℕ) → k < i.grain → 512 ≤ k → get_or out k 0 ≡ get_or i.bytes.items (start + k) 0) → IsSectorOf d i s out
  sector_of_first first front bytes = record {
    long = long;
    each = λ k below inside.
        (let place : s * i.grain + k ≡ k =
        (let none : s * i.grain ≡ 0 * i.grain = ap (λ (n : ℕ). n * i.grain) first in
        omega (arith, zero-mul i.grain)) in
        ⊎_elim
        (λ (low : k < 512). front k low ∙ sym (byte_front d i k low) ∙ ap (byte_of d i) (sym place))
        (λ (high : 512 ≤ k). bytes k below high ∙ sector_byte k below (omega arith))
        (cases_lt k 512));
  }

-- a piece that is lent from the first 512 bytes, or from a page that is held
module _ (d : disks.State) (i : ImageState) (at most n : ℕ) (piece : List ℕ) (long : length piece ≡ n) (some : 1 ≤ n)
    (few : n ≤ most)
    (inside : at + n ≤ i.len) where
  pub lent_front : at + n ≤ 512 → ((k : ℕ) → k < n → get_or piece k 0 ≡ get_or i.header (at + k) 0)
      → IsHeldPiece d i at most piece
  lent_front fits bytes = record {
    some = omega arith;
    bounded = omega arith;
    inside = omega arith;
    bytes = λ k below. bytes k (omega arith) ∙ sym (byte_front d i (at + k) (omega arith));
  }

  pub lent_held : (start : ℕ) → 512 ≤ at → at % 4096 + n ≤ 4096 → is_held i (at / 4096) ≡ true
      → start ≡ frame_of i (at / 4096) * 4096 + at % 4096
      → ((k : ℕ) → k < n → get_or piece k 0 ≡ get_or i.bytes.items (start + k) 0) → IsHeldPiece d i at most piece
  unfolding held_byte
  lent_held start behind fits held is bytes = record {
    some = omega arith;
    bounded = omega arith;
    inside = omega arith;
    bytes = λ k below.
        (let page : (at + k) / 4096 ≡ at / 4096 = omega arith in
        let index : start + k ≡ frame_of i ((at + k) / 4096) * 4096 + (at + k) % 4096 =
        (let there : start + k ≡ frame_of i (at / 4096) * 4096 + (at + k) % 4096 = omega arith in there)
        ∙ ap (λ (p : ℕ). frame_of i p * 4096 + (at + k) % 4096) (sym page) in
        bytes k (omega arith) ∙ ap (λ (n : ℕ). get_or i.bytes.items n 0) index
        ∙ sym (byte_held d i (at + k) (omega arith) (ap (is_held i) page ∙ held)));
  }

-- frames of which none has a page hold none
pub none_held : (i : ImageState) → ((frame : ℕ) → get_or i.pages.items frame None ≡ None) → (page : ℕ)
    → is_held i page ≡ false
unfolding is_held
none_held i none page = ap (is_page page) (none (frame_of i page))

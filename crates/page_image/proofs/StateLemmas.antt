-- What a put and a write of a sector make of the frames.
use Rattle.std.proofs.Common.{◌≡◌, ◌≢◌, ℕ, ◌+◌, ◌-◌, ◌*◌, ◌/◌, ◌%◌, ◌<◌, ◌≤◌, Bool, true, false, List, length, get_or}
use Rattle.std.proofs.Common.{set}
use Rattle.std.proofs.Common.{Option, Some, None, refl, sym, ◌∙◌, ap, subst, arith, ⊎_elim}
use Rattle.std.proofs.Math.Nat.{zero-mul, div-mul-le_self}
use Rattle.std.proofs.lemmas.List.{get_or-set_same, get_or-set_other}
use Rattle.std.proofs.lemmas.Bool.{cases_lt}
use Rattle.page_image.specs.declared.state.ImageState.{ImageState}
use Rattle.page_image.specs.Layout.{IsEndOf}
use Rattle.page_image.specs.Images.{is_page, frame_of, is_held, held_byte, mark_of, is_changed_at, is_changed}
use Rattle.page_image.specs.Frames.{SameFrames}
use Rattle.page_image.specs.Puts.{Marks, IsImagePut, IsUnmarked, IsFirstMarked, IsHeaded}
use Rattle.page_image.proofs.FrameLemmas.{held_in, changed_from, changed_unheld, changed_unmarked, changed_alike}
use Rattle.page_image.proofs.SectorLemmas.{some_grain, sector_page, own_mark, marks_rise, rising}

some_same : (x y : ℕ) → Some x ≡ Some y → x ≡ y
some_same x y same = cc

-- pages that are held in one frame are one page
pub one_page : (i : ImageState) (p q : ℕ) → is_held i p ≡ true → is_held i q ≡ true → frame_of i p ≡ frame_of i q
    → p ≡ q
one_page i p q first second same =
    some_same p q (sym (held_in i p first) ∙ ap (λ (f : ℕ). get_or i.pages.items f None) same ∙ held_in i q second)

-- two images in which the same pages lie in the same frames
module _ (i j : ImageState) (len : j.len ≡ i.len) (grain : j.grain ≡ i.grain) (slots : j.slots.items ≡ i.slots.items)
    (pages : j.pages.items ≡ i.pages.items) where
  frame_alike : (page : ℕ) → frame_of j page ≡ frame_of i page
  frame_alike page = ap (λ (l : List ℕ). get_or l page 0) slots

  pub held_alike : (page : ℕ) → is_held j page ≡ is_held i page
  unfolding is_held
  held_alike page =
      ap (is_page page) (ap (λ (f : ℕ). get_or j.pages.items f None) (frame_alike page)
      ∙ ap (λ (l : List (Option ℕ)). get_or l (frame_of i page) None) pages)

  pub byte_alike : (x : ℕ) → held_byte j x ≡ get_or j.bytes.items (frame_of i (x / 4096) * 4096 + x % 4096) 0
  unfolding held_byte
  byte_alike x = ap (λ (f : ℕ). get_or j.bytes.items (f * 4096 + x % 4096) 0) (frame_alike (x / 4096))

  pub mark_alike : (x : ℕ) → mark_of j x ≡ get_or j.changed.items (frame_of i (x / 4096) * 8 + x % 4096 / 512) false
  unfolding mark_of
  mark_alike x = ap (λ (f : ℕ). get_or j.changed.items (f * 8 + x % 4096 / 512) false) (frame_alike (x / 4096))

  as_changed : (s : ℕ) → is_changed_at j (s * i.grain) ≡ is_changed_at i (s * i.grain) → is_changed j s ≡ is_changed i s
  as_changed s alike = ap (λ (g : ℕ). is_changed_at j (s * g)) grain ∙ alike

  -- a mark is set or taken away
  module _ (s at : ℕ) (mark : Bool) (there : is_held i (s * i.grain / 4096) ≡ true)
      (is : at ≡ frame_of i (s * i.grain / 4096) * 8 + s * i.grain % 4096 / 512) (fits : at < length i.changed.items)
      (bytes : j.bytes.items ≡ i.bytes.items) (changed : j.changed.items ≡ set i.changed.items at mark) where
    taken : mark_of j (s * i.grain) ≡ mark
    taken =
        mark_alike (s * i.grain) ∙ ap (λ (k : ℕ). get_or j.changed.items k false) (sym is)
        ∙ ap (λ (l : List Bool). get_or l at false) changed
        ∙ get_or-set_same i.changed.items at mark false fits

    left_alone : (other : ℕ) → other ≢ s → is_held i (other * i.grain / 4096) ≡ true
        → mark_of j (other * i.grain) ≡ mark_of i (other * i.grain)
    unfolding mark_of
    left_alone other apart held =
        let k : ℕ = frame_of i (other * i.grain / 4096) * 8 + other * i.grain % 4096 / 512 in
        let away : k ≢ at = λ here.
        (let frames : frame_of i (other * i.grain / 4096) ≡ frame_of i (s * i.grain / 4096) = omega arith in
        let page = one_page i (other * i.grain / 4096) (s * i.grain / 4096) held there frames in
        apart (own_mark i.grain i.layout.known other s page (omega arith))) in
        mark_alike (other * i.grain) ∙ ap (λ (l : List Bool). get_or l k false) changed
        ∙ get_or-set_other i.changed.items at k mark false away

    byte_kept : (x : ℕ) → held_byte j x ≡ held_byte i x
    unfolding held_byte
    byte_kept x = byte_alike x ∙ ap (λ (l : List ℕ). get_or l (frame_of i (x / 4096) * 4096 + x % 4096) 0) bytes

    others_kept : (other : ℕ) → other ≢ s → is_changed j other ≡ is_changed i other
    others_kept other apart =
        as_changed other (changed_alike i j (other * i.grain) len (held_alike (other * i.grain / 4096))
        (left_alone other apart))

    pub marked : SameFrames i j → s ≡ 0 → mark ≡ true → IsFirstMarked i j
    marked same first set = record {
      same = same;
      held = held_alike;
      bytes = byte_kept;
      marked = λ held.
          (let start : s * i.grain ≡ 0 = ap (λ (n : ℕ). n * i.grain) first ∙ zero-mul i.grain in
          let layout = i.layout in
          subst (λ (n : ℕ). is_changed j n ≡ true) first
          (ap (λ (g : ℕ). is_changed_at j (s * g)) grain
          ∙ changed_from j (s * i.grain) (omega arith) (held_alike (s * i.grain / 4096) ∙ there) ∙ taken ∙ set));
      others = λ other apart. others_kept other (λ here. apart (here ∙ first));
    }

    pub unmarked : SameFrames i j → mark ≡ false → IsUnmarked s i j
    unmarked same cleared = record {
      same = same;
      frames = record { slots = slots; pages = pages };
      held = held_alike;
      bytes = byte_kept;
      clean = ap (λ (g : ℕ). is_changed_at j (s * g)) grain ∙ changed_unmarked j (s * i.grain) (taken ∙ cleared);
      others = others_kept;
    }

  -- a piece is put into one page
  module _ (at : ℕ) (piece : List ℕ) (some : 1 ≤ length piece) (inside : at + length piece ≤ i.len)
      (in_page : at % 4096 + length piece ≤ 4096)
      (there : is_held i (at / 4096) ≡ true) (start : ℕ) (is : start ≡ frame_of i (at / 4096) * 4096 + at % 4096) where
    at_page : (k : ℕ) → k < length piece → (at + k) / 4096 ≡ at / 4096
    at_page k below = omega arith

    module _ (within : (k : ℕ) → k < length piece → get_or j.bytes.items (start + k) 0 ≡ get_or piece k 0) where
      put_written : (k : ℕ) → k < length piece → held_byte j (at + k) ≡ get_or piece k 0
      put_written k below =
          let page = at_page k below in
          let rest : (at + k) % 4096 ≡ at % 4096 + k = omega arith in
          let place : frame_of i ((at + k) / 4096) * 4096 + (at + k) % 4096 ≡ start + k =
          ap (λ (p : ℕ). frame_of i p * 4096 + (at + k) % 4096) page ∙ (let same_place = is in omega arith) in
          byte_alike (at + k) ∙ ap (λ (x : ℕ). get_or j.bytes.items x 0) place ∙ within k below

    module _ (before : (x : ℕ) → x < start → get_or j.bytes.items x 0 ≡ get_or i.bytes.items x 0)
        (behind : (x : ℕ) → start + length piece ≤ x → get_or j.bytes.items x 0 ≡ get_or i.bytes.items x 0) where
      put_others : (x : ℕ) → is_held i (x / 4096) ≡ true → ((k : ℕ) → k < length piece → x ≢ at + k)
          → held_byte j x ≡ held_byte i x
      unfolding held_byte
      put_others x held apart =
          let k : ℕ = frame_of i (x / 4096) * 4096 + x % 4096 in
          byte_alike x
          ∙ ⊎_elim (λ (low : k < start). before k low)
          (λ (from : start ≤ k).
          ⊎_elim
          (λ (low : k < start + length piece).
          let frames : frame_of i (x / 4096) ≡ frame_of i (at / 4096) = omega arith in
          let page = one_page i (x / 4096) (at / 4096) held there frames in
          absurd (apart (k - start) (omega arith) (omega arith)))
          (behind k) (cases_lt k (start + length piece)))
          (cases_lt k start)

    module _ (end first : ℕ) (is_end : IsEndOf end at (length piece) i.grain)
        (mark : first ≡ frame_of i (at / i.grain * i.grain / 4096) * 8 + at / i.grain * i.grain % 4096 / 512) where
      some_place : 1 ≤ i.grain
      some_place = some_grain i.grain i.layout.known

      -- a sector with a place of the piece begins in its page
      in_one : (k : ℕ) → k < length piece → (at + k) / i.grain * i.grain / 4096 ≡ at / 4096
      in_one k below = sector_page i.grain i.layout.known (at + k) ∙ at_page k below

      first_page : at / i.grain * i.grain / 4096 ≡ at / 4096
      first_page = sector_page i.grain i.layout.known at

      first_mark : first ≡ frame_of i (at / 4096) * 8 + at / i.grain * i.grain % 4096 / 512
      first_mark = mark ∙ ap (λ (p : ℕ). frame_of i p * 8 + at / i.grain * i.grain % 4096 / 512) first_page

      -- the marks of its sectors lie in its frame
      in_frame : at / i.grain * i.grain % 4096 / 512 + (end - at / i.grain) ≤ 8
      in_frame =
          ⊎_elim
          (λ (more : at / i.grain < end).
          let last = is_end.tight (end - 1) (omega arith) (omega arith) in
          let page : (end - 1) * i.grain / 4096 ≡ at / i.grain * i.grain / 4096 =
          ap (λ (s : ℕ). s * i.grain / 4096) (sym last.2) ∙ in_one last.0 last.1 ∙ sym first_page in
          let rise = marks_rise i.grain i.layout.known (end - 1) (at / i.grain) page in
          omega arith)
          (λ (none : end ≤ at / i.grain). omega arith)
          (cases_lt (at / i.grain) end)

      pub marks_fit : length i.changed.items ≡ length i.pages.items * 8 → frame_of i (at / 4096) < length i.pages.items
          → first + (end - at / i.grain) ≤ length i.changed.items
      marks_fit whole below = let frame = in_frame in let is_first = first_mark in omega arith

      module _ (set_within : (k : ℕ) → first ≤ k → k < first + (end - at / i.grain)
          → get_or j.changed.items k false ≡ true)
          (set_before : (k : ℕ) → k < first → get_or j.changed.items k false ≡ get_or i.changed.items k false)
          (set_behind : (k : ℕ) → first + (end - at / i.grain) ≤ k
          → get_or j.changed.items k false ≡ get_or i.changed.items k false) where
        put_met : (k : ℕ) → k < length piece → is_changed j ((at + k) / i.grain) ≡ true
        put_met k below =
            let s : ℕ = (at + k) / i.grain in
            let page : s * i.grain / 4096 ≡ at / 4096 = in_one k below in
            let from : at / i.grain ≤ s = rising at (at + k) i.grain some_place (omega arith) in
            let upto : s < end = is_end.met k below in
            let rise = marks_rise i.grain i.layout.known s (at / i.grain) (page ∙ sym first_page) in
            let is_first = first_mark in
            let index : frame_of i (s * i.grain / 4096) * 8 + s * i.grain % 4096 / 512 ≡ frame_of i
            (at / 4096) * 8 + s * i.grain % 4096 / 512 =
            ap (λ (p : ℕ). frame_of i p * 8 + s * i.grain % 4096 / 512) page in
            let low : s * i.grain < j.len = (let starts = div-mul-le_self (at + k) i.grain in omega arith) in
            let held : is_held j (s * i.grain / 4096) ≡ true = held_alike (s * i.grain / 4096) ∙ ap (is_held i) page
            ∙ there in
            ap (λ (g : ℕ). is_changed_at j (s * g)) grain
            ∙ changed_from j (s * i.grain) low held
            ∙ mark_alike (s * i.grain)
            ∙ set_within (frame_of i (s * i.grain / 4096) * 8 + s * i.grain % 4096 / 512) (omega arith) (omega arith)

        put_missed : (s : ℕ) → ((k : ℕ) → k < length piece → (at + k) / i.grain ≢ s)
            → is_held i (s * i.grain / 4096) ≡ true
            → mark_of j (s * i.grain) ≡ mark_of i (s * i.grain)
        unfolding mark_of
        put_missed s apart held =
            let k : ℕ = frame_of i (s * i.grain / 4096) * 8 + s * i.grain % 4096 / 512 in
            let frame = in_frame in
            let is_first = first_mark in
            mark_alike (s * i.grain)
            ∙ ⊎_elim (set_before k)
            (λ (from : first ≤ k).
            ⊎_elim
            (λ (low : k < first + (end - at / i.grain)).
            let frames : frame_of i (s * i.grain / 4096) ≡ frame_of i (at / 4096) = omega arith in
            let page = one_page i (s * i.grain / 4096) (at / 4096) held there frames in
            let rise = marks_rise i.grain i.layout.known s (at / i.grain) (page ∙ sym first_page) in
            let hit = is_end.tight s (omega arith) (omega arith) in
            absurd (apart hit.0 hit.1 hit.2))
            (set_behind k) (cases_lt k (first + (end - at / i.grain))))
            (cases_lt k first)

        pub put_marks : Marks at (length piece) i j
        put_marks = record {
          met = put_met;
          others = λ s apart. as_changed s
              (changed_alike i j (s * i.grain) len (held_alike (s * i.grain / 4096)) (put_missed s apart));
        }

        pub image_put : SameFrames i j
            → ((k : ℕ) → k < length piece → get_or j.bytes.items (start + k) 0 ≡ get_or piece k 0)
            → ((x : ℕ) → x < start → get_or j.bytes.items x 0 ≡ get_or i.bytes.items x 0)
            → ((x : ℕ) → start + length piece ≤ x → get_or j.bytes.items x 0 ≡ get_or i.bytes.items x 0)
            → IsImagePut at piece i j
        image_put same within before behind = record {
          same = same;
          held = held_alike;
          written = put_written within;
          others = put_others before behind;
          marks = put_marks;
        }

-- an image of which sector 0 was unmarked, with other first bytes
module _ (i j k : ImageState) (h : IsUnmarked 0 i j) (len : k.len ≡ j.len) (grain : k.grain ≡ j.grain)
    (slots : k.slots.items ≡ j.slots.items)
    (pages : k.pages.items ≡ j.pages.items) (bytes : k.bytes.items ≡ j.bytes.items)
    (changed : k.changed.items ≡ j.changed.items) where
  changed_kept : (s : ℕ) → is_changed k s ≡ is_changed j s
  unfolding mark_of
  changed_kept s =
      as_changed j k len grain slots pages s
      (changed_alike j k (s * j.grain) len (held_alike j k len grain slots pages (s * j.grain / 4096))
      (λ held. mark_alike j k len grain slots pages (s * j.grain)
      ∙ ap (λ (l : List Bool). get_or l (frame_of j (s * j.grain / 4096) * 8 + s * j.grain % 4096 / 512) false)
      changed))

  byte_stays : (x : ℕ) → held_byte k x ≡ held_byte j x
  unfolding held_byte
  byte_stays x =
      byte_alike j k len grain slots pages x
      ∙ ap (λ (l : List ℕ). get_or l (frame_of j (x / 4096) * 4096 + x % 4096) 0) bytes

  pub headed : (front : List ℕ) → k.header ≡ front → IsHeaded front i k
  headed front is = record {
    len = len ∙ h.same.len;
    grain = grain ∙ h.same.grain;
    header = is;
    frames = ap length pages ∙ h.same.frames;
    held = λ page. held_alike j k len grain slots pages page ∙ h.held page;
    bytes = λ x. byte_stays x ∙ h.bytes x;
    clean = changed_kept 0 ∙ h.clean;
    others = λ s apart. changed_kept s ∙ h.others s apart;
  }

-- an image of which page 0 is not held
pub unmarked_unheld : (i : ImageState) → is_held i (0 * i.grain / 4096) ≡ false → IsUnmarked 0 i i
unmarked_unheld i none = record {
  same = record { len = refl; grain = refl; header = refl; frames = refl; slots = refl };
  frames = record { slots = refl; pages = refl };
  held = λ page. refl;
  bytes = λ x. refl;
  clean = changed_unheld i (0 * i.grain) none;
  others = λ s apart. refl;
}

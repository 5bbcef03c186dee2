-- Frames that are emptied, read and settled.
use Rattle.std.proofs.Common.{◌≡◌, ◌≢◌, ℕ, ◌+◌, ◌*◌, ◌/◌, ◌%◌, ◌<◌, ◌≤◌, Bool, true, false, List, length, get_or, set}
use Rattle.std.proofs.Common.{Option, Some, None, refl, sym, ◌∙◌, ap, subst, arith, inl, inr, ⊎_elim}
use Rattle.std.proofs.lemmas.List.{get_or-set_same, get_or-set_other}
use Rattle.std.proofs.lemmas.Bool.{cases_lt, cases_eq, cases_Bool, ne_eqb}
use Rattle.save_disk.specs.State as disks
use Rattle.page_image.specs.declared.state.ImageState.{ImageState}
use Rattle.page_image.specs.Images.{is_page, frame_of, is_held, held_byte, mark_of, is_changed_at, is_changed}
use Rattle.page_image.specs.Frames.{SameFrames, IsTouched, IsEmptied, TakesPage, IsFrameRead, IsByteRead, IsRefilled}
use Rattle.page_image.proofs.FrameLemmas.{SameFrames-join, held_from, held_in, changed_unheld, changed_unmarked}
use Rattle.page_image.proofs.FrameLemmas.{changed_alike}
use Rattle.page_image.proofs.SectorLemmas.{sector_page}

-- the sector at a number is as much changed, where the images have one grain
pub as_sector : (i j : ImageState) (s : ℕ) → j.grain ≡ i.grain
    → is_changed_at j (s * i.grain) ≡ is_changed_at i (s * i.grain) → is_changed j s ≡ is_changed i s
as_sector i j s grain same = ap (λ (g : ℕ). is_changed_at j (s * g)) grain ∙ same

module _ (i j : ImageState) (slots : j.slots.items ≡ i.slots.items) where
  same_frame : (page : ℕ) → frame_of j page ≡ frame_of i page
  same_frame page = ap (λ (l : List ℕ). get_or l page 0) slots

  same_byte : (x : ℕ) → get_or j.bytes.items (frame_of i (x / 4096) * 4096 + x % 4096) 0 ≡ get_or i.bytes.items
      (frame_of i (x / 4096) * 4096 + x % 4096) 0
      → held_byte j x ≡ held_byte i x
  unfolding held_byte
  same_byte x same = ap (λ (f : ℕ). get_or j.bytes.items (f * 4096 + x % 4096) 0) (same_frame (x / 4096)) ∙ same

  pub same_bytes : (x : ℕ) → j.bytes.items ≡ i.bytes.items → held_byte j x ≡ held_byte i x
  same_bytes x same = same_byte x (ap (λ (l : List ℕ). get_or l (frame_of i (x / 4096) * 4096 + x % 4096) 0) same)

  same_mark : (x : ℕ) → j.changed.items ≡ i.changed.items → mark_of j x ≡ mark_of i x
  unfolding mark_of
  same_mark x same =
      ap (λ (f : ℕ). get_or j.changed.items (f * 8 + x % 4096 / 512) false) (same_frame (x / 4096))
      ∙ ap (λ (l : List Bool). get_or l (frame_of i (x / 4096) * 8 + x % 4096 / 512) false) same

  pub same_held : (page : ℕ) → get_or j.pages.items (frame_of i page) None ≡ get_or i.pages.items (frame_of i page)
      None → is_held j page ≡ is_held i page
  unfolding is_held
  same_held page same = ap (is_page page) (ap (λ (f : ℕ). get_or j.pages.items f None) (same_frame page) ∙ same)

-- a frame that was asked for
pub touched_changed : (i j : ImageState) → IsTouched i j → (sector : ℕ) → is_changed j sector ≡ is_changed i sector
touched_changed i j h s =
    as_sector i j s h.same.grain
    (changed_alike i j (s * i.grain) h.same.len
    (same_held i j h.slots (s * i.grain / 4096)
    (ap (λ (l : List (Option ℕ)). get_or l (frame_of i (s * i.grain / 4096)) None) h.pages))
    (λ is. same_mark i j h.slots (s * i.grain) h.changed))

pub refilled_touched : (d : disks.State) (i j : ImageState) → IsTouched i j → IsRefilled d i j
refilled_touched d i j h = record {
  same = h.same;
  changed = touched_changed i j h;
  bytes = λ x below is. inl (sym (held (x / 4096)) ∙ is, same_bytes i j h.slots x h.bytes);
} where
  held : (page : ℕ) → is_held j page ≡ is_held i page
  held page = same_held i j h.slots page (ap (λ (l : List (Option ℕ)). get_or l (frame_of i page) None) h.pages)

-- a page that was held is held still
pub touched_held : (i j : ImageState) (page : ℕ) → IsTouched i j → is_held i page ≡ true → is_held j page ≡ true
touched_held i j page h is = same_held i j h.slots page
    (ap (λ (l : List (Option ℕ)). get_or l (frame_of i page) None) h.pages) ∙ is

-- a frame of whose page nothing was changed is emptied
module _ (d : disks.State) (frame : ℕ) (i j : ImageState) (below : frame < length i.pages.items)
    (h : IsEmptied frame i j)
    (clean : (page s : ℕ) → get_or i.pages.items frame None ≡ Some page → s * i.grain / 4096 ≡ page
    → is_changed i s ≡ false) where
  pub emptied_page : get_or j.pages.items frame None ≡ None
  emptied_page = ap (λ (l : List (Option ℕ)). get_or l frame None) h.pages
      ∙ get_or-set_same i.pages.items frame None None below

  held_elsewhere : (page : ℕ) → frame_of i page ≢ frame → is_held j page ≡ is_held i page
  held_elsewhere page apart =
      same_held i j h.slots page
      (ap (λ (l : List (Option ℕ)). get_or l (frame_of i page) None) h.pages
      ∙ get_or-set_other i.pages.items frame (frame_of i page) None None apart)

  held_nowhere : (page : ℕ) → frame_of i page ≡ frame → is_held j page ≡ false
  unfolding is_held
  held_nowhere page here =
      ap (is_page page) (ap (λ (f : ℕ). get_or j.pages.items f None) (same_frame i j h.slots page ∙ here)
      ∙ emptied_page)

  -- a page that was not held is not held
  pub emptied_apart : (page : ℕ) → is_held i page ≡ false → is_held j page ≡ false
  emptied_apart page none =
      ⊎_elim (held_nowhere page) (λ (apart : frame_of i page ≢ frame). held_elsewhere page apart ∙ none)
      (cases_eq (frame_of i page) frame)

  not_changed : (s : ℕ) → frame_of i (s * i.grain / 4096) ≡ frame → is_changed i s ≡ false
  not_changed s here =
      ⊎_elim
      (λ (held : is_held i (s * i.grain / 4096) ≡ true).
      clean (s * i.grain / 4096) s (ap (λ (f : ℕ). get_or i.pages.items f None) (sym here)
      ∙ held_in i (s * i.grain / 4096) held) refl)
      (changed_unheld i (s * i.grain))
      (cases_Bool (is_held i (s * i.grain / 4096)))

  pub refilled_emptied : IsRefilled d i j
  refilled_emptied = record {
    same = h.same;
    changed = λ s. as_sector i j s h.same.grain
        (⊎_elim
        (λ (here : frame_of i (s * i.grain / 4096) ≡ frame).
        changed_unheld j (s * i.grain) (held_nowhere (s * i.grain / 4096) here) ∙ sym (not_changed s here))
        (λ (apart : frame_of i (s * i.grain / 4096) ≢ frame).
        changed_alike i j (s * i.grain) h.same.len (held_elsewhere (s * i.grain / 4096) apart)
        (λ is. same_mark i j h.slots (s * i.grain) h.changed))
        (cases_eq (frame_of i (s * i.grain / 4096)) frame));
    bytes = λ x inside is.
        ⊎_elim
        (λ (here : frame_of i (x / 4096) ≡ frame). let none = held_nowhere (x / 4096) here in absurd (cc))
        (λ (apart : frame_of i (x / 4096) ≢ frame).
        inl (sym (held_elsewhere (x / 4096) apart) ∙ is, same_bytes i j h.slots x h.bytes))
        (cases_eq (frame_of i (x / 4096)) frame);
  }

-- a frame that holds no page is read
module _ (frame : ℕ) (i j : ImageState) (h : IsFrameRead frame i j) (empty : get_or i.pages.items frame None ≡ None)
  where
    -- a page that is held lies in another frame
    elsewhere : (page : ℕ) → is_held i page ≡ true → frame_of i page ≢ frame
    elsewhere page is here =
        let some = held_in i page is in
        let none : get_or i.pages.items (frame_of i page) None ≡ None = ap (λ (f : ℕ). get_or i.pages.items f None) here
        ∙ empty in
        absurd (cc)

    read_apart : (f k : ℕ) → k < 4096 → f ≢ frame
        → get_or j.bytes.items (f * 4096 + k) 0 ≡ get_or i.bytes.items (f * 4096 + k) 0
    read_apart f k small apart =
        ⊎_elim (λ (low : f < frame). h.before (f * 4096 + k) (omega arith))
        (λ (from : frame ≤ f). h.behind (f * 4096 + k) (omega arith)) (cases_lt f frame)

    pub refilled_read : (d : disks.State) → IsRefilled d i j
    refilled_read d = record {
      same = h.same;
      changed = λ s. as_sector i j s h.same.grain
          (changed_alike i j (s * i.grain) h.same.len (held (s * i.grain / 4096))
          (λ is. same_mark i j h.slots (s * i.grain) h.changed));
      bytes = λ x below is.
          (let was : is_held i (x / 4096) ≡ true = sym (held (x / 4096)) ∙ is in
          inl (
            was,
            same_byte i j h.slots x
                (read_apart (frame_of i (x / 4096)) (x % 4096) (omega arith) (elsewhere (x / 4096) was)),
          ));
    } where
      held : (page : ℕ) → is_held j page ≡ is_held i page
      held page = same_held i j h.slots page (ap (λ (l : List (Option ℕ)). get_or l (frame_of i page) None) h.pages)

    -- and then holds a page
    module _ (page : ℕ) (k : ImageState) (settled : TakesPage frame page j k) (below : frame < length i.pages.items)
        (inside : page < length i.slots.items)
        (apart : is_held i page ≡ false) where
      page_frame : frame_of k page ≡ frame
      page_frame =
          ap (λ (l : List ℕ). get_or l page 0) (settled.slots ∙ ap (λ (l : List ℕ). set l page frame) h.slots)
          ∙ get_or-set_same i.slots.items page frame 0 inside

      other_frame : (q : ℕ) → q ≢ page → frame_of k q ≡ frame_of i q
      other_frame q other =
          ap (λ (l : List ℕ). get_or l q 0) (settled.slots ∙ ap (λ (l : List ℕ). set l page frame) h.slots)
          ∙ get_or-set_other i.slots.items page q frame 0 other

      pages_now : k.pages.items ≡ set i.pages.items frame (Some page)
      pages_now = settled.pages ∙ ap (λ (l : List (Option ℕ)). set l frame (Some page)) h.pages

      pub settled_held : is_held k page ≡ true
      settled_held =
          held_from k page
          (ap (λ (f : ℕ). get_or k.pages.items f None) page_frame
          ∙ ap (λ (l : List (Option ℕ)). get_or l frame None) pages_now
          ∙ get_or-set_same i.pages.items frame (Some page) None below)

      pub other_held : (q : ℕ) → q ≢ page → is_held k q ≡ is_held i q
      unfolding is_held
      other_held q other =
          ⊎_elim
          (λ (here : frame_of i q ≡ frame).
          let now : get_or k.pages.items (frame_of k q) None ≡ Some page =
          ap (λ (f : ℕ). get_or k.pages.items f None) (other_frame q other ∙ here)
          ∙ ap (λ (l : List (Option ℕ)). get_or l frame None) pages_now
          ∙ get_or-set_same i.pages.items frame (Some page) None below in
          let was : get_or i.pages.items (frame_of i q) None ≡ None = ap (λ (f : ℕ). get_or i.pages.items f None) here
          ∙ empty in
          ap (is_page q) now ∙ ne_eqb page q (λ same. other (sym same)) ∙ sym (ap (is_page q) was))
          (λ (away : frame_of i q ≢ frame).
          ap (is_page q)
          (ap (λ (f : ℕ). get_or k.pages.items f None) (other_frame q other)
          ∙ ap (λ (l : List (Option ℕ)). get_or l (frame_of i q) None) pages_now
          ∙ get_or-set_other i.pages.items frame (frame_of i q) (Some page) None away))
          (cases_eq (frame_of i q) frame)

      page_mark : (x : ℕ) → x / 4096 ≡ page → mark_of k x ≡ false
      unfolding mark_of
      page_mark x here =
          ap (λ (f : ℕ). get_or k.changed.items (f * 8 + x % 4096 / 512) false) (ap (frame_of k) here ∙ page_frame)
          ∙ settled.clear (x % 4096 / 512) (omega arith)

      mark_apart : (f n : ℕ) → n < 8 → f ≢ frame
          → get_or k.changed.items (f * 8 + n) false ≡ get_or i.changed.items (f * 8 + n) false
      mark_apart f n small away =
          ⊎_elim (λ (low : f < frame). settled.before (f * 8 + n) (omega arith))
          (λ (from : frame ≤ f). settled.behind (f * 8 + n) (omega arith)) (cases_lt f frame)
          ∙ ap (λ (l : List Bool). get_or l (f * 8 + n) false) h.changed

      other_mark : (x : ℕ) → x / 4096 ≢ page → is_held i (x / 4096) ≡ true → mark_of k x ≡ mark_of i x
      unfolding mark_of
      other_mark x other is =
          ap (λ (f : ℕ). get_or k.changed.items (f * 8 + x % 4096 / 512) false) (other_frame (x / 4096) other)
          ∙ mark_apart (frame_of i (x / 4096)) (x % 4096 / 512) (omega arith) (elsewhere (x / 4096) is)

      page_byte : (x : ℕ) → x / 4096 ≡ page → held_byte k x ≡ get_or j.bytes.items (frame * 4096 + x % 4096) 0
      unfolding held_byte
      page_byte x here =
          ap (λ (f : ℕ). get_or k.bytes.items (f * 4096 + x % 4096) 0) (ap (frame_of k) here ∙ page_frame)
          ∙ ap (λ (l : List ℕ). get_or l (frame * 4096 + x % 4096) 0) settled.bytes

      pub other_byte : (x : ℕ) → x / 4096 ≢ page → is_held i (x / 4096) ≡ true → held_byte k x ≡ held_byte i x
      unfolding held_byte
      other_byte x other is =
          ap (λ (f : ℕ). get_or k.bytes.items (f * 4096 + x % 4096) 0) (other_frame (x / 4096) other)
          ∙ ap (λ (l : List ℕ). get_or l (frame_of i (x / 4096) * 4096 + x % 4096) 0) settled.bytes
          ∙ read_apart (frame_of i (x / 4096)) (x % 4096) (omega arith) (elsewhere (x / 4096) is)

      pub same_settled : SameFrames i k
      same_settled = SameFrames-join i j k h.same settled.same

      pub as_changed : (x : ℕ) → is_changed_at k x ≡ is_changed_at i x
      as_changed x =
          ⊎_elim
          (λ (here : x / 4096 ≡ page).
          changed_unmarked k x (page_mark x here) ∙ sym (changed_unheld i x (ap (is_held i) here ∙ apart)))
          (λ (other : x / 4096 ≢ page).
          changed_alike i k x same_settled.len (other_held (x / 4096) other) (other_mark x other))
          (cases_eq (x / 4096) page)

      module _ (d : disks.State) (read : (n : ℕ) → n < 4096 → page * 4096 + n < i.len
          → IsByteRead d i.grain (page * 4096 + n) (get_or j.bytes.items (frame * 4096 + n) 0)) where
        read_at : (x : ℕ) → x < i.len → x / 4096 ≡ page → IsByteRead d i.grain x (held_byte k x)
        read_at x inside here =
            let place : page * 4096 + x % 4096 ≡ x = omega arith in
            let got : IsByteRead d i.grain (page * 4096 + x % 4096) (get_or j.bytes.items (frame * 4096 + x % 4096) 0) =
            read (x % 4096) (omega arith) (omega arith) in
            subst (λ (b : ℕ). IsByteRead d i.grain x b) (sym (page_byte x here))
            (subst (λ (y : ℕ). IsByteRead d i.grain y (get_or j.bytes.items (frame * 4096 + x % 4096) 0)) place got)

        pub refilled_settled : IsRefilled d i k
        refilled_settled = record {
          same = same_settled;
          changed = λ s. as_sector i k s same_settled.grain (as_changed (s * i.grain));
          bytes = λ x inside is.
              ⊎_elim
              (λ (here : x / 4096 ≡ page).
              inr (
                ap (λ (g : ℕ). is_changed_at k (x / i.grain * g)) same_settled.grain
                    ∙ changed_unmarked k (x / i.grain * i.grain)
                    (page_mark (x / i.grain * i.grain) (sector_page i.grain i.layout.known x ∙ here)),
                read_at x inside here,
              ))
              (λ (other : x / 4096 ≢ page).
              let was : is_held i (x / 4096) ≡ true = sym (other_held (x / 4096) other) ∙ is in
              inl (was, other_byte x other was))
              (cases_eq (x / 4096) page);
        }

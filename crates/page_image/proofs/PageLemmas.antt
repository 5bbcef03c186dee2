-- A page that is filled without being read.
use Rattle.std.proofs.Common.{◌≡◌, ◌≢◌, ℕ, ◌+◌, ◌-◌, ◌*◌, ◌/◌, ◌%◌, ◌<◌, ◌≤◌, true, false, List, length, get_or, Option}
use Rattle.std.proofs.Common.{None, min, refl, sym, ◌∙◌, ap, subst, arith, ⊎_elim}
use Rattle.std.proofs.lemmas.Bool.{cases_lt, cases_Bool}
use Rattle.save_disk.specs.State as disks
use Rattle.page_image.specs.declared.state.ImageState.{ImageState}
use Rattle.page_image.specs.Images.{frame_of, is_held, held_byte, byte_of, is_changed}
use Rattle.page_image.specs.Frames.{SameFrames, IsTouched, IsFrameRead, TakesPage}
use Rattle.page_image.specs.Puts.{IsImagePut}
use Rattle.page_image.proofs.FrameLemmas.{SameFrames-join, byte_front, byte_held, byte_unheld}
use Rattle.page_image.proofs.PutLemmas.{IsPiecePut}
use Rattle.page_image.proofs.RefillLemmas.{as_sector, same_held, same_bytes, touched_changed, touched_held}
use Rattle.page_image.proofs.RefillLemmas.{settled_held, other_held, other_byte, same_settled, as_changed}

-- a page is held, whatever its frame has; of each other page all is as before, and no other sector is changed
pub record IsClaimed (page : ℕ) (old new : ImageState) : Type 0 where
  pub same : SameFrames old new
  pub held : is_held new page ≡ true
  pub others : (other : ℕ) → other ≢ page → is_held new other ≡ is_held old other
  pub bytes : (x : ℕ) → x / 4096 ≢ page → is_held old (x / 4096) ≡ true → held_byte new x ≡ held_byte old x
  pub changed : (sector : ℕ) → is_changed new sector ≡ is_changed old sector

-- an empty frame that was given the page
module _ (frame page : ℕ) (i j : ImageState) (settled : TakesPage frame page i j)
    (empty : get_or i.pages.items frame None ≡ None) (below : frame < length i.pages.items)
    (inside : page < length i.slots.items)
    (apart : is_held i page ≡ false) where
  unread : IsFrameRead frame i i
  unread = record {
    same = record { len = refl; grain = refl; header = refl; frames = refl; slots = refl };
    slots = refl;
    pages = refl;
    changed = refl;
    before = λ n low. refl;
    behind = λ n high. refl;
  }

  pub claimed : IsClaimed page i j
  claimed =
      let same = same_settled frame i i unread empty page j settled below inside apart in
      record {
        same = same;
        held = settled_held frame i i unread empty page j settled below inside apart;
        others = other_held frame i i unread empty page j settled below inside apart;
        bytes = other_byte frame i i unread empty page j settled below inside apart;
        changed = λ sector.
            as_sector i j sector same.grain
            (as_changed frame i i unread empty page j settled below inside apart (sector * i.grain));
      }

-- and then is asked for
pub claim_touched : (page : ℕ) (i j k : ImageState) → IsClaimed page i j → IsTouched j k → IsClaimed page i k
claim_touched page i j k claim touched = record {
  same = SameFrames-join i j k claim.same touched.same;
  held = touched_held j k page touched claim.held;
  others = λ other away. alike other ∙ claim.others other away;
  bytes = λ x away is. same_bytes j k touched.slots x touched.bytes ∙ claim.bytes x away is;
  changed = λ sector. touched_changed j k touched sector ∙ claim.changed sector;
} where
  alike : (other : ℕ) → is_held k other ≡ is_held j other
  alike other = same_held j k touched.slots other
      (ap (λ (l : List (Option ℕ)). get_or l (frame_of j other) None) touched.pages)

-- all bytes of the page that lie in the image are put into it
module _ (e : disks.State) (j t k : ImageState) (at : ℕ) (piece : List ℕ) (claim : IsClaimed (at / 4096) j t)
    (put : IsImagePut at piece t k)
    (behind : 512 ≤ at) (begins : at % 4096 ≡ 0) (fills : length piece ≡ min 4096 (j.len - at)) where
  put_byte : (m : ℕ) → m < length piece → byte_of e k (at + m) ≡ get_or piece m 0
  put_byte m below =
      let page : (at + m) / 4096 ≡ at / 4096 = omega arith in
      byte_held e k (at + m) (omega arith) (put.held ((at + m) / 4096) ∙ ap (is_held t) page ∙ claim.held)
      ∙ put.written m below

  -- a place that was not put lies in another page
  other_page : (x : ℕ) → x < j.len → ((m : ℕ) → m < length piece → x ≢ at + m) → x / 4096 ≢ at / 4096
  other_page x inside apart here = apart (x - at) (omega arith) (omega arith)

  unput_byte : (x : ℕ) → x < j.len → ((m : ℕ) → m < length piece → x ≢ at + m) → byte_of e k x ≡ byte_of e j x
  unput_byte x inside apart =
      let away = other_page x inside apart in
      let alike : is_held k (x / 4096) ≡ is_held j (x / 4096) = put.held (x / 4096) ∙ claim.others (x / 4096) away in
      ⊎_elim
      (λ (front : x < 512).
      byte_front e k x front ∙ ap (λ (l : List ℕ). get_or l x 0) (put.same.header ∙ claim.same.header)
      ∙ sym (byte_front e j x front))
      (λ (from : 512 ≤ x).
      ⊎_elim
      (λ (held : is_held j (x / 4096) ≡ true).
      byte_held e k x from (alike ∙ held) ∙ put.others x (claim.others (x / 4096) away ∙ held) apart
      ∙ claim.bytes x away held
      ∙ sym (byte_held e j x from held))
      (λ (none : is_held j (x / 4096) ≡ false). byte_unheld e k x from (alike ∙ none)
      ∙ sym (byte_unheld e j x from none))
      (cases_Bool (is_held j (x / 4096))))
      (cases_lt x 512)

  pub put_claimed : IsPiecePut e at piece j k
  put_claimed = record {
    same = SameFrames-join j t k claim.same put.same;
    bytes = record { written = put_byte; others = unput_byte };
    marks = record {
      met = subst (λ (g : ℕ). (m : ℕ) → m < length piece → is_changed k ((at + m) / g) ≡ true) claim.same.grain
          put.marks.met;
      others = λ sector missed.
          put.marks.others sector (λ m below here.
          missed m below (ap (λ (g : ℕ). (at + m) / g) (sym claim.same.grain) ∙ here))
          ∙ claim.changed sector;
    };
  }

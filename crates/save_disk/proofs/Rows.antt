-- Small traces worked out: one sector, a short last one, live and dead bytes in one, and two commits.
use Rattle.std.proofs.Common.{◌≡◌, ◌⊎◌, ⊎_elim, inl, inr, ℕ, zero, suc, ◌+◌, ◌-◌, ◌*◌, ◌<◌, ◌≤◌, Bool, List, [], ◌∷◌}
use Rattle.std.proofs.Common.{◌++◌, length, take, drop, get_or, replicate, refl, sym, ◌∙◌, ap, subst, arith}
use Rattle.std.proofs.lemmas.List.{take_all, length-replicate, get_or-replicate, take-replicate, drop-replicate}
use Rattle.std.proofs.lemmas.List.{append-nil}
use Rattle.std.proofs.Math.Nat.{zero-mul, one-mul, suc-mul}
use borrow.Author.Tests.{ltb-true}
use Rattle.save_disk.specs.Trace.{Event, Write, Sync, sector_cut, with_sector}
use Rattle.save_disk.specs.Stops.{EachWrite, Fits, IsVersion, CrashMayLeave}
use Rattle.save_disk.specs.Keeps.{HoldsAll, Agree, Keeps, EachStop, committing, image_committed}
use Rattle.save_disk.specs.StopRows.{LeavesEitherWrite, LeavesSyncedOrLater, LeavesShortSector, HoldsLiveBytes}
use Rattle.save_disk.specs.StopRows.{LosesALiveByte, is_live}
use Rattle.save_disk.proofs.Moments.{each_write-append}
use Rattle.save_disk.proofs.Events.{one_write, no_write}
use Rattle.save_disk.proofs.Kept.{synced_keeps}
use Rattle.save_disk.proofs.Commits.{cut_own, one_write_leaves, commit_leaves, commit_keeps, held_leaves, stops-append}
use Rattle.save_disk.proofs.Commits.{stops-map}

-- the first sector of a list that is no longer
only_sector : (grain : ℕ) (l : List ℕ) → length l ≡ grain → sector_cut grain l 0 ≡ l
only_sector grain l long = rw (zero-mul grain) (take_all grain l (omega arith))

-- an image of one sector has one version
module _ (grain : ℕ) (start : List ℕ) (events : List Event) (left : List ℕ) (some : 1 ≤ grain)
    (long : length start ≡ grain) where
  one_sector : CrashMayLeave grain start events left → (length left ≡ grain) × IsVersion grain start events 0 left
  one_sector leaves =
      let size : length left ≡ grain = leaves.size ∙ long in
      (size, subst (IsVersion grain start events 0) (only_sector grain left size) (leaves.sectors 0 (omega arith)))

  of_one_sector : length left ≡ grain → IsVersion grain start events 0 left → CrashMayLeave grain start events left
  of_one_sector size version = record {
    size = size ∙ sym long;
    sectors = λ sector below. let first : sector ≡ 0 =
        first_of_one sector below in rw first
        (subst (IsVersion grain start events 0) (sym (only_sector grain left size)) version);
  }
    where
      first_of_one : (sector : ℕ) → sector * grain < length start → sector ≡ 0
      first_of_one zero below = refl
      first_of_one (suc n) below = absurd (omega (arith, suc-mul n grain))

-- bytes of a whole sector, cut to an image of one
whole_piece :
    (grain value other : ℕ)
    → take (length (replicate grain other) - 0 * grain) (replicate grain value) ≡ replicate grain value
whole_piece grain value other =
    take_all (length (replicate grain other) - 0 * grain) (replicate grain value)
    (omega (arith, zero-mul grain, length-replicate grain value, length-replicate grain other))

first_piece : (grain value : ℕ) → sector_cut grain (replicate grain value) 0 ≡ replicate grain value
first_piece grain value = only_sector grain (replicate grain value) (length-replicate grain value)

pub either_write : (grain : ℕ) → 1 ≤ grain → LeavesEitherWrite grain
either_write grain some left = (there, back)
  where
    zeros : List ℕ
    zeros = replicate grain 0

    there :
        CrashMayLeave grain (replicate grain 0) (Write 0 (replicate grain 1) ∷ Write 0 (replicate grain 2) ∷ []) left
        → (left ≡ replicate grain 0) ⊎ ((left ≡ replicate grain 1) ⊎ (left ≡ replicate grain 2))
    there leaves =
        ⊎_elim
        (λ (old : left ≡ sector_cut grain (replicate grain 0) 0). inl (old ∙ first_piece grain 0))
        (λ (new : (bytes : List ℕ) × ((Write 0 (replicate grain 1) ≡ Write 0 bytes) ⊎
        ((Write 0 (replicate grain 2) ≡ Write 0 bytes) ⊎ ⊥))
        × (left ≡ take (length (replicate grain 0) - 0 * grain) bytes)).
        ⊎_elim
        (λ (first : Write 0 (replicate grain 1) ≡ Write 0 new.0). let same : replicate grain 1 ≡ new.0 =
        cc in inr (inl (new.2 ∙ ap (take (length (replicate grain 0) - 0 * grain)) (sym same)
        ∙ whole_piece grain 1 0)))
        (λ (others : (Write 0 (replicate grain 2) ≡ Write 0 new.0) ⊎ ⊥).
        ⊎_elim
        (λ (second : Write 0 (replicate grain 2) ≡ Write 0 new.0). let same : replicate grain 2 ≡ new.0 =
        cc in inr (inr (new.2 ∙ ap (take (length (replicate grain 0) - 0 * grain)) (sym same)
        ∙ whole_piece grain 2 0)))
        (λ none. absurd none) others)
        new.1)
        (one_sector grain (replicate grain 0) (Write 0 (replicate grain 1) ∷ Write 0 (replicate grain 2) ∷ []) left some
        (length-replicate grain 0) leaves).1

    back :
        (left ≡ replicate grain 0) ⊎ ((left ≡ replicate grain 1) ⊎ (left ≡ replicate grain 2))
        → CrashMayLeave grain (replicate grain 0) (Write 0 (replicate grain 1) ∷ Write 0 (replicate grain 2) ∷ []) left
    back =
        ⊎_elim
        (λ (old : left ≡ replicate grain 0). of_one_sector grain (replicate grain 0)
        (Write 0 (replicate grain 1) ∷ Write 0 (replicate grain 2) ∷ []) left some (length-replicate grain 0)
        (ap length old ∙ length-replicate grain 0) (inl (old ∙ sym (first_piece grain 0))))
        (⊎_elim
        (λ (first : left ≡ replicate grain 1). of_one_sector grain (replicate grain 0)
        (Write 0 (replicate grain 1) ∷ Write 0 (replicate grain 2) ∷ []) left some (length-replicate grain 0)
        (ap length first ∙ length-replicate grain 1)
        (inr (replicate grain 1, inl refl, first ∙ sym (whole_piece grain 1 0))))
        (λ (second : left ≡ replicate grain 2). of_one_sector grain (replicate grain 0)
        (Write 0 (replicate grain 1) ∷ Write 0 (replicate grain 2) ∷ []) left some (length-replicate grain 0)
        (ap length second ∙ length-replicate grain 2)
        (inr (replicate grain 2, inr (inl refl), second ∙ sym (whole_piece grain 2 0)))))

pub synced_or_later : (grain : ℕ) → 1 ≤ grain → LeavesSyncedOrLater grain
synced_or_later grain some left = (there, back)
  where
    kept : sector_cut grain (with_sector grain (replicate grain 0) 0 (replicate grain 1)) 0 ≡ replicate grain 1
    kept = cut_own grain (replicate grain 0) 0 (replicate grain 1)
        (omega (arith, zero-mul grain, length-replicate {A = ℕ} grain 0)) (length-replicate grain 1)
        ∙ whole_piece grain 1 0

    there :
        CrashMayLeave grain (replicate grain 0) (Write 0 (replicate grain 1) ∷ Sync ∷ Write 0 (replicate grain 2) ∷ [])
        left
        → (left ≡ replicate grain 1) ⊎ (left ≡ replicate grain 2)
    there leaves =
        ⊎_elim
        (λ (old : left ≡ sector_cut grain (with_sector grain (replicate grain 0) 0 (replicate grain 1)) 0).
        inl (old ∙ kept))
        (λ (new : (bytes : List ℕ) × ((Write 0 (replicate grain 2) ≡ Write 0 bytes) ⊎ ⊥)
        × (left ≡ take (length (replicate grain 0) - 0 * grain) bytes)).
        ⊎_elim
        (λ (second : Write 0 (replicate grain 2) ≡ Write 0 new.0). let same : replicate grain 2 ≡ new.0 =
        cc in inr (new.2 ∙ ap (take (length (replicate grain 0) - 0 * grain)) (sym same) ∙ whole_piece grain 2 0))
        (λ none. absurd none) new.1)
        (one_sector grain (replicate grain 0) (Write 0 (replicate grain 1) ∷ Sync ∷ Write 0 (replicate grain 2) ∷ [])
        left some (length-replicate grain 0) leaves).1

    back :
        (left ≡ replicate grain 1) ⊎ (left ≡ replicate grain 2)
        → CrashMayLeave grain (replicate grain 0)
        (Write 0 (replicate grain 1) ∷ Sync ∷ Write 0 (replicate grain 2) ∷ []) left
    back =
        ⊎_elim
        (λ (first : left ≡ replicate grain 1). of_one_sector grain (replicate grain 0)
        (Write 0 (replicate grain 1) ∷ Sync ∷ Write 0 (replicate grain 2) ∷ []) left some
        (length-replicate grain 0) (ap length first ∙ length-replicate grain 1) (inl (first ∙ sym kept)))
        (λ (second : left ≡ replicate grain 2). of_one_sector grain (replicate grain 0)
        (Write 0 (replicate grain 1) ∷ Sync ∷ Write 0 (replicate grain 2) ∷ []) left some
        (length-replicate grain 0) (ap length second ∙ length-replicate grain 2)
        (inr (replicate grain 2, inl refl, second ∙ sym (whole_piece grain 2 0))))

-- the image with the short sector written
short_written :
    (grain : ℕ) → 3 ≤ grain
    → with_sector grain (replicate (grain + 3) 0) 1 (replicate grain 7) ≡ replicate grain 0 ++ replicate 3 7
unfolding with_sector
short_written grain some =
    let long = length-replicate {A = ℕ} (grain + 3) 0 in
    let three : length (replicate {A = ℕ} (grain + 3) 0) - 1 * grain ≡ 3 = omega (arith, one-mul grain, long) in
    let none : grain + 3 - (1 * grain + grain) ≡ 0 = omega (arith, one-mul grain) in
    let front : take (1 * grain) (replicate (grain + 3) 0) ≡ replicate grain 0 =
    rw (one-mul grain) (take-replicate grain (grain + 3) 0 (omega arith)) in
    let middle : take (length (replicate {A = ℕ} (grain + 3) 0) - 1 * grain) (replicate grain 7) ≡ replicate 3 7 =
    rw three (take-replicate 3 grain 7 some) in
    let rest : drop (1 * grain + grain) (replicate (grain + 3) 0) ≡ [] =
    drop-replicate (1 * grain + grain) (grain + 3) 0 ∙ ap (λ (n : ℕ). replicate n 0) none in
    ap (λ (l : List ℕ). (l ++ take (length (replicate {A = ℕ} (grain + 3) 0) - 1 * grain) (replicate grain 7)) ++ drop
    (1 * grain + grain) (replicate (grain + 3) 0)) front
    ∙ ap (λ (l : List ℕ). (replicate grain 0 ++ l) ++ drop (1 * grain + grain) (replicate (grain + 3) 0)) middle
    ∙ ap (λ (l : List ℕ). (replicate grain 0 ++ replicate 3 7) ++ l) rest
    ∙ append-nil (replicate grain 0 ++ replicate 3 7)

pub short_sector : (grain : ℕ) → 3 ≤ grain → LeavesShortSector grain
short_sector grain some left leaves =
    let fits : EachWrite (Fits grain (length (replicate {A = ℕ} (grain + 3) 0))) (Write 1 (replicate grain 7) ∷ []) =
    one_write (Fits grain (length (replicate {A = ℕ} (grain + 3) 0))) 1 (replicate grain 7)
    (length-replicate grain 7, omega (arith, one-mul grain, length-replicate {A = ℕ} (grain + 3) 0)) in
    ⊎_elim inl
    (λ (new : left ≡ with_sector grain (replicate (grain + 3) 0) 1 (replicate grain 7)).
    inr (new ∙ short_written grain some))
    (one_write_leaves grain (replicate (grain + 3) 0) [] 1 (replicate grain 7) left (omega arith) fits refl leaves)

-- a write whose first two bytes are fives
holds_live : (grain : ℕ) (rest : List ℕ) → HoldsAll is_live grain (replicate grain 5) 0 (5 ∷ 5 ∷ rest)
holds_live grain rest x inside live from below =
    let place : x - 0 * grain ≡ x = omega (arith, zero-mul grain) in
    let five : get_or (replicate grain 5) x 0 ≡ 5 = get_or-replicate grain x 5 0
    (omega (arith, length-replicate {A = ℕ} grain 5)) in
    ap (λ (y : ℕ). get_or (5 ∷ 5 ∷ rest) y 0) place ∙ first_two x (ltb-true x 2 live) ∙ sym five
  where
    first_two : (y : ℕ) → y < 2 → get_or (5 ∷ 5 ∷ rest) y 0 ≡ 5
    first_two zero low = refl
    first_two (suc zero) low = refl
    first_two (suc (suc y)) low = absurd (omega arith)

pub holds_live_bytes : (grain : ℕ) → 1 ≤ grain → HoldsLiveBytes grain
holds_live_bytes grain some =
    let Q : ℕ → List ℕ → Type 0 = HoldsAll is_live grain (replicate grain 5) in
    held_leaves is_live (replicate grain 5) grain (replicate grain 5) []
    (Write 0 (5 ∷ 5 ∷ replicate (grain - 2) 9) ∷ Sync ∷ Write 0 (5 ∷ 5 ∷ replicate (grain - 2) 8) ∷ []) some
    (synced_keeps is_live grain (replicate grain 5) [] (λ sector bytes has. absurd has) (λ sector bytes has. has))
    (each_write-append Q (Write 0 (5 ∷ 5 ∷ replicate (grain - 2) 9) ∷ [])
    (Sync ∷ Write 0 (5 ∷ 5 ∷ replicate (grain - 2) 8) ∷ [])
    (one_write Q 0 (5 ∷ 5 ∷ replicate (grain - 2) 9) (holds_live grain (replicate (grain - 2) 9)))
    (each_write-append Q (Sync ∷ []) (Write 0 (5 ∷ 5 ∷ replicate (grain - 2) 8) ∷ [])
    (no_write Q Sync (λ sector bytes same. cc))
    (one_write Q 0 (5 ∷ 5 ∷ replicate (grain - 2) 8) (holds_live grain (replicate (grain - 2) 8)))))

pub loses_a_live_byte : (grain : ℕ) → 2 ≤ grain → LosesALiveByte grain
loses_a_live_byte grain some holds =
    let five : get_or (replicate {A = ℕ} grain 5) 1 0 ≡ 5 = get_or-replicate grain 1 5 0 (omega arith) in
    let place : 1 - 0 * grain ≡ 1 = omega (arith, zero-mul grain) in
    let six : get_or {A = ℕ} (5 ∷ 6 ∷ replicate (grain - 2) 9) (1 - 0 * grain) 0 ≡ 6 =
    ap (λ (y : ℕ). get_or (5 ∷ 6 ∷ replicate (grain - 2) 9) y 0) place in
    let held = holds 1 (omega (arith, length-replicate {A = ℕ} grain 5)) refl (omega (arith, zero-mul grain))
    (omega (arith, zero-mul grain)) in
    let wrong : 6 ≡ 5 = sym six ∙ held ∙ five in
    absurd (omega (arith, wrong))

-- two commits, of which the second holds what the first made
pub two_commits :
    (grain : ℕ) (start : List ℕ) (kept next : ℕ → Bool) (one two : List Event) (sector other : ℕ) (bytes more : List ℕ)
    → 1 ≤ grain → EachWrite (Fits grain (length start)) (committing one sector bytes)
    → EachWrite (HoldsAll kept grain start) one
    → EachWrite (HoldsAll next grain (image_committed grain start [] one sector bytes)) two
    → EachStop (λ left. Agree kept start left ⊎
    (Agree next (image_committed grain start [] one sector bytes) left ⊎
    (left ≡ image_committed grain start (committing one sector bytes) two other more))) grain start []
    (committing one sector bytes ++ committing two other more)
two_commits grain start kept next one two sector other bytes more some fits holds holds_next =
    let middle = image_committed grain start [] one sector bytes in
    let last = image_committed grain start (committing one sector bytes) two other more in
    let Any : List ℕ → Type 0 = λ left. Agree kept start left ⊎
    (Agree next (image_committed grain start [] one sector bytes) left ⊎
    (left ≡ image_committed grain start (committing one sector bytes) two other more)) in
    let begin : Keeps kept start grain start [] = synced_keeps kept grain start [] (λ s b has. absurd has)
    (λ s b has. has) in
    let then_kept : Keeps next (image_committed grain start [] one sector bytes) grain start
    (committing one sector bytes) = commit_keeps grain start [] one sector bytes next fits in
    stops-append Any grain start [] (committing one sector bytes) (committing two other more)
    (stops-map (λ left. Agree kept start left ⊎ (left ≡ image_committed grain start [] one sector bytes)) Any grain
    start [] (committing one sector bytes)
    (λ left. ⊎_elim inl (λ new. inr (inl (λ x inside live. ap (λ (l : List ℕ). get_or l x 0) new))))
    (commit_leaves kept start grain start [] one sector bytes some begin holds))
    (stops-map (λ left. Agree next (image_committed grain start [] one sector bytes) left ⊎
    (left ≡ image_committed grain start (committing one sector bytes) two other more)) Any grain start
    (committing one sector bytes) (committing two other more)
    (λ left. inr)
    (commit_leaves next (image_committed grain start [] one sector bytes) grain start (committing one sector bytes) two
    other more some then_kept holds_next))

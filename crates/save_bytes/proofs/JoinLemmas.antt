-- Calls of a space one after another, where one of them puts.
use Rattle.std.proofs.Common.{◌≡◌, ◌≢◌, ℕ, ◌+◌, ◌-◌, ◌<◌, ◌≤◌, List, [], ◌++◌, length, take, drop, IsTrue, Option}
use Rattle.std.proofs.Common.{Some, None, sym, ◌∙◌, ap, subst, arith, inl, ⊎_elim, add-zero, length-append}
use Rattle.std.proofs.lemmas.Bool.{cases_lt}
use Rattle.std.proofs.lemmas.List.{length-take-le, take_rest}
use Rattle.std.proofs.Math.Seq.{take-add}
use Rattle.save_bytes.specs.declared.space.Bad.{Bad}
use Rattle.save_bytes.specs.declared.space.Bad.TheVariants.{Disk, Damaged}
use Rattle.save_bytes.specs.Cells.{Cell, Byte, Blank, Spoilt, IsUnspoilt}
use Rattle.save_bytes.specs.State.{State, Shape, IsWritable, CanPut}
use Rattle.save_bytes.specs.Answers.{IsReady}
use Rattle.save_bytes.specs.Refusals.{NeverDamaged, IfDamaged}
use Rattle.save_bytes.specs.Stays.{SameTwins, SameCells, Stays}
use Rattle.save_bytes.specs.Puts.{SoftensFrom, HasPut, Puts}
use Rattle.save_bytes.specs.Spots.{Spot, Frame, Hold, Misses, LandsAsBefore, MovesOnly}
use Rattle.save_bytes.specs.Reads.{Reads}
use Rattle.save_bytes.proofs.SpaceLemmas.{UnlessDisk-map, IfDamaged-never, SameSpace-join, SameSpace-where, Misses-later}
use Rattle.save_bytes.proofs.PutLemmas.{HasPut-append}

-- a put may be made into a part of a range
pub CanPut-part : (s : State) (at n done m : ℕ) → done + m ≤ n → CanPut s at n → CanPut s (at + done) m
CanPut-part s at n done m fits can =
    let place : (k : ℕ) → at + done + k ≡ at + (done + k) = λ k. omega arith in
    record {
      told = can.told;
      apart = λ j k in_j in_k same.
          (let there = can.apart (done + j) (done + k) (omega (arith, in_j)) (omega (arith, in_k))
          (sym (ap s.bottom (place j)) ∙ same ∙ ap s.bottom (place k)) in
          omega (arith, there));
      free = λ k less. ap s.is_fixed (place k) ∙ can.free (done + k) (omega (arith, less));
    }

-- and in front of what lies behind
pub CanPut-front : (s : State) (at n m : ℕ) → m ≤ n → CanPut s at n → CanPut s at m
CanPut-front s at n m fits can = record {
  told = can.told;
  apart = λ j k in_j in_k same. can.apart j k (omega (arith, in_j)) (omega (arith, in_k)) same;
  free = λ k less. can.free k (omega (arith, less));
}

-- so it may after a call that keeps twins and fixed places
pub CanPut-later : (s t : State) (at n : ℕ) → at + n ≤ s.shape.size → IsTrue t.told → SameTwins s t → CanPut s at n → CanPut t at n
CanPut-later s t at n fits told twins can = record {
  told = told;
  apart = λ j k in_j in_k same. can.apart j k in_j in_k
      (sym (twins.bottom (at + j) (omega (arith, in_j))) ∙ same ∙ twins.bottom (at + k) (omega (arith, in_k)));
  free = λ k less. twins.is_fixed (at + k) (omega (arith, less)) ∙ can.free k less;
}

-- a range that may be written has parts that may
pub IsWritable-part : (s t : Shape) (at n done m : ℕ) → t ≡ s → done + m ≤ n → IsWritable s at n → IsWritable t (at + done) m
IsWritable-part s t at n done m same fits h =
    let size : t.size ≡ s.size = ap (λ (shape : Shape). shape.size) same in
    let first : t.first ≡ s.first = ap (λ (shape : Shape). shape.first) same in
    record {
      inside = record {
        sound = subst (λ (shape : Shape). IsTrue shape.sound) (sym same) h.inside.sound;
        inside = omega (arith, h.inside.inside);
      };
      behind_first = omega (arith, h.behind_first);
    }

-- a cell that stays has softened
softens_same : (s : State) (at x : ℕ) (cell new : Cell) → new ≡ cell → SoftensFrom s at 0 x cell new
softens_same s at x (Byte value) new same = same
softens_same s at x (Blank part level block) new same =
    record { met = λ (k, less, _). absurd (omega (arith, less)); unmet = λ _. inl same }
softens_same s at x (Spoilt part level block) new same = same

-- cells that stay are those after a put of nothing
pub HasPut-none : (s : State) (at : ℕ) (new : ℕ → Cell) → ((x : ℕ) → x < s.shape.size → new x ≡ s.cells x) → HasPut s at [] new
HasPut-none s at new same = record {
  written = λ x k below less _. absurd (omega (arith, less));
  others = λ x below _. softens_same s at x (s.cells x) (new x) (same x below);
  joined = λ x y in_x in_y _ e. sym (same x in_x) ∙ e ∙ same y in_y;
}

module _ (s t u : State) (at : ℕ) (xs ys : List ℕ) (fits : at + length xs + length ys ≤ s.shape.size) (h : Puts s at xs t None) where
  first_can : CanPut s at (length (xs ++ ys)) → CanPut s at (length xs)
  first_can can = CanPut-front s at (length (xs ++ ys)) (length xs) (omega (arith, length-append xs ys)) can

  then_can : CanPut s at (length (xs ++ ys)) → CanPut t (at + length xs) (length ys)
  then_can can =
      CanPut-later s t (at + length xs) (length ys) fits (h.space.told (first_can can)) (h.space.twins (first_can can))
      (CanPut-part s at (length (xs ++ ys)) (length xs) (length ys) (omega (arith, length-append xs ys)) can)

  ranges_apart : CanPut s at (length (xs ++ ys)) → (j k : ℕ) → j < length xs → k < length ys
      → s.bottom (at + j) ≢ s.bottom (at + length xs + k)
  ranges_apart can j k in_j in_k same =
      let place : at + length xs + k ≡ at + (length xs + k) = omega arith in
      let there = can.apart j (length xs + k) (omega (arith, in_j, length-append xs ys)) (omega (arith, in_k, length-append xs ys))
      (same ∙ ap s.bottom place) in
      omega (arith, there, in_j)

  -- a put behind a put; where the second is refused for no damaged cell
  pub Puts-append : (refusal : Option Bad) → (CanPut s at (length (xs ++ ys)) → NeverDamaged refusal)
      → Puts t (at + length xs) ys u refusal → Puts s at (xs ++ ys) u refusal
  Puts-append None never k = record {
    space = SameSpace-join s t u None first_can then_can h.space k.space;
    done = λ can. HasPut-append s t at xs ys u.cells h.space.shape (h.space.twins (first_can can)) fits (ranges_apart can)
        (h.done (first_can can)) (k.done (then_can can));
    damaged = λ can. tt;
  }
  Puts-append (Some Disk) never k = record {
    space = SameSpace-join s t u (Some Disk) first_can then_can h.space k.space;
    done = λ can. tt;
    damaged = λ can. tt;
  }
  Puts-append (Some (Damaged part level block)) never k = record {
    space = SameSpace-join s t u (Some (Damaged part level block)) first_can then_can h.space k.space;
    done = λ can. tt;
    damaged = λ can. absurd (never can);
  }

-- a call that was refused before it put anything
pub Puts-unput : (s t : State) (at : ℕ) (bytes : List ℕ) (bad : Bad) → Stays s t (Some bad) → Puts s at bytes t (Some bad)
Puts-unput s t at bytes Disk stays = record {
  space = SameSpace-where s t (Some Disk) (λ (can : CanPut s at (length bytes)). can.told) stays.space;
  done = λ can. tt;
  damaged = λ can. tt;
}
Puts-unput s t at bytes (Damaged part level block) stays = record {
  space = SameSpace-where s t (Some (Damaged part level block)) (λ (can : CanPut s at (length bytes)). can.told) stays.space;
  done = λ can. tt;
  damaged = λ can. stays.cells can.told;
}

-- where nothing is told, nothing needs to be put
pub Puts-untold : (s t : State) (at : ℕ) (bytes : List ℕ) → ¬ IsTrue s.told → Stays s t None → Puts s at bytes t None
Puts-untold s t at bytes untold stays = record {
  space = SameSpace-where s t None (λ (can : CanPut s at (length bytes)). can.told) stays.space;
  done = λ can. absurd (untold can.told);
  damaged = λ can. tt;
}

SameCells-before : (s t u : State) (refusal : Option Bad) → t.shape.size ≡ s.shape.size → SameCells s t
    → IfDamaged refusal (λ part level block. SameCells t u) → IfDamaged refusal (λ part level block. SameCells s u)
SameCells-before s t u None size same h = tt
SameCells-before s t u (Some Disk) size same h = tt
SameCells-before s t u (Some (Damaged part level block)) size same h = λ x below. h x (omega arith) ∙ same x below

module _ (s t u : State) (at : ℕ) (bytes : List ℕ) (fits : at + length bytes ≤ s.shape.size) (stays : Stays s t None) where
  -- a range may be put to after a call that reads
  pub can_after : CanPut s at (length bytes) → CanPut t at (length bytes)
  can_after can = CanPut-later s t at (length bytes) fits (stays.space.told can.told) (stays.space.twins can.told) can

  done_after : CanPut s at (length bytes) → HasPut t at bytes u.cells → HasPut s at bytes u.cells
  done_after can put =
      let behind : HasPut t (at + 0) bytes u.cells = rw add-zero put in
      let fits_behind : at + 0 + length bytes ≤ s.shape.size = omega (arith, fits) in
      HasPut-append s t at [] bytes u.cells stays.space.shape (stays.space.twins can.told) fits_behind
      (λ j k less _ _. absurd (omega (arith, less))) (HasPut-none s at t.cells (stays.cells can.told)) behind

  -- a put after a call that reads
  pub Puts-after : (refusal : Option Bad) → Puts t at bytes u refusal → Puts s at bytes u refusal
  Puts-after None h = record {
    space = SameSpace-join s t u None (λ (can : CanPut s at (length bytes)). can.told) can_after stays.space h.space;
    done = λ can. done_after can (h.done (can_after can));
    damaged = λ can. tt;
  }
  Puts-after (Some bad) h = record {
    space = SameSpace-join s t u (Some bad) (λ (can : CanPut s at (length bytes)). can.told) can_after stays.space h.space;
    done = λ can. tt;
    damaged = λ can. SameCells-before s t u (Some bad) (ap (λ (shape : Shape). shape.size) stays.space.shape) (stays.cells can.told)
        (h.damaged (can_after can));
  }

-- what a call that was refused leaves, it leaves where a longer range was to be put
pub Puts-refused : (s u : State) (at : ℕ) (xs ys : List ℕ) (bad : Bad) → length xs ≤ length ys → Puts s at xs u (Some bad)
    → Puts s at ys u (Some bad)
Puts-refused s u at xs ys bad fits h =
    let can : CanPut s at (length ys) → CanPut s at (length xs) = CanPut-front s at (length ys) (length xs) fits in
    record {
      space = SameSpace-where s u (Some bad) can h.space;
      done = λ told. tt;
      damaged = λ told. h.damaged (can told);
    }

-- an answer on a range, given after a call that reads
pub IsReady-before : (s t : State) (at n : ℕ) (refusal : Option Bad) → at + n ≤ s.shape.size → Stays s t None → IsReady t at n refusal
    → IsReady s at n refusal
IsReady-before s t at n None fits stays h = record {
  done = λ told k less. subst IsUnspoilt (stays.cells told (at + k) (omega (arith, less))) (h.done (stays.space.told told) k less);
  damaged = λ told. tt;
  plain = λ plain. tt;
}
IsReady-before s t at n (Some Disk) fits stays h = record { done = λ told. tt; damaged = λ told. tt; plain = λ plain. tt }
IsReady-before s t at n (Some (Damaged part level block)) fits stays h = record {
  done = λ told. tt;
  damaged = λ told.
      (let first = h.damaged (stays.space.told told) in
      record {
        k = first.k;
        within = first.within;
        spoilt = sym (stays.cells told (at + first.k) (omega (arith, first.within))) ∙ first.spoilt;
        before = λ j less. subst IsUnspoilt (stays.cells told (at + j) (omega (arith, less, first.within))) (first.before j less);
      });
  plain = λ plain. h.plain (subst (λ (shape : Shape). IsTrue shape.plain) (sym stays.space.shape) plain);
}

-- an answer on a range and on the one behind it
pub IsReady-append : (s : State) (at n m : ℕ) → IsReady s at n None → IsReady s (at + n) m None → IsReady s at (n + m) None
IsReady-append s at n m h k = record {
  done = λ told j less.
      ⊎_elim
      (λ (front : j < n). h.done told j front)
      (λ (back : n ≤ j).
      let place : at + n + (j - n) ≡ at + j = omega arith in
      subst (λ (x : ℕ). IsUnspoilt (s.cells x)) place (k.done told (j - n) (omega (arith, less))))
      (cases_lt j n);
  damaged = λ told. tt;
  plain = λ plain. tt;
}

-- a range that is refused in its back part
pub IsReady-refused : (s : State) (at n m whole : ℕ) (bad : Bad) → n + m ≤ whole → IsReady s at n None
    → IsReady s (at + n) m (Some bad) → IsReady s at whole (Some bad)
IsReady-refused s at n m whole Disk fits h k = record { done = λ told. tt; damaged = λ told. tt; plain = λ plain. tt }
IsReady-refused s at n m whole (Damaged part level block) fits h k = record {
  done = λ told. tt;
  damaged = λ told.
      (let first = k.damaged told in
      let place : at + n + first.k ≡ at + (n + first.k) = omega arith in
      record {
        k = n + first.k;
        within = omega (arith, first.within);
        spoilt = subst (λ (x : ℕ). s.cells x ≡ Spoilt part level block) place first.spoilt;
        before = λ j less.
            ⊎_elim
            (λ (front : j < n). h.done told j front)
            (λ (back : n ≤ j).
            let there : at + n + (j - n) ≡ at + j = omega arith in
            subst (λ (x : ℕ). IsUnspoilt (s.cells x)) there (first.before (j - n) (omega (arith, less))))
            (cases_lt j n);
      });
  plain = k.plain;
}

if_damaged-map : (refusal : Option Bad) {P Q : Type 0} → (P → Q) → IfDamaged refusal (λ part level block. P)
    → IfDamaged refusal (λ part level block. Q)
if_damaged-map None f h = tt
if_damaged-map (Some Disk) f h = tt
if_damaged-map (Some (Damaged part level block)) f h = f h

module _ {A : Type 0} (states : A → State) (keeps : Spot → A → A → Type 0) (lands : A → ℕ → Spot → Type 0)
    (join : (spot : Spot) (a b c : A) → keeps spot a b → keeps spot b c → keeps spot a c) where
  -- spots that are left alone by one put and the next
  pub MovesOnly-append : (a b c : A) (at n m : ℕ) (refusal : Option Bad) → at + n + m ≤ (states a).shape.size
      → (states b).shape.size ≡ (states a).shape.size → (CanPut (states a) at (n + m) → CanPut (states b) (at + n) m)
      → (CanPut (states a) at (n + m) → NeverDamaged refusal) → MovesOnly keeps lands (states a) a at n b None
      → MovesOnly keeps lands (states b) b (at + n) m c refusal → MovesOnly keeps lands (states a) a at (n + m) c refusal
  MovesOnly-append a b c at n m refusal fits size then_can never h k =
      let first_can : CanPut (states a) at (n + m) → CanPut (states a) at n = CanPut-front (states a) at (n + m) n (omega arith) in
      record {
        hold = join Hold a b c h.hold k.hold;
        spots = λ can spot misses.
            (let first : Misses (lands a) at n spot = λ j less. misses j (omega (arith, less)) in
            let back : Misses (lands a) (at + n) m spot = λ j less.
            (let place : at + (n + j) ≡ at + n + j = omega arith in
            subst (λ (x : ℕ). ¬ lands a x spot) place (misses (n + j) (omega (arith, less)))) in
            let later : Misses (lands b) (at + n) m spot =
            Misses-later (states a).shape.size (at + n) m (lands a) (lands b) spot fits (h.reach (first_can can)) back in
            join spot a b c (h.spots (first_can can) spot first) (k.spots (then_can can) spot later));
        damaged = λ can. IfDamaged-never refusal (λ part level block. (spot : Spot) → keeps spot a c) (never can);
        reach = λ can. UnlessDisk-map refusal
            (λ (before : LandsAsBefore (states b).shape.size (lands b) (lands c)). λ x below spot lands_c.
            h.reach (first_can can) x below spot (before x (omega (arith, below, size)) spot lands_c)) (k.reach (then_can can));
      }

  -- a put that was refused, of a longer range
  pub MovesOnly-longer : (a c : A) (at n m : ℕ) (refusal : Option Bad) → n ≤ m → MovesOnly keeps lands (states a) a at n c refusal
      → MovesOnly keeps lands (states a) a at m c refusal
  MovesOnly-longer a c at n m refusal le h =
      let can_front : CanPut (states a) at m → CanPut (states a) at n = CanPut-front (states a) at m n le in
      record {
        hold = h.hold;
        spots = λ can spot misses. h.spots (can_front can) spot (λ k less. misses k (omega (arith, less)));
        damaged = λ can. h.damaged (can_front can);
        reach = λ can. h.reach (can_front can);
      }

  -- a put after a call that reads
  pub MovesOnly-after : (a b c : A) (at n : ℕ) (refusal : Option Bad) → (keeps Frame a b → keeps Hold a b)
      → at + n ≤ (states a).shape.size → Reads states keeps lands a b None → MovesOnly keeps lands (states b) b at n c refusal
      → MovesOnly keeps lands (states a) a at n c refusal
  MovesOnly-after a b c at n refusal hold fits h k =
      let space = h.stays.space in
      let size : (states b).shape.size ≡ (states a).shape.size = ap (λ (shape : Shape). shape.size) space.shape in
      let can_b : CanPut (states a) at n → CanPut (states b) at n =
      λ can. CanPut-later (states a) (states b) at n fits (space.told can.told) (space.twins can.told) can in
      record {
        hold = join Hold a b c (hold h.frame) k.hold;
        spots = λ can spot misses. join spot a b c (h.spots can.told spot)
            (k.spots (can_b can) spot
            (Misses-later (states a).shape.size at n (lands a) (lands b) spot fits (h.reach can.told) misses));
        damaged = λ can. if_damaged-map refusal
            (λ (all : (spot : Spot) → keeps spot b c). λ (spot : Spot). join spot a b c (h.spots can.told spot) (all spot))
            (k.damaged (can_b can));
        reach = λ can. UnlessDisk-map refusal
            (λ (before : LandsAsBefore (states b).shape.size (lands b) (lands c)). λ x below spot lands_c.
            h.reach can.told x below spot (before x (omega (arith, below, size)) spot lands_c)) (k.reach (can_b can));
      }

  -- a call that only reads moves less than a put
  pub MovesOnly-read : (a b : A) (at n : ℕ) (refusal : Option Bad) → (keeps Frame a b → keeps Hold a b)
      → Reads states keeps lands a b refusal → MovesOnly keeps lands (states a) a at n b refusal
  MovesOnly-read a b at n refusal hold h = record {
    hold = hold h.frame;
    spots = λ can spot misses. h.spots can.told spot;
    damaged = λ can. if_damaged-spots refusal (h.spots can.told);
    reach = λ can. h.reach can.told;
  } where
    if_damaged-spots : (refusal : Option Bad) {P : Type 0} → P → IfDamaged refusal (λ part level block. P)
    if_damaged-spots None p = tt
    if_damaged-spots (Some Disk) p = tt
    if_damaged-spots (Some (Damaged part level block)) p = p

-- the next bytes
pub take-more : (bytes : List ℕ) (done n : ℕ) → take (done + n) bytes ≡ take done bytes ++ take n (take (length bytes - done) (drop done bytes))
take-more bytes done n = rw take_rest (take-add done n bytes)

-- the front of some bytes was put, and then what lies behind it
pub Puts-more : (s t u : State) (at : ℕ) (bytes ys : List ℕ) (done : ℕ) (refusal : Option Bad) → done + length ys ≤ length bytes
    → at + length bytes ≤ s.shape.size → (CanPut s at (length (take done bytes ++ ys)) → NeverDamaged refusal)
    → Puts s at (take done bytes) t None → Puts t (at + done) ys u refusal → Puts s at (take done bytes ++ ys) u refusal
Puts-more s t u at bytes ys done refusal fits inside never puts then_puts =
    let len : length (take done bytes) ≡ done = length-take-le done bytes (omega arith) in
    let behind : Puts t (at + length (take done bytes)) ys u refusal = subst (λ (n : ℕ). Puts t (at + n) ys u refusal) (sym len) then_puts in
    Puts-append s t u at (take done bytes) ys (omega (arith, len)) puts refusal never behind

-- an answer of a call that was told that no place is spoilt
pub IsReady-told : (s : State) (at n : ℕ) (refusal : Option Bad) → IsReady s at n None → NeverDamaged refusal → IsReady s at n refusal
IsReady-told s at n None ready never = ready
IsReady-told s at n (Some Disk) ready never = record { done = λ told. tt; damaged = λ told. tt; plain = λ plain. tt }
IsReady-told s at n (Some (Damaged part level block)) ready never = absurd never

-- The writes of some sectors behind those of others.
use Rattle.std.proofs.Common.{◌≡◌, ℕ, ◌+◌, ◌*◌, ◌≤◌, Bool, true, false, not, ◌&&◌, List, [], ◌++◌, refl, sym, ◌∙◌, ap}
use Rattle.std.proofs.Common.{subst, arith, ⊎_elim}
use Rattle.std.proofs.lemmas.List.{append-nil}
use Rattle.std.proofs.lemmas.Bool.{cases_Bool}
use Rattle.save_bytes.specs.Spots.{Place, Frame}
use Rattle.save_disk.specs.Trace.{Event}
use Rattle.save_disk.specs.State as disks
use Rattle.save_disk.specs.State.{GoesOn}
use Rattle.save_disk.specs.Writes.{OnlyWrites, GrewBy, one_if, writes_to}
use Rattle.save_disk.proofs.Growth.{OnlyWrites-append, OnlyWrites-map, writes_to-append, GoesOn-then, grew_quiet}
use Rattle.page_image.specs.declared.state.ImageState.{ImageState}
use Rattle.page_image.specs.Images.{byte_of, is_changed}
use Rattle.page_image.specs.Laws.{Leaves-same, Leaves-join}
use Rattle.page_image.specs.WriteOuts.{IsOwnWrite, WritesEach, WritesSome, GoesOut, IsWrittenOut, IsWrittenInPart}
use Rattle.page_image.specs.WriteOuts.{IsClean}

-- a sector is changed at first, and then, and then: each time only if it was before
counts_each : (first then_ last : Bool) → (then_ ≡ true → first ≡ true) → (last ≡ true → then_ ≡ true)
    → one_if (not then_ && first) + one_if (not last && then_) ≡ one_if (not last && first)
counts_each true true true a b = refl
counts_each true true false a b = refl
counts_each true false true a b = absurd (let no = b refl in cc)
counts_each true false false a b = refl
counts_each false true last a b = absurd (let no = a refl in cc)
counts_each false false true a b = absurd (let no = b refl in cc)
counts_each false false false a b = refl

counts_some : (first then_ : Bool) (n : ℕ) → (then_ ≡ true → first ≡ true) → n ≤ one_if (true && then_)
    → one_if (not then_ && first) + n ≤ one_if (true && first)
counts_some true true n a few = omega arith
counts_some true false n a few = omega arith
counts_some false true n a few = absurd (let no = a refl in cc)
counts_some false false n a few = omega arith

-- where it is changed as before, it was not written
counts_none : (first : Bool) → 0 ≡ one_if (not first && first)
counts_none true = refl
counts_none false = refl

-- nothing is written
pub GoesOut-same : (d : disks.State) (i : ImageState) → GoesOut d i d i
GoesOut-same d i = record {
  leaves = λ spot. Leaves-same spot d i;
  frames = record { slots = refl; pages = refl };
  fewer = λ sector changed. changed;
}

pub out_none : (d : disks.State) (i : ImageState) → IsWrittenOut d i d i
out_none d i = record {
  went = GoesOut-same d i;
  written = grew_quiet (WritesEach d i (λ sector. not (is_changed i sector))) d d refl
      (record { own = tt; count = λ sector. counts_none (is_changed i sector) });
  told = refl;
}

-- a sector that is not changed stays so
pub clean_still : (d e : disks.State) (i j : ImageState) → GoesOut d i e j → (sector : ℕ) → is_changed i sector ≡ false
    → is_changed j sector ≡ false
clean_still d e i j went sector clean =
    ⊎_elim (λ (changed : is_changed j sector ≡ true). absurd (let was = went.fewer sector changed in cc))
    (λ (none : is_changed j sector ≡ false). none) (cases_Bool (is_changed j sector))

module _ (d e f : disks.State) (i j k : ImageState) (first : IsWrittenOut d i e j) where
  -- a write of a sector that is changed still is one of a sector that was changed at first
  own_before : (events : List Event) → OnlyWrites (IsOwnWrite e j) events → OnlyWrites (IsOwnWrite d i) events
  own_before events own =
      let same = (first.went.leaves Frame).0 in
      OnlyWrites-map (IsOwnWrite e j) (IsOwnWrite d i) events
      (λ sector written is. record {
        changed = first.went.fewer sector is.changed;
        bytes = record {
          long = is.bytes.long ∙ same.grain;
          each = λ k below inside.
              (let place : sector * j.grain + k ≡ sector * i.grain + k = ap (λ (g : ℕ). sector * g + k) same.grain in
              let len : j.len ≡ i.len = same.len in
              let grain : j.grain ≡ i.grain = same.grain in
              is.bytes.each k (omega arith) (omega arith)
              ∙ ((first.went.leaves (Place (sector * j.grain + k))).1 (omega arith)).0 ∙ ap (byte_of d i) place);
        };
      })
      own

  went_on : GoesOut e j f k → GoesOut d i f k
  went_on next = record {
    leaves = λ spot. Leaves-join d e f i j k spot (first.went.leaves spot) (next.leaves spot);
    frames = record {
      slots = next.frames.slots ∙ first.went.frames.slots;
      pages = next.frames.pages
          ∙ first.went.frames.pages;
    };
    fewer = λ sector changed. first.went.fewer sector (next.fewer sector changed);
  }

  module _ (next : IsWrittenOut e j f k) where
    each_more : (xs ys : List Event) → WritesEach d i (λ sector. not (is_changed j sector)) xs
        → WritesEach e j (λ sector. not (is_changed k sector)) ys
        → WritesEach d i (λ sector. not (is_changed k sector)) (xs ++ ys)
    each_more xs ys before after = record {
      own = OnlyWrites-append (IsOwnWrite d i) xs ys before.own (own_before ys after.own);
      count = λ sector.
          writes_to-append sector xs ys
          ∙ rw (before.count sector, after.count sector)
          (counts_each (is_changed i sector) (is_changed j sector) (is_changed k sector) (first.went.fewer sector)
          (next.went.fewer sector));
    }

    -- more sectors are written
    pub out_more : IsWrittenOut d i f k
    out_more = record {
      went = went_on next.went;
      written = GoesOn-then (WritesEach d i (λ sector. not (is_changed j sector)))
          (WritesEach e j (λ sector. not (is_changed k sector)))
          (WritesEach d i (λ sector. not (is_changed k sector))) each_more d e f first.written next.written;
      told = next.told ∙ first.told;
    }

  some_more : (xs ys : List Event) → WritesEach d i (λ sector. not (is_changed j sector)) xs
      → WritesSome e j (λ sector. true) ys
      → WritesSome d i (λ sector. true) (xs ++ ys)
  some_more xs ys before after = record {
    own = OnlyWrites-append (IsOwnWrite d i) xs ys before.own (own_before ys after.own);
    count = λ sector.
        (let more = counts_some (is_changed i sector) (is_changed j sector) (writes_to sector ys)
        (first.went.fewer sector) (after.count sector) in
        omega (arith, writes_to-append sector xs ys, before.count sector, more));
  }

  -- and some of them
  pub part_more : IsWrittenInPart e j f k → IsWrittenInPart d i f k
  part_more next = record {
    went = went_on next.went;
    written = GoesOn-then (WritesEach d i (λ sector. not (is_changed j sector))) (WritesSome e j (λ sector. true))
        (WritesSome d i (λ sector. true))
        some_more d e f first.written next.written;
  }

-- the same events, of which something else follows
GoesOn-map : (P Q : List Event → Type 0) → ((events : List Event) → P events → Q events) → (d e : disks.State)
    → GoesOn (GrewBy P) d e → GoesOn (GrewBy Q) d e
GoesOn-map P Q f d e h =
    GoesOn-then P (λ events. events ≡ []) Q
    (λ xs ys such none. subst Q (sym (ap (λ (l : List Event). xs ++ l) none ∙ append-nil xs)) (f xs such)) d e e h
    (grew_quiet (λ events. events ≡ []) e e refl refl)

-- where no sector is changed any more, each that was changed was written
pub all_written : (d e : disks.State) (i j : ImageState) → IsWrittenOut d i e j → IsClean j
    → GoesOn (GrewBy (WritesEach d i (λ sector. true))) d e
all_written d e i j out clean =
    GoesOn-map (WritesEach d i (λ sector. not (is_changed j sector))) (WritesEach d i (λ sector. true))
    (λ events h. record {
      own = h.own;
      count = λ sector. h.count sector
          ∙ ap (λ (b : Bool). one_if (not b && is_changed i sector)) (clean sector);
    })
    d e out.written

-- A space that stands in another from a place on: a put into the one is a put into the other.
use Rattle.std.proofs.Common.{◌≡◌, ◌≢◌, ◌⊎◌, ℕ, ◌+◌, ◌-◌, ◌<◌, ◌≤◌, false, IsTrue, List, length, Option, Some, None}
use Rattle.std.proofs.Common.{slice_index, refl, sym, ◌∙◌, ap, subst, arith, inl, inr, ⊎_elim}
use Rattle.std.proofs.lemmas.Bool.{cases_lt}
use Rattle.save_bytes.specs.declared.space.Bad.{Bad}
use Rattle.save_bytes.specs.declared.space.Bad.TheVariants.{Disk, Damaged}
use Rattle.save_bytes.specs.Cells.{Cell, Byte, Blank, Spoilt, IsBlank}
use Rattle.save_bytes.specs.State.{State, CanPut}
use Rattle.save_bytes.specs.Refusals.{IfDamaged, UnlessDisk}
use Rattle.save_bytes.specs.Stays.{SameSpace, SameCells, Stays}
use Rattle.save_bytes.specs.Answers.{IsReady, IsClearReady}
use Rattle.save_bytes.proofs.SpaceLemmas.{UnlessDisk-map, UnlessDisk-always, IfDone-both}
use Rattle.save_bytes.specs.Puts.{IsMet, HasBlank, SoftensFrom, Softens, HasPut, Puts}

-- all cells and blocks of the one are those of the other from a place on, and lie in no block with others
pub record StandsIn (part whole : State) (o : ℕ) : Type 0 where
  pub fits : o + part.shape.size ≤ whole.shape.size
  pub cells : (x : ℕ) → x < part.shape.size → whole.cells (o + x) ≡ part.cells x
  pub starts : (x : ℕ) → x < part.shape.size → whole.shape.block_start (o + x) ≡ o + part.shape.block_start x
  pub lens : (x : ℕ) → x < part.shape.size → whole.shape.block_len (o + x) ≡ part.shape.block_len x
  pub bottom : (x : ℕ) → part.bottom x ≡ x
  pub free : (x : ℕ) → part.is_fixed x ≡ false
  pub whole_bottom : (x : ℕ) → whole.bottom x ≡ x
  pub whole_free : (x : ℕ) → whole.is_fixed x ≡ false
  pub unplain : whole.shape.plain ≡ false
  pub apart : (x y : ℕ) → x < whole.shape.size → (x < o) ⊎ (o + part.shape.size ≤ x) → y < part.shape.size
      → whole.shape.block_start x ≢ whole.shape.block_start (o + y)

-- a place lies in it, or outside
data Lies (o n x : ℕ) : Type 0 where
  inside : (y : ℕ) → y < n → x ≡ o + y → Lies o n x
  outside : (x < o) ⊎ (o + n ≤ x) → Lies o n x

lies : (o n x : ℕ) → Lies o n x
lies o n x =
    ⊎_elim
    (λ (before : x < o). outside (inl before))
    (λ (from : o ≤ x).
    ⊎_elim
    (λ (below : x - o < n). inside (x - o) below (omega (arith, from)))
    (λ (behind : n ≤ x - o). outside (inr (omega (arith, from, behind))))
    (cases_lt (x - o) n))
    (cases_lt x o)

module _ (was part : State) (o at n : ℕ) (stands : StandsIn part was o) (fits : at + n ≤ part.shape.size) where
  place : (k : ℕ) → o + at + k ≡ o + (at + k)
  place k = omega arith

  start_at : (k : ℕ) → k < n → was.shape.block_start (was.bottom (o + at + k))
      ≡ o + part.shape.block_start (part.bottom (at + k))
  start_at k less =
      ap was.shape.block_start (stands.whole_bottom (o + at + k) ∙ place k)
      ∙ stands.starts (at + k) (omega (arith, less, fits))
      ∙ ap (λ (y : ℕ). o + part.shape.block_start y) (sym (stands.bottom (at + k)))

  start_of : (x : ℕ) → x < part.shape.size → was.shape.block_start (was.bottom (o + x))
      ≡ o + part.shape.block_start (part.bottom x)
  start_of x below =
      ap was.shape.block_start (stands.whole_bottom (o + x)) ∙ stands.starts x below
      ∙ ap (λ (y : ℕ). o + part.shape.block_start y) (sym (stands.bottom x))

  met_in_part : (x : ℕ) → x < part.shape.size → IsMet was (o + at) n (o + x) → IsMet part at n x
  met_in_part x below met =
      (met.0, met.1, let same = sym (start_of x below) ∙ met.2 ∙ start_at met.0 met.1 in omega (arith, same))

  met_in_whole : (x : ℕ) → x < part.shape.size → IsMet part at n x → IsMet was (o + at) n (o + x)
  met_in_whole x below met =
      (met.0, met.1, start_of x below ∙ ap (λ (y : ℕ). o + y) met.2 ∙ sym (start_at met.0 met.1))

  not_met : (x : ℕ) → x < was.shape.size → (x < o) ⊎ (o + part.shape.size ≤ x) → ¬ IsMet was (o + at) n x
  not_met x below out met =
      stands.apart x (at + met.0) below out (omega (arith, met.1, fits))
      (ap was.shape.block_start (sym (stands.whole_bottom x)) ∙ met.2
      ∙ ap was.shape.block_start (stands.whole_bottom (o + at + met.0) ∙ place met.0))

  has_blank : (p level block : ℕ) → HasBlank part at n p level block → HasBlank was (o + at) n p level block
  has_blank p level block found = (
    found.0,
    found.1,
    ap was.cells (place found.0)
        ∙ stands.cells (at + found.0) (omega (arith, found.1, fits)) ∙ found.2,
  )

  softens_in : (x : ℕ) → x < part.shape.size → (old new : Cell) → SoftensFrom part at n x old new
      → SoftensFrom was (o + at) n (o + x) old new
  softens_in x below (Byte value) new soft = soft
  softens_in x below (Blank p level block) new soft = record {
    met = λ met. soft.met (met_in_part x below met);
    unmet = λ unmet.
        ⊎_elim
        (λ (same : new ≡ Blank p level block). inl same)
        (λ deeper. inr (has_blank p level block deeper.0, deeper.1))
        (soft.unmet (λ met. unmet (met_in_whole x below met)));
  }
  softens_in x below (Spoilt p level block) new soft = soft

  softens_out : (x : ℕ) → x < was.shape.size → (x < o) ⊎ (o + part.shape.size ≤ x) → (old new : Cell) → new ≡ old
      → SoftensFrom was (o + at) n x old new
  softens_out x below out (Byte value) new same = same
  softens_out x below out (Blank p level block) new same =
      record { met = λ met. absurd (not_met x below out met); unmet = λ unmet. inl same }
  softens_out x below out (Spoilt p level block) new same = same

  -- where a put may be made in the other, it may be in the one
  pub can_in_part : IsTrue part.told → CanPut was (o + at) n → CanPut part at n
  can_in_part told can = record {
    told = told;
    apart = λ j k in_j in_k same.
        (let there = sym (stands.bottom (at + j)) ∙ same ∙ stands.bottom (at + k) in omega (arith, there));
    free = λ k less. stands.free (at + k);
  }

-- the cells outside stay, and no blank cell there is one of those inside
pub record StayOutside (was part new : State) (o : ℕ) : Type 0 where
  pub cells : (x : ℕ) → x < was.shape.size → (x < o) ⊎ (o + part.shape.size ≤ x) → new.cells x ≡ was.cells x
  pub names : (x y : ℕ) → x < was.shape.size → (x < o) ⊎ (o + part.shape.size ≤ x) → y < part.shape.size
      → IsBlank (new.cells x) → new.cells x ≢ new.cells (o + y)

same_whole : (was new part later : State) (o : ℕ) → StandsIn part was o → StandsIn later new o
    → later.shape.size ≡ part.shape.size → StayOutside was part new o → SameCells part later → SameCells was new
same_whole was new part later o stands still size stay same x below = by_place (lies o part.shape.size x)
  where
    by_place : Lies o part.shape.size x → new.cells x ≡ was.cells x
    by_place (inside y less is) =
        ap new.cells is ∙ still.cells y (omega (arith, less, size)) ∙ same y less
        ∙ sym (ap was.cells is ∙ stands.cells y less)
    by_place (outside out) = stay.cells x below out

module _ (was new part later : State) (o at : ℕ) (bytes : List ℕ) (stands : StandsIn part was o)
    (still : StandsIn later new o) (size : later.shape.size ≡ part.shape.size)
    (fits : at + length bytes ≤ part.shape.size) where
  module _ (stay : StayOutside was part new o) (put : HasPut part at bytes later.cells) where
    new_cell : (x : ℕ) → x < part.shape.size → new.cells (o + x) ≡ later.cells x
    new_cell x below = still.cells x (omega (arith, below, size))

    written : (x k : ℕ) → x < was.shape.size → k < length bytes → was.bottom x ≡ was.bottom (o + at + k)
        → new.cells x ≡ Byte (slice_index bytes k)
    written x k below less same =
        let is : x ≡ o + (at + k) =
        sym (stands.whole_bottom x) ∙ same ∙ stands.whole_bottom (o + at + k) ∙ place was part o at (length bytes) stands fits k in
        ap new.cells is ∙ new_cell (at + k) (omega (arith, less, fits))
        ∙ put.written (at + k) k (omega (arith, less, fits)) less refl

    others : (x : ℕ) → x < was.shape.size
        → ((k : ℕ) → k < length bytes → was.bottom x ≢ was.bottom (o + at + k)) → Softens was (o + at) (length bytes) x (new.cells x)
    others x below missed = by_place (lies o part.shape.size x)
      where
        by_place : Lies o part.shape.size x → Softens was (o + at) (length bytes) x (new.cells x)
        by_place (inside y less is) =
            let soft : SoftensFrom part at (length bytes) y (part.cells y) (later.cells y) =
            put.others y less
            (λ k in_k same. missed k in_k
            (stands.whole_bottom x ∙ is
            ∙ ap (λ (z : ℕ). o + z) (sym (stands.bottom y) ∙ same ∙ stands.bottom (at + k))
            ∙ sym (place was part o at (length bytes) stands fits k) ∙ sym (stands.whole_bottom (o + at + k)))) in
            rw (is, stands.cells y less, new_cell y less)
            (softens_in was part o at (length bytes) stands fits y less (part.cells y) (later.cells y) soft)
        by_place (outside out) =
            softens_out was part o at (length bytes) stands fits x below out (was.cells x) (new.cells x)
            (stay.cells x below out)

    joined : (x y : ℕ) → x < was.shape.size → y < was.shape.size → IsBlank (new.cells x)
        → new.cells x ≡ new.cells y → was.cells x ≡ was.cells y
    joined x y in_x in_y blank same = by_places (lies o part.shape.size x) (lies o part.shape.size y)
      where
        by_places : Lies o part.shape.size x → Lies o part.shape.size y → was.cells x ≡ was.cells y
        by_places (inside a less_a is_a) (inside b less_b is_b) =
            let cell_a : new.cells x ≡ later.cells a = ap new.cells is_a ∙ new_cell a less_a in
            let cell_b : new.cells y ≡ later.cells b = ap new.cells is_b ∙ new_cell b less_b in
            ap was.cells is_a ∙ stands.cells a less_a
            ∙ put.joined a b less_a less_b (subst IsBlank cell_a blank) (sym cell_a ∙ same ∙ cell_b)
            ∙ sym (ap was.cells is_b ∙ stands.cells b less_b)
        by_places (inside a less_a is_a) (outside out) =
            absurd (stay.names y a in_y out less_a (subst IsBlank same blank) (sym same ∙ ap new.cells is_a))
        by_places (outside out) (inside b less_b is_b) =
            absurd (stay.names x b in_x out less_b blank (same ∙ ap new.cells is_b))
        by_places (outside out_x) (outside out_y) =
            sym (stay.cells x in_x out_x) ∙ same ∙ stay.cells y in_y out_y

    pub has_put : HasPut was (o + at) bytes new.cells
    has_put = record { written = written; others = others; joined = joined }

  damaged_both : (refusal : Option Bad) {P Q R : Type 0} → (P → Q → R) → UnlessDisk refusal P
      → IfDamaged refusal (λ p level block. Q) → IfDamaged refusal (λ p level block. R)
  damaged_both None f p q = tt
  damaged_both (Some Disk) f p q = tt
  damaged_both (Some (Damaged p level block)) f a b = f a b

  -- a call that puts bytes into the one puts them into the other
  pub puts_whole : (refusal : Option Bad) → SameSpace ⊥ was new refusal
      → (CanPut was (o + at) (length bytes) → IsTrue part.told)
      → (CanPut was (o + at) (length bytes) → UnlessDisk refusal (IsTrue new.told))
      → (CanPut was (o + at) (length bytes) → UnlessDisk refusal (StayOutside was part new o))
      → Puts part at bytes later refusal → Puts was (o + at) bytes new refusal
  puts_whole refusal space part_told told stay put =
      let can : CanPut was (o + at) (length bytes) → CanPut part at (length bytes) =
      λ is. can_in_part was part o at (length bytes) stands fits (part_told is) is in
      record {
        space = record {
          shape = space.shape;
          faults = space.faults;
          cause = space.cause;
          told = told;
          twins = λ is. UnlessDisk-always refusal (record {
            bottom = λ x below. still.whole_bottom x ∙ sym (stands.whole_bottom x);
            is_fixed = λ x below. still.whole_free x ∙ sym (stands.whole_free x);
          });
        };
        done = λ is. IfDone-both refusal (λ (done : HasPut part at bytes later.cells) (left : StayOutside was part new o).
            has_put left done) (put.done (can is)) (stay is);
        damaged = λ is. damaged_both refusal (same_whole was new part later o stands still size) (stay is) (put.damaged (can is));
      }

-- a call that reads the one reads the other
pub stays_whole : (was new part later : State) (o : ℕ) → StandsIn part was o → StandsIn later new o
    → later.shape.size ≡ part.shape.size → (refusal : Option Bad) → SameSpace ⊥ was new refusal
    → (IsTrue was.told → IsTrue part.told) → (IsTrue was.told → UnlessDisk refusal (IsTrue new.told))
    → (IsTrue was.told → StayOutside was part new o) → Stays part later refusal → Stays was new refusal
stays_whole was new part later o stands still size refusal space part_told told stay stays = record {
  space = record {
    shape = space.shape;
    faults = space.faults;
    cause = space.cause;
    told = told;
    twins = λ is. UnlessDisk-always refusal (record {
      bottom = λ x below. still.whole_bottom x ∙ sym (stands.whole_bottom x);
      is_fixed = λ x below. still.whole_free x ∙ sym (stands.whole_free x);
    });
  };
  cells = λ is. UnlessDisk-map refusal (same_whole was new part later o stands still size (stay is))
      (stays.cells (part_told is));
}

-- answers on the one are answers on the other
module _ (was part : State) (o at : ℕ) (stands : StandsIn part was o) (told : IsTrue was.told → IsTrue part.told) where
  unplain : {P : Type 0} → IsTrue was.shape.plain → P
  unplain plain = absurd (let no = stands.unplain in cc)

  pub ready_whole : (n : ℕ) (refusal : Option Bad) → at + n ≤ part.shape.size → IsReady part at n refusal
      → IsReady was (o + at) n refusal
  ready_whole n None fits h = record {
    done = λ is k less. rw (place was part o at n stands fits k, stands.cells (at + k) (omega (arith, less, fits)))
        (h.done (told is) k less);
    damaged = λ is. tt;
    plain = λ plain. tt;
  }
  ready_whole n (Some Disk) fits h = record { done = λ is. tt; damaged = λ is. tt; plain = λ plain. tt }
  ready_whole n (Some (Damaged p level block)) fits h = record {
    done = λ is. tt;
    damaged = λ is.
        (let first = h.damaged (told is) in
        record {
          k = first.k;
          within = first.within;
          spoilt = rw (place was part o at n stands fits first.k, stands.cells (at + first.k) (omega (arith, first.within, fits)))
              first.spoilt;
          before = λ j less. rw (place was part o at n stands fits j, stands.cells (at + j) (omega (arith, less, first.within, fits)))
              (first.before j less);
        });
    plain = λ plain. unplain plain;
  }

  pub clear_ready_whole : (refusal : Option Bad) → at + 1 ≤ part.shape.size → IsClearReady part at refusal
      → IsClearReady was (o + at) refusal
  clear_ready_whole None fits h = record {
    done = λ is. rw (stands.cells at (omega (arith, fits))) (h.done (told is));
    damaged = λ is. tt;
    plain = λ plain. tt;
  }
  clear_ready_whole (Some Disk) fits h = record { done = λ is. tt; damaged = λ is. tt; plain = λ plain. tt }
  clear_ready_whole (Some (Damaged p level block)) fits h = record {
    done = λ is. tt;
    damaged = λ is. rw (stands.cells at (omega (arith, fits))) (h.damaged (told is));
    plain = λ plain. unplain plain;
  }

-- What a put into one block does to a floor with holes.
use Rattle.std.proofs.Common.{◌≡◌, ◌≢◌, ℕ, ◌+◌, ◌-◌, ◌*◌, ◌/◌, ◌<◌, ◌≤◌, ◌⊎◌, List, [], ◌∷◌, length, get_or, set}
use Rattle.std.proofs.Common.{refl, sym, ◌∙◌}
use Rattle.std.proofs.Common.{ap, subst, arith, None, inl, inr, zero, suc, add-zero, length-set, get_or-set_other}
use Rattle.std.proofs.Common.{get_or-set_same, replicate}
use Rattle.std.proofs.lemmas.List.{length-replicate, get_or-replicate}
use Rattle.std.proofs.Common.{⊎_elim, min, rules, tests, IsTrue}
use Rattle.std.proofs.Math.Nat.{div-mul-le_self, lt-div-mul-add}
use Rattle.std.proofs.lemmas.Nat.{div-mul-add}
use Rattle.std.proofs.lemmas.Bool.{cases_eq, cases_lt}
use Rattle.save_bytes.specs.Cells.{Cell, Byte, Blank, Spoilt, IsBlank, IsUnspoilt}
use Rattle.save_bytes.specs.State.{IsInside, CanPut, HasNoTwins}
use Rattle.save_bytes.proofs.SpaceLemmas.{can_put}
use Rattle.save_bytes.specs.Puts.{SoftensFrom, HasPut, Puts, IsMet}
use Rattle.save_bytes.specs.Spots.{Spot, Place, Sector, Mark, Frame, Hold, Misses, MovesOnly}
use Rattle.save_samples.specs.declared.holes.Hole.{Hole}
use Rattle.save_samples.specs.declared.holes.Hole.TheVariants.{Filled, NeverWritten, Broken}
use Rattle.save_samples.specs.declared.holes.HoleSpace.{HoleSpace}
use Rattle.save_samples.specs.Holes.{hole_cell, holed_state, hole_state, IsRun, SameHoles, SameHoleSpot}
use Rattle.save_samples.specs.Holes.{HoleKeeps, HoleLands}
use Rattle.save_samples.specs.HoleLaws.{same_number, hole_lands_kept}

-- a byte of a block that a put meets, where it is not written
abbrev pub IsFill : Hole → ℕ → ℕ → Type 0
IsFill Filled old new = new ≡ old
IsFill (NeverWritten level) old new = new ≡ 0
IsFill (Broken level) old new = ⊥

-- a piece was put into one block, which has no hole from then on
pub record IsBlockPut (block at : ℕ) (piece bytes later : List ℕ) (holes filled : List Hole) : Type 0 where
  pub some : 0 < length piece
  pub block_some : 0 < block
  pub same_size : length later ≡ length bytes
  pub same_count : length filled ≡ length holes
  pub within : (k : ℕ) → k < length piece → (at + k) / block ≡ at / block
  pub written : (k : ℕ) → k < length piece → get_or later (at + k) 0 ≡ get_or piece k 0
  pub rest : (x : ℕ) → x < length bytes → x / block ≡ at / block → ((k : ℕ) → k < length piece → x ≢ at + k)
      → IsFill (get_or holes (at / block) Filled) (get_or bytes x 0) (get_or later x 0)
  pub elsewhere : (x : ℕ) → x / block ≢ at / block → get_or later x 0 ≡ get_or bytes x 0
  pub here : get_or filled (at / block) Filled ≡ Filled
  pub others : (number : ℕ) → number ≢ at / block → get_or filled number Filled ≡ get_or holes number Filled

module _ (block at : ℕ) (piece bytes later : List ℕ) (holes filled : List Hole)
    (put : IsBlockPut block at piece bytes later holes filled) where
  old_cells : ℕ → Cell
  old_cells x = (holed_state bytes block holes).cells x

  cells_here : (x : ℕ) → x / block ≡ at / block → (holed_state later block filled).cells x ≡ Byte (get_or later x 0)
  cells_here x same = ap (λ (hole : Hole). hole_cell hole (get_or later x 0) (x / block))
      (ap (λ (n : ℕ). get_or filled n Filled) same ∙ put.here)

  cells_elsewhere : (x : ℕ) → x / block ≢ at / block
      → (holed_state later block filled).cells x ≡ (holed_state bytes block holes).cells x
  cells_elsewhere x apart =
      ap (λ (hole : Hole). hole_cell hole (get_or later x 0) (x / block)) (put.others (x / block) apart)
      ∙ ap (λ (value : ℕ). hole_cell (get_or holes (x / block) Filled) value (x / block)) (put.elsewhere x apart)

  -- a block that begins where the one of the piece does is that block
  met_is_here : (x : ℕ) → IsMet (holed_state bytes block holes) at (length piece) x → x / block ≡ at / block
  met_is_here x met = sym (same_number block (x / block) ((at + met.0) / block) put.block_some met.2)
      ∙ put.within met.0 met.1

  soft_elsewhere : (x : ℕ) → x / block ≢ at / block → (cell : Cell)
      → SoftensFrom (holed_state bytes block holes) at (length piece) x cell cell
  soft_elsewhere x apart (Byte value) = refl
  soft_elsewhere x apart (Blank part level number) = record {
    met = λ met. absurd
        (apart (met_is_here x met));
    unmet = λ unmet. inl refl;
  }
  soft_elsewhere x apart (Spoilt part level number) = refl

  soft_here : (x : ℕ) → x / block ≡ at / block → (hole : Hole) → IsFill hole (get_or bytes x 0) (get_or later x 0)
      → SoftensFrom (holed_state bytes block holes) at (length piece) x
      (hole_cell hole (get_or bytes x 0) (x / block)) (Byte (get_or later x 0))
  soft_here x same Filled fill = ap Byte fill
  soft_here x same (NeverWritten level) fill = record {
    met = λ met. ap Byte fill;
    unmet = λ unmet. absurd (unmet (0, put.some, ap (λ (n : ℕ). n * block) (same ∙ sym (put.within 0 put.some))));
  }
  soft_here x same (Broken level) fill = absurd fill

  softens : (x : ℕ) → x < length bytes → ((k : ℕ) → k < length piece → x ≢ at + k)
      → (x / block ≡ at / block) ⊎ (x / block ≢ at / block)
      → SoftensFrom (holed_state bytes block holes) at (length piece) x ((holed_state bytes block holes).cells x)
      ((holed_state later block filled).cells x)
  softens x below apart (inl same) =
      let P : Cell → Type 0 = SoftensFrom (holed_state bytes block holes) at (length piece) x
      ((holed_state bytes block holes).cells x) in
      let fill = put.rest x below same apart in
      let fill_x : IsFill (get_or holes (x / block) Filled) (get_or bytes x 0) (get_or later x 0) = rw same fill in
      subst P (sym (cells_here x same)) (soft_here x same (get_or holes (x / block) Filled) fill_x)
  softens x below apart (inr other) =
      let P : Cell → Type 0 = SoftensFrom (holed_state bytes block holes) at (length piece) x
      ((holed_state bytes block holes).cells x) in
      subst P (sym (cells_elsewhere x other)) (soft_elsewhere x other ((holed_state bytes block holes).cells x))

  -- a blank cell lies in another block, and was so before
  blank_before : (x : ℕ) → IsBlank ((holed_state later block filled).cells x)
      → (x / block ≡ at / block) ⊎ (x / block ≢ at / block)
      → (holed_state later block filled).cells x ≡ (holed_state bytes block holes).cells x
  blank_before x blank (inl same) = absurd (subst IsBlank (cells_here x same) blank)
  blank_before x blank (inr other) = cells_elsewhere x other

  has_put : HasPut (holed_state bytes block holes) at piece (holed_state later block filled).cells
  has_put = record {
    written = λ x k below within same.
        let here : x / block ≡ at / block = ap (λ (n : ℕ). n / block) same ∙ put.within k within in
        cells_here x here ∙ ap Byte (ap (λ (n : ℕ). get_or later n 0) same ∙ put.written k within);
    others = λ x below apart. softens x below apart (cases_eq (x / block) (at / block));
    joined = λ x y in_x in_y blank same.
        sym (blank_before x blank (cases_eq (x / block) (at / block))) ∙ same
        ∙ blank_before y (subst IsBlank same blank) (cases_eq (y / block) (at / block));
  }

  pub block_put : Puts (holed_state bytes block holes) at piece (holed_state later block filled) None
  block_put = record {
    space = record {
      shape = rw (put.same_size, put.same_count) refl;
      faults = omega arith;
      cause = tt;
      told = λ can. can.told;
      twins = λ can. record { bottom = λ x below. refl; is_fixed = λ x below. refl };
    };
    done = λ can. has_put;
    damaged = λ can. tt;
  }

  spot_alone : (s t : HoleSpace) → s.bytes.now ≡ bytes → s.holes.now ≡ holes → s.block ≡ block → t.bytes.now ≡ later
      → t.holes.now ≡ filled → t.block ≡ block → (spot : Spot) → Misses (HoleLands s) at (length piece) spot
      → SameHoleSpot spot s t
  spot_alone s t b h z b' h' z' (Place x) misses =
      let apart : x / block ≢ at / block = λ same. misses 0 put.some (rw z (put.within 0 put.some ∙ sym same)) in
      rw (b, h, z, b', h', z') (cells_elsewhere x apart)
  spot_alone s t b h z b' h' z' (Sector number) misses = tt
  spot_alone s t b h z b' h' z' (Mark part level number) misses = tt
  spot_alone s t b h z b' h' z' Frame misses = tt
  spot_alone s t b h z b' h' z' Hold misses = tt

-- where a piece was put into one block, no place of another was touched
pub block_moved : (s t : HoleSpace) (at n : ℕ) (piece : List ℕ) → length piece ≡ n
    → t.bytes.ghost_name ≡ s.bytes.ghost_name
    → t.holes.ghost_name ≡ s.holes.ghost_name → t.block ≡ s.block
    → IsBlockPut s.block at piece s.bytes.now t.bytes.now s.holes.now t.holes.now
    → MovesOnly HoleKeeps HoleLands (hole_state s) s at n t None
block_moved s t at n piece long same_bytes same_holes same_block put =
    let same : SameHoles s t = record {
      same_bytes = same_bytes;
      same_size = put.same_size;
      same_block = same_block;
      same_holes = same_holes;
      same_count = put.same_count;
    } in
    record {
      hold = (same, tt);
      spots = λ can spot misses. (
        same,
        spot_alone s.block at piece s.bytes.now t.bytes.now s.holes.now t.holes.now put s t
            refl refl refl refl refl same_block spot (rw long misses),
      );
      damaged = λ can. tt;
      reach = λ can x below spot lands. hole_lands_kept s t same x spot lands;
    }

one_place : (at k : ℕ) → k < 1 → at + k ≡ at
one_place at k less = omega arith

not_at : (at x : ℕ) (byte : ℕ) → ((k : ℕ) → k < length (byte ∷ []) → x ≢ at + k) → x ≢ at
not_at at x byte apart same = apart 0 (omega arith) (omega arith)

byte_at : (xs : List ℕ) (at byte k : ℕ) → at < length xs → k < 1
    → get_or (set xs at byte) (at + k) 0 ≡ get_or (byte ∷ []) k 0
byte_at xs at byte zero within less = rw add-zero (get_or-set_same xs at byte 0 within)
byte_at xs at byte (suc k) within less = absurd (omega arith)

-- a byte put into a block without a hole
pub filled_put : (block at byte : ℕ) (bytes : List ℕ) (holes : List Hole) → 0 < block → at < length bytes
    → get_or holes (at / block) Filled ≡ Filled → IsBlockPut block at (byte ∷ []) bytes (set bytes at byte) holes holes
filled_put block at byte bytes holes some within here = record {
  some = omega arith;
  block_some = some;
  same_size = length-set bytes at byte;
  same_count = refl;
  within = λ k less. ap (λ n. n / block) (one_place at k less);
  written = λ k less. byte_at bytes at byte k within less;
  rest = λ x below same apart. rw here (get_or-set_other bytes at x byte 0 (not_at at x byte apart));
  elsewhere = λ x apart. get_or-set_other bytes at x byte 0 (λ same. apart (ap (λ n. n / block) same));
  here = here;
  others = λ number apart. refl;
}

-- a byte put into a block that was never written, and zeros in the rest of it
pub blank_put : (block at byte level : ℕ) (bytes mid : List ℕ) (holes : List Hole) → 0 < block → at < length bytes
    → get_or holes (at / block) Filled ≡ NeverWritten level → at / block < length holes → length mid ≡ length bytes
    → ((x : ℕ) → x < length bytes → x / block ≡ at / block → get_or mid x 0 ≡ 0)
    → ((x : ℕ) → x / block ≢ at / block → get_or mid x 0 ≡ get_or bytes x 0)
    → IsBlockPut block at (byte ∷ []) bytes (set mid at byte) holes (set holes (at / block) Filled)
blank_put block at byte level bytes mid holes some within blank number size zeros elsewhere = record {
  some = omega arith;
  block_some = some;
  same_size = length-set mid at byte ∙ size;
  same_count = length-set holes (at / block) Filled;
  within = λ k less. ap (λ n. n / block) (one_place at k less);
  written = λ k less. byte_at mid at byte k (rw size within) less;
  rest = λ x below same apart. rw blank
      (get_or-set_other mid at x byte 0 (not_at at x byte apart) ∙ zeros x below same);
  elsewhere = λ x apart. get_or-set_other mid at x byte 0 (λ same. apart (ap (λ n. n / block) same))
      ∙ elsewhere x apart;
  here = get_or-set_same holes (at / block) Filled Filled number;
  others = λ e apart. get_or-set_other holes (at / block) e Filled Filled apart;
}

-- a block that is neither spoilt nor blank has no hole
filled_of : (hole : Hole) (value number : ℕ) → IsUnspoilt (hole_cell hole value number)
    → ((level : ℕ) → hole ≢ NeverWritten level) → hole ≡ Filled
filled_of Filled value number ok not = refl
filled_of (NeverWritten level) value number ok not = absurd (not level refl)
filled_of (Broken level) value number ok not = absurd ok

-- the places of a block lie between its ends, and no others do
block_of_place : (block at x : ℕ) → 0 < block → at / block * block ≤ x → x < at / block * block + block
    → x / block ≡ at / block
block_of_place block at x some low high =
    let rest : x ≡ at / block * block + (x - at / block * block) = omega arith in
    rw rest (div-mul-add (at / block) block (x - at / block * block) (omega arith))

pub zeros_here : (block at start len : ℕ) (bytes mid : List ℕ) → 0 < block → start ≡ at / block * block
    → len ≡ min block (length bytes - start)
    → ((x : ℕ) → start ≤ x → x < start + len → get_or mid x 0 ≡ 0) → (x : ℕ) → x < length bytes
    → x / block ≡ at / block → get_or mid x 0 ≡ 0
zeros_here block at start len bytes mid some start_is len_is zeros x below same =
    let begins : start ≡ x / block * block = start_is ∙ ap (λ (n : ℕ). n * block) (sym same) in
    zeros x (omega (arith, div-mul-le_self x block)) (omega (arith, lt-div-mul-add {a = x} some))

pub others_stay : (block at start len : ℕ) (bytes mid : List ℕ) → 0 < block → start ≡ at / block * block
    → len ≡ min block (length bytes - start)
    → ((x : ℕ) → x < start → get_or mid x 0 ≡ get_or bytes x 0)
    → ((x : ℕ) → start + len ≤ x → get_or mid x 0 ≡ get_or bytes x 0)
    → (x : ℕ) → x / block ≢ at / block → get_or mid x 0 ≡ get_or bytes x 0
others_stay block at start len bytes mid some start_is len_is before behind x apart = ⊎_elim (before x)
    (λ (from : start ≤ x). behind x (⊎_elim
    (λ (inside : x < start + block). absurd (apart (block_of_place block at x some (omega arith) (omega arith))))
    (λ (past : start + block ≤ x). let far : start + len ≤ x = omega arith in far) (cases_lt x (start + block))))
    (cases_lt x start)

-- a floor to whose block a byte is put next: the same references, and what the put makes of it
pub record IsHolePut (s m : HoleSpace) (at byte : ℕ) : Type 0 where
  pub same_bytes : m.bytes.ghost_name ≡ s.bytes.ghost_name
  pub same_holes : m.holes.ghost_name ≡ s.holes.ghost_name
  pub same_block : m.block ≡ s.block
  pub put : IsBlockPut s.block at (byte ∷ []) s.bytes.now (set m.bytes.now at byte) s.holes.now m.holes.now

pub filled_hole_put : (s : HoleSpace) (at byte : ℕ) → IsInside (hole_state s).shape at 1
    → IsUnspoilt ((hole_state s).cells at)
    → ((level : ℕ) → get_or s.holes.now (at / s.block) Filled ≢ NeverWritten level) → IsHolePut s s at byte
filled_hole_put s at byte inside ok not =
    let some : 0 < s.block = search (rules, tests, inside.sound) in
    record {
      same_bytes = refl;
      same_holes = refl;
      same_block = refl;
      put = filled_put s.block at byte s.bytes.now s.holes.now some (omega (arith, inside.inside))
          (filled_of (get_or s.holes.now (at / s.block) Filled) (get_or s.bytes.now at 0) (at / s.block) ok not);
    }

-- a block that was cleared
pub clear_put : (block at start len : ℕ) (bytes later : List ℕ) (holes : List Hole) → 0 < block → at < length bytes
    → at / block < length holes → start ≡ at / block * block → len ≡ min block (length bytes - start)
    → length later ≡ length bytes
    → ((x : ℕ) → start ≤ x → x < start + len → get_or later x 0 ≡ 0)
    → ((x : ℕ) → x < start → get_or later x 0 ≡ get_or bytes x 0)
    → ((x : ℕ) → start + len ≤ x → get_or later x 0 ≡ get_or bytes x 0)
    → IsBlockPut block start (replicate len 0) bytes later holes (set holes (at / block) Filled)
clear_put block at start len bytes later holes some within number start_is len_is size zeros before behind =
    let low = div-mul-le_self at block in
    let high = lt-div-mul-add {a = at} some in
    let long : length (replicate {A = ℕ} len 0) ≡ len = length-replicate {A = ℕ} len 0 in
    let positive : 0 < len = omega arith in
    let here : start / block ≡ at / block = block_of_place block at start some (omega arith) (omega arith) in
    record {
      some = rw long positive;
      block_some = some;
      same_size = size;
      same_count = length-set holes (at / block) Filled;
      within = λ k less. block_of_place block at (start + k) some (omega arith) (omega arith) ∙ sym here;
      written = λ k less. zeros (start + k) (omega arith) (omega arith)
          ∙ sym (get_or-replicate len k 0 0 (omega arith));
      rest = λ x below same apart. absurd (apart (x - start)
          (omega (arith, div-mul-le_self x block, lt-div-mul-add {a = x} some, ap (λ (n : ℕ). n * block) (same ∙ here)))
          (omega (arith, div-mul-le_self x block, ap (λ (n : ℕ). n * block) (same ∙ here))));
      elsewhere = λ x apart. others_stay block at start len bytes later some start_is len_is before behind x
          (λ same. apart (same ∙ sym here));
      here = ap (λ (n : ℕ). get_or (set holes (at / block) Filled) n Filled) here
          ∙ get_or-set_same holes (at / block) Filled Filled number;
      others = λ e apart. get_or-set_other holes (at / block) e Filled Filled (λ same. apart (same ∙ sym here));
    }

-- the bytes up to the end of a block without a hole
pub run_is : (s : HoleSpace) (at most start len : ℕ) → IsInside (hole_state s).shape at 1 → 1 ≤ most
    → get_or s.holes.now (at / s.block) Filled ≡ Filled → start ≡ at / s.block * s.block
    → len ≡ min s.block (length s.bytes.now - at / s.block * s.block)
    → IsRun (hole_state s) s.bytes.now at most (min most (start + len - at))
run_is s at most start len inside many filled start_is len_is =
    let some : 0 < s.block = search (rules, tests, inside.sound) in
    let within = inside.inside in
    let low = div-mul-le_self at s.block in
    let high = lt-div-mul-add {a = at} some in
    record {
      some = omega arith;
      bounded = omega arith;
      inside = omega arith;
      cells = λ k less.
          let same : (at + k) / s.block ≡ at / s.block = block_of_place s.block at (at + k) some (omega arith)
          (omega arith) in
          ap (λ (hole : Hole). hole_cell hole (get_or s.bytes.now (at + k) 0) ((at + k) / s.block))
          (ap (λ (n : ℕ). get_or s.holes.now n Filled) same ∙ filled);
    }

no_twins : (s : HoleSpace) → HasNoTwins (hole_state s)
no_twins s = record { apart = λ x y same. same; free = λ x. refl }

pub hole_can : (s t : HoleSpace) (at n : ℕ) → IsTrue (hole_state s).shape.sound → t.block ≡ s.block
    → CanPut (hole_state t) at n
hole_can s t at n sound same =
    let some : IsTrue (hole_state s).told = search (rules, tests, sound) in
    can_put (hole_state t) at n (no_twins t) (rw same some)

-- the same range by other words
pub moved_at : (s t : HoleSpace) (at n start len : ℕ) → at ≡ start → n ≡ len
    → MovesOnly HoleKeeps HoleLands (hole_state s) s at n t None
    → MovesOnly HoleKeeps HoleLands (hole_state s) s start len t None
moved_at s t at n start len start_is len_is moved = rw (start_is, len_is) at moved

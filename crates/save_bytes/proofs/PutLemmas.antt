-- What a put leaves, and one put behind another.
use Rattle.std.proofs.Common.{◌≡◌, ◌≢◌, ◌⊎◌, ℕ, zero, suc, ◌+◌, ◌-◌, ◌<◌, ◌≤◌, List, ◌++◌, length, get_or}
use Rattle.std.proofs.Common.{replicate, IsTrue, Option, Some, None, refl, sym, ◌∙◌, ap, arith, inl, inr, ⊎_elim}
use Rattle.std.proofs.Common.{length-append}
use Rattle.std.proofs.lemmas.List.{get_or_append_left, get_or-append_right, get_or-replicate, length-replicate}
use Rattle.std.proofs.lemmas.Bool.{cases_lt, cases_eq}
use Rattle.save_bytes.specs.declared.space.Bad.{Bad}
use Rattle.save_bytes.specs.declared.space.Bad.TheVariants.{Disk, Damaged}
use Rattle.save_bytes.specs.Refusals.{UnlessDisk, NeverDamaged}
use Rattle.save_bytes.specs.Answers.{IsReady}
use Rattle.save_bytes.specs.Cells.{Cell, Byte, Blank, Spoilt, IsBlank, IsUnspoilt, IsClearable}
use Rattle.save_bytes.specs.State.{Shape, State, CanPut}
use Rattle.save_bytes.specs.Blocks.{HasBlocks}
use Rattle.save_bytes.specs.Stays.{SameTwins}
use Rattle.save_bytes.specs.Puts.{IsMet, HasBlank, IsDeeper, SoftensBlank, SoftensFrom, Softens, HasPut, Puts}

last_or_below : (k n : ℕ) → k < suc n → (k < n) ⊎ (k ≡ n)
last_or_below k n h = ⊎_elim inl (λ above. inr (omega arith)) (cases_lt k n)

-- one of the first n values of a function is a number, or none is
pub find_value : (f : ℕ → ℕ) (y n : ℕ) → ((k : ℕ) × (k < n) × (y ≡ f k)) ⊎ ((k : ℕ) → k < n → y ≢ f k)
find_value f y zero = inr (λ k h e. absurd (omega (arith, h)))
find_value f y (suc n) =
    ⊎_elim
    (λ (found : (k : ℕ) × (k < n) × (y ≡ f k)). inl (found.0, omega (arith, found.1), found.2))
    (λ (none : (k : ℕ) → k < n → y ≢ f k).
    ⊎_elim
    (λ (is : y ≡ f n). inl (n, omega arith, is))
    (λ (isnt : y ≢ f n). inr (λ k h e. ⊎_elim (λ below. none k below e) (λ (last : k ≡ n). isnt (e ∙ ap f last)) (last_or_below k n h)))
    (cases_eq y (f n)))
    (find_value f y n)

-- a cell that is not spoilt softens to one that is not
SoftensBlank-unspoilt : (was : State) (at n x part level block : ℕ) (new : Cell) → SoftensBlank was at n x part level block new → IsUnspoilt new
SoftensBlank-unspoilt was at n x part level block new soft =
    ⊎_elim
    (λ (met : IsMet was at n x). rw (soft.met met) tt)
    (λ (unmet : (k : ℕ) → k < n → was.shape.block_start (was.bottom x) ≢ was.shape.block_start (was.bottom (at + k))).
    ⊎_elim
    (λ (same : new ≡ Blank part level block). rw same tt)
    (λ (deeper : HasBlank was at n part level block × IsDeeper part level new). rw deeper.1.3 tt)
    (soft.unmet (λ met. unmet met.0 met.1 met.2)))
    (find_value (λ k. was.shape.block_start (was.bottom (at + k))) (was.shape.block_start (was.bottom x)) n)

SoftensFrom-unspoilt : (was : State) (at n x : ℕ) (old new : Cell) → SoftensFrom was at n x old new → IsUnspoilt old → IsUnspoilt new
SoftensFrom-unspoilt was at n x (Byte value) new soft ok = rw soft tt
SoftensFrom-unspoilt was at n x (Blank part level block) new soft ok = SoftensBlank-unspoilt was at n x part level block new soft
SoftensFrom-unspoilt was at n x (Spoilt part level block) new soft ok = absurd ok

unspoilt_clearable : (cell : Cell) → IsUnspoilt cell → IsClearable cell
unspoilt_clearable (Byte value) ok = tt
unspoilt_clearable (Blank part level block) ok = tt
unspoilt_clearable (Spoilt part level block) ok = absurd ok

SoftensFrom-clearable : (was : State) (at n x : ℕ) (old new : Cell) → SoftensFrom was at n x old new → IsClearable old → IsClearable new
SoftensFrom-clearable was at n x (Byte value) new soft ok = rw soft tt
SoftensFrom-clearable was at n x (Blank part level block) new soft ok = unspoilt_clearable new (SoftensBlank-unspoilt was at n x part level block new soft)
SoftensFrom-clearable was at n x (Spoilt part level block) new soft ok = rw soft ok

SoftensFrom-blank : (was : State) (at n x : ℕ) (old new : Cell) → SoftensFrom was at n x old new → IsBlank new → IsBlank old
SoftensFrom-blank was at n x (Byte value) new soft blank = rw soft at blank
SoftensFrom-blank was at n x (Blank part level block) new soft blank = tt
SoftensFrom-blank was at n x (Spoilt part level block) new soft blank = rw soft at blank

module _ (was : State) (at : ℕ) (bytes : List ℕ) (new : ℕ → Cell) (put : HasPut was at bytes new) (x : ℕ) (inside : x < was.shape.size) where
  -- a place was written, or softened
  pub HasPut-cases : ((k : ℕ) × (k < length bytes) × (was.bottom x ≡ was.bottom (at + k))
      × (new x ≡ Byte (get_or bytes k 0))) ⊎
      (((k : ℕ) → k < length bytes → was.bottom x ≢ was.bottom (at + k)) × Softens was at (length bytes) x (new x))
  HasPut-cases =
      ⊎_elim
      (λ (found : (k : ℕ) × (k < length bytes) × (was.bottom x ≡ was.bottom (at + k))). inl
      (found.0, found.1, found.2, put.written x found.0 inside found.1 found.2))
      (λ (apart : (k : ℕ) → k < length bytes → was.bottom x ≢ was.bottom (at + k)). inr (apart, put.others x inside apart))
      (find_value (λ k. was.bottom (at + k)) (was.bottom x) (length bytes))

  -- no put spoils a cell: so what may be written or cleared may be so after it
  pub HasPut-unspoilt : IsUnspoilt (was.cells x) → IsUnspoilt (new x)
  HasPut-unspoilt ok =
      ⊎_elim
      (λ (found : (k : ℕ) × (k < length bytes) × (was.bottom x ≡ was.bottom (at + k)) × (new x ≡ Byte (get_or bytes k 0))). rw found.3 tt)
      (λ (softer : ((k : ℕ) → k < length bytes → was.bottom x ≢ was.bottom (at + k))
      × Softens was at (length bytes) x (new x)). SoftensFrom-unspoilt was at (length bytes) x (was.cells x)
      (new x) softer.1 ok)
      HasPut-cases

  pub HasPut-clearable : IsClearable (was.cells x) → IsClearable (new x)
  HasPut-clearable ok =
      ⊎_elim
      (λ (found : (k : ℕ) × (k < length bytes) × (was.bottom x ≡ was.bottom (at + k)) × (new x ≡ Byte (get_or bytes k 0))). rw found.3 tt)
      (λ (softer : ((k : ℕ) → k < length bytes → was.bottom x ≢ was.bottom (at + k))
      × Softens was at (length bytes) x (new x)). SoftensFrom-clearable was at (length bytes) x (was.cells x)
      (new x) softer.1 ok)
      HasPut-cases

  HasPut-blank : IsBlank (new x) → IsBlank (was.cells x)
  HasPut-blank blank =
      ⊎_elim
      (λ (found : (k : ℕ) × (k < length bytes) × (was.bottom x ≡ was.bottom (at + k)) × (new x ≡ Byte (get_or bytes k 0))). absurd (rw found.3 at blank))
      (λ (softer : ((k : ℕ) → k < length bytes → was.bottom x ≢ was.bottom (at + k))
      × Softens was at (length bytes) x (new x)). SoftensFrom-blank was at (length bytes) x (was.cells x) (new x)
      softer.1 blank)
      HasPut-cases

-- no cell of the n from a place on is spoilt
abbrev pub AreUnspoilt : State → ℕ → ℕ → Type 0
AreUnspoilt s at n = (k : ℕ) → k < n → IsUnspoilt (s.cells (at + k))

-- so they stay after a put at any place, one that was refused as damaged too
pub Puts-unspoilt : (old new : State) (at n other : ℕ) (bytes : List ℕ) (refusal : Option Bad) → Puts old other bytes new refusal
    → CanPut old other (length bytes) → at + n ≤ old.shape.size → AreUnspoilt old at n → UnlessDisk refusal (AreUnspoilt new at n)
Puts-unspoilt old new at n other bytes None puts can fits ok =
    λ k h. HasPut-unspoilt old other bytes new.cells (puts.done can) (at + k) (omega arith) (ok k h)
Puts-unspoilt old new at n other bytes (Some Disk) puts can fits ok = tt
Puts-unspoilt old new at n other bytes (Some (Damaged part level block)) puts can fits ok =
    λ k h. rw (puts.damaged can (at + k) (omega arith)) (ok k h)

-- and a put into them is not refused as damaged
pub IsReady-unspoilt : (s : State) (at n : ℕ) (refusal : Option Bad) → IsReady s at n refusal → IsTrue s.told → AreUnspoilt s at n → NeverDamaged refusal
IsReady-unspoilt s at n None ready told ok = tt
IsReady-unspoilt s at n (Some Disk) ready told ok = tt
IsReady-unspoilt s at n (Some (Damaged part level block)) ready told ok =
    let first = ready.damaged told in
    rw first.spoilt at (ok first.k first.within)

-- places whose blocks begin at one place have blocks of one length
same_block_len : (shape : Shape) → HasBlocks shape → (x y : ℕ) → x < shape.size → y < shape.size
    → shape.block_start x ≡ shape.block_start y → shape.block_len x ≡ shape.block_len y
same_block_len shape blocks x y in_x in_y same =
    ⊎_elim
    (λ (near : x < shape.block_start y + shape.block_len y). blocks.same_len y x in_y (omega (arith, blocks.starts x in_x)) near)
    (λ (far : shape.block_start y + shape.block_len y ≤ x). sym
    (blocks.same_len x y in_x (omega (arith, blocks.starts y in_y))
    (omega (arith, blocks.ends y in_y, blocks.ends x in_x))))
    (cases_lt x (shape.block_start y + shape.block_len y))

-- each cell of a block that was cleared is zero
pub HasPut-cleared : (s : State) (at : ℕ) (new : ℕ → Cell) → HasBlocks s.shape → at < s.shape.size
    → HasPut s (s.shape.block_start at) (replicate (s.shape.block_len at) 0) new → (x : ℕ) → x < s.shape.size
    → s.shape.block_start x ≡ s.shape.block_start at → new x ≡ Byte 0
HasPut-cleared s at new blocks inside put x below same =
    let start = s.shape.block_start at in
    let len = same_block_len s.shape blocks x at below inside same in
    let from : start ≤ x = omega (arith, blocks.starts x below) in
    let within : x - start < s.shape.block_len at = omega (arith, blocks.ends x below) in
    let place : start + (x - start) ≡ x = omega arith in
    let is = put.written x (x - start) below (rw length-replicate within) (ap s.bottom (sym place)) in
    is ∙ ap Byte (get_or-replicate (s.shape.block_len at) (x - start) 0 0 within)

-- two puts, the second behind the first at places that are no twins of the first's
module _ (was mid : State) (at : ℕ) (xs ys : List ℕ) (new : ℕ → Cell) (shape : mid.shape ≡ was.shape)
    (twins : SameTwins was mid) (fits : at + length xs + length ys ≤ was.shape.size)
    (apart : (j k : ℕ) → j < length xs → k < length ys → was.bottom (at + j) ≢ was.bottom (at + length xs + k))
    (first : HasPut was at xs mid.cells) (second : HasPut mid (at + length xs) ys new) where
  same_size : mid.shape.size ≡ was.shape.size
  same_size = ap (λ (s : Shape). s.size) shape

  -- a twin of the second range, before and between
  mid_twin : (x k : ℕ) → x < was.shape.size → k < length ys → was.bottom x ≡ was.bottom (at + length xs + k) → mid.bottom x ≡ mid.bottom (at + length xs + k)
  mid_twin x k below within same = twins.bottom x below ∙ same ∙ sym (twins.bottom (at + length xs + k) (omega arith))

  was_twin : (x k : ℕ) → x < was.shape.size → k < length ys → mid.bottom x ≡ mid.bottom (at + length xs + k) → was.bottom x ≡ was.bottom (at + length xs + k)
  was_twin x k below within same = sym (twins.bottom x below) ∙ same ∙ twins.bottom (at + length xs + k) (omega arith)

  both_written_first : (x k : ℕ) → x < was.shape.size → k < length xs → was.bottom x ≡ was.bottom (at + k) → new x ≡ Byte (get_or xs k 0)
  both_written_first x k below within same =
      let is : mid.cells x ≡ Byte (get_or xs k 0) = first.written x k below within same in
      let missed : (j : ℕ) → j < length ys → mid.bottom x ≢ mid.bottom (at + length xs + j) = λ j h e. apart k j within h (sym same ∙ was_twin x j below h e) in
      let soft = second.others x (omega (arith, same_size)) missed in
      let soft_at : SoftensFrom mid (at + length xs) (length ys) x (Byte (get_or xs k 0)) (new x) = rw is at soft in
      soft_at

  both_written : (x k : ℕ) → x < was.shape.size → k < length (xs ++ ys) → was.bottom x ≡ was.bottom (at + k) → new x ≡ Byte (get_or (xs ++ ys) k 0)
  both_written x k below within same =
      let back : length xs ≤ k → k - length xs < length ys = λ behind. omega (arith, length-append xs ys) in
      ⊎_elim
      (λ (front : k < length xs). rw (get_or_append_left xs ys 0 k front) (both_written_first x k below front same))
      (λ (behind : length xs ≤ k).
      let place : at + k ≡ at + length xs + (k - length xs) = omega arith in
      let there : was.bottom x ≡ was.bottom (at + length xs + (k - length xs)) = rw place at same in
      rw (get_or-append_right xs ys (length xs) k 0 refl behind)
      (second.written x (k - length xs) (omega (arith, same_size)) (back behind)
      (mid_twin x (k - length xs) below (back behind) there)))
      (cases_lt k (length xs))

  -- a place that the second range meets in its own block, and one that it does not
  mid_met : (x k : ℕ) → x < was.shape.size → k < length ys
      → was.shape.block_start (was.bottom x) ≡ was.shape.block_start (was.bottom (at + length xs + k))
      → IsMet mid (at + length xs) (length ys) x
  mid_met x k below within same =
      (k, within, rw (shape, twins.bottom x below, twins.bottom (at + length xs + k) (omega arith)) same)

  met_in_both : (x : ℕ) → x < was.shape.size → IsMet mid (at + length xs) (length ys) x → IsMet was at (length (xs ++ ys)) x
  met_in_both x below (k, within, same) =
      let place : at + (length xs + k) ≡ at + length xs + k = omega arith in
      let there : was.shape.block_start (was.bottom x) ≡ was.shape.block_start (was.bottom (at + length xs + k)) =
      rw (shape, twins.bottom x below, twins.bottom (at + length xs + k) (omega arith)) at same in
      (length xs + k, omega (arith, length-append xs ys), rw place there)

  met_by_first : (x : ℕ) → IsMet was at (length xs) x → IsMet was at (length (xs ++ ys)) x
  met_by_first x (k, within, same) = (k, omega (arith, length-append xs ys), same)

  blank_in_both : (x part level block : ℕ) → x < was.shape.size → mid.cells x ≡ Blank part level block
      → was.cells x ≡ Blank part level block → HasBlank mid (at + length xs) (length ys) part level block
      → HasBlank was at (length (xs ++ ys)) part level block
  blank_in_both x part level block below mid_is was_is (k, within, is) =
      let place : at + (length xs + k) ≡ at + length xs + k = omega arith in
      let joined = first.joined (at + length xs + k) x (omega arith) below (rw is tt) (is ∙ sym mid_is) in
      (length xs + k, omega (arith, length-append xs ys), rw place (joined ∙ was_is))

  blank_by_first : (part level block : ℕ) → HasBlank was at (length xs) part level block → HasBlank was at (length (xs ++ ys)) part level block
  blank_by_first part level block (k, within, is) = (k, omega (arith, length-append xs ys), is)

  -- the met place lies in the second range
  met_later : (x : ℕ) → x < was.shape.size → IsMet was at (length (xs ++ ys)) x
      → ((k : ℕ) → k < length xs → was.shape.block_start (was.bottom x) ≢ was.shape.block_start (was.bottom (at + k)))
      → IsMet mid (at + length xs) (length ys) x
  met_later x below (k, within, same) missed =
      let behind : length xs ≤ k = ⊎_elim (λ (front : k < length xs). absurd (missed k front same)) (λ (h : length xs ≤ k). h) (cases_lt k (length xs)) in
      let place : at + k ≡ at + length xs + (k - length xs) = omega arith in
      mid_met x (k - length xs) below (omega (arith, length-append xs ys)) (rw place at same)

  second_met : (x part level block : ℕ) → IsMet mid (at + length xs) (length ys) x → (cell : Cell)
      → (cell ≡ Blank part level block) ⊎ (HasBlank was at (length xs) part level block × IsDeeper part level cell)
      → SoftensFrom mid (at + length xs) (length ys) x cell (new x) → new x ≡ Byte 0
  second_met x part level block met cell (inl same) then_soft =
      let now : SoftensFrom mid (at + length xs) (length ys) x (Blank part level block) (new x) = rw same at then_soft in
      now.met met
  second_met x part level block met cell (inr deeper) then_soft =
      let now : SoftensFrom mid (at + length xs) (length ys) x (Blank part deeper.1.0 deeper.1.1) (new x) = rw deeper.1.3 at then_soft in
      now.met met

  -- a cell that was blank, after both
  both_blank_met : (x part level block : ℕ) → x < was.shape.size
      → SoftensBlank was at (length xs) x part level block (mid.cells x)
      → SoftensFrom mid (at + length xs) (length ys) x (mid.cells x) (new x) → IsMet was at (length (xs ++ ys)) x
      → new x ≡ Byte 0
  both_blank_met x part level block below soft then_soft met =
      ⊎_elim
      (λ (first_met : IsMet was at (length xs) x).
      let now : SoftensFrom mid (at + length xs) (length ys) x (Byte 0) (new x) = rw (soft.met first_met) at then_soft in
      now)
      (λ (missed : (k : ℕ) → k < length xs → was.shape.block_start (was.bottom x) ≢ was.shape.block_start (was.bottom (at + k))).
      second_met x part level block (met_later x below met missed) (mid.cells x)
      (soft.unmet (λ first_met. missed first_met.0 first_met.1 first_met.2)) then_soft)
      (find_value (λ k. was.shape.block_start (was.bottom (at + k))) (was.shape.block_start (was.bottom x)) (length xs))

  both_blank_unmet : (x part level block : ℕ) → x < was.shape.size → was.cells x ≡ Blank part level block
      → SoftensBlank was at (length xs) x part level block (mid.cells x)
      → SoftensFrom mid (at + length xs) (length ys) x (mid.cells x) (new x) → ¬ IsMet was at (length (xs ++ ys)) x
      → (new x ≡ Blank part level block) ⊎
      (HasBlank was at (length (xs ++ ys)) part level block × IsDeeper part level (new x))
  both_blank_unmet x part level block below was_is soft then_soft unmet =
      let unmet_second : ¬ IsMet mid (at + length xs) (length ys) x = λ met. unmet (met_in_both x below met) in
      ⊎_elim
      (λ (same : mid.cells x ≡ Blank part level block).
      let now : SoftensFrom mid (at + length xs) (length ys) x (Blank part level block) (new x) = rw same at then_soft in
      ⊎_elim inl (λ (later : HasBlank mid (at + length xs) (length ys) part level block
      × IsDeeper part level (new x)). inr (blank_in_both x part level block below same was_is later.0, later.1))
      (now.unmet unmet_second))
      (λ (deeper : HasBlank was at (length xs) part level block × IsDeeper part level (mid.cells x)).
      let now : SoftensFrom mid (at + length xs) (length ys) x (Blank part deeper.1.0 deeper.1.1) (new x) = rw deeper.1.3 at then_soft in
      ⊎_elim
      (λ (stays : new x ≡ Blank part deeper.1.0 deeper.1.1). inr (blank_by_first part level block deeper.0, (deeper.1.0, deeper.1.1, deeper.1.2, stays)))
      (λ (later : HasBlank mid (at + length xs) (length ys) part deeper.1.0 deeper.1.1
      × IsDeeper part deeper.1.0 (new x)). inr (
        blank_by_first part level block deeper.0,
        (later.1.0, later.1.1, omega (arith, deeper.1.2, later.1.2), later.1.3),
      ))
      (now.unmet unmet_second))
      (soft.unmet (λ met. unmet (met_by_first x met)))

  both_soften : (x : ℕ) → x < was.shape.size → (old : Cell) → was.cells x ≡ old
      → SoftensFrom was at (length xs) x old (mid.cells x)
      → SoftensFrom mid (at + length xs) (length ys) x (mid.cells x) (new x)
      → SoftensFrom was at (length (xs ++ ys)) x old (new x)
  both_soften x below (Byte value) was_is soft then_soft =
      let now : SoftensFrom mid (at + length xs) (length ys) x (Byte value) (new x) = rw soft at then_soft in
      now
  both_soften x below (Blank part level block) was_is soft then_soft = record {
    met = both_blank_met x part level block below soft then_soft;
    unmet = both_blank_unmet x part level block below was_is soft then_soft;
  }
  both_soften x below (Spoilt part level block) was_is soft then_soft =
      let now : SoftensFrom mid (at + length xs) (length ys) x (Spoilt part level block) (new x) = rw soft at then_soft in
      now

  both_others : (x : ℕ) → x < was.shape.size → ((k : ℕ) → k < length (xs ++ ys) → was.bottom x ≢ was.bottom (at + k))
      → Softens was at (length (xs ++ ys)) x (new x)
  both_others x below missed =
      let missed_first : (k : ℕ) → k < length xs → was.bottom x ≢ was.bottom (at + k) = λ k h. missed k (omega (arith, length-append xs ys)) in
      let missed_second : (k : ℕ) → k < length ys → mid.bottom x ≢ mid.bottom (at + length xs + k) = λ k h e.
      (let place : at + (length xs + k) ≡ at + length xs + k =
      omega arith in missed (length xs + k) (omega (arith, length-append xs ys))
      (rw place (was_twin x k below h e))) in
      both_soften x below (was.cells x) refl (first.others x below missed_first) (second.others x (omega (arith, same_size)) missed_second)

  -- they put both pieces
  pub HasPut-append : HasPut was at (xs ++ ys) new
  HasPut-append = record {
    written = both_written;
    others = both_others;
    joined = λ x y h i blank same.
        (let mid_blank = HasPut-blank mid (at + length xs) ys new second x (omega (arith, same_size)) blank in
        first.joined x y h i mid_blank (second.joined x y (omega (arith, same_size)) (omega (arith, same_size)) blank same));
  }

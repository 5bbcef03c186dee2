-- A view as a space.
use Rattle.std.proofs.Common.{◌≡◌, ◌≢◌, ℕ, zero, suc, Bool, true, false, if◌then◌else◌, ⊎_elim, ◌+◌, ◌-◌, ◌*◌, ◌/◌}
use Rattle.std.proofs.Common.{◌%◌, ◌<◌, ◌≤◌, min, IsTrue, List, length, Option, None, Result}
use Rattle.std.proofs.Common.{Ok, Err, refl, sym, ◌∙◌, ap, subst, arith}
use Rattle.std.proofs.lemmas.Bool.{and_parts, cases_lt, cases_Bool}
use Rattle.std.proofs.lemmas.Nat.{pow_pos, div-add-mod', div-mul-add, mod_below}
use Rattle.std.specs.Borrow.{Bor}
use Rattle.save_bytes.specs.declared.space.Bad.{Bad}
use Rattle.save_bytes.specs.declared.space.Bad.TheVariants.{Disk, Damaged}
use Rattle.save_bytes.specs.Cells.{Cell, Byte, Spoilt, IsByte, IsUnspoilt, IsClearable}
use Rattle.save_bytes.specs.State.{Shape, State, IsInside}
use Rattle.save_bytes.specs.Refusals.{UnlessDisk}
use Rattle.save_bytes.specs.Answers.{IsPiece}
use Rattle.save_bytes.specs.Stays.{SameCells, Stays}
use Rattle.save_bytes.specs.Spots.{Spot, Mark, Frame}
use Rattle.save_bytes.specs.Reads.{Reads}
use Rattle.save_bytes.proofs.SpaceLemmas.{UnlessDisk-map, UnlessDisk-always}
use Rattle.difi.specs.declared.descriptor.Difi.{Difi}
use Rattle.difi.specs.Places.{block_size}
use Rattle.ivfc_tree.specs.declared.path.BlockState.{BlockState}
use Rattle.ivfc_tree.specs.declared.path.BlockState.TheVariants.{Good, Blank as BlankAt, Bad as BadAt}
use Rattle.ivfc_tree.specs.declared.state.IvfcState.{IvfcState}
use Rattle.ivfc_tree.specs.declared.view.IvfcView.{IvfcView}
use Rattle.ivfc_tree.specs.Levels.{level_of, HasBlock, parent_of}
use Rattle.ivfc_tree.specs.Paths.{own_state, after, marked_state, block_state, cell_in}
use Rattle.ivfc_tree.specs.View.{HasTree, can_view_hashes, view_state, rest_of, IsVerified, IsReadyRun}
use Rattle.ivfc_tree.specs.Marks.{is_marked, SameMarks, AsManyMarks}
use Rattle.ivfc_tree.specs.Known.{HasMarkedParents, is_told, Learns}
use Rattle.ivfc_tree.specs.Held.{shown, LooksUp, SameOwn, HashKeeps, hash_lands}
use Rattle.ivfc_tree.specs.ViewLaws.{view_cells, place_inside}
use Rattle.ivfc_tree.specs.KeepLaws.{HashLands-before, is_made_for-many}
use Rattle.ivfc_tree.proofs.LearnLemmas.{told_later}
use Rattle.ivfc_tree.proofs.StepLemmas.{step-marked}

-- what stays in the base stays in the view, where the same blocks are put and what is remembered stays true
pub view_looked : (base new : State) (part : ℕ) (master : List ℕ) (difi : Difi) (state later : IvfcState)
    (refusal : Option Bad)
    → HasTree base.shape difi (length master) → SameMarks state later → AsManyMarks state later
    → (IsTrue (is_told base master difi state) → UnlessDisk refusal (IsTrue (is_told new master difi later)))
    → Stays base new refusal
    → Stays (view_state base part master difi state) (view_state new part master difi later) refusal
unfolding can_view_hashes
view_looked base new part master difi state later refusal tree marks many told stays = record {
  space = record {
    shape = rw (stays.space.shape, is_made_for-many difi state later many) refl;
    faults = stays.space.faults;
    cause = stays.space.cause;
    told = told;
    twins = λ told. UnlessDisk-always refusal (record { bottom = λ x h. refl; is_fixed = λ x h. refl });
  };
  cells = λ told. UnlessDisk-map refusal (view_cells base new part master difi state later tree marks)
      (stays.cells (and_parts _ _ told).0);
}

-- so it does with the same state
pub view_stays : (base new : State) (part : ℕ) (master : List ℕ) (difi : Difi) (state : IvfcState)
    (refusal : Option Bad)
    → HasTree base.shape difi (length master) → Stays base new refusal
    → Stays (view_state base part master difi state) (view_state new part master difi state) refusal
view_stays base new part master difi state refusal tree stays =
    view_looked base new part master difi state state refusal tree (λ level block. refl) (λ level. refl)
    (told_later base master difi tree new state refusal stays) stays

module _ {S : Type 0} (states : S → State) (keeps : Spot → S → S → Type 0) (lands : S → ℕ → Spot → Type 0)
    (level block : ℕ) (s t : IvfcView S)
    (refusal : Option Bad) (looks : LooksUp level block s t refusal) where
  looks_own : (spot : Spot) → SameOwn spot s t
  looks_own (Mark part level block) = λ here. looks.learns.marks level block
  looks_own Frame = (looks.learns.marks, looks.master_now)
  looks_own spot = tt

  -- a call that reads the base reads the view
  pub hashed_read : HasTree (states s.base.now).shape s.difi.now (length s.master.now)
      → (IsTrue (is_told (states s.base.now) s.master.now s.difi.now s.state.now)
      → UnlessDisk refusal (IsTrue (is_told (states t.base.now) s.master.now s.difi.now t.state.now)))
      → Reads states keeps lands s.base.now t.base.now refusal
      → Reads (shown states) (HashKeeps keeps) (hash_lands lands) s t refusal
  hashed_read tree told reads = record {
    stays = rw (looks.hold.same_part, looks.hold.same_difi, looks.master_now)
        (view_looked (states s.base.now) (states t.base.now) s.part s.master.now s.difi.now s.state.now t.state.now
        refusal tree
        looks.learns.marks looks.learns.many told reads.stays);
    frame = (looks.hold, looks_own Frame, reads.frame);
    sectors = λ number. (looks.hold, tt, reads.sectors number);
    spots = λ told spot. (looks.hold, looks_own spot, reads.spots (and_parts _ _ told).0 spot);
    reach = λ told. rw looks.hold.same_difi (UnlessDisk-map refusal
        (HashLands-before (states s.base.now).shape s.difi.now tree.levels (lands s.base.now) (lands t.base.now))
        (reads.reach (and_parts _ _ told).0));
  }

  -- and a call that reads the base behind it leaves the view told
  pub told_behind : (last : State) (ended : Option Bad)
      → HasTree (states s.base.now).shape s.difi.now (length s.master.now)
      → (states t.base.now).shape ≡ (states s.base.now).shape
      → IsTrue (shown states t).told → Stays (states t.base.now) last ended
      → UnlessDisk ended (IsTrue (is_told last s.master.now s.difi.now t.state.now))
  told_behind last ended tree same told stays =
      told_later (states t.base.now) s.master.now s.difi.now (rw same tree) last t.state.now ended stays
      (rw (looks.master_now, looks.hold.same_difi) at told)

-- what is learned stays so, however the call ends
pub Learns-refused : (difi : Difi) (level block : ℕ) (old new : IvfcState) (refusal : Option Bad)
    → Learns difi level block old new None → Learns difi level block old new refusal
Learns-refused difi level block old new refusal h = record {
  marks = h.marks;
  many = h.many;
  deeper = h.deeper;
  counted = h.counted;
  few = h.few;
  known = UnlessDisk-always refusal h.known;
  again = h.again;
}

-- places up to the end of a block lie in it
same_block : (at k size : ℕ) → 0 < size → k < size - at % size → (at + k) / size ≡ at / size
same_block at k size some h =
    let split = div-add-mod' at size in
    let place : at + k ≡ at / size * size + (at % size + k) = omega arith in
    rw place (div-mul-add (at / size) size (at % size + k) (omega arith))

record IsRest (difi : Difi) (at n : ℕ) : Type 0 where
  some : 0 < n
  inside : at + n ≤ difi.ivfc4.size
  block : (k : ℕ) → k < n → (at + k) / block_size difi.ivfc4 ≡ at / block_size difi.ivfc4

rest_is : (difi : Difi) (at : ℕ) → at < difi.ivfc4.size → IsRest difi at (rest_of difi at)
rest_is difi at inside =
    let some = pow_pos difi.ivfc4.log in
    let below = mod_below at (block_size difi.ivfc4) some in
    record {
      some = omega (arith, below, inside);
      inside = omega (arith, inside);
      block = λ k h. same_block at k (block_size difi.ivfc4) some (omega (arith, h));
    }

pub byte_cell : (found : BlockState) (part value : ℕ) → IsByte (cell_in found part value)
    → cell_in found part value ≡ Byte value
byte_cell Good part value byte = refl
byte_cell (BlankAt level block) part value byte = absurd byte
byte_cell (BadAt level block) part value byte = absurd byte

unspoilt_cell : (found : BlockState) (part value : ℕ) → ((level block : ℕ) → found ≢ BadAt level block)
    → IsUnspoilt (cell_in found part value)
unspoilt_cell Good part value unspoilt = tt
unspoilt_cell (BlankAt level block) part value unspoilt = tt
unspoilt_cell (BadAt level block) part value unspoilt = absurd (unspoilt level block refl)

module _ (base : State) (part : ℕ) (master : List ℕ) (difi : Difi) (state : IvfcState) (at : ℕ) where
  -- what is answered of a good block
  pub good_verified : at < difi.ivfc4.size → (most n : ℕ) → 1 ≤ most
      → (IsTrue (is_told base master difi state)
      → Good ≡ block_state base.cells master difi state 4 (at / block_size difi.ivfc4))
      → n ≡ min (rest_of difi at) most
      → IsVerified (view_state base part master difi state) at most (Ok n)
  good_verified inside most n some good is =
      let rest = rest_is difi at inside in
      record {
        some = omega (arith, is, rest.some, some);
        bounded = omega (arith, is);
        inside = omega (arith, is, rest.inside);
        bytes = λ told k h. rw (rest.block k (omega (arith, is, h)), ← good told) tt;
        damaged = λ told. tt;
      }

  -- what is answered of a block that is not spoilt
  pub unspoilt_run : at < difi.ivfc4.size → (most n : ℕ) → 1 ≤ most → (found : BlockState)
      → (IsTrue (is_told base master difi state)
      → found ≡ block_state base.cells master difi state 4 (at / block_size difi.ivfc4))
      → ((level block : ℕ) → found ≢ BadAt level block) → n ≡ min (rest_of difi at) most
      → IsReadyRun (view_state base part master difi state) at most (Ok n)
  unspoilt_run inside most n some found state unspoilt is =
      let rest = rest_is difi at inside in
      record {
        some = omega (arith, is, rest.some, some);
        bounded = omega (arith, is);
        unspoilt = λ told k h. rw (rest.block k (omega (arith, is, h)), ← state told)
            (unspoilt_cell found part _ unspoilt);
        damaged = λ told. tt;
      }

  module _ (mid : State) (most n place : ℕ) (tree : HasTree base.shape difi (length master))
      (verified : IsVerified (view_state base part master difi state) at most (Ok n)) (stays : Stays base mid None)
      (there : place ≡ (level_of difi 4).at + at) where
    same_size : mid.shape.size ≡ base.shape.size
    same_size = ap (λ (shape : Shape). shape.size) stays.space.shape

    pub run_inside : IsInside mid.shape place 1
    run_inside =
        let inside : at < difi.ivfc4.size = omega (arith, verified.some, verified.inside) in
        record {
          sound = subst (λ (shape : Shape). IsTrue shape.sound) (sym stays.space.shape) tree.levels.sound;
          inside = omega (arith, same_size, there, place_inside base.shape difi (length master) at tree inside);
        }

    piece_cell : (k value : ℕ) → k < n → IsTrue (is_told base master difi state) → mid.cells (place + k) ≡ Byte value
        → (view_state base part master difi state).cells (at + k) ≡ Byte value
    piece_cell k value h told is =
        let inside : at + k < difi.ivfc4.size = omega (arith, h, verified.inside) in
        let here : place + k ≡ (level_of difi 4).at + (at + k) = omega (arith, there) in
        let old : base.cells ((level_of difi 4).at + (at + k)) ≡ Byte value =
        sym (stays.cells (and_parts _ _ told).0 _
        (place_inside base.shape difi (length master) (at + k) tree inside)) ∙ rw here at is in
        byte_cell (block_state base.cells master difi state 4 ((at + k) / block_size difi.ivfc4)) part _
        (verified.bytes told k h) ∙ rw old refl

    -- a piece of the base is one of the view
    pub view_piece : (result : Result (Bor (List ℕ)) Bad) → IsPiece mid place n result
        → IsPiece (view_state base part master difi state) at most result
    view_piece (Ok piece) h = record {
      some = h.some;
      bounded = omega (arith, h.bounded, verified.bounded);
      inside = omega (arith, h.bounded, verified.inside);
      bytes = λ told k below. piece_cell k _ (omega (arith, below, h.bounded)) told
          (h.bytes (stays.space.told (and_parts _ _ told).0) k below);
      damaged = λ told. tt;
      plain = λ plain. tt;
    }
    view_piece (Err Disk) h = record {
      some = tt;
      bounded = tt;
      inside = tt;
      bytes = λ told. tt;
      damaged = λ told. tt;
      plain = λ plain. tt;
    }
    view_piece (Err (Damaged part level block)) h =
        absurd (h.plain (subst (λ (shape : Shape). IsTrue shape.plain) (sym stays.space.shape) tree.levels.plain))

-- bytes that are not spoilt, and more behind them
pub unspoilt_more : (s mid : State) (at done n : ℕ) → at + done + n ≤ s.shape.size → SameCells s mid
    → ((k : ℕ) → k < done → IsUnspoilt (s.cells (at + k)))
    → ((k : ℕ) → k < n → IsUnspoilt (mid.cells (at + done + k)))
    → (k : ℕ) → k < done + n → IsUnspoilt (s.cells (at + k))
unspoilt_more s mid at done n fits same before next k h =
    ⊎_elim
    (λ (first : k < done). before k first)
    (λ (later : done ≤ k).
    (let place : at + done + (k - done) ≡ at + k = omega (arith, later) in
    let there = next (k - done) (omega (arith, later, h)) in
    rw (← same (at + k) (omega (arith, fits, h))) (rw place at there)))
    (cases_lt k done)

-- a block at fault lies at a level or above it
abbrev FailsWithin : ℕ → BlockState → Type 0
FailsWithin level Good = Unit {0}
FailsWithin level (BlankAt upper at) = upper ≤ level
FailsWithin level (BadAt upper at) = upper ≤ level

chosen_within : (level block : ℕ) (none same : Bool)
    → FailsWithin level (if none then BlankAt level block else (if same then Good else BadAt level block))
chosen_within level block true same = omega arith
chosen_within level block false true = tt
chosen_within level block false false = omega arith

-- by itself a block fails at its own level
abbrev FailsAt : BlockState → Type 0
FailsAt Good = Unit {0}
FailsAt (BlankAt upper at) = 4 ≤ upper
FailsAt (BadAt upper at) = 4 ≤ upper

chosen_at : (level block : ℕ) (none same : Bool) → 4 ≤ level
    → FailsAt (if none then BlankAt level block else (if same then Good else BadAt level block))
chosen_at level block true same h = h
chosen_at level block false true h = tt
chosen_at level block false false h = h

after_within : (level : ℕ) (above own : BlockState) → FailsWithin level above → FailsWithin (suc level) own
    → FailsWithin (suc level) (after above own)
after_within level Good own h k = k
after_within level (BlankAt upper at) own h k = omega (arith, h)
after_within level (BadAt upper at) own h k = omega (arith, h)

module _ (cells : ℕ → Cell) (master : List ℕ) (difi : Difi) where
  fails_within : (marked : ℕ → ℕ → Bool) (level block : ℕ)
      → FailsWithin level (marked_state cells master difi marked level block)
  unfolding marked_state
  fails_within marked zero block = tt
  fails_within marked (suc level) block =
      ⊎_elim
      (λ (marks : marked (suc level) block ≡ true). rw marks tt)
      (λ (none : marked (suc level) block ≡ false).
      rw none (after_within level (marked_state cells master difi marked level (parent_of difi level block)) _
      (fails_within marked level (parent_of difi level block))
      (chosen_within (suc level) block _ _)))
      (cases_Bool (marked (suc level) block))

  -- a block of level four is marked, or what it comes to is decided by level three, unless that is good
  module _ (state : IvfcState) (block : ℕ) (part value : ℕ) where
    marked_byte : is_marked state 4 block ≡ true
        → cell_in (block_state cells master difi state 4 block) part value ≡ Byte value
    marked_byte marks = rw (← step-marked cells master difi state 4 block (omega arith) marks) refl

    unmarked_cell : is_marked state 4 block ≡ false → (above : BlockState)
        → above ≡ block_state cells master difi state 3 (parent_of difi 3 block)
        → block_state cells master difi state 4 block ≡ after above (own_state cells master difi 4 block)
    unfolding marked_state
    unmarked_cell none above is = rw (none, ← is) refl

    own_clearable : (own : BlockState) → FailsAt own → IsClearable (cell_in own part value)
    own_clearable Good at = tt
    own_clearable (BlankAt level at) h = tt
    own_clearable (BadAt level at) h = h

    -- where that is not spoilt, the block may be cleared
    pub clearable : (above : BlockState) → above ≡ block_state cells master difi state 3 (parent_of difi 3 block)
        → ((level at : ℕ) → above ≢ BadAt level at)
        → IsClearable (cell_in (block_state cells master difi state 4 block) part value)
    clearable above is unspoilt =
        ⊎_elim
        (λ (marks : is_marked state 4 block ≡ true). rw (marked_byte marks) tt)
        (λ (none : is_marked state 4 block ≡ false). rw (unmarked_cell none above is) (below above unspoilt))
        (cases_Bool (is_marked state 4 block))
      where
        below : (above : BlockState) → ((level at : ℕ) → above ≢ BadAt level at)
            → IsClearable (cell_in (after above (own_state cells master difi 4 block)) part value)
        below Good unspoilt = own_clearable (own_state cells master difi 4 block) (chosen_at 4 block _ _ (omega arith))
        below (BlankAt level at) unspoilt = tt
        below (BadAt level at) unspoilt = absurd (unspoilt level at refl)

    -- where it is spoilt, so are the block's cells
    pub spoilt_above : HasMarkedParents difi state → HasBlock difi 4 block → (level at : ℕ)
        → BadAt level at ≡ block_state cells master difi state 3 (parent_of difi 3 block)
        → (cell_in (block_state cells master difi state 4 block) part value ≡ Spoilt part level at) × (level < 4)
    spoilt_above closed there level at is =
        let above = fails_within (is_marked state) 3 (parent_of difi 3 block) in
        let within : level ≤ 3 = rw (← is) at above in
        let none : is_marked state 4 block ≡ false =
        not_marked (is_marked state 4 block) (λ marks. good_bad
        (step-marked cells master difi state 3 (parent_of difi 3 block) (omega arith)
        (closed 3 block (omega arith) there marks) ∙ sym is)) in (
          rw (unmarked_cell none (BadAt level at) is) refl,
          omega (arith, within),
        )
      where
        good_bad : Good ≡ BadAt level at → ⊥
        good_bad e = cc

        not_marked : (b : Bool) → (b ≡ true → ⊥) → b ≡ false
        not_marked true never = absurd (never refl)
        not_marked false never = refl

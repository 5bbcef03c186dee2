-- A put into a view, by what it leaves in the base and in the state.
use Rattle.std.proofs.Common.{◌≡◌, ◌≢◌, ◌⊎◌, ℕ, ◌+◌, ◌*◌, ◌/◌, ◌<◌, ◌≤◌, false, IsTrue, List, length, Option, Some}
use Rattle.std.proofs.Common.{None, refl, sym, ◌∙◌, subst, arith, inl, inr, ⊎_elim}
use Rattle.std.proofs.lemmas.Bool.{and_parts, and_from, cases_lt, ne_eqb}
use Rattle.std.proofs.lemmas.Nat.{pow_pos, div-mul-add}
use Rattle.save_bytes.specs.declared.space.Bad.{Bad}
use Rattle.save_bytes.specs.declared.space.Bad.TheVariants.{Disk, Damaged}
use Rattle.save_bytes.specs.Cells.{Cell, IsUnspoilt, IsClearable}
use Rattle.save_bytes.specs.State.{Shape, State, IsInside, CanPut}
use Rattle.save_bytes.specs.Refusals.{IfDone, UnlessDisk, NeverDamaged}
use Rattle.save_bytes.specs.Answers.{IsReady, IsClearReady}
use Rattle.save_bytes.specs.Stays.{SameSpace, Stays}
use Rattle.save_bytes.specs.Puts.{HasPut, Puts}
use Rattle.save_bytes.specs.Spots.{Spot, Mark, Frame, Misses, MovesOnly}
use Rattle.save_bytes.specs.Writes.{Writes}
use Rattle.save_bytes.proofs.SpaceLemmas.{UnlessDisk-map, UnlessDisk-always, IfDamaged-never, SameSpace-join}
use Rattle.save_bytes.proofs.JoinLemmas.{Puts-after}
use Rattle.difi.specs.declared.descriptor.Difi.{Difi}
use Rattle.difi.specs.Places.{block_size}
use Rattle.ivfc_tree.specs.declared.path.BlockState.{BlockState}
use Rattle.ivfc_tree.specs.declared.path.BlockState.TheVariants.{Good, Blank as BlankAt, Bad as BadAt}
use Rattle.ivfc_tree.specs.declared.state.IvfcState.{IvfcState}
use Rattle.ivfc_tree.specs.declared.view.IvfcView.{IvfcView}
use Rattle.ivfc_tree.specs.Levels.{IsLevel, HasBlock, parent_of}
use Rattle.ivfc_tree.specs.Marks.{mark_in, is_marked, SameMarks}
use Rattle.ivfc_tree.specs.Paths.{block_above, block_state, cell_in}
use Rattle.ivfc_tree.specs.View.{HasTree, can_view_hashes, view_state}
use Rattle.ivfc_tree.specs.Held.{shown, SameHold, SameOwn, HashKeeps, hash_lands}
use Rattle.ivfc_tree.specs.Known.{HasMarkedParents, is_told}
use Rattle.ivfc_tree.specs.KnownLaws.{remembers-true}
use Rattle.ivfc_tree.specs.KeepLaws.{HashLands-before, is_made_for-many}
use Rattle.ivfc_tree.specs.Readies.{IsUnspoiltPath, HasNoSpoilt, PathSites, RangeSites, IsInPath, IsInPaths}
use Rattle.ivfc_tree.specs.Readies.{MarksWithin, PutsContents}
use Rattle.ivfc_tree.proofs.ViewLemmas.{spoilt_above}

-- a block whose cells are not spoilt
unspoilt_path : (found : BlockState) (part value : ℕ) → IsUnspoilt (cell_in found part value) → IsUnspoiltPath found
unspoilt_path Good part value h = tt
unspoilt_path (BlankAt level block) part value h = tt
unspoilt_path (BadAt level block) part value h = h

-- a range whose cells are not spoilt
pub no_spoilt : (base : State) (part : ℕ) (master : List ℕ) (difi : Difi) (state : IvfcState) (at n : ℕ)
    → ((k : ℕ) → k < n → IsUnspoilt ((view_state base part master difi state).cells (at + k)))
    → HasNoSpoilt base.cells master difi state at n
no_spoilt base part master difi state at n h k less =
    unspoilt_path (block_state base.cells master difi state 4 ((at + k) / block_size difi.ivfc4)) part _ (h k less)

-- no block of a level that is none of the four is marked
unlevel_marked : (state : IvfcState) (level block : ℕ) → (IsLevel level → ⊥) → is_marked state level block ≡ false
unfolding mark_in
unlevel_marked state level block none =
    let other : (n : ℕ) → 1 ≤ n → n ≤ 4 → level ≢ n =
    λ n some within is. none (omega (arith, is, some), omega (arith, is, within)) in
    rw (
      ne_eqb level 1 (other 1 (omega arith) (omega arith)),
      ne_eqb level 2 (other 2 (omega arith) (omega arith)),
      ne_eqb level 3 (other 3 (omega arith) (omega arith)),
      ne_eqb level 4 (other 4 (omega arith) (omega arith)),
    ) refl

-- where no byte was put, the same blocks are marked
same_marks : (difi : Difi) (at : ℕ) (old new : IvfcState) → MarksWithin (IsInPaths difi at 0) old new
    → SameMarks old new
same_marks difi at old new marks level block =
    ⊎_elim
    (λ (here : IsLevel level). marks.others level block here (λ (k, less, is). absurd (omega (arith, less))))
    (λ (none : IsLevel level → ⊥). unlevel_marked new level block none ∙ sym (unlevel_marked old level block none))
    (level_cases level)
  where
    level_cases : (level : ℕ) → IsLevel level ⊎ (IsLevel level → ⊥)
    level_cases level =
        ⊎_elim
        (λ (low : level < 1). inr (λ here. omega (arith, low, here.0)))
        (λ (some : 1 ≤ level). ⊎_elim
        (λ (within : level < 5). inl (some, omega (arith, within)))
        (λ (high : 5 ≤ level). inr (λ here. omega (arith, high, here.1)))
        (cases_lt level 5))
        (cases_lt level 1)

module _ {S : Type 0} (states : S → State) (keeps : Spot → S → S → Type 0) (lands : S → ℕ → Spot → Type 0)
    (s t : IvfcView S)
    (refusal : Option Bad) (hold : SameHold s t) (master_now : t.master.now ≡ s.master.now) (at n : ℕ)
    (marks : MarksWithin (IsInPaths s.difi.now at n) s.state.now t.state.now)
    (writes : Writes states keeps lands (RangeSites s.difi.now at n) s.base.now t.base.now refusal) where
  -- a spot that no put of the range touches
  own_missed : (spot : Spot) → Misses (hash_lands lands s) at n spot → SameOwn spot s t
  own_missed (Mark part level block) misses = λ here.
      marks.others level block here (λ (k, less, is). misses k less (inr (here, is)))
  own_missed Frame misses = (missed_frame misses, master_now)
    where
      missed_frame : Misses (hash_lands lands s) at n Frame → SameMarks s.state.now t.state.now
      missed_frame misses =
          ⊎_elim
          (λ (none : n < 1).
          let zero_bytes : n ≡ 0 = omega (arith, none) in
          same_marks s.difi.now at s.state.now t.state.now
          (subst (λ (m : ℕ). MarksWithin (IsInPaths s.difi.now at m) s.state.now t.state.now) zero_bytes marks))
          (λ (some : 1 ≤ n). absurd (misses 0 (omega (arith, some)) (inr tt)))
          (cases_lt n 1)
  own_missed spot misses = tt

  pub put_moves : HasTree (states s.base.now).shape s.difi.now (length s.master.now)
      → MovesOnly (HashKeeps keeps) (hash_lands lands) (shown states s) s at n t refusal
  put_moves tree = record {
    hold = (hold, tt, writes.hold);
    spots = λ can spot misses. (
      hold,
      own_missed spot misses,
      writes.spots (and_parts _ _ can.told).0 spot
          (λ x below (k, level, y, less, here, path, place) lands_x.
          misses k less (inl (level, y, here, path, subst (λ (z : ℕ). lands s.base.now z spot) place lands_x))),
    );
    damaged = λ can. IfDamaged-never refusal (λ part level block. (spot : Spot) → HashKeeps keeps spot s t)
        writes.plain;
    reach = λ can. rw hold.same_difi (UnlessDisk-map refusal
        (HashLands-before (states s.base.now).shape s.difi.now tree.levels (lands s.base.now) (lands t.base.now))
        (writes.reach (and_parts _ _ can.told).0));
  }

  put_shape : (shown states t).shape ≡ (shown states s).shape
  unfolding can_view_hashes
  put_shape = rw (
    writes.space.shape,
    hold.same_difi,
    hold.master_len,
    is_made_for-many s.difi.now s.state.now t.state.now hold.marks,
  ) refl

  pub put_space_alone : SameSpace ⊥ (shown states s) (shown states t) refusal
  put_space_alone = record {
    shape = put_shape;
    faults = writes.space.faults;
    cause = writes.space.cause;
    told = λ never. absurd never;
    twins = λ never. absurd never;
  }

  -- and what was put
  module _ (bytes : List ℕ) (len : length bytes ≡ n)
      (puts : IsTrue (is_told (states s.base.now) s.master.now s.difi.now s.state.now)
      → IfDone refusal (PutsContents (states s.base.now) s.master.now s.difi.now s.state.now at bytes
      (states t.base.now).cells t.state.now)) where
    put_told : (refusal : Option Bad) → NeverDamaged refusal → UnlessDisk refusal (IsTrue (states t.base.now).told)
        → IfDone refusal (PutsContents (states s.base.now) s.master.now s.difi.now s.state.now at bytes
        (states t.base.now).cells t.state.now)
        → UnlessDisk refusal (IsTrue (shown states t).told)
    put_told None never told done =
        rw (master_now, hold.same_difi)
        (and_from _ _ told (remembers-true (states t.base.now).cells s.master.now s.difi.now t.state.now
        done.remembers))
    put_told (Some Disk) never told done = tt
    put_told (Some (Damaged part level block)) never told done = absurd never

    put_space : SameSpace (CanPut (shown states s) at (length bytes)) (shown states s) (shown states t) refusal
    put_space = record {
      shape = put_shape;
      faults = writes.space.faults;
      cause = writes.space.cause;
      told = λ can. put_told refusal writes.plain (writes.space.told (and_parts _ _ can.told).0) (puts can.told);
      twins = λ can. UnlessDisk-always refusal (record { bottom = λ x h. refl; is_fixed = λ x h. refl });
    }

    put_done : (refusal : Option Bad)
        → IfDone refusal (PutsContents (states s.base.now) s.master.now s.difi.now s.state.now at bytes
        (states t.base.now).cells t.state.now)
        → IfDone refusal (HasPut (shown states s) at bytes (shown states t).cells)
    put_done None done = rw (master_now, hold.same_difi, hold.same_part) (done.put s.part)
    put_done (Some bad) done = tt

    pub put_puts : Puts (shown states s) at bytes (shown states t) refusal
    put_puts = record {
      space = put_space;
      done = λ can. put_done refusal (puts can.told);
      damaged = λ can. IfDamaged-never refusal _ writes.plain;
    }

-- a range that was found ready, after the call that found it
pub unspoilt_after : (s t : State) (at n : ℕ) → at + n ≤ s.shape.size → IsReady s at n None → Stays s t None
    → IsTrue s.told
    → (k : ℕ) → k < n → IsUnspoilt (t.cells (at + k))
unspoilt_after s t at n fits ready stays told k less =
    rw (stays.cells told (at + k) (omega (arith, fits, less))) (ready.done told k less)

pub inside_after : (s t : State) (at n : ℕ) → t.shape ≡ s.shape → IsInside s.shape at n → IsInside t.shape at n
inside_after s t at n same inside = subst (λ (shape : Shape). IsInside shape at n) (sym same) inside

-- and a block that was found ready to be cleared
pub clearable_after : (s t : State) (at : ℕ) → at < s.shape.size → IsClearReady s at None → Stays s t None
    → IsTrue s.told
    → IsClearable (t.cells at)
clearable_after s t at inside ready stays told = rw (stays.cells told at inside) (ready.done told)

-- where a block may be cleared, no block above it is spoilt
pub clear_path : (cells : ℕ → Cell) (master : List ℕ) (difi : Difi) (state : IvfcState) (block part value : ℕ)
    → HasMarkedParents difi state → HasBlock difi 4 block
    → IsClearable (cell_in (block_state cells master difi state 4 block) part value)
    → IsUnspoiltPath (block_state cells master difi state 3 (block_above difi 4 block 3))
unfolding block_above
clear_path cells master difi state block part value closed there clearable =
    decided (block_state cells master difi state 3 (parent_of difi 3 block)) refl
  where
    decided : (found : BlockState) → found ≡ block_state cells master difi state 3 (parent_of difi 3 block)
        → IsUnspoiltPath found
    decided Good is = tt
    decided (BlankAt level at) is = tt
    decided (BadAt level at) is =
        let spoilt = spoilt_above cells master difi state block part value closed there level at is in
        let high : 4 ≤ level = rw spoilt.0 at clearable in
        omega (arith, high, spoilt.1)

-- the path of a block is that of its first byte
module _ (difi : Difi) (block n : ℕ) (some : 1 ≤ n) where
  first_block : (block * block_size difi.ivfc4 + 0) / block_size difi.ivfc4 ≡ block
  first_block = div-mul-add block (block_size difi.ivfc4) 0 (pow_pos difi.ivfc4.log)

  pub marks_in_range : (old new : IvfcState) → MarksWithin (IsInPath difi block) old new
      → MarksWithin (IsInPaths difi (block * block_size difi.ivfc4) n) old new
  marks_in_range old new marks = record {
    many = marks.many;
    others = λ level other here out. marks.others level other here
        (λ is. out (0, omega (arith, some), rw first_block is));
  }

  pub sites_in_range : (place : ℕ) → PathSites difi block place
      → RangeSites difi (block * block_size difi.ivfc4) n place
  sites_in_range place (level, y, here, path, is) = (0, level, y, omega (arith, some), here, rw first_block path, is)

-- a put after a call that reads, by which the range was found to be ready where the cells were told
module _ (s t u : State) (at : ℕ) (bytes : List ℕ) (refusal : Option Bad) (fits : at + length bytes ≤ s.shape.size)
    (stays : Stays s t None) (space : SameSpace ⊥ t u refusal)
    (puts : CanPut s at (length bytes) → Puts t at bytes u refusal) where
  abbrev behind : CanPut s at (length bytes) → Puts s at bytes u refusal
  behind can = Puts-after s t u at bytes fits stays refusal (puts can)

  pub Puts-behind : Puts s at bytes u refusal
  Puts-behind =
      let both : SameSpace ⊥ s u refusal =
      SameSpace-join s t u refusal (λ never. absurd never) (λ never. never) stays.space space in
      record {
        space = record {
          shape = both.shape;
          faults = both.faults;
          cause = both.cause;
          told = λ can. (behind can).space.told can;
          twins = λ can. (behind can).space.twins can;
        };
        done = λ can. (behind can).done can;
        damaged = λ can. (behind can).damaged can;
      }

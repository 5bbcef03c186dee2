-- What is remembered of a path, and what one step down adds to it.
use Rattle.std.proofs.Common.{◌≡◌, ◌≢◌, ℕ, suc, ◌+◌, ◌≤◌, true, false, IsTrue, List, length, Option, Some, None}
use Rattle.std.proofs.Common.{Result, Ok, Err, refl, sym, ◌∙◌, ap, subst, arith, inl, inr, zero, ◌⊎◌, ⊎_elim}
use Rattle.std.specs.Result.{result_err}
use Rattle.std.proofs.lemmas.Bool.{and_parts, and_from, cases_eq}
use Rattle.std.proofs.lemmas.Option.{same_Some}
use Rattle.std.proofs.lemmas.Result.{IfOk-at_ok}
use Rattle.save_bytes.specs.declared.space.Bad.{Bad}
use Rattle.save_bytes.specs.declared.space.Bad.TheVariants.{Disk, Damaged}
use Rattle.save_bytes.specs.Cells.{Cell}
use Rattle.save_bytes.specs.State.{Shape, State}
use Rattle.save_bytes.specs.Refusals.{UnlessDisk, NeverDamaged}
use Rattle.save_bytes.specs.Stays.{Stays, SameCells}
use Rattle.save_bytes.proofs.SpaceLemmas.{UnlessDisk-both}
use Rattle.difi.specs.declared.descriptor.Difi.{Difi}
use Rattle.ivfc_tree.specs.declared.marks.BlockMark.{BlockMark}
use Rattle.ivfc_tree.specs.declared.marks.BlockMark.TheVariants.{Unknown, Put, KnownGood, KnownBlank, KnownBad}
use Rattle.ivfc_tree.specs.declared.path.BlockState.{BlockState}
use Rattle.ivfc_tree.specs.declared.path.BlockState.TheVariants.{Good, Blank as BlankAt, Bad as BadAt}
use Rattle.ivfc_tree.specs.declared.state.IvfcState.{IvfcState}
use Rattle.ivfc_tree.specs.Levels.{HasBlock, parent_of}
use Rattle.ivfc_tree.specs.Marks.{mark_at, is_put, is_marked, IsMadeFor, SameMarks, AsManyMarks, IsSet}
use Rattle.ivfc_tree.specs.Paths.{own_state, after, marked_state, block_state}
use Rattle.ivfc_tree.specs.View.{HasTree}
use Rattle.ivfc_tree.specs.Known.{Agrees, Remembers, is_told, fault_of_path, recalled_by, recalled, unless_recalled}
use Rattle.ivfc_tree.specs.Known.{unknown_on_path}
use Rattle.ivfc_tree.specs.Known.{Learns, IsOwn, mark_for, Notes, Looks, Finds}
use Rattle.ivfc_tree.specs.KnownLaws.{true-remembers, remembers-true}
use Rattle.ivfc_tree.specs.ViewLaws.{own-same, state-same}
use Rattle.ivfc_tree.proofs.StepLemmas.{after-fault, step-marked}

-- a mark that says nothing is none
unknown_mark : (mark : BlockMark) (level block : ℕ) → recalled_by mark level block None ≡ None → mark ≡ Unknown
unknown_mark Unknown level block is = refl
unknown_mark Put level block is = absurd (cc)
unknown_mark KnownGood level block is = absurd (cc)
unknown_mark KnownBlank level block is = absurd (cc)
unknown_mark KnownBad level block is = absurd (cc)

-- what a mark says does not hang on the block above
said_by : (mark : BlockMark) (level block : ℕ) (found : BlockState) (above : Option BlockState)
    → recalled_by mark level block None ≡ Some found → recalled_by mark level block above ≡ Some found
said_by Unknown level block found above is = absurd (cc)
said_by Put level block found above is = is
said_by KnownGood level block found above is = is
said_by KnownBlank level block found above is = is
said_by KnownBad level block found above is = is

-- and is the block's state, where it is true
said_true : (mark : BlockMark) (level block : ℕ) (found state : BlockState)
    → recalled_by mark level block None ≡ Some found
    → (is_put mark ≡ true → state ≡ Good) → Agrees mark level block state → found ≡ state
said_true Unknown level block found state is put agrees = absurd (cc)
said_true Put level block found state is put agrees = sym (same_Some _ _ is) ∙ sym (put refl)
said_true KnownGood level block found state is put agrees = sym (same_Some _ _ is) ∙ sym agrees
said_true KnownBlank level block found state is put agrees = sym (same_Some _ _ is) ∙ sym agrees
said_true KnownBad level block found state is put agrees = sym (same_Some _ _ is) ∙ sym agrees

-- what is noted of a block is said of it
noted_says : (level block : ℕ) (found : BlockState) (above : Option BlockState) → IsOwn level block found
    → recalled_by (mark_for found) level block above ≡ Some found
noted_says level block Good above own = refl
noted_says level block (BlankAt upper at) above own = rw (own.0, own.1) refl
noted_says level block (BadAt upper at) above own = rw (own.0, own.1) refl

noted_agrees : (level block : ℕ) (found : BlockState) → IsOwn level block found
    → Agrees (mark_for found) level block found
noted_agrees level block Good own = refl
noted_agrees level block (BlankAt upper at) own = rw (own.0, own.1) refl
noted_agrees level block (BadAt upper at) own = rw (own.0, own.1) refl

noted_unput : (found : BlockState) → is_put (mark_for found) ≡ false
noted_unput Good = refl
noted_unput (BlankAt level block) = refl
noted_unput (BadAt level block) = refl

-- a fault of the block above is none that holds
fault_is : (above : Option BlockState) (found : BlockState) → fault_of_path above ≡ Some found
    → (above ≡ Some found) × (found ≢ Good)
fault_is None found is = absurd (cc)
fault_is (Some Good) found is = absurd (cc)
fault_is (Some (BlankAt level block)) found is = (is, λ good. cc)
fault_is (Some (BadAt level block)) found is = (is, λ good. cc)

is_fault : (found : BlockState) → found ≢ Good → fault_of_path (Some found) ≡ Some found
is_fault Good fault = absurd (fault refl)
is_fault (BlankAt level block) fault = refl
is_fault (BadAt level block) fault = refl

-- the same marks of put blocks, where one that was none is noted
noted_marks : (difi : Difi) (level block : ℕ) (found : BlockState) (old new : IvfcState)
    → is_marked old level block ≡ false
    → IsSet level block (mark_for found) old.marks new.marks → SameMarks old new
noted_marks difi level block found old new unmarked is l b =
    ⊎_elim
    (λ (same : l ≡ level). ⊎_elim
    (λ (here : b ≡ block). rw (same, here, is.here, unmarked) (noted_unput found))
    (λ (other : b ≢ block). ap is_put (is.others l b (λ _. other)))
    (cases_eq b block))
    (λ (other : l ≢ level). ap is_put (is.others l b (λ same _. other same)))
    (cases_eq l level)

-- a mark that says something is recalled
recalled_said : (difi : Difi) (state : IvfcState) (level block : ℕ) (found : BlockState) → 1 ≤ level
    → recalled_by (mark_at state level block) level block None ≡ Some found
    → recalled difi state level block ≡ Some found
unfolding recalled
recalled_said difi state zero block found some is = absurd (omega (arith, some))
recalled_said difi state (suc level) block found some is = said_by _ _ _ found _ is

recall_cases : (o : Option BlockState) → ((found : BlockState) × (o ≡ Some found))
    ⊎ ((found : BlockState) → o ≡ Some found → ⊥)
recall_cases None = inr (λ found is. cc)
recall_cases (Some found) = inl (found, refl)

recalls_none : (o : Option BlockState) (n : ℕ) → ((found : BlockState) → o ≡ Some found → ⊥) → unless_recalled o n ≡ n
recalls_none None n never = refl
recalls_none (Some found) n never = absurd (never found refl)

-- a call that is never refused for a damaged cell is refused for the disk's sake
disk_alone : (bad : Bad) (P : Type 0) → NeverDamaged (Some bad) → UnlessDisk (Some bad) P
disk_alone Disk P never = tt
disk_alone (Damaged part level block) P never = absurd never

-- and so is what is noted
recalled_noted : (difi : Difi) (state : IvfcState) (old : IvfcState) (level block : ℕ) (found : BlockState) → 1 ≤ level
    → Notes level block found old state → recalled difi state level block ≡ Some found
unfolding recalled
recalled_noted difi state old zero block found some notes = absurd (omega (arith, some))
recalled_noted difi state old (suc level) block found some notes =
    rw notes.set.here (noted_says (suc level) block found _ notes.own)

module _ (base : State) (master : List ℕ) (difi : Difi) (tree : HasTree base.shape difi (length master)) where
  -- the same states, where the cells are the same and the same blocks are put
  still : (now : State) (old new : IvfcState) → SameCells base now → SameMarks old new → (level block : ℕ)
      → HasBlock difi level block
      → block_state now.cells master difi new level block ≡ block_state base.cells master difi old level block
  still now old new same marks level block there =
      state-same base.shape difi master tree now.cells base.cells same (is_marked new) (is_marked old) marks level
      block there

  -- what is remembered is true of the same cells
  pub remembers_later : (now : State) (state : IvfcState) → SameCells base now
      → Remembers base.cells master difi state → Remembers now.cells master difi state
  remembers_later now state same h = record {
    closed = h.closed;
    agrees = λ level block there.
        subst (λ (found : BlockState). Agrees (mark_at state level block) level block found)
        (sym (still now state state same (λ l b. refl) level block there)) (h.agrees level block there);
  }

  -- so the view is told, where the base is
  pub told_later : (now : State) (state : IvfcState) (refusal : Option Bad) → Stays base now refusal
      → IsTrue (is_told base master difi state) → UnlessDisk refusal (IsTrue (is_told now master difi state))
  told_later now state refusal stays told =
      let both = and_parts _ _ told in
      let remembered = true-remembers base.cells master difi state both.1 in
      UnlessDisk-both refusal _ _ _
      (λ (here : IsTrue now.told) (same : SameCells base now).
      and_from _ _ here (remembers-true now.cells master difi state (remembers_later now state same remembered)))
      (stays.space.told both.0) (stays.cells both.0)

  -- a block whose state is noted
  remembers_noted : (old new : IvfcState) (level block : ℕ) (found : BlockState) → is_marked old level block ≡ false
      → Notes level block found old new → found ≡ block_state base.cells master difi old level block
      → Remembers base.cells master difi old → Remembers base.cells master difi new
  remembers_noted old new level block found unmarked notes is h =
      let marks = noted_marks difi level block found old new unmarked notes.set in
      let State : ℕ → ℕ → BlockState = λ l b. block_state base.cells master difi new l b in
      let same : (l b : ℕ) → HasBlock difi l b → State l b ≡ block_state base.cells master difi old l b =
      λ l b there. still base old new (λ x below. refl) marks l b there in
      record {
        closed = λ upper b some there marked. marks upper (parent_of difi upper b)
            ∙ h.closed upper b some there (sym (marks (suc upper) b) ∙ marked);
        agrees = λ l b there.
            (let Holds : BlockMark → Type 0 = λ mark. Agrees mark l b (State l b) in
            let kept : (l ≡ level → b ≡ block → ⊥) → Holds (mark_at new l b) =
            λ other. rw (notes.set.others l b other, same l b there) (h.agrees l b there) in
            ⊎_elim
            (λ (level_is : l ≡ level). ⊎_elim
            (λ (block_is : b ≡ block).
            (let here : State l b ≡ found = same l b there ∙ rw (level_is, block_is) (sym is) in
            rw (here, level_is, block_is, notes.set.here) (noted_agrees level block found notes.own)))
            (λ (other : b ≢ block). kept (λ _. other))
            (cases_eq b block))
            (λ (other : l ≢ level). kept (λ level_is _. other level_is))
            (cases_eq l level));
      }

  -- so the view is told behind it
  told_noted : (now : State) (old new : IvfcState) (level block : ℕ) (found : BlockState)
      → is_marked old level block ≡ false
      → Notes level block found old new → found ≡ block_state base.cells master difi old level block
      → Stays base now None
      → IsTrue (is_told base master difi old) → IsTrue (is_told now master difi new)
  told_noted now old new level block found unmarked notes is stays told =
      let both = and_parts _ _ told in
      let noted = remembers_noted old new level block found unmarked notes is
      (true-remembers base.cells master difi old both.1) in
      and_from _ _ (stays.space.told both.0)
      (remembers-true now.cells master difi new (remembers_later now new (stays.cells both.0) noted))

module _ (base : State) (master : List ℕ) (difi : Difi) (tree : HasTree base.shape difi (length master)) where
  module _ (old : IvfcState) (level block : ℕ) where
    -- where a block's own mark tells its state, nothing is read
    pub finds_said : 1 ≤ level → HasBlock difi level block → (found : BlockState)
        → recalled_by (mark_at old level block) level block None ≡ Some found
        → Finds base base master difi old old level block (Ok found)
    finds_said some there found is =
        let says = recalled_said difi old level block found some is in
        record {
          state = λ told. said_true (mark_at old level block) level block found _ is
              (λ put. sym (step-marked base.cells master difi old level block some put))
              ((true-remembers base.cells master difi old (and_parts _ _ told).1).agrees level block there);
          told = λ told. told;
          recalls = says;
          again = λ other recalled. ap Ok (same_Some _ _ (sym says ∙ recalled));
          learns = record {
            marks = λ l b. refl;
            many = λ l. refl;
            deeper = λ l b below. refl;
            counted = omega arith;
            few = omega arith;
            known = (found, says);
            again = λ recalled. refl;
          };
        }

    module _ (upper : ℕ) (next : level ≡ suc upper)
        (none : recalled_by (mark_at old level block) level block None ≡ None)
        (mid : State) (between : IvfcState) where
      unmarked : is_marked old level block ≡ false
      unmarked = rw (unknown_mark (mark_at old level block) level block none) refl

      -- what is recalled of a block of which its own mark says nothing
      recalled_above : (state : IvfcState) → mark_at state level block ≡ Unknown
          → recalled difi state level block ≡ fault_of_path (recalled difi state upper (parent_of difi upper block))
      unfolding recalled
      recalled_above state unknown = rw next (rw (rw next at unknown) refl)

      old_above : recalled difi old level block ≡ fault_of_path (recalled difi old upper (parent_of difi upper block))
      old_above = recalled_above old (unknown_mark (mark_at old level block) level block none)

      -- the state of a block that is not put, by that of the one above it
      state_below : (cells : ℕ → Cell) → block_state cells master difi old level block
          ≡ after (block_state cells master difi old upper (parent_of difi upper block))
          (own_state cells master difi level block)
      unfolding marked_state
      state_below cells = rw next (rw (rw next at unmarked) refl)

      -- nothing is recalled of a block below one that is not at fault
      unknown_here : ((found : BlockState) → recalled difi old level block ≡ Some found → ⊥)
          → unknown_on_path difi old level block ≡ 1 + unknown_on_path difi old upper (parent_of difi upper block)
      unfolding unknown_on_path
      unknown_here never = rw next (rw (recalls_none (recalled difi old (suc upper) block) _ (rw next at never)) refl)

      few_above : (refusal : Option Bad) → Learns difi upper (parent_of difi upper block) old between refusal
          → between.hashed ≤ old.hashed + unknown_on_path difi old level block
      few_above refusal learns =
          let Few : IvfcState → Type 0 = λ state. state.hashed ≤ old.hashed + unknown_on_path difi old level block in
          ⊎_elim
          (λ (known : (found : BlockState) × (recalled difi old level block ≡ Some found)).
          subst Few (sym (learns.again (known.0, (fault_is _ known.0 (sym old_above ∙ known.1)).0))) (omega arith))
          (λ (never : (found : BlockState) → recalled difi old level block ≡ Some found → ⊥).
          rw (unknown_here never) (omega (arith, learns.few)))
          (recall_cases (recalled difi old level block))

      -- where the block above is at fault, so is the block
      pub finds_fault : (fault : BlockState) → fault ≢ Good
          → Finds base mid master difi old between upper (parent_of difi upper block) (Ok fault)
          → Finds base mid master difi old between level block (Ok fault)
      finds_fault fault bad above =
          let says : recalled difi between level block ≡ Some fault = recalled_above between
          (above.learns.deeper level block (omega (arith, next))
          ∙ unknown_mark (mark_at old level block) level block none)
          ∙ rw above.recalls (is_fault fault bad) in
          record {
            state = λ told. rw (state_below base.cells, ← above.state told) (after-fault fault fault _ refl bad);
            told = above.told;
            recalls = says;
            again = λ found is. above.again found (fault_is _ found (sym old_above ∙ is)).0;
            learns = record {
              marks = above.learns.marks;
              many = above.learns.many;
              deeper = λ l b below. above.learns.deeper l b (omega (arith, next, below));
              counted = above.learns.counted;
              few = few_above None above.learns;
              known = (fault, says);
              again = λ (found, is). above.learns.again (found, (fault_is _ found (sym old_above ∙ is)).0);
            };
          }

      -- where the call above was refused, so is this one
      pub finds_failed : (bad : Bad) → NeverDamaged (Some bad)
          → Finds base mid master difi old between upper (parent_of difi upper block) (Err bad)
          → Finds base mid master difi old between level block (Err bad)
      finds_failed bad never above = record {
        state = λ told. tt;
        told = above.told;
        recalls = tt;
        again = λ found is. above.again found (fault_is _ found (sym old_above ∙ is)).0;
        learns = record {
          marks = above.learns.marks;
          many = above.learns.many;
          deeper = λ l b below. above.learns.deeper l b (omega (arith, next, below));
          counted = above.learns.counted;
          few = few_above (Some bad) above.learns;
          known = disk_alone bad _ never;
          again = λ (found, is). above.learns.again (found, (fault_is _ found (sym old_above ∙ is)).0);
        };
      }

      -- where the block above is good, nothing was recalled of the block
      module _ (above : Finds base mid master difi old between upper (parent_of difi upper block) (Ok Good))
          (now : State)
          (new : IvfcState) where
        unrecalled : (found : BlockState) → recalled difi old level block ≡ Some found → ⊥
        unrecalled found is =
            let fault = fault_is _ found (sym old_above ∙ is) in
            fault.1 (IfOk-at_ok (λ (value : BlockState). value ≡ Good) (above.again found fault.0) refl)

        none_said : mark_at between level block ≡ Unknown
        none_said = above.learns.deeper level block (omega (arith, next))
            ∙ unknown_mark (mark_at old level block) level block none

        few_more : new.hashed ≤ between.hashed + 1 → new.hashed ≤ old.hashed + unknown_on_path difi old level block
        few_more few = rw (unknown_here unrecalled) (omega (arith, few, above.learns.few))

        looked_state : Stays base mid None → HasBlock difi level block → (found : BlockState)
            → IsTrue (is_told base master difi old)
            → (IsTrue mid.told → found ≡ own_state mid.cells master difi level block)
            → found ≡ block_state base.cells master difi old level block
        looked_state stays there found told own =
            let base_told = (and_parts _ _ told).0 in
            let same = stays.cells base_told in
            let here = own (stays.space.told base_told)
            ∙ own-same base.shape difi tree.levels mid.cells base.cells same master level block there.in_tree in
            here ∙ sym (state_below base.cells ∙ rw (← above.state told) refl)

        -- and its entry and its bytes tell
        finds_looked : Stays base mid None → HasBlock difi level block → (found : BlockState) → Stays mid now None
            → Looks mid master difi between new level block (Ok found)
            → Finds base now master difi old new level block (Ok found)
        finds_looked stays there found after looks =
            let unput : is_marked between level block ≡ false = rw none_said refl in
            let marks = noted_marks difi level block found between new unput looks.notes.set in
            let says : recalled difi new level block ≡ Some found =
            recalled_noted difi new between level block found (omega (arith, next)) looks.notes in
            record {
              state = λ told. looked_state stays there found told looks.state;
              told = λ told.
                  (let same = stays.cells (and_parts _ _ told).0 in
                  let is = looked_state stays there found told looks.state
                  ∙ sym (still base master difi tree mid old between same above.learns.marks level block there) in
                  let later : HasTree mid.shape difi (length master) =
                  subst (λ (shape : Shape). HasTree shape difi (length master)) (sym stays.space.shape) tree in
                  told_noted mid master difi later now between new level block found unput looks.notes is after
                  (above.told told));
              recalls = says;
              again = λ other is. absurd (unrecalled other is);
              learns = record {
                marks = λ l b. marks l b ∙ above.learns.marks l b;
                many = λ l. looks.notes.set.many l ∙ above.learns.many l;
                deeper = λ l b below. looks.notes.set.others l b (λ same _. omega (arith, same, below))
                    ∙ above.learns.deeper l b (omega (arith, next, below));
                counted = omega (arith, above.learns.counted, looks.notes.counted);
                few = few_more looks.notes.few;
                known = (found, says);
                again = λ (other, is). absurd (unrecalled other is);
              };
            }

        -- or the disk failed before it was seen what they tell
        look_failed : (bad : Bad) → NeverDamaged (Some bad) → Looks mid master difi between new level block (Err bad)
            → Finds base now master difi old new level block (Err bad)
        look_failed bad never looks =
            let same : (l b : ℕ) → mark_at new l b ≡ mark_at between l b = λ l b. rw looks.counts.marks refl in
            record {
              state = λ told. tt;
              told = λ told. disk_alone bad _ never;
              recalls = tt;
              again = λ other is. absurd (unrecalled other is);
              learns = record {
                marks = λ l b. ap is_put (same l b) ∙ above.learns.marks l b;
                many = λ l. rw looks.counts.marks (above.learns.many l);
                deeper = λ l b below. same l b ∙ above.learns.deeper l b (omega (arith, next, below));
                counted = omega (arith, above.learns.counted, looks.counts.counted);
                few = few_more looks.counts.few;
                known = disk_alone bad _ never;
                again = λ (other, is). absurd (unrecalled other is);
              };
            }

        pub finds_look : Stays base mid None → HasBlock difi level block → (result : Result BlockState Bad)
            → Stays mid now (result_err result) → NeverDamaged (result_err result)
            → Looks mid master difi between new level block result
            → Finds base now master difi old new level block result
        finds_look stays there (Ok found) after never looks = finds_looked stays there found after looks
        finds_look stays there (Err bad) after never looks = look_failed bad never looks

  -- above level 1 lies the master hash, which is good
  pub finds_top : (old : IvfcState) (block : ℕ) → Finds base base master difi old old 0 block (Ok Good)
  unfolding recalled marked_state
  finds_top old block = record {
    state = λ told. refl;
    told = λ told. told;
    recalls = refl;
    again = λ found is. ap Ok (same_Some _ _ is);
    learns = record {
      marks = λ l b. refl;
      many = λ l. refl;
      deeper = λ l b below. refl;
      counted = omega arith;
      few = omega arith;
      known = (Good, refl);
      again = λ recalled. refl;
    };
  }

-- as many marks serve the same tree
pub made_later : (difi : Difi) (old new : IvfcState) → AsManyMarks old new → IsMadeFor difi old → IsMadeFor difi new
made_later difi old new many made = record {
  marks1 = many 1 ∙ made.marks1;
  marks2 = many 2 ∙ made.marks2;
  marks3 = many 3 ∙ made.marks3;
  marks4 = many 4 ∙ made.marks4;
}

-- What is remembered where a transaction ends.
use Rattle.std.proofs.Common.{◌≡◌, ◌≢◌, ◌⊎◌, ℕ, zero, suc, ◌+◌, ◌-◌, ◌*◌, ◌/◌, ◌^◌, ◌<◌, ◌≤◌, Bool, true, false, List}
use Rattle.std.proofs.Common.{length, map, get_or, refl, sym, ◌∙◌, ap, subst, inl, inr, arith, ⊎_elim}
use Rattle.std.proofs.lemmas.Bool.{cases_eq}
use Rattle.std.proofs.lemmas.Nat.{div-mul-add}
use Rattle.std.proofs.Math.ListN.{get_or-map}
use Rattle.std.proofs.lemmas.List.{length-map}
use Rattle.save_bytes.specs.Cells.{Cell}
use Rattle.save_bytes.specs.State.{Shape}
use Rattle.difi.specs.declared.descriptor.Difi.{Difi}
use Rattle.ivfc_tree.specs.declared.marks.BlockMark.{BlockMark}
use Rattle.ivfc_tree.specs.declared.marks.BlockMark.TheVariants.{Unknown, Put, KnownGood, KnownBlank, KnownBad}
use Rattle.ivfc_tree.specs.declared.path.BlockState.{BlockState}
use Rattle.ivfc_tree.specs.declared.path.BlockState.TheVariants.{Good}
use Rattle.ivfc_tree.specs.declared.state.IvfcState.{IvfcState}
use Rattle.ivfc_tree.specs.Levels.{IsLevel, level_of, HasBlock, parent_of}
use Rattle.ivfc_tree.specs.Marks.{mark_in, mark_at, level_marks, is_put, is_marked, IsMadeFor}
use Rattle.ivfc_tree.specs.Paths.{own_state, path_state, block_state}
use Rattle.ivfc_tree.specs.View.{HasTree}
use Rattle.ivfc_tree.specs.ViewLaws.{parent_there, level4_size, level4_log}
use Rattle.ivfc_tree.specs.Known.{Agrees}
use Rattle.ivfc_tree.specs.Origins.{InMarkedContents, IsBack}
use Rattle.ivfc_tree.specs.Settles.{settled, dropped, TurnsMarks, SettlesHashed, RemembersOrigin}
use Rattle.ivfc_tree.proofs.LearnLemmas.{made_later}
use Rattle.ivfc_tree.proofs.StepLemmas.{step-marked}
use Rattle.ivfc_tree.proofs.EntryLemmas.{IsInBlock, apart_levels, entry_inside, block_inside, entry_stays}
use Rattle.ivfc_tree.proofs.EntryLemmas.{block_stays, DiffersAt-same}
use Rattle.ivfc_tree.proofs.SealLemmas.{states_settle}
use Rattle.ivfc_tree.proofs.OriginLemmas.{IsGoodOrBad, path_step, top_good, state-none, came_back_at}

module _ (base : Shape) (difi : Difi) (master : List ℕ) (tree : HasTree base difi (length master))
    (marked : ℕ → ℕ → Bool) (was now : ℕ → Cell) (back : IsBack base difi marked was now) where
  -- contents of a marked block lie in level four
  in_level4 : (x : ℕ) → InMarkedContents difi marked x
      → ((level_of difi 4).at ≤ x) × (x < (level_of difi 4).at + (level_of difi 4).size)
  in_level4 x (y, below, mark, is) =
      let inside : y < (level_of difi 4).size = rw level4_size below in
      (omega (arith, is), omega (arith, is, inside))

  -- and not in another
  off_level : (level x : ℕ) → IsLevel level → level ≢ 4 → (level_of difi level).at ≤ x
      → x < (level_of difi level).at + (level_of difi level).size → ¬ InMarkedContents difi marked x
  off_level level x there other from below site =
      let four = in_level4 x site in
      apart_levels base difi tree.levels level 4 there (omega arith, omega arith) other x from below four.0 four.1

  -- nor in a block of level four that is not marked
  off_block : (block x : ℕ) → HasBlock difi 4 block → marked 4 block ≡ false → IsInBlock difi 4 block x
      → ¬ InMarkedContents difi marked x
  off_block block x there isnt within (y, below, mark, is) =
      let size : ℕ = 2 ^ difi.ivfc4.log in
      let from : block * size ≤ y = rw (← level4_log difi) (omega (arith, within.0, is)) in
      let end : y < block * size + size = rw (← level4_log difi) (omega (arith, within.0, within.1, is)) in
      let place : y ≡ block * size + (y - block * size) = omega (arith, from) in
      let one : y / size ≡ block = ap (λ (n : ℕ). n / size) place ∙ div-mul-add block size (y - block * size)
      (omega (arith, from, end)) in
      let marks : marked 4 block ≡ true = ap (marked 4) (sym one) ∙ mark in
      absurd (cc (marks, isnt))

  -- so what is told by blocks above level four, and by those that are not marked, is as it was
  back_own : (level block : ℕ) → HasBlock difi level block → (level < 4) ⊎ (marked level block ≡ false)
      → own_state now master difi level block ≡ own_state was master difi level block
  back_own level block there which =
      let entry = entry_stays base difi (length master) tree was now master master (InMarkedContents difi marked)
      (λ x. ⊥) back
      (DiffersAt-same (λ x. ⊥) master) level block there
      (λ x entry. (let inside = entry_inside base difi (length master) tree level block x there entry in
      off_level (level - 1) x (omega (arith, entry.0), omega (arith, there.in_tree.1)) (omega (
        arith,
        there.in_tree.1,
        entry.0,
      ))
      inside.0 inside.1))
      (λ x entry no. no) in
      let bytes = block_stays base difi (length master) tree was now master master (InMarkedContents difi marked)
      (λ x. ⊥) back
      (DiffersAt-same (λ x. ⊥) master) level block there
      (λ x within.
      (let inside = block_inside base difi (length master) tree level block x there within in
      ⊎_elim
      (λ (four : level ≡ 4).
      let isnt : marked level block ≡ false =
      ⊎_elim (λ (less : level < 4). absurd (omega (arith, less, four))) (λ (no : marked level block ≡ false). no)
      which in
      off_block block x (subst (λ (n : ℕ). HasBlock difi n block) four there)
      (ap (λ (n : ℕ). marked n block) (sym four) ∙ isnt) (subst (λ (n : ℕ). IsInBlock difi n block x) four within))
      (λ (other : level ≢ 4). off_level level x there.in_tree other inside.0 inside.1)
      (cases_eq level 4))) in
      rw (entry, bytes) refl

  path_back : (level block : ℕ) → HasBlock difi level block → (level < 4) ⊎ (marked level block ≡ false)
      → path_state now master difi level block ≡ path_state was master difi level block
  path_back zero block there which = absurd (omega (arith, there.in_tree.0))
  path_back (suc zero) block there which =
      path_step now master difi 0 block
      ∙ rw (back_own 1 block there which, top_good now master difi (λ level block. false) (parent_of difi 0 block))
      (sym (path_step was master difi 0 block ∙ rw (top_good was master difi (λ level block. false) (parent_of
      difi 0 block)) refl))
  path_back (suc (suc level)) block there which =
      let parent = parent_there base difi (length master) (suc level) block tree (omega arith) there in
      path_step now master difi (suc level) block
      ∙ rw (
        back_own (suc (suc level)) block there which,
        path_back (suc level) (parent_of difi (suc level) block) parent.parent (inl (omega (arith, there.in_tree.1))),
      )
      (sym (path_step was master difi (suc level) block))

-- marks of blocks that were turned
module _ (turn : BlockMark → BlockMark) (nothing : turn Unknown ≡ Unknown) (old new : IvfcState) (turns :
    TurnsMarks turn old new) where
  pub turned_mark : (level block : ℕ) → mark_at new level block ≡ turn (mark_at old level block)
  unfolding mark_in
  turned_mark level block = rw (turns.marks level) (ap (λ (d : BlockMark). get_or (map turn (level_marks
      old.marks level)) block d) (sym nothing) ∙ get_or-map turn (level_marks old.marks level) block Unknown)

-- as many of them
pub turned_made : (turn : BlockMark → BlockMark) (old new : IvfcState) → TurnsMarks turn old new → (difi : Difi)
    → IsMadeFor difi old → IsMadeFor difi new
turned_made turn old new turns difi =
    made_later difi old new
    (λ level. ap (λ (l : List BlockMark). length l) (turns.marks level) ∙ length-map (level_marks old.marks level) turn)

settled_unput : (mark : BlockMark) → is_put (settled mark) ≡ false
settled_unput Unknown = refl
settled_unput Put = refl
settled_unput KnownGood = refl
settled_unput KnownBlank = refl
settled_unput KnownBad = refl

dropped_unput : (mark : BlockMark) → is_put (dropped mark) ≡ false
dropped_unput Unknown = refl
dropped_unput Put = refl
dropped_unput KnownGood = refl
dropped_unput KnownBlank = refl
dropped_unput KnownBad = refl

-- what marks say of a block that comes to the same, and to good where it was put
settled_agrees : (mark : BlockMark) (level block : ℕ) (found next : BlockState) → next ≡ found
    → (is_put mark ≡ true → found ≡ Good) → Agrees mark level block found → Agrees (settled mark) level block next
settled_agrees Unknown level block found next same good h = tt
settled_agrees Put level block found next same good h = same ∙ good refl
settled_agrees KnownGood level block found next same good h = same ∙ h
settled_agrees KnownBlank level block found next same good h = same ∙ h
settled_agrees KnownBad level block found next same good h = same ∙ h

-- and of one that comes to the same where it was not put, and is good or at fault itself
dropped_agrees : (mark : BlockMark) (level block : ℕ) (found next : BlockState)
    → (is_put mark ≡ false → IsGoodOrBad level block found → next ≡ found) → Agrees mark level block found
    → Agrees (dropped mark) level block next
dropped_agrees Unknown level block found next same h = tt
dropped_agrees Put level block found next same h = tt
dropped_agrees KnownGood level block found next same h = same refl (inl h) ∙ h
dropped_agrees KnownBlank level block found next same h = tt
dropped_agrees KnownBad level block found next same h = same refl (inr h) ∙ h

module _ (old new : IvfcState) where
  pub settled_unmarked : TurnsMarks settled old new → (level block : ℕ) → is_marked new level block ≡ false
  settled_unmarked turns level block =
      ap is_put (turned_mark settled refl old new turns level block) ∙ settled_unput (mark_at old level block)

  pub dropped_unmarked : TurnsMarks dropped old new → (level block : ℕ) → is_marked new level block ≡ false
  dropped_unmarked turns level block =
      ap is_put (turned_mark dropped refl old new turns level block) ∙ dropped_unput (mark_at old level block)

  pub settles_hashed : TurnsMarks settled old new → SettlesHashed old new
  settles_hashed turns base cells master difi tree remembers hashed =
      let none = settled_unmarked turns in
      let blocks = states_settle base difi (length master) tree (is_marked old) remembers.closed cells master
      (is_marked new)
      none hashed in
      record {
        blocks = blocks;
        remembers = record {
          closed = λ upper block some there is. (let no = none (suc upper) block in absurd (cc (no, is)));
          agrees = λ level block there.
              rw (turned_mark settled refl old new turns level block)
              (settled_agrees (mark_at old level block) level block (block_state cells master difi old level block) _
              (blocks level block there)
              (λ put. sym (step-marked cells master difi old level block there.in_tree.0 put))
              (remembers.agrees level block there));
        };
      }

  pub remembers_origin : TurnsMarks dropped old new → RemembersOrigin old new
  remembers_origin turns base was cells now was_master master difi tree remembers came back =
      let none = dropped_unmarked turns in
      let marked = is_marked old in
      record {
        closed = λ upper block some there is. (let no = none (suc upper) block in absurd (cc (no, is)));
        agrees = λ level block there.
            rw (turned_mark dropped refl old new turns level block)
            (dropped_agrees (mark_at old level block) level block (block_state cells master difi old level block) _
            (λ unput own.
            state-none now was_master difi (is_marked new) none level block
            ∙ path_back base difi was_master tree marked was now back level block there (inr unput)
            ∙ came_back_at base difi (length was_master) tree marked was cells was_master master came level block
            there unput own)
            (remembers.agrees level block there));
      }

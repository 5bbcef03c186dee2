-- Numbers put into words, one after another.
use Rattle.std.proofs.Common.{◌≡◌, ℕ, ◌+◌, ◌<◌, ◌≤◌, IsTrue, List, [], ◌∷◌, ◌++◌, length, take, get_or, Option, Some}
use Rattle.std.proofs.Common.{None}
use Rattle.std.proofs.Common.{refl, sym, ◌∙◌, ap, subst, arith}
use Rattle.std.specs.List.{All}
use Rattle.std.proofs.lemmas.List.Elements.{All-weaker, All-get_or, Contains-get_or}
use Rattle.std.proofs.lemmas.List.{take_all, take_more}
use Rattle.save_bytes.specs.declared.space.Bad.{Bad}
use Rattle.save_bytes.specs.declared.space.Bad.TheVariants.{Disk, Damaged}
use Rattle.save_bytes.specs.Cells.{IsUnspoilt}
use Rattle.save_bytes.specs.State.{State}
use Rattle.save_bytes.specs.Answers.{IsReady}
use Rattle.save_bytes.specs.Refusals.{NeverDamaged}
use Rattle.save_bytes.specs.Spots.{Spot}
use Rattle.save_bytes.specs.Writes.{IsWithin}
use Rattle.save_bytes.specs.Within.{ChangesWithin}
use Rattle.entry_tables.specs.declared.table.EntryKind.TheVariants.{Dir}
use Rattle.entry_tables.specs.declared.table.TableInfo.{TableInfo}
use Rattle.entry_tables.specs.declared.word.Edit.{Edit}
use Rattle.entry_tables.specs.declared.word.Word.{Word}
use Rattle.entry_tables.specs.declared.word.Word.TheVariants.{Head, Link, Sibling, First, Count}
use Rattle.entry_tables.specs.Tables.{Tables, tables_in}
use Rattle.entry_tables.specs.Layout.{HasEntryTables}
use Rattle.entry_tables.specs.Words.{HasWord, tables_with, tables_after, word_place}
use Rattle.entry_tables.specs.Changes.{CanChangeTables, IsBounded, IsWordSet, CanSet, CanSetAll, AreSet, IsSite}
use Rattle.entry_tables.specs.Changes.{ChangesAt}
use Rattle.entry_tables.proofs.ChangeLemmas.{ChangesAt-then}
use Rattle.entry_tables.proofs.ValueLemmas.{still_unspoilt}
use Rattle.entry_tables.proofs.SetLemmas.{most_with, buckets_with, word_run}

-- a word is there as before
has_with : (t : Tables) (word : Word) (value : ℕ) (other : Word) → HasWord t other
    → HasWord (tables_with t word value) other
has_with t word value (Head kind bucket) has = omega (arith, has, buckets_with t word value kind)
has_with t word value (Link kind e) has = omega (arith, has, most_with t word value kind)
has_with t word value (Sibling kind e) has =
    record { some = has.some; below = omega (arith, has.below, most_with t word value kind) }
has_with t word value (First kind dir) has =
    record { some = has.some; below = omega (arith, has.below, most_with t word value Dir) }
has_with t word value (Count kind) has = tt

bounded_with : (t : Tables) (word : Word) (value : ℕ) (other : Word) (number : ℕ) → IsBounded t other number
    → IsBounded (tables_with t word value) other number
bounded_with t word value (Head kind bucket) number bounded = tt
bounded_with t word value (Link kind e) number bounded = tt
bounded_with t word value (Sibling kind e) number bounded = tt
bounded_with t word value (First kind dir) number bounded = tt
bounded_with t word value (Count kind) number bounded =
    (bounded.0, omega (arith, bounded.1, most_with t word value kind))

-- so many numbers were put
pub record AreSetSoFar (s t : State) (dirs files : TableInfo) (edits : List Edit) (i : ℕ) : Type 0 where
  pub done : AreSet s t dirs files (take i edits)
  pub each : All (CanSet t dirs files) edits

pub none_set : (s : State) (dirs files : TableInfo) (edits : List Edit) → CanSetAll s dirs files edits
    → AreSetSoFar s s dirs files edits 0
none_set s dirs files edits can = record { done = record { tables = refl; can = can.can }; each = can.each }

after_push : (t : Tables) (edits : List Edit) (edit : Edit)
    → tables_after t (edits ++ edit ∷ []) ≡ tables_with (tables_after t edits) edit.word edit.value
after_push t [] edit = refl
after_push t (first ∷ edits) edit = after_push (tables_with t first.word first.value) edits edit

module _ (s : State) (dirs files : TableInfo) (tables : HasEntryTables s.shape dirs files)
    (can : CanChangeTables s dirs files) (t : State) (edit : Edit) (has : HasWord
    (tables_in s.cells dirs files) edit.word)
    (set : IsWordSet s t dirs files edit.word edit.value)
    (soft : ChangesWithin s (IsWithin (word_place dirs files edit.word) 4) t.cells) where
  -- what could be put can be put now
  can_set_later : (other : Edit) → CanSet s dirs files other → CanSet t dirs files other
  can_set_later other was = record {
    has = subst (λ (t : Tables). HasWord t other.word) (sym set.tables)
        (has_with (tables_in s.cells dirs files) edit.word edit.value other.word was.has);
    bounded = subst (λ (t : Tables). IsBounded t other.word other.value) (sym set.tables)
        (bounded_with (tables_in s.cells dirs files) edit.word edit.value other.word other.value was.bounded);
    ready = λ k less.
        (let mine = word_run s dirs files tables can edit.word has in
        let its = word_run s dirs files tables can other.word was.has in
        still_unspoilt s dirs files tables can mine.0 (word_place dirs files edit.word) 4 mine.1 t.cells soft set.bytes
        its.0 (word_place dirs files other.word + k) (its.1.inside k less) (was.ready k less));
  }

-- one more was put
pub one_more_set : (s t u : State) (dirs files : TableInfo) (edits : List Edit) (i : ℕ) (d : Edit)
    → HasEntryTables t.shape dirs files → i < length edits → AreSetSoFar s t dirs files edits i
    → IsWordSet t u dirs files (get_or edits i d).word (get_or edits i d).value
    → ChangesWithin t (IsWithin (word_place dirs files (get_or edits i d).word) 4) u.cells
    → AreSetSoFar s u dirs files edits (i + 1)
one_more_set s t u dirs files edits i d tables inside so_far set soft =
    let this = All-get_or (CanSet t dirs files) edits i d inside so_far.each in
    let edit = get_or edits i d in
    record {
      done = record {
        tables = set.tables ∙ ap (λ (t : Tables). tables_with t edit.word edit.value) so_far.done.tables
            ∙ sym (after_push (tables_in s.cells dirs files) (take i edits) edit)
            ∙ ap (tables_after (tables_in s.cells dirs files)) (sym (take_more edits i d inside));
        can = set.can this.bounded;
      };
      each = All-weaker (CanSet t dirs files) (CanSet u dirs files)
          (can_set_later t dirs files tables so_far.done.can u edit this.has set soft) edits so_far.each;
    }

-- a word whose cells are not spoilt is put
pub ready_never : (s : State) (at : ℕ) (refusal : Option Bad) → IsTrue s.told
    → ((k : ℕ) → k < 4 → IsUnspoilt (s.cells (at + k))) → IsReady s at 4 refusal → NeverDamaged refusal
ready_never s at None told fine ready = tt
ready_never s at (Some Disk) told fine ready = tt
ready_never s at (Some (Damaged part level block)) told fine ready =
    let first = ready.damaged told in
    rw first.spoilt at (fine first.k first.within)

module _ {A : Type 0} (states : A → State) (keeps : Spot → A → A → Type 0) (lands : A → ℕ → Spot → Type 0)
    (dirs files : TableInfo) (edits : List Edit) (s t u : A) (i : ℕ) (d : Edit) (inside : i < length edits)
    (so_far : CanSetAll (states s) dirs files edits → AreSetSoFar (states s) (states t) dirs files edits i) where
  -- so it is with each of several, one after another
  pub this_may : CanSetAll (states s) dirs files edits → CanChangeTables (states t) dirs files
      × HasWord (tables_in (states t).cells dirs files) (get_or edits i d).word
  this_may all =
      let is = so_far all in
      (is.done.can, (All-get_or (CanSet (states t) dirs files) edits i d inside is.each).has)

  pub set_never : (refusal : Option Bad)
      → (CanChangeTables (states t) dirs files → HasWord (tables_in (states t).cells dirs files) (get_or edits i d).word
      → IsReady (states t) (word_place dirs files (get_or edits i d).word) 4 refusal)
      → CanSetAll (states s) dirs files edits → NeverDamaged refusal
  set_never refusal ready all =
      let is = so_far all in
      let may = this_may all in
      ready_never (states t) (word_place dirs files (get_or edits i d).word) refusal (is.done.can.tells Dir).told
      (All-get_or (CanSet (states t) dirs files) edits i d inside is.each).ready (ready may.0 may.1)

  pub set_changes : (refusal : Option Bad) → ((spot : Spot) (s t u : A) → keeps spot s t → keeps spot t u
      → keeps spot s u)
      → (CanSetAll (states s) dirs files edits → NeverDamaged refusal)
      → ChangesAt states keeps lands (CanSetAll (states s) dirs files edits) (IsSite dirs files edits) s t None
      → ChangesAt states keeps lands (CanChangeTables (states t) dirs files
      × HasWord (tables_in (states t).cells dirs files) (get_or edits i d).word)
      (IsWithin (word_place dirs files (get_or edits i d).word) 4) t u refusal
      → ChangesAt states keeps lands (CanSetAll (states s) dirs files edits) (IsSite dirs files edits) s u refusal
  set_changes refusal join never before this =
      ChangesAt-then states keeps lands join (IsSite dirs files edits)
      (IsWithin (word_place dirs files (get_or edits i d).word) 4) s t u refusal this_may never
      (λ x within. (get_or edits i d, Contains-get_or edits i d inside, within)) before this

pub all_set : (s t : State) (dirs files : TableInfo) (edits : List Edit) (i : ℕ) → length edits ≤ i
    → AreSetSoFar s t dirs files edits i → AreSet s t dirs files edits
all_set s t dirs files edits i whole so_far =
    subst (λ (l : List Edit). AreSet s t dirs files l) (take_all i edits whole) so_far.done

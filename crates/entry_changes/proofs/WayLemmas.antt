-- The words on the way to an entry of a list, as bytes.
use Rattle.std.proofs.Common.{◌≡◌, ◌≢◌, ℕ, zero, suc, ◌+◌, ◌<◌, ◌≤◌, List, [], ◌∷◌, length, Option, refl, sym}
use Rattle.std.proofs.Common.{◌∙◌, ap, subst, arith, ⊎_elim}
use Rattle.std.proofs.lemmas.Bool.{cases_lt}
use Rattle.std.specs.List.{Contains}
use Rattle.save_bytes.specs.declared.space.Bad.{Bad}
use Rattle.save_bytes.specs.Cells.{Cell, Byte, Blank, Spoilt, IsByte, Blames}
use Rattle.save_bytes.specs.State.{State}
use Rattle.save_bytes.specs.Answers.{IsFirstFault}
use Rattle.save_bytes.specs.Refusals.{IfDamaged, NeverDamaged}
use Rattle.save_bytes.proofs.SpaceLemmas.{IfDamaged-map}
use Rattle.entry_tables.specs.declared.table.TableInfo.{TableInfo}
use Rattle.entry_tables.specs.declared.word.Word.{Word}
use Rattle.entry_tables.specs.Tables.{HasEntry, Tables, tables_in}
use Rattle.entry_tables.specs.Links.{LeadsTo, last_of}
use Rattle.entry_tables.specs.Words.{HasWord, word_of, word_place}
use Rattle.entry_tables.specs.Layout.{HasEntryTables}
use Rattle.entry_tables.specs.Changes.{Area, IsAreaPlace, CanChangeTables}
use Rattle.entry_tables.proofs.LinkLemmas.{front_within}
use Rattle.entry_tables.proofs.SetLemmas.{word_run}
use Rattle.entry_changes.specs.declared.list.EntryList.{EntryList}
use Rattle.entry_changes.specs.declared.list.EntryList.TheVariants.{Bucket, Children}
use Rattle.entry_changes.specs.Lists.{list_kind, list_from, list_next, word_behind, HasList, IsOnTheWay, AreBytesOf}
use Rattle.entry_changes.specs.Lists.{HasWayBytes}
use Rattle.entry_changes.proofs.CutLemmas.{last_within}
use Rattle.entry_changes.proofs.WalkLemmas.{HasWalked, entry_has}

-- no entry of a front is 0
lead_apart : (next : ℕ → ℕ) (from : ℕ) (xs : List ℕ) (e : ℕ) → LeadsTo next from xs e → ¬ Contains xs 0
lead_apart next from [] e leads within = omega (arith, within.1)
lead_apart next from (x ∷ xs) e leads (zero, h, is) = leads.1 is
lead_apart next from (x ∷ xs) e leads (suc k, h, is) = lead_apart next (next x) xs e leads.2 (k, omega (arith, h), is)

-- two fronts of one length are the same
same_front : (next : ℕ → ℕ) (from : ℕ) (xs ys : List ℕ) (e end : ℕ) → LeadsTo next from xs e → LeadsTo next from ys end
    → length xs ≡ length ys → ys ≡ xs
same_front next from [] [] e end leads other long = refl
same_front next from [] (y ∷ ys) e end leads other long = absurd (omega (arith, long))
same_front next from (x ∷ xs) [] e end leads other long = absurd (omega (arith, long))
same_front next from (x ∷ xs) (y ∷ ys) e end leads other long =
    let same : y ≡ x = sym other.0 ∙ leads.0 in
    let tail : ys ≡ xs = same_front next (next x) xs ys e end leads.2
    (subst (λ (n : ℕ). LeadsTo next (next n) ys end) same other.2) (omega (arith, long)) in
    cc

-- the first words on the way to an entry were read
abbrev pub AreReadBelow : (ℕ → Cell) → TableInfo → TableInfo → EntryList → ℕ → ℕ → Type 0
AreReadBelow cells dirs files list e i = (ys : List ℕ) (word : Word)
    → IsOnTheWay (tables_in cells dirs files) list e ys word → length ys < i → AreBytesOf cells dirs files word

module _ (cells : ℕ → Cell) (dirs files : TableInfo) (list : EntryList) (e i : ℕ) (word : Word)
    (walked : HasWalked (tables_in cells dirs files) list e i word) (bytes : AreBytesOf cells dirs files word)
    (read : AreReadBelow cells dirs files list e i) where
  -- one word more
  pub one_more_read : AreReadBelow cells dirs files list e (i + 1)
  one_more_read ys other way less =
      ⊎_elim (λ (below : length ys < i). read ys other way below)
      (λ (from : i ≤ length ys).
      let t = tables_in cells dirs files in
      let same : ys ≡ walked.xs = same_front (list_next t list) (list_from t list) walked.xs ys (word_of t word)
      way.leads.0 walked.leads way.leads.1 (omega (arith, walked.long, less, from)) in
      subst (λ (w : Word). AreBytesOf cells dirs files w)
      (walked.is ∙ ap (word_behind list) (sym same) ∙ sym way.is) bytes)
      (cases_lt (length ys) i)

  -- no way to the entry goes on behind a word that names it, nor past the end
  pub all_read : (next : ℕ) → next ≡ word_of (tables_in cells dirs files) word → (next ≢ e → next ≡ 0)
      → HasWayBytes cells dirs files list e
  all_read next is ends ys other way =
      ⊎_elim (λ (below : length ys < i + 1). one_more_read ys other way below)
      (λ (from : i + 1 ≤ length ys).
      let t = tables_in cells dirs files in
      let there : Contains ys next = front_within (list_next t list) (list_from t list) walked.xs ys next way.leads.0
      (subst (λ (n : ℕ). LeadsTo (list_next t list) (list_from t list) walked.xs n) (sym is) walked.leads) way.leads.1
      (omega (arith, walked.long, from)) in
      let other_one : next ≢ e = λ same. way.apart (subst (λ (n : ℕ). Contains ys n) same there) in
      absurd (lead_apart (list_next t list) (list_from t list) ys way.leads.0 way.leads.1
      (subst (λ (n : ℕ). Contains ys n) (ends other_one) there)))
      (cases_lt (length ys) (i + 1))

-- a word on the way is one of the tables
way_has : (t : Tables) (list : EntryList) (e : ℕ) → (t.table (list_kind list)).count ≤ (t.table (list_kind list)).most
    → HasList t list → (xs : List ℕ) (word : Word) → IsOnTheWay t list e xs word → HasWord t word
way_has t list e counted has xs word way =
    subst (λ (w : Word). HasWord t w) (sym way.is) (behind_has list xs has (λ x within. record {
      some = not_zero xs (lead_apart (list_next t list) (list_from t list) xs way.leads.0 way.leads.1) x within;
      below = omega (arith, way.inside x within, counted);
    }))
  where
    not_zero : (xs : List ℕ) → ¬ Contains xs 0 → (x : ℕ) → Contains xs x → 1 ≤ x
    not_zero xs apart zero within = absurd (apart within)
    not_zero xs apart (suc x) within = omega arith

    behind_has : (list : EntryList) (xs : List ℕ) → HasList t list
        → ((x : ℕ) → Contains xs x → HasEntry (t.table (list_kind list)) x) → HasWord t (word_behind list xs)
    behind_has (Bucket kind bucket) [] has each = has
    behind_has (Children kind dir) [] has each = has
    behind_has (Bucket kind bucket) (x ∷ xs) has each =
        entry_has t (Bucket kind bucket) (last_of x xs) (each (last_of x xs) (last_within x xs))
    behind_has (Children kind dir) (x ∷ xs) has each =
        entry_has t (Children kind dir) (last_of x xs) (each (last_of x xs) (last_within x xs))

-- a byte is not blamed
pub byte_blames : (cell : Cell) (part level block : ℕ) → IsByte cell → ¬ Blames cell part level block
byte_blames (Byte value) part level block is blames = blames
byte_blames (Blank p l b) part level block is blames = is
byte_blames (Spoilt p l b) part level block is blames = is

-- the tables are the same, and their bytes are bytes still
module _ (s t : State) (dirs files : TableInfo) (tables : HasEntryTables s.shape dirs files)
    (can : CanChangeTables s dirs files) (same : tables_in t.cells dirs files ≡ tables_in s.cells dirs files)
    (bytes : (area : Area) (x : ℕ) → IsAreaPlace s.cells dirs files area x → IsByte (s.cells x) → IsByte (t.cells x))
  where
    pub word_bytes_later : (word : Word) → HasWord (tables_in s.cells dirs files) word
        → AreBytesOf s.cells dirs files word → AreBytesOf t.cells dirs files word
    word_bytes_later word has are k less =
        let lies = word_run s dirs files tables can word has in
        bytes lies.0 (word_place dirs files word + k) (lies.1.inside k less) (are k less)

    pub ways_later : (list : EntryList) (e : ℕ) → HasList (tables_in s.cells dirs files) list
        → HasWayBytes s.cells dirs files list e → HasWayBytes t.cells dirs files list e
    ways_later list e has ways xs word way =
        let here = subst (λ (u : Tables). IsOnTheWay u list e xs word) same way in
        word_bytes_later word
        (way_has (tables_in s.cells dirs files) list e
        ((can.tells (list_kind list)).most (can.counts (list_kind list))) has xs word here)
        (ways xs word here)

    -- a walk over bytes meets no damage
    pub way_never : (list : EntryList) (e : ℕ) (refusal : Option Bad) → HasList (tables_in s.cells dirs files) list
        → HasWayBytes s.cells dirs files list e
        → IfDamaged refusal (λ part level block. (xs : List ℕ) × (word : Word)
        × IsOnTheWay (tables_in t.cells dirs files) list e xs word
        × IsFirstFault t.cells (word_place dirs files word) 4 part level block)
        → NeverDamaged refusal
    way_never list e refusal has ways damaged =
        IfDamaged-map refusal
        (λ part level block found. byte_blames (t.cells (word_place dirs files found.1 + found.3.k)) part level block
        (ways_later list e has ways found.0 found.1 found.2 found.3.k found.3.within) found.3.fault) damaged

-- A list of a bucket or a directory, followed to an entry.
use Rattle.std.proofs.Common.{◌≡◌, ◌≢◌, ℕ, ◌+◌, ◌<◌, ◌≤◌, List, [], ◌∷◌, ◌++◌, length, refl, sym, ◌∙◌, ap, subst}
use Rattle.std.proofs.Common.{arith, ⊎_elim, Option, Some, None}
use Rattle.std.proofs.lemmas.Bool.{cases_eq}
use Rattle.std.proofs.Common.{length-append}
use Rattle.std.specs.List.{Contains}
use Rattle.std.proofs.lemmas.List.Elements.{Contains-append_cases}
use Rattle.save_bytes.specs.declared.space.Bad.{Bad}
use Rattle.save_bytes.specs.Cells.{Cell, IsByte, Blames}
use Rattle.save_bytes.specs.State.{Shape, State}
use Rattle.save_bytes.specs.Stays.{Stays}
use Rattle.save_bytes.specs.Answers.{IsFirstFault, IsRead}
use Rattle.save_bytes.specs.Refusals.{IfDamaged}
use Rattle.save_bytes.proofs.SpaceLemmas.{IfDamaged-map}
use Rattle.entry_tables.specs.Layout.{HasEntryTables}
use Rattle.entry_tables.specs.Changes.{CanChangeTables}
use Rattle.entry_tables.proofs.ValueLemmas.{place_below}
use Rattle.entry_tables.proofs.SetLemmas.{word_fits, word_run}
use Rattle.entry_tables.proofs.QuietLemmas.{stays_tables, stays_can}
use Rattle.entry_tables.specs.declared.table.EntryKind.TheVariants.{Dir}
use Rattle.entry_tables.specs.declared.table.TableInfo.{TableInfo}
use Rattle.entry_tables.specs.declared.word.Word.{Word}
use Rattle.entry_tables.specs.Tables.{HasEntry, Tables, tables_in}
use Rattle.entry_tables.specs.Links.{LeadsTo}
use Rattle.entry_tables.specs.Words.{HasWord, word_of, word_place, WordFits}
use Rattle.entry_tables.proofs.LinkLemmas.{LeadsTo-push, last_of-push, whole_list, reached, linked_apart}
use Rattle.entry_tables.proofs.LinkLemmas.{linked_distinct, few_between}
use Rattle.entry_changes.proofs.RemovedLemmas.{Contains-one}
use Rattle.entry_changes.specs.declared.list.EntryList.{EntryList}
use Rattle.entry_changes.specs.declared.list.EntryList.TheVariants.{Bucket, Children}
use Rattle.entry_changes.specs.Lists.{list_kind, list_from, list_next, first_word, entry_word, word_behind, HasList}
use Rattle.entry_changes.specs.Lists.{IsBehind, IsWordBefore, HasNoEnd, IsOnTheWay, AreBytesOf}

-- so many entries of a list were passed, none of them the one that is sought; a word names the next
pub record HasWalked (t : Tables) (list : EntryList) (e i : ℕ) (word : Word) : Type 0 where
  pub xs : List ℕ
  pub is : word ≡ word_behind list xs
  pub leads : IsBehind t list xs (word_of t word)
  pub long : length xs ≡ i
  pub inside : (x : ℕ) → Contains xs x → x < (t.table (list_kind list)).count
  pub apart : ¬ Contains xs e
  pub has : HasWord t word

pub nothing_walked : (t : Tables) (list : EntryList) (e : ℕ) → HasList t list → HasWalked t list e 0 (first_word list)
nothing_walked t (Bucket kind bucket) e has = record {
  xs = [];
  is = refl;
  leads = refl;
  long = refl;
  inside = λ x within. absurd (omega (arith, within.1));
  apart = λ within. omega (arith, within.1);
  has = has;
}
nothing_walked t (Children kind dir) e has = record {
  xs = [];
  is = refl;
  leads = refl;
  long = refl;
  inside = λ x within. absurd (omega (arith, within.1));
  apart = λ within. omega (arith, within.1);
  has = has;
}

behind_push : (list : EntryList) (xs : List ℕ) (x : ℕ) → entry_word list x ≡ word_behind list (xs ++ x ∷ [])
behind_push list [] x = refl
behind_push list (y ∷ ys) x = ap (entry_word list) (sym (last_of-push y ys x))

next_word : (t : Tables) (list : EntryList) (x : ℕ) → word_of t (entry_word list x) ≡ list_next t list x
next_word t (Bucket kind bucket) x = refl
next_word t (Children kind dir) x = refl

pub entry_has : (t : Tables) (list : EntryList) (x : ℕ) → HasEntry (t.table (list_kind list)) x
    → HasWord t (entry_word list x)
entry_has t (Bucket kind bucket) x has = has.below
entry_has t (Children kind dir) x has = has

-- one entry more
pub one_more_walked : (t : Tables) (list : EntryList) (e i : ℕ) (word : Word) (next : ℕ)
    → (t.table (list_kind list)).count ≤ (t.table (list_kind list)).most → HasWalked t list e i word
    → next ≡ word_of t word
    → next ≢ e → next ≢ 0 → next < (t.table (list_kind list)).count
    → HasWalked t list e (i + 1) (entry_word list next)
one_more_walked t list e i word next counted walked read other some below = record {
  xs = walked.xs ++ next ∷ [];
  is = behind_push list walked.xs next;
  leads = subst (λ (n : ℕ). LeadsTo (list_next t list) (list_from t list) (walked.xs ++ next ∷ []) n) (sym
      (next_word t list next))
      (LeadsTo-push (list_next t list) (list_from t list) walked.xs next
      (subst (λ (n : ℕ). LeadsTo (list_next t list) (list_from t list) walked.xs n) (sym read) walked.leads) some);
  long = omega (arith, walked.long, length-append walked.xs (next ∷ []));
  inside = λ x within. ⊎_elim (λ (before : Contains walked.xs x). walked.inside x before)
      (λ (last : Contains (next ∷ []) x). (let same : next
      ≡ x = Contains-one next x last in omega (arith, same, below)))
      (Contains-append_cases walked.xs (next ∷ []) x within);
  apart = λ within. ⊎_elim (λ (before : Contains walked.xs e). walked.apart before)
      (λ (last : Contains (next ∷ []) e). other (Contains-one next e last))
      (Contains-append_cases walked.xs (next ∷ []) e within);
  has = entry_has t list next (record { some = omega (arith, some); below = omega (arith, below, counted) });
}

-- the entry was met, or the end
pub met_entry : (t : Tables) (list : EntryList) (e i : ℕ) (word : Word) (next : ℕ) → HasWalked t list e i word
    → next ≡ word_of t word → next ≡ e → IsWordBefore t list e (Some word)
met_entry t list e i word next walked read met = (
  walked.xs,
  walked.is,
  subst (λ (n : ℕ). LeadsTo (list_next t list) (list_from t list) walked.xs n) (sym read ∙ met) walked.leads,
)

pub met_end : (t : Tables) (list : EntryList) (e i : ℕ) (word : Word) (next : ℕ) → HasWalked t list e i word
    → next ≡ word_of t word → next ≡ 0 → IsWordBefore t list e None
met_end t list e i word next walked read met = (
  walked.xs,
  subst (λ (n : ℕ). LeadsTo (list_next t list) (list_from t list) walked.xs n) (sym read ∙ met) walked.leads,
  walked.apart,
)

-- a number that is none of the table ends no list
pub no_entry_ends : (t : Tables) (list : EntryList) (e i : ℕ) (word : Word) (next : ℕ) → HasWalked t list e i word
    → next ≡ word_of t word → next ≢ 0 → (t.table (list_kind list)).count ≤ next → HasNoEnd t list
no_entry_ends t list e i word next walked read some past whole leads inside =
    let there = reached (list_next t list) (list_from t list) walked.xs next whole
    (subst (λ (n : ℕ). LeadsTo (list_next t list) (list_from t list) walked.xs n) (sym read) walked.leads) some leads in
    omega (arith, past, inside next there)

-- nor does one that goes on past as many entries as there are
pub too_long_ends : (t : Tables) (list : EntryList) (e i : ℕ) (word : Word) → 1 ≤ (t.table (list_kind list)).count
    → HasWalked t list e i word → (t.table (list_kind list)).count ≤ i → HasNoEnd t list
too_long_ends t list e i word some walked past whole leads inside =
    let split = whole_list (list_next t list) (list_from t list) walked.xs (word_of t word) whole walked.leads leads in
    let long : length whole ≡ length walked.xs + length split.0 = ap length split.1 ∙ length-append walked.xs split.0 in
    let few = few_between whole (t.table (list_kind list)).count some
    (linked_distinct (list_next t list) (list_from t list) whole leads)
    (λ x within. (
      not_zero (linked_apart (list_next t list)
          (list_from t list) whole leads) x within,
      inside x within,
    )) in
    omega (arith, long, walked.long, past, few)
  where
    not_zero : ¬ Contains whole 0 → (x : ℕ) → Contains whole x → 1 ≤ x
    not_zero apart x within = ⊎_elim
        (λ (nothing : x ≡ 0). absurd (apart (subst (λ (n : ℕ). Contains whole n) nothing within)))
        (λ (some : x ≢ 0). omega (arith, some)) (cases_eq x 0)

pub on_the_way : (t : Tables) (list : EntryList) (e i : ℕ) (word : Word) (walked : HasWalked t list e i word)
    → IsOnTheWay t list e walked.xs word
on_the_way t list e i word walked = record {
  is = walked.is;
  leads = (word_of t word, walked.leads);
  inside = walked.inside;
  apart = walked.apart;
}

module _ (s t : State) (dirs files : TableInfo) (tables : HasEntryTables s.shape dirs files)
    (can : CanChangeTables s dirs files) (stays : Stays s t None) (word : Word)
    (has : HasWord (tables_in s.cells dirs files) word) where
  -- a word that was read behind calls that only read
  pub read_then : (next : ℕ) → (CanChangeTables t dirs files → HasWord (tables_in t.cells dirs files) word
      → next ≡ word_of (tables_in t.cells dirs files) word) → next ≡ word_of (tables_in s.cells dirs files) word
  read_then next read =
      let same = stays_tables s dirs files tables can t stays in
      read (stays_can s dirs files tables can t stays)
      (subst (λ (u : Tables). HasWord u word) (sym same) has)
      ∙ ap (λ (u : Tables). word_of u word) same

  there_fits : WordFits t.shape.size dirs files word
  there_fits = subst (λ (shape : Shape). WordFits shape.size dirs files word) (sym stays.space.shape)
      (word_fits s dirs files tables can word has)

  pub same_cell : (k : ℕ) → k < 4 → t.cells (word_place dirs files word + k) ≡ s.cells (word_place dirs files word + k)
  same_cell k less =
      let lies = word_run s dirs files tables can word has in
      stays.cells (can.tells Dir).told (word_place dirs files word + k)
      (place_below s dirs files tables can lies.0 (word_place dirs files word + k) (lies.1.inside k less))

  -- bytes that were read there are bytes
  pub bytes_then : (WordFits t.shape.size dirs files word → IsRead t (word_place dirs files word) 4 None)
      → AreBytesOf s.cells dirs files word
  bytes_then read k less =
      subst IsByte (same_cell k less) ((read there_fits).done (stays.space.told (can.tells Dir).told) k less)

  pub fault_back : (part level block : ℕ) → IsFirstFault t.cells (word_place dirs files word) 4 part level block
      → IsFirstFault s.cells (word_place dirs files word) 4 part level block
  fault_back part level block first = record {
    k = first.k;
    within = first.within;
    fault = subst (λ (cell : Cell). Blames cell part level block) (same_cell first.k first.within) first.fault;
    before = λ j less. subst IsByte (same_cell j (omega (arith, less, first.within))) (first.before j less);
  }

  -- a fault that was met there was there before
  pub fault_then : (refusal : Option Bad) → (WordFits t.shape.size dirs files word
      → IsRead t (word_place dirs files word) 4 refusal)
      → IfDamaged refusal (IsFirstFault s.cells (word_place dirs files word) 4)
  fault_then refusal read =
      IfDamaged-map refusal
      fault_back
      ((read there_fits).damaged (stays.space.told (can.tells Dir).told))

-- The words that a removal changes, once they are found.
use Rattle.std.proofs.Common.{◌≡◌, ◌∙◌, ℕ, ◌+◌, ◌<◌, IsTrue, List, [], ◌∷◌, Option, Some, None, Err, refl, sym, subst}
use Rattle.std.proofs.Common.{arith}
use Rattle.std.specs.Prelude.{IfSome}
use Rattle.std.specs.List.{All, Contains}
use Rattle.std.proofs.lemmas.List.Elements.{All-nil, All-cons, Contains-append_left}
use Rattle.save_bytes.specs.Cells.{Cell, Byte, Blank, Spoilt, IsByte, IsUnspoilt}
use Rattle.save_bytes.specs.State.{State}
use Rattle.save_bytes.specs.Answers.{IsFirstFault, IsRead}
use Rattle.save_bytes.specs.declared.space.Bad.{Bad}
use Rattle.save_bytes.specs.Refusals.{IfDamaged, NeverDamaged}
use Rattle.save_bytes.specs.Stays.{Stays}
use Rattle.save_bytes.proofs.SpaceLemmas.{IfDamaged-map}
use Rattle.entry_tables.specs.declared.table.EntryKind.{EntryKind}
use Rattle.entry_tables.specs.declared.table.EntryKind.TheVariants.{Dir}
use Rattle.entry_tables.specs.declared.table.TableInfo.{TableInfo}
use Rattle.entry_tables.specs.declared.table.EntryFault.{EntryFault}
use Rattle.entry_tables.specs.declared.table.EntryFault.TheVariants as fault
use Rattle.entry_tables.specs.declared.word.Edit.{Edit}
use Rattle.entry_tables.specs.declared.word.Word.{Word}
use Rattle.entry_tables.specs.declared.word.Word.TheVariants.{Link}
use Rattle.entry_tables.specs.Kinds.{entry_size, link_offset}
use Rattle.entry_tables.specs.Tables.{HasEntry, Tables, table_in, tables_in, info_of, entry_place}
use Rattle.entry_tables.specs.Used.{used_entries}
use Rattle.entry_tables.specs.Rules.{IsOrderly}
use Rattle.entry_tables.specs.Fails.{RuleFailsAt}
use Rattle.entry_tables.specs.Layout.{HasEntryTables, TellsEntryTable}
use Rattle.entry_tables.specs.Words.{HasWord, word_place, WordFits}
use Rattle.entry_tables.specs.Causes.{bad_of, IfRuleBroken, NeverNoEntry}
use Rattle.entry_tables.specs.Changes.{CanChangeTables, IsBounded, CanSet}
use Rattle.entry_tables.proofs.EntryLemmas.{link_last, least_some, used_entry}
use Rattle.entry_tables.proofs.LinkLemmas.{whole_list}
use Rattle.entry_tables.proofs.QuietLemmas.{stays_tables}
use Rattle.entry_tables.proofs.CauseLemmas.{plain_stays}
use Rattle.entry_changes.specs.declared.list.EntryList.{EntryList}
use Rattle.entry_changes.specs.declared.list.EntryList.TheVariants.{Bucket, Children}
use Rattle.entry_changes.specs.declared.words.EntryWords.{EntryWords}
use Rattle.entry_changes.specs.EntryWords.{AreWordsOf}
use Rattle.entry_changes.specs.Lists.{list_kind, list_from, list_next, list_table, list_number, word_behind, HasList}
use Rattle.entry_changes.specs.Lists.{IsBehind, IsWordBefore, HasNoEnd, IsOnTheWay, AreBytesOf}
use Rattle.entry_changes.specs.Removed.{bucket_word, sibling_word}
use Rattle.entry_changes.specs.Plans.{BlamesEither, HasChangeCause, MayRemove, IsRemovalPlan}
use Rattle.entry_changes.proofs.WalkLemmas.{bytes_then, fault_then, same_cell}
use Rattle.entry_changes.proofs.PlanLemmas.{IsGoodList, whole_good, good_has, word_there, asks_for}
use Rattle.entry_changes.proofs.PlanLemmas.{way_blamed, endless_fails, change_bad_cause, fault_needed, zero_word_needed}
use Rattle.entry_changes.proofs.PlanLemmas.{before_then, in_its_bucket, in_its_directory, bucket_good}

-- a byte may be changed
byte_changes : (cell : Cell) → IsByte cell → IsUnspoilt cell
byte_changes (Byte value) is = tt
byte_changes (Blank part level block) is = tt
byte_changes (Spoilt part level block) is = is

-- the word of a list may have any number
any_behind : (t : Tables) (list : EntryList) (xs : List ℕ) (value : ℕ) → IsBounded t (word_behind list xs) value
any_behind t (Bucket kind bucket) [] value = tt
any_behind t (Bucket kind bucket) (x ∷ xs) value = tt
any_behind t (Children kind dir) [] value = tt
any_behind t (Children kind dir) (x ∷ xs) value = tt

-- the word that names an entry in a list, and any number may be put into it
pub record IsNamedBy (s : State) (dirs files : TableInfo) (list : EntryList) (e : ℕ) (word : Word) : Type 0 where
  pub xs : List ℕ
  pub is : word ≡ word_behind list xs
  pub leads : IsBehind (tables_in s.cells dirs files) list xs e
  pub set : (value : ℕ) → CanSet s dirs files (record { word = word; value = value })

module _ (s t : State) (dirs files : TableInfo) (tables : HasEntryTables s.shape dirs files)
    (can : CanChangeTables s dirs files) (stays : Stays s t None) where
  named_by_word : IsOrderly (tables_in s.cells dirs files) → (list : EntryList) (e : ℕ)
      → IsGoodList (tables_in s.cells dirs files) list → (word : Word)
      → IsWordBefore (tables_in t.cells dirs files) list e (Some word) → AreBytesOf t.cells dirs files word
      → IsNamedBy s dirs files list e word
  named_by_word rules list e good word before bytes =
      let here = before_then s t dirs files tables can stays list e (Some word) before in
      let whole = whole_good (tables_in s.cells dirs files) rules list good in
      let split = whole_list (list_next (tables_in s.cells dirs files) list)
      (list_from (tables_in s.cells dirs files) list)
      here.0 e whole.whole here.2 whole.leads in
      let used : (x : ℕ) → Contains here.0 x → used_entries ((tables_in s.cells dirs files).table (list_kind list)) x
      = λ x within. whole.used x (rw split.1 (Contains-append_left here.0 split.0 x within)) in
      let has : HasWord (tables_in s.cells dirs files) word
      = subst (λ (w : Word). HasWord (tables_in s.cells dirs files) w) (sym here.1)
      (word_there s dirs files can list here.0 (good_has s dirs files can list good) used) in
      record {
        xs = here.0;
        is = here.1;
        leads = here.2;
        set = λ value. record {
          has = has;
          bounded = subst (λ (w : Word). IsBounded (tables_in s.cells dirs files) w value) (sym here.1)
              (any_behind (tables_in s.cells dirs files) list here.0 value);
          ready = λ k less. byte_changes (s.cells (word_place dirs files word + k))
              (subst IsByte (same_cell s t dirs files tables can stays word has k less) (bytes k less));
        };
      }

  -- a word that was found behind calls that only read
  pub named_by : IsOrderly (tables_in s.cells dirs files) → (list : EntryList) (e count : ℕ)
      → IsGoodList (tables_in s.cells dirs files) list
      → count ≡ ((tables_in s.cells dirs files).table (list_kind list)).count
      → (found : Option Word) (word : Word) → found ≡ Some word
      → (CanChangeTables t dirs files → HasList (tables_in t.cells dirs files) list
      → ((tables_in t.cells dirs files).table (list_kind list)).count ≡ count
      → IsWordBefore (tables_in t.cells dirs files) list e found)
      → (CanChangeTables t dirs files → HasList (tables_in t.cells dirs files) list
      → ((tables_in t.cells dirs files).table (list_kind list)).count ≡ count
      → IfSome found (λ w. AreBytesOf t.cells dirs files w))
      → IsNamedBy s dirs files list e word
  named_by rules list e count good counted found word is before bytes =
      let asks = asks_for s t dirs files tables can stays list count good counted in
      named_by_word rules list e good word
      (subst (λ (f : Option Word). IsWordBefore (tables_in t.cells dirs files) list e f) is
      (before asks.can_then asks.has_list asks.counted))
      (subst (λ (f : Option Word). IfSome f (λ w. AreBytesOf t.cells dirs files w)) is
      (bytes asks.can_then asks.has_list asks.counted))

  -- and where none was found, the list ends without the entry
  pub none_before : (list : EntryList) (e count : ℕ) → IsGoodList (tables_in s.cells dirs files) list
      → count ≡ ((tables_in s.cells dirs files).table (list_kind list)).count
      → (found : Option Word) → found ≡ None
      → (CanChangeTables t dirs files → HasList (tables_in t.cells dirs files) list
      → ((tables_in t.cells dirs files).table (list_kind list)).count ≡ count
      → IsWordBefore (tables_in t.cells dirs files) list e found)
      → IsWordBefore (tables_in s.cells dirs files) list e None
  none_before list e count good counted found is before =
      let asks = asks_for s t dirs files tables can stays list count good counted in
      before_then s t dirs files tables can stays list e None
      (subst (λ (f : Option Word). IsWordBefore (tables_in t.cells dirs files) list e f) is
      (before asks.can_then asks.has_list asks.counted))

  -- the last word of an entry whose bytes were read may be changed
  pub own_word : (kind : EntryKind) (e : ℕ) → used_entries (table_in s.cells kind (info_of dirs files kind)) e
      → (TellsEntryTable t kind (info_of dirs files kind) → HasEntry (table_in t.cells kind (info_of dirs files kind)) e
      → (j : ℕ) → j < entry_size kind → IsByte (t.cells (entry_place kind (info_of dirs files kind) e + j)))
      → (value : ℕ) → CanSet s dirs files (record { word = Link kind e; value = value })
  own_word kind e used read value =
      let same = stays_tables s dirs files tables can t stays in
      let has = used_entry s kind (info_of dirs files kind) (can.tells kind) (can.counts kind) e used in
      let bytes = read ((asks_for s t dirs files tables can stays (Bucket kind 0) _
      (tables kind).some refl).can_then.tells kind)
      (subst (λ (u : Tables). HasEntry (u.table kind) e) (sym same) has) in
      record {
        has = has.below;
        bounded = tt;
        ready = λ k less. (
            let there : entry_place kind (info_of dirs files kind) e + (link_offset kind + k)
            ≡ word_place dirs files (Link kind e) + k = omega arith in
            byte_changes (s.cells (word_place dirs files (Link kind e) + k))
            (subst IsByte (same_cell s t dirs files tables can stays (Link kind e) has.below k less)
            (subst (λ (x : ℕ). IsByte (t.cells x)) there
            (bytes (link_offset kind + k) (omega (arith, less, link_last kind))))));
      }

pub zero_has : (s : State) (dirs files : TableInfo) → CanChangeTables s dirs files → (kind : EntryKind)
    → HasWord (tables_in s.cells dirs files) (Link kind 0)
zero_has s dirs files can kind =
    omega (arith, least_some kind, (can.tells kind).least (can.counts kind), (can.tells kind).most (can.counts kind))

pub zero_word : (s t : State) (dirs files : TableInfo) (tables : HasEntryTables s.shape dirs files)
    (can : CanChangeTables s dirs files) (stays : Stays s t None) (kind : EntryKind)
    → (WordFits t.shape.size dirs files (Link kind 0) → IsRead t (word_place dirs files (Link kind 0)) 4 None)
    → (value : ℕ) → CanSet s dirs files (record { word = Link kind 0; value = value })
zero_word s t dirs files tables can stays kind read value = record {
  has = zero_has s dirs files can kind;
  bounded = tt;
  ready = λ k less. byte_changes (s.cells (word_place dirs files (Link kind 0) + k))
      (bytes_then s t dirs files tables can stays (Link kind 0) (zero_has s dirs files can kind) read k less);
}

bucket_behind : (kind : EntryKind) (bucket : ℕ) (xs : List ℕ) → word_behind
    (Bucket kind bucket) xs ≡ bucket_word kind bucket xs
bucket_behind kind bucket [] = refl
bucket_behind kind bucket (x ∷ xs) = refl

sibling_behind : (kind : EntryKind) (dir : ℕ) (us : List ℕ) → word_behind
    (Children kind dir) us ≡ sibling_word kind dir us
sibling_behind kind dir [] = refl
sibling_behind kind dir (x ∷ us) = refl

All-four : {A : Type 0} (P : A → Type 0) (one two three four : A) → P one → P two → P three → P four
    → All P (one ∷ two ∷ three ∷ four ∷ [])
All-four P one two three four p q r s =
    All-cons P one (two ∷ three ∷ four ∷ []) p (All-cons P two (three ∷ four ∷ []) q
    (All-cons P three (four ∷ []) r (All-cons P four [] s (All-nil P))))

-- the plan: which words get which numbers
pub planned : (s : State) (dirs files : TableInfo) (can : CanChangeTables s dirs files) (kind : EntryKind) (e : ℕ)
    (words : EntryWords) → AreWordsOf (table_in s.cells kind (info_of dirs files kind)) e words
    → (in_bucket in_directory : Word) (freed : ℕ) → freed ≡ (table_in s.cells kind (info_of dirs files kind)).link 0
    → IsNamedBy s dirs files (Bucket kind words.bucket) e in_bucket
    → IsNamedBy s dirs files (Children kind words.parent) e in_directory
    → ((value : ℕ) → CanSet s dirs files (record { word = Link kind e; value = value }))
    → ((value : ℕ) → CanSet s dirs files (record { word = Link kind 0; value = value }))
    → (edits : List Edit)
    → edits ≡ record { word = in_bucket; value = words.link } ∷ record { word = in_directory; value = words.sibling }
    ∷ record { word = Link kind e; value = freed } ∷ record { word = Link kind 0; value = e } ∷ []
    → IsRemovalPlan s dirs files kind e (Some edits)
planned s dirs files can kind e words are in_bucket in_directory freed freed_is bucket directory own zero edits is =
    let t = tables_in s.cells dirs files in
    let bucket_is = subst (λ (b : ℕ). in_bucket ≡ bucket_word kind b bucket.xs) are.bucket
    (bucket.is ∙ bucket_behind kind words.bucket bucket.xs) in
    let directory_is = subst (λ (d : ℕ). in_directory ≡ sibling_word kind d directory.xs) are.parent
    (directory.is ∙ sibling_behind kind words.parent directory.xs) in (
      bucket.xs,
      directory.xs,
      record {
        in_bucket = subst (λ (b : ℕ). IsBehind t (Bucket kind b) bucket.xs e) are.bucket bucket.leads;
        in_directory = subst (λ (d : ℕ). IsBehind t (Children kind d) directory.xs e) are.parent directory.leads;
      },
      is ∙ (λ i. record { word = bucket_is i; value = are.link i } ∷ record
          { word = directory_is i; value = are.sibling i }
          ∷ record { word = Link kind e; value = freed_is i } ∷ record { word = Link kind 0; value = e } ∷ []),
      record {
        can = can;
        each = rw is (All-four (CanSet s dirs files) _ _ _ _ (bucket.set words.link) (directory.set words.sibling)
            (own freed) (zero e));
      },
    )

-- why the search of a list is refused
pub walk_cause : {A : Type 0} (s t : State) (dirs files : TableInfo) (tables : HasEntryTables s.shape dirs files)
    (stays : Stays s t None) (kind : EntryKind) (e : ℕ) (list : EntryList) (count : ℕ) (error : EntryFault)
    → (CanChangeTables s dirs files → used_entries (table_in s.cells kind (info_of dirs files kind)) e
    → used_entries (table_in s.cells Dir dirs) ((table_in s.cells kind (info_of dirs files kind)).parent e)
    → IsGoodList (tables_in s.cells dirs files) list)
    → (CanChangeTables s dirs files → count ≡ ((tables_in s.cells dirs files).table (list_kind list)).count)
    → (CanChangeTables t dirs files → HasList (tables_in t.cells dirs files) list
    → ((tables_in t.cells dirs files).table (list_kind list)).count ≡ count
    → IfDamaged (bad_of {A = Option Word} (Err error)) (λ part level block. (xs : List ℕ) × (word : Word)
    × IsOnTheWay (tables_in t.cells dirs files) list e xs word
    × IsFirstFault t.cells (word_place dirs files word) 4 part level block))
    → (IsTrue t.shape.plain → NeverDamaged (bad_of {A = Option Word} (Err error)))
    → (CanChangeTables t dirs files → HasList (tables_in t.cells dirs files) list
    → ((tables_in t.cells dirs files).table (list_kind list)).count ≡ count
    → IfRuleBroken {A = Option Word} (Err error)
    (λ table number. (table ≡ list_table list) × (number ≡ list_number list)
    × HasNoEnd (tables_in t.cells dirs files) list))
    → NeverNoEntry {A = Option Word} (Err error)
    → HasChangeCause {A = A} s dirs files (MayRemove (tables_in s.cells dirs files) kind e)
    (λ table number. used_entries (table_in s.cells kind (info_of dirs files kind)) e
    → used_entries (table_in s.cells Dir dirs) ((table_in s.cells kind (info_of dirs files kind)).parent e)
    → RuleFailsAt (tables_in s.cells dirs files) table number) (Err error)
walk_cause s t dirs files tables stays kind e list count (fault.Bad bad) good counted damaged plain broken never =
    change_bad_cause s dirs files _ _ bad
    (λ can may.
    (let here = good can may.can.named.used (may.rules.placed kind e may.can.named).parent in
    let asks = asks_for s t dirs files tables can stays list count here (counted can) in
    IfDamaged-map (Some bad)
    (λ part level block found. way_blamed s t dirs files tables can stays may.rules list e here found.0 found.1
    part level block found.2 found.3)
    (damaged asks.can_then asks.has_list asks.counted)))
    (λ is. plain (plain_stays s.shape t.shape stays.space.shape is))
walk_cause s t dirs files tables stays kind e list count
    (fault.Broken table number) good counted damaged plain broken never =
    record {
      damaged = λ can may. tt;
      plain = λ is. tt;
      broken = λ can used parent.
          (let here = good can used parent in
          let asks = asks_for s t dirs files tables can stays list count here (counted can) in
          let fails = broken asks.can_then asks.has_list asks.counted in
          endless_fails (tables_in s.cells dirs files) list table number here fails.0 fails.1
          (subst (λ (u : Tables). HasNoEnd u list) (stays_tables s dirs files tables can t stays) fails.2));
      never_full = tt;
    }
walk_cause s t dirs files tables stays kind e list count (fault.NoEntry most) good counted damaged plain broken never =
    absurd never

-- entry 0 is needed
pub zero_blamed : (s t : State) (dirs files : TableInfo) (tables : HasEntryTables s.shape dirs files)
    (can : CanChangeTables s dirs files) (stays : Stays s t None) (kind : EntryKind) (refusal : Option Bad)
    → (WordFits t.shape.size dirs files (Link kind 0) → IsRead t (word_place dirs files (Link kind 0)) 4 refusal)
    → IfDamaged refusal (BlamesEither s.cells dirs files)
zero_blamed s t dirs files tables can stays kind refusal read =
    IfDamaged-map refusal
    (λ part level block first. fault_needed s.cells dirs files kind (word_place dirs files (Link kind 0)) 4
    part level block (zero_word_needed s.cells dirs files kind) first)
    (fault_then s t dirs files tables can stays (Link kind 0) (zero_has s dirs files can kind) refusal read)

-- the lists of an entry that was read are lists of the tables
pub bucket_listed : (s : State) (dirs files : TableInfo) → HasEntryTables s.shape dirs files → (kind : EntryKind)
    (e : ℕ)
    (words : EntryWords) → AreWordsOf (table_in s.cells kind (info_of dirs files kind)) e words
    → IsGoodList (tables_in s.cells dirs files) (Bucket kind words.bucket)
bucket_listed s dirs files tables kind e words are =
    subst (λ (b : ℕ). IsGoodList (tables_in s.cells dirs files) (Bucket kind b)) (sym are.bucket)
    (bucket_good s dirs files tables kind e)

pub directory_listed : (s : State) (dirs files : TableInfo) (kind : EntryKind) (e : ℕ) (words : EntryWords)
    → AreWordsOf (table_in s.cells kind (info_of dirs files kind)) e words
    → used_entries (table_in s.cells Dir dirs) ((table_in s.cells kind (info_of dirs files kind)).parent e)
    → IsGoodList (tables_in s.cells dirs files) (Children kind words.parent)
directory_listed s dirs files kind e words are parent =
    subst (λ (d : ℕ). used_entries (table_in s.cells Dir dirs) d) (sym are.parent) parent

-- and both of them name an entry that may go
pub bucket_names : (s : State) (dirs files : TableInfo) → HasEntryTables s.shape dirs files → (kind : EntryKind) (e : ℕ)
    → MayRemove (tables_in s.cells dirs files) kind e → (words : EntryWords)
    → AreWordsOf (table_in s.cells kind (info_of dirs files kind)) e words
    → ¬ IsWordBefore (tables_in s.cells dirs files) (Bucket kind words.bucket) e None
bucket_names s dirs files tables kind e may words are none =
    in_its_bucket (tables_in s.cells dirs files) may.rules kind e may.can (bucket_good s dirs files tables kind e)
    (subst (λ (b : ℕ). IsWordBefore (tables_in s.cells dirs files) (Bucket kind b) e None) are.bucket none)

pub directory_names : (s : State) (dirs files : TableInfo) (kind : EntryKind) (e : ℕ)
    → MayRemove (tables_in s.cells dirs files) kind e → (words : EntryWords)
    → AreWordsOf (table_in s.cells kind (info_of dirs files kind)) e words
    → ¬ IsWordBefore (tables_in s.cells dirs files) (Children kind words.parent) e None
directory_names s dirs files kind e may words are none =
    in_its_directory (tables_in s.cells dirs files) may.rules kind e may.can
    (subst (λ (d : ℕ). IsWordBefore (tables_in s.cells dirs files) (Children kind d) e None) are.parent none)

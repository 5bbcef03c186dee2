-- What is read before an entry is removed, and why that is refused.
use Rattle.std.proofs.Common.{◌≡◌, ℕ, ◌+◌, ◌<◌, List, [], ◌∷◌, ◌++◌, Option, Some, None}
use Rattle.std.proofs.Common.{IsTrue, Err, refl, sym, ◌∙◌, ap, subst, arith, ⊎_elim}
use Rattle.std.specs.List.{Contains}
use Rattle.std.proofs.lemmas.List.Elements.{Contains-append_left, Contains-append_cases}
use Rattle.save_bytes.specs.Cells.{Cell}
use Rattle.save_bytes.specs.State.{State}
use Rattle.save_bytes.specs.declared.space.Bad.{Bad}
use Rattle.save_bytes.specs.Refusals.{IfDamaged, NeverDamaged}
use Rattle.save_bytes.specs.Stays.{Stays}
use Rattle.save_bytes.proofs.SpaceLemmas.{IfDamaged-map}
use Rattle.entry_tables.specs.declared.table.EntryFault.TheVariants as fault
use Rattle.entry_tables.proofs.StayLemmas.{needed_read}
use Rattle.entry_changes.specs.declared.words.EntryWords.{EntryWords}
use Rattle.entry_changes.specs.EntryWords.{AreWordsOf}
use Rattle.save_bytes.specs.Answers.{IsFirstFault}
use Rattle.entry_tables.specs.declared.table.EntryKind.{EntryKind}
use Rattle.entry_tables.specs.declared.table.EntryKind.TheVariants.{Dir}
use Rattle.entry_tables.specs.declared.table.TableInfo.{TableInfo}
use Rattle.entry_tables.specs.declared.word.Word.{Word}
use Rattle.entry_tables.specs.declared.word.Word.TheVariants.{Link}
use Rattle.entry_tables.specs.Kinds.{entry_size}
use Rattle.entry_tables.specs.Tables.{HasEntry, Tables, table_in, tables_in, info_of, entry_place}
use Rattle.entry_tables.specs.Links.{LeadsToEnd, last_of}
use Rattle.entry_tables.specs.Used.{used_entries}
use Rattle.entry_tables.specs.Rules.{bucket_of, IsOrderly}
use Rattle.entry_tables.specs.Fails.{RuleFailsAt, OfDirectory, OfBucket}
use Rattle.entry_tables.specs.Layout.{HasEntryTables, TellsEntryTable, BlamesRead, IsNeeded, OfZero, OfUsed}
use Rattle.entry_tables.specs.Layout.{OfBucket as NeedsBucket}
use Rattle.entry_tables.specs.Words.{HasWord, word_place}
use Rattle.entry_tables.specs.Changes.{CanChangeTables}
use Rattle.entry_changes.specs.Removed.{CanRemove}
use Rattle.entry_tables.proofs.EntryLemmas.{link_last, entry_long, used_entry}
use Rattle.entry_tables.proofs.LinkLemmas.{whole_list, whole_front}
use Rattle.entry_tables.proofs.WordLemmas.{child_inside}
use Rattle.entry_changes.proofs.CutLemmas.{last_within}
use Rattle.entry_changes.proofs.RemovedLemmas.{bucket_below}
use Rattle.entry_tables.proofs.QuietLemmas.{stays_tables, stays_can}
use Rattle.entry_changes.specs.declared.list.EntryList.{EntryList}
use Rattle.entry_changes.specs.declared.list.EntryList.TheVariants.{Bucket, Children}
use Rattle.entry_changes.specs.Lists.{list_kind, list_from, list_next, list_table, list_number, word_behind, HasList}
use Rattle.entry_changes.specs.Lists.{IsWordBefore, HasNoEnd, IsOnTheWay}
use Rattle.entry_changes.specs.Plans.{BlamesEither, HasChangeCause}
use Rattle.entry_changes.proofs.WalkLemmas.{fault_back}

-- a list of a bucket of the table, or of a used directory
abbrev pub IsGoodList : Tables → EntryList → Type 0
IsGoodList t (Bucket kind bucket) = bucket < (t.table kind).buckets
IsGoodList t (Children kind dir) = used_entries (t.table Dir) dir

pub good_has : (s : State) (dirs files : TableInfo) → CanChangeTables s dirs files → (list : EntryList)
    → IsGoodList (tables_in s.cells dirs files) list → HasList (tables_in s.cells dirs files) list
good_has s dirs files can (Bucket kind bucket) good = good
good_has s dirs files can (Children kind dir) good = used_entry s Dir dirs (can.tells Dir) (can.counts Dir) dir good

-- as far as the rules hold it is a whole list of used entries
pub record IsWholeList (t : Tables) (list : EntryList) : Type 0 where
  pub whole : List ℕ
  pub leads : LeadsToEnd (list_next t list) (list_from t list) whole
  pub used : (x : ℕ) → Contains whole x → used_entries (t.table (list_kind list)) x

pub whole_good : (t : Tables) → IsOrderly t → (list : EntryList) → IsGoodList t list → IsWholeList t list
whole_good t rules (Bucket kind bucket) good =
    let is = rules.buckets kind bucket good in
    record { whole = is.0; leads = is.1.leads; used = λ x within. (is.1.entries x within).used }
whole_good t rules (Children kind dir) good =
    let is = rules.listed kind dir good in
    record { whole = is.0; leads = is.1.leads; used = λ x within. (is.1.children x within).entry.used }

-- what was passed is used
passed_used : (t : Tables) (list : EntryList) (e : ℕ) (xs : List ℕ) (word : Word) → IsWholeList t list
    → IsOnTheWay t list e xs word → (x : ℕ) → Contains xs x → used_entries (t.table (list_kind list)) x
passed_used t list e xs word whole way x within =
    let split = whole_list (list_next t list) (list_from t list) xs way.leads.0 whole.whole way.leads.1 whole.leads in
    whole.used x (rw split.1 (Contains-append_left xs split.0 x within))

-- the bytes of a word on the way are needed
record NeedsWord (cells : ℕ → Cell) (dirs files : TableInfo) (word : Word) : Type 0 where
  kind : EntryKind
  needed : (j : ℕ) → j < 4
      → IsNeeded kind (info_of dirs files kind) (table_in cells kind (info_of dirs files kind))
      (word_place dirs files word + j)

needs_word : (cells : ℕ → Cell) (dirs files : TableInfo) (list : EntryList) (xs : List ℕ)
    → IsGoodList (tables_in cells dirs files) list
    → ((x : ℕ) → Contains xs x → used_entries ((tables_in cells dirs files).table (list_kind list)) x)
    → NeedsWord cells dirs files (word_behind list xs)
needs_word cells dirs files (Bucket k bucket) [] good used = record {
  kind = k;
  needed = λ j less. NeedsBucket bucket good (record { from = omega arith; before = omega (arith, less) });
}
needs_word cells dirs files (Bucket k bucket) (x ∷ xs) good used = record {
  kind = k;
  needed = λ j less. OfUsed (last_of x xs) (used (last_of x xs) (last_within x xs))
      (record { from = omega arith; before = omega (arith, less, link_last k) });
}
needs_word cells dirs files (Children k dir) [] good used = record {
  kind = Dir;
  needed = λ j less. OfUsed dir good (record { from = omega arith; before = omega (arith, less, child_inside k) });
}
needs_word cells dirs files (Children k dir) (x ∷ xs) good used = record {
  kind = k;
  needed = λ j less. OfUsed (last_of x xs) (used (last_of x xs) (last_within x xs))
      (record { from = omega arith; before = omega (arith, less, entry_long k) });
}

pub word_there : (s : State) (dirs files : TableInfo) → CanChangeTables s dirs files → (list : EntryList) (xs : List ℕ)
    → HasList (tables_in s.cells dirs files) list
    → ((x : ℕ) → Contains xs x → used_entries ((tables_in s.cells dirs files).table (list_kind list)) x)
    → HasWord (tables_in s.cells dirs files) (word_behind list xs)
word_there s dirs files can (Bucket k bucket) [] has used = has
word_there s dirs files can (Bucket k bucket) (x ∷ xs) has used =
    (used_entry s k (info_of dirs files k) (can.tells k) (can.counts k) (last_of x xs)
    (used (last_of x xs) (last_within x xs))).below
word_there s dirs files can (Children k dir) [] has used = has
word_there s dirs files can (Children k dir) (x ∷ xs) has used =
    used_entry s k (info_of dirs files k) (can.tells k) (can.counts k) (last_of x xs)
    (used (last_of x xs) (last_within x xs))

-- a fault in needed places
pub fault_needed : (cells : ℕ → Cell) (dirs files : TableInfo) (kind : EntryKind) (at n part level block : ℕ)
    → ((j : ℕ) → j < n → IsNeeded kind (info_of dirs files kind) (table_in cells kind (info_of dirs files kind))
    (at + j))
    → IsFirstFault cells at n part level block → BlamesEither cells dirs files part level block
fault_needed cells dirs files kind at n part level block needed first =
    (kind, record { place = at + first.k; needed = needed first.k first.within; blames = first.fault })

pub zero_word_needed : (cells : ℕ → Cell) (dirs files : TableInfo) (kind : EntryKind) (j : ℕ) → j < 4
    → IsNeeded kind (info_of dirs files kind) (table_in cells kind (info_of dirs files kind))
    (word_place dirs files (Link kind 0) + j)
zero_word_needed cells dirs files kind j less =
    OfZero (record { from = omega arith; before = omega (arith, less, link_last kind) })

module _ (s t : State) (dirs files : TableInfo) (tables : HasEntryTables s.shape dirs files)
    (can : CanChangeTables s dirs files) (stays : Stays s t None) where
  -- a fault on the way, met behind calls that only read
  pub way_blamed : IsOrderly (tables_in s.cells dirs files) → (list : EntryList) (e : ℕ)
      → IsGoodList (tables_in s.cells dirs files) list → (xs : List ℕ) (word : Word) (part level block : ℕ)
      → IsOnTheWay (tables_in t.cells dirs files) list e xs word
      → IsFirstFault t.cells (word_place dirs files word) 4 part level block
      → BlamesEither s.cells dirs files part level block
  way_blamed rules list e good xs word part level block way first =
      let here = subst (λ (u : Tables). IsOnTheWay u list e xs word)
      (stays_tables s dirs files tables can t stays) way in
      let used = passed_used (tables_in s.cells dirs files) list e xs word
      (whole_good (tables_in s.cells dirs files) rules list good) here in
      let has = subst (λ (w : Word). HasWord (tables_in s.cells dirs files) w) (sym here.is)
      (word_there s dirs files can list xs (good_has s dirs files can list good) used) in
      let needs = subst (λ (w : Word). NeedsWord s.cells dirs files w) (sym here.is)
      (needs_word s.cells dirs files list xs good used) in
      fault_needed s.cells dirs files needs.kind (word_place dirs files word) 4 part level block needs.needed
      (fault_back s t dirs files tables can stays word has part level block first)

-- a list with no end breaks its rule
pub endless_fails : (t : Tables) (list : EntryList) (table number : ℕ) → IsGoodList t list → table ≡ list_table list
    → number ≡ list_number list → HasNoEnd t list → RuleFailsAt t table number
endless_fails t (Bucket kind bucket) table number good table_is number_is endless =
    OfBucket kind table_is (rw number_is (record {
      below = good;
      none = λ list is. endless list is.leads (λ x within. (is.entries x within).used.below);
    }))
endless_fails t (Children kind dir) table number good table_is number_is endless =
    OfDirectory table_is (rw number_is (record {
      used = good;
      kind = kind;
      none = λ list is. endless list is.leads (λ x within. (is.children x within).entry.used.below);
    }))

-- as far as the rules hold no list ends without its entry
pub never_lacked : (t : Tables) (list : EntryList) (e : ℕ) (whole : IsWholeList t list) → Contains whole.whole e
    → ¬ IsWordBefore t list e None
never_lacked t list e whole within (xs, leads, apart) =
    let is : whole.whole ≡ xs ++ [] =
    whole_front (list_next t list) (list_from t list) xs whole.whole leads whole.leads in
    ⊎_elim (λ (front : Contains xs e). apart front) (λ (none : Contains [] e). omega (arith, none.1))
    (Contains-append_cases xs [] e (subst (λ (l : List ℕ). Contains l e) is within))

-- a refusal of the space
pub change_bad_cause : {A : Type 0} (s : State) (dirs files : TableInfo) (Rule : Type 0) (Fails : ℕ → ℕ → Type 0)
    (bad : Bad)
    → (CanChangeTables s dirs files → Rule → IfDamaged (Some bad) (BlamesEither s.cells dirs files))
    → (IsTrue s.shape.plain → NeverDamaged (Some bad))
    → HasChangeCause {A = A} s dirs files Rule Fails (Err (fault.Bad bad))
change_bad_cause s dirs files Rule Fails bad damaged plain =
    record { damaged = damaged; plain = plain; broken = λ can. tt; never_full = tt }

module _ (s t : State) (dirs files : TableInfo) (tables : HasEntryTables s.shape dirs files)
    (can : CanChangeTables s dirs files) (stays : Stays s t None) where
  -- the words of an entry that was read behind calls that only read
  pub words_then : (kind : EntryKind) (e : ℕ) (words : EntryWords)
      → used_entries (table_in s.cells kind (info_of dirs files kind)) e
      → (TellsEntryTable t kind (info_of dirs files kind) → HasEntry (table_in t.cells kind (info_of dirs files kind)) e
      → AreWordsOf (table_in t.cells kind (info_of dirs files kind)) e words)
      → AreWordsOf (table_in s.cells kind (info_of dirs files kind)) e words
  words_then kind e words used read =
      let same = stays_tables s dirs files tables can t stays in
      let has = used_entry s kind (info_of dirs files kind) (can.tells kind) (can.counts kind) e used in
      subst (λ (u : Tables). AreWordsOf (u.table kind) e words) same
      (read ((stays_can s dirs files tables can t stays).tells kind)
      (subst (λ (u : Tables). HasEntry (u.table kind) e) (sym same) has))

  pub entry_blamed : (kind : EntryKind) (e : ℕ) (refusal : Option Bad)
      → used_entries (table_in s.cells kind (info_of dirs files kind)) e
      → (IsTrue t.told → IfDamaged refusal (BlamesRead kind (info_of dirs files kind)
      (entry_place kind (info_of dirs files kind) e) (entry_size kind) t.cells))
      → IfDamaged refusal (BlamesEither s.cells dirs files)
  entry_blamed kind e refusal used damaged =
      let has = used_entry s kind (info_of dirs files kind) (can.tells kind) (can.counts kind) e used in
      IfDamaged-map refusal
      (λ part level block h. (
        kind,
        needed_read s t stays kind (info_of dirs files kind) (tables kind) (can.tells kind).told
            (entry_place kind (info_of dirs files kind) e) (entry_size kind) part level block
            ((can.tells kind).entries (can.counts kind) e has.below) (λ x within. OfUsed e used within) h,
      ))
      (damaged (stays.space.told (can.tells kind).told))

  -- what a walk asks for
  pub record AsksFor (list : EntryList) (count : ℕ) : Type 0 where
    pub can_then : CanChangeTables t dirs files
    pub has_list : HasList (tables_in t.cells dirs files) list
    pub counted : ((tables_in t.cells dirs files).table (list_kind list)).count ≡ count

  pub asks_for : (list : EntryList) (count : ℕ) → IsGoodList (tables_in s.cells dirs files) list
      → count ≡ ((tables_in s.cells dirs files).table (list_kind list)).count → AsksFor list count
  asks_for list count good counted =
      let same = stays_tables s dirs files tables can t stays in
      record {
        can_then = stays_can s dirs files tables can t stays;
        has_list = subst (λ (u : Tables). HasList u list) (sym same) (good_has s dirs files can list good);
        counted = ap (λ (u : Tables). (u.table (list_kind list)).count) same ∙ sym counted;
      }

-- the word of a list that was found, at the beginning
pub before_then : (s t : State) (dirs files : TableInfo) → HasEntryTables s.shape dirs files
    → CanChangeTables s dirs files
    → Stays s t None → (list : EntryList) (e : ℕ) (found : Option Word)
    → IsWordBefore (tables_in t.cells dirs files) list e found → IsWordBefore
    (tables_in s.cells dirs files) list e found
before_then s t dirs files tables can stays list e found is =
    subst (λ (u : Tables). IsWordBefore u list e found) (stays_tables s dirs files tables can t stays) is

-- an entry that can be removed is in the list of its bucket, and in its directory's
pub bucket_good : (s : State) (dirs files : TableInfo) → HasEntryTables s.shape dirs files → (kind : EntryKind) (e : ℕ)
    → IsGoodList (tables_in s.cells dirs files)
    (Bucket kind (bucket_of (table_in s.cells kind (info_of dirs files kind)) e))
bucket_good s dirs files tables kind e =
    bucket_below (table_in s.cells kind (info_of dirs files kind)) e (tables kind).some

pub in_its_bucket : (t : Tables) (rules : IsOrderly t) (kind : EntryKind) (e : ℕ) → CanRemove t kind e
    → (good : bucket_of (t.table kind) e < (t.table kind).buckets)
    → ¬ IsWordBefore t (Bucket kind (bucket_of (t.table kind) e)) e None
in_its_bucket t rules kind e can good =
    let is = rules.buckets kind (bucket_of (t.table kind) e) good in
    never_lacked t (Bucket kind (bucket_of (t.table kind) e)) e
    (record { whole = is.0; leads = is.1.leads; used = λ x within. (is.1.entries x within).used })
    (is.1.all e can.named refl)

pub in_its_directory : (t : Tables) (rules : IsOrderly t) (kind : EntryKind) (e : ℕ) → CanRemove t kind e
    → ¬ IsWordBefore t (Children kind ((t.table kind).parent e)) e None
in_its_directory t rules kind e can =
    let is = rules.listed kind ((t.table kind).parent e) (rules.placed kind e can.named).parent in
    never_lacked t (Children kind ((t.table kind).parent e)) e
    (record { whole = is.0; leads = is.1.leads; used = λ x within. (is.1.children x within).entry.used })
    (is.1.all e (record { entry = can.named; parent = refl }))

-- A removal whose bytes are there is refused for the disk alone.
use Rattle.std.proofs.Common.{◌≡◌, ℕ, ◌+◌, ◌<◌, ◌≤◌, IsTrue, List, Option, None, Result, Ok, Err, sym}
use Rattle.std.proofs.Common.{subst, ap, arith}
use Rattle.save_bytes.specs.declared.space.Bad.{Bad}
use Rattle.save_bytes.specs.Cells.{Cell, Byte, Blank, Spoilt, IsByte}
use Rattle.save_bytes.specs.State.{Shape, State}
use Rattle.save_bytes.specs.Answers.{IsFirstFault, IsRead}
use Rattle.save_bytes.specs.Refusals.{IfDamaged, NeverDamaged}
use Rattle.save_bytes.specs.Stays.{Stays}
use Rattle.save_bytes.specs.Within.{MaySoften}
use Rattle.save_bytes.proofs.SpaceLemmas.{IfDamaged-map}
use Rattle.entry_tables.specs.declared.table.EntryKind.{EntryKind}
use Rattle.entry_tables.specs.declared.table.EntryKind.TheVariants.{Dir}
use Rattle.entry_tables.specs.declared.table.TableInfo.{TableInfo}
use Rattle.entry_tables.specs.declared.table.EntryFault.{EntryFault}
use Rattle.entry_tables.specs.declared.table.EntryFault.TheVariants as fault
use Rattle.entry_tables.specs.declared.word.Word.{Word}
use Rattle.entry_tables.specs.declared.word.Word.TheVariants.{Link, Count}
use Rattle.entry_tables.specs.Kinds.{entry_size}
use Rattle.entry_tables.specs.Tables.{HasEntry, Tables, table_in, tables_in, info_of, entry_place}
use Rattle.entry_tables.specs.Used.{used_entries}
use Rattle.entry_tables.specs.Rules.{bucket_of}
use Rattle.entry_tables.specs.Fails.{RuleFailsAt}
use Rattle.entry_tables.specs.Layout.{HasEntryTables, TellsEntryTable}
use Rattle.entry_tables.specs.Words.{HasWord, word_place, WordFits}
use Rattle.entry_tables.specs.Causes.{bad_of}
use Rattle.entry_tables.specs.Changes.{Area, EntriesOf, IsAreaPlace, CanChangeTables}
use Rattle.entry_tables.proofs.EntryLemmas.{used_entry}
use Rattle.entry_tables.proofs.ValueLemmas.{place_below}
use Rattle.entry_tables.proofs.SetLemmas.{word_fits}
use Rattle.entry_tables.proofs.QuietLemmas.{stays_tables, stays_can}
use Rattle.entry_changes.specs.declared.list.EntryList.{EntryList}
use Rattle.entry_changes.specs.declared.list.EntryList.TheVariants.{Bucket, Children}
use Rattle.entry_changes.specs.declared.words.EntryWords.{EntryWords}
use Rattle.entry_changes.specs.EntryWords.{AreWordsOf}
use Rattle.entry_changes.specs.Lists.{list_kind, HasList, IsOnTheWay, AreBytesOf, HasWayBytes}
use Rattle.entry_changes.specs.Bytes.{OkOrDisk, HaveSoftened, HasRemovalBytes}
use Rattle.entry_changes.specs.Plans.{HasChangeCause, MayRemove}
use Rattle.entry_changes.proofs.PlanLemmas.{IsGoodList, good_has, asks_for, bucket_good}
use Rattle.entry_changes.proofs.PlannedLemmas.{zero_has}
use Rattle.entry_changes.proofs.TakenLemmas.{never_broken}
use Rattle.entry_changes.proofs.WayLemmas.{byte_blames, word_bytes_later, ways_later, way_never}

-- a byte that softens is one still
softened_byte : (cell new : Cell) → IsByte cell → MaySoften cell new → IsByte new
softened_byte (Byte value) new is soft = rw soft tt
softened_byte (Blank part level block) new is soft = absurd is
softened_byte (Spoilt part level block) new is soft = absurd is

-- bytes are read
read_never : (s : State) (at n : ℕ) (refusal : Option Bad) → IsTrue s.told
    → ((k : ℕ) → k < n → IsByte (s.cells (at + k)))
    → IsRead s at n refusal → NeverDamaged refusal
read_never s at n refusal told bytes read =
    IfDamaged-map refusal
    (λ part level block first. byte_blames (s.cells (at + first.k)) part level block (bytes first.k first.within)
    first.fault)
    (read.damaged told)

-- no damage was met: then the call was done, or the disk failed
pub exact_from : {A : Type 0} (s : State) (dirs files : TableInfo) (kind : EntryKind) (e : ℕ)
    (result : Result A EntryFault)
    → HasChangeCause s dirs files (MayRemove (tables_in s.cells dirs files) kind e)
    (λ table number. used_entries (table_in s.cells kind (info_of dirs files kind)) e
    → used_entries (table_in s.cells Dir dirs) ((table_in s.cells kind (info_of dirs files kind)).parent e)
    → RuleFailsAt (tables_in s.cells dirs files) table number) result
    → CanChangeTables s dirs files → MayRemove (tables_in s.cells dirs files) kind e → NeverDamaged (bad_of result)
    → OkOrDisk result
exact_from s dirs files kind e (Ok value) cause can may never = tt
exact_from s dirs files kind e (Err (fault.Bad bad)) cause can may never = never
exact_from {A = A} s dirs files kind e (Err (fault.Broken table entry)) cause can may never =
    never_broken {A = A} s dirs files kind e (Err (fault.Broken table entry)) cause can may
exact_from s dirs files kind e (Err (fault.NoEntry most)) cause can may never = absurd cause.never_full

module _ (s t : State) (dirs files : TableInfo) (tables : HasEntryTables s.shape dirs files)
    (can : CanChangeTables s dirs files) (stays : Stays s t None) where
  there_told : IsTrue t.told
  there_told = stays.space.told (can.tells Dir).told

  there_tables : HasEntryTables t.shape dirs files
  there_tables = subst (λ (shape : Shape). HasEntryTables shape dirs files) (sym stays.space.shape) tables

  -- the cells of the tables, before and after calls that only read
  byte_later : (area : Area) (x : ℕ) → IsAreaPlace s.cells dirs files area x → IsByte (s.cells x) → IsByte (t.cells x)
  byte_later area x place is =
      subst IsByte (sym (stays.cells (can.tells Dir).told x (place_below s dirs files tables can area x place))) is

  byte_before : (area : Area) (x : ℕ) → IsAreaPlace t.cells dirs files area x → IsByte (t.cells x) → IsByte (s.cells x)
  byte_before area x place is =
      let inside : x < s.shape.size =
      omega (
        arith,
        ap (λ (shape : Shape). shape.size) stays.space.shape,
        place_below t dirs files there_tables (stays_can s dirs files tables can t stays) area x place,
      ) in
      subst IsByte (stays.cells (can.tells Dir).told x inside) is

  -- a word that is read
  pub word_never : (word : Word) (refusal : Option Bad) → HasWord (tables_in s.cells dirs files) word
      → AreBytesOf s.cells dirs files word
      → (WordFits t.shape.size dirs files word → IsRead t (word_place dirs files word) 4 refusal)
      → NeverDamaged refusal
  word_never word refusal has bytes read =
      read_never t (word_place dirs files word) 4 refusal there_told
      (word_bytes_later s t dirs files tables can (stays_tables s dirs files tables can t stays) byte_later word has
      bytes)
      (read (subst (λ (shape : Shape). WordFits shape.size dirs files word) (sym stays.space.shape)
      (word_fits s dirs files tables can word has)))

  -- an entry that is read
  pub entry_never : (kind : EntryKind) (e : ℕ) (refusal : Option Bad)
      → used_entries (table_in s.cells kind (info_of dirs files kind)) e
      → ((j : ℕ) → j < entry_size kind → IsByte (s.cells (entry_place kind (info_of dirs files kind) e + j)))
      → (entry_place kind (info_of dirs files kind) e + entry_size kind ≤ t.shape.size
      → IsRead t (entry_place kind (info_of dirs files kind) e) (entry_size kind) refusal)
      → NeverDamaged refusal
  entry_never kind e refusal used bytes read =
      let has = used_entry s kind (info_of dirs files kind) (can.tells kind) (can.counts kind) e used in
      let fits = (can.tells kind).entries (can.counts kind) e has.below in
      read_never t (entry_place kind (info_of dirs files kind) e) (entry_size kind) refusal there_told
      (λ j less. byte_later (EntriesOf kind) (entry_place kind (info_of dirs files kind) e + j)
      (e, has.below, record { from = omega arith; before = omega (arith, less) }) (bytes j less))
      (read (omega (arith, fits, ap (λ (shape : Shape). shape.size) stays.space.shape)))

  pub entry_bytes_before : (kind : EntryKind) (e : ℕ) → used_entries (table_in s.cells kind (info_of dirs files kind)) e
      → (TellsEntryTable t kind (info_of dirs files kind) → HasEntry (table_in t.cells kind (info_of dirs files kind)) e
      → (j : ℕ) → j < entry_size kind → IsByte (t.cells (entry_place kind (info_of dirs files kind) e + j)))
      → (j : ℕ) → j < entry_size kind → IsByte (s.cells (entry_place kind (info_of dirs files kind) e + j))
  entry_bytes_before kind e used read j less =
      let has = used_entry s kind (info_of dirs files kind) (can.tells kind) (can.counts kind) e used in
      let there = subst (λ (u : Tables). HasEntry (u.table kind) e)
      (sym (stays_tables s dirs files tables can t stays)) has in
      byte_before (EntriesOf kind) (entry_place kind (info_of dirs files kind) e + j)
      (e, there.below, record { from = omega arith; before = omega (arith, less) })
      (read ((stays_can s dirs files tables can t stays).tells kind) there j less)

  -- a list that is followed
  pub list_never : (list : EntryList) (e count : ℕ) (refusal : Option Bad)
      → IsGoodList (tables_in s.cells dirs files) list
      → count ≡ ((tables_in s.cells dirs files).table (list_kind list)).count
      → HasWayBytes s.cells dirs files list e
      → (CanChangeTables t dirs files → HasList (tables_in t.cells dirs files) list
      → ((tables_in t.cells dirs files).table (list_kind list)).count ≡ count
      → IfDamaged refusal (λ part level block. (xs : List ℕ) × (word : Word)
      × IsOnTheWay (tables_in t.cells dirs files) list e xs word
      × IsFirstFault t.cells (word_place dirs files word) 4 part level block))
      → NeverDamaged refusal
  list_never list e count refusal good counted ways damaged =
      let asks = asks_for s t dirs files tables can stays list count good counted in
      way_never s t dirs files tables can (stays_tables s dirs files tables can t stays) byte_later list e refusal
      (good_has s dirs files can list good) ways (damaged asks.can_then asks.has_list asks.counted)

  pub ways_before : (list : EntryList) (e count : ℕ) → IsGoodList (tables_in s.cells dirs files) list
      → count ≡ ((tables_in s.cells dirs files).table (list_kind list)).count
      → (CanChangeTables t dirs files → HasList (tables_in t.cells dirs files) list
      → ((tables_in t.cells dirs files).table (list_kind list)).count ≡ count → HasWayBytes t.cells dirs files list e)
      → HasWayBytes s.cells dirs files list e
  ways_before list e count good counted ways =
      let asks = asks_for s t dirs files tables can stays list count good counted in
      ways_later t s dirs files there_tables asks.can_then (sym (stays_tables s dirs files tables can t stays))
      byte_before list e asks.has_list (ways asks.can_then asks.has_list asks.counted)

-- the count is a word of bytes
pub count_bytes : (s : State) (dirs files : TableInfo) → CanChangeTables s dirs files → (kind : EntryKind)
    → AreBytesOf s.cells dirs files (Count kind)
count_bytes s dirs files can kind k less = can.counts kind k (omega (arith, less))

-- bytes that were there are there where cells have softened at most
pub removal_bytes_later : (was now : State) (dirs files : TableInfo) → HasEntryTables now.shape dirs files
    → CanChangeTables was dirs files → HaveSoftened was now dirs files → (kind : EntryKind) (e : ℕ)
    → MayRemove (tables_in now.cells dirs files) kind e → HasRemovalBytes was dirs files kind e
    → HasRemovalBytes now dirs files kind e
removal_bytes_later was now dirs files there can soft kind e may_now bytes =
    let tables = subst (λ (shape : Shape). HasEntryTables shape dirs files) soft.shape there in
    let may = subst (λ (u : Tables). MayRemove u kind e) soft.tables may_now in
    let later = λ (area : Area) (x : ℕ) (place : IsAreaPlace was.cells dirs files area x) (is : IsByte (was.cells x)).
    softened_byte (was.cells x) (now.cells x) is (soft.cells area x place) in
    let has = used_entry was kind (info_of dirs files kind) (can.tells kind) (can.counts kind) e may.can.named.used in
    record {
      entry = λ j less. later (EntriesOf kind) (entry_place kind (info_of dirs files kind) e + j)
          (e, has.below, record { from = omega arith; before = omega (arith, less) }) (bytes.entry j less);
      zero = word_bytes_later was now dirs files tables can soft.tables later (Link kind 0)
          (zero_has was dirs files can kind) bytes.zero;
      in_bucket = subst (λ (u : Tables). HasWayBytes now.cells dirs files (Bucket kind (bucket_of (u.table kind) e)) e)
          (sym soft.tables)
          (ways_later was now dirs files tables can soft.tables later
          (Bucket kind (bucket_of (table_in was.cells kind (info_of dirs files kind)) e)) e
          (bucket_good was dirs files tables kind e) bytes.in_bucket);
      in_directory = subst
          (λ (u : Tables). HasWayBytes now.cells dirs files (Children kind ((u.table kind).parent e)) e)
          (sym soft.tables)
          (ways_later was now dirs files tables can soft.tables later
          (Children kind ((table_in was.cells kind (info_of dirs files kind)).parent e)) e
          (good_has was dirs files can (Children kind ((table_in was.cells kind (info_of dirs files kind)).parent e))
          (may.rules.placed kind e may.can.named).parent) bytes.in_directory);
    }

-- the two lists, by the words of the entry that were read
pub bucket_ways : (cells : ℕ → Cell) (dirs files : TableInfo) (kind : EntryKind) (e : ℕ) (words : EntryWords)
    → AreWordsOf (table_in cells kind (info_of dirs files kind)) e words
    → HasWayBytes cells dirs files (Bucket kind (bucket_of (table_in cells kind (info_of dirs files kind)) e)) e
    → HasWayBytes cells dirs files (Bucket kind words.bucket) e
bucket_ways cells dirs files kind e words are ways =
    subst (λ (b : ℕ). HasWayBytes cells dirs files (Bucket kind b) e) (sym are.bucket) ways

pub directory_ways : (cells : ℕ → Cell) (dirs files : TableInfo) (kind : EntryKind) (e : ℕ) (words : EntryWords)
    → AreWordsOf (table_in cells kind (info_of dirs files kind)) e words
    → HasWayBytes cells dirs files (Children kind ((table_in cells kind (info_of dirs files kind)).parent e)) e
    → HasWayBytes cells dirs files (Children kind words.parent) e
directory_ways cells dirs files kind e words are ways =
    subst (λ (d : ℕ). HasWayBytes cells dirs files (Children kind d) e) (sym are.parent) ways

-- What is read before an entry is added, and why that is refused.
use Rattle.std.proofs.Common.{◌≡◌, ◌≢◌, ℕ, ◌+◌, ◌<◌, IsTrue, List, [], ◌∷◌, Option, Some, None, Result, Ok, Err, refl}
use Rattle.std.proofs.Common.{sym}
use Rattle.std.proofs.Common.{◌∙◌, ap, subst, arith, ⊎_elim}
use Rattle.std.specs.List.{All}
use Rattle.std.proofs.lemmas.Bool.{cases_eq, eq-eqb, ne_eqb}
use Rattle.std.proofs.lemmas.List.Elements.{All-nil, All-cons}
use Rattle.save_bytes.specs.declared.space.Bad.{Bad}
use Rattle.save_bytes.specs.Cells.{Cell, Byte, Blank, Spoilt, IsByte, IsUnspoilt}
use Rattle.save_bytes.specs.State.{State}
use Rattle.save_bytes.specs.Answers.{IsFirstFault, IsRead}
use Rattle.save_bytes.specs.Refusals.{IfDamaged, NeverDamaged}
use Rattle.save_bytes.specs.Stays.{Stays}
use Rattle.save_bytes.proofs.SpaceLemmas.{IfDamaged-map}
use Rattle.entry_tables.specs.declared.table.EntryKind.{EntryKind}
use Rattle.entry_tables.specs.declared.table.EntryKind.TheVariants.{Dir}
use Rattle.entry_tables.specs.declared.table.TableInfo.{TableInfo}
use Rattle.entry_tables.specs.declared.table.EntryFault.{EntryFault}
use Rattle.entry_tables.specs.declared.table.EntryFault.TheVariants as fault
use Rattle.entry_tables.specs.declared.reads.Counts.{Counts}
use Rattle.entry_tables.specs.declared.word.Word.{Word}
use Rattle.entry_tables.specs.declared.word.Word.TheVariants.{Head, Link, First, Count}
use Rattle.entry_tables.specs.Kinds.{table_number}
use Rattle.entry_tables.specs.Hash.{bucket_number, name_hash}
use Rattle.entry_tables.specs.Tables.{HasEntry, Table, Tables, table_in, tables_in, info_of}
use Rattle.entry_tables.specs.Used.{used_entries}
use Rattle.entry_tables.specs.Rules.{CanBeFreed}
use Rattle.entry_tables.specs.Fails.{NamesWrongly, OfFreed}
use Rattle.entry_tables.specs.Layout.{HasEntryTables, IsNeeded, OfUsed, OfFreed as NeedsFreed, OfBucket as NeedsBucket}
use Rattle.entry_tables.specs.Words.{HasWord, word_place, WordFits}
use Rattle.entry_tables.specs.Causes.{bad_of, IfRuleBroken}
use Rattle.entry_tables.specs.Changes.{CanChangeTables, IsBounded, CanSet}
use Rattle.entry_tables.proofs.EntryLemmas.{used_entry}
use Rattle.entry_tables.proofs.FailLemmas.{nowhere_fails}
use Rattle.entry_tables.proofs.LinkLemmas.{first_left, linked_distinct}
use Rattle.entry_tables.proofs.QuietLemmas.{stays_tables, stays_can}
use Rattle.entry_tables.proofs.WordLemmas.{child_inside}
use Rattle.entry_tables.proofs.CauseLemmas.{plain_stays}
use Rattle.std.proofs.lemmas.Nat.{mod_below}
use Rattle.entry_changes.specs.Lists.{AreBytesOf}
use Rattle.entry_changes.specs.Bytes.{OkOrDisk}
use Rattle.entry_changes.proofs.WalkLemmas.{same_cell, fault_back, fault_then}
use Rattle.entry_changes.proofs.PlanLemmas.{fault_needed}
use Rattle.entry_changes.proofs.WayLemmas.{byte_blames}
use Rattle.entry_additions.specs.declared.entry.NewPlace.{NewPlace}
use Rattle.entry_additions.specs.declared.plan.Taken.{Taken}
use Rattle.entry_additions.specs.declared.plan.Addition.{Addition}
use Rattle.entry_additions.specs.Added.{taken_entry, taken_edit, HasRoom, addition_edits}
use Rattle.entry_additions.specs.Additions.{IfNoEntry, MayAdd, BlamesForNew, InNeeded, HasAdditionCause}
use Rattle.entry_additions.specs.Additions.{HasAdditionWords, AreCountsOf, IsTaking, IsAdditionPlan}

-- a refusal of the space
pub addition_bad_cause : {A : Type 0} (s : State) (dirs files : TableInfo) (kind : EntryKind) (parent : ℕ)
    (name : List ℕ) (bad : Bad)
    → (CanChangeTables s dirs files → MayAdd (tables_in s.cells dirs files) kind parent name
    → IfDamaged (Some bad) (BlamesForNew s.cells dirs files kind))
    → (IsTrue s.shape.plain → NeverDamaged (Some bad))
    → HasAdditionCause {A = A} s dirs files kind parent name (Err (fault.Bad bad))
addition_bad_cause s dirs files kind parent name bad damaged plain =
    record { damaged = damaged; plain = plain; broken = λ can. tt; full = λ can. tt; room = λ can. tt }

-- there is an entry, and no damage was met: then the call was done, or the disk failed
pub addition_exact : {A : Type 0} (s : State) (dirs files : TableInfo) (kind : EntryKind) (parent : ℕ) (name : List ℕ)
    (result : Result A EntryFault) → HasAdditionCause s dirs files kind parent name result
    → CanChangeTables s dirs files → MayAdd (tables_in s.cells dirs files) kind parent name
    → HasRoom (table_in s.cells kind (info_of dirs files kind)) → NeverDamaged (bad_of result) → OkOrDisk result
addition_exact s dirs files kind parent name (Ok value) cause can may room never = tt
addition_exact s dirs files kind parent name (Err (fault.Bad bad)) cause can may room never = never
addition_exact s dirs files kind parent name (Err (fault.Broken table entry)) cause can may room never =
    nowhere_fails (tables_in s.cells dirs files) table entry may.rules (cause.broken can)
addition_exact s dirs files kind parent name (Err (fault.NoEntry most)) cause can may room never =
    (cause.full can).0 room

byte_unspoilt : (cell : Cell) → IsByte cell → IsUnspoilt cell
byte_unspoilt (Byte value) is = tt
byte_unspoilt (Blank part level block) is = tt
byte_unspoilt (Spoilt part level block) is = is

pub freed_taken : (t : Table) → t.link 0 ≢ 0 → taken_entry t ≡ t.link 0
freed_taken t some = rw (ne_eqb (t.link 0) 0 some) refl

-- a word of bytes may have any number
pub bytes_set : (s : State) (dirs files : TableInfo) (word : Word) (value : ℕ)
    → HasWord (tables_in s.cells dirs files) word
    → IsBounded (tables_in s.cells dirs files) word value → AreBytesOf s.cells dirs files word
    → CanSet s dirs files (record { word = word; value = value })
bytes_set s dirs files word value has bounded bytes = record {
  has = has;
  bounded = bounded;
  ready = λ k less. byte_unspoilt (s.cells (word_place dirs files word + k)) (bytes k less);
}

-- the words that are read
pub head_has : (s : State) (dirs files : TableInfo) → HasEntryTables s.shape dirs files
    → (kind : EntryKind) (parent : ℕ)
    (name : List ℕ)
    → HasWord (tables_in s.cells dirs files) (Head kind (bucket_number parent name (info_of dirs files kind).buckets))
head_has s dirs files tables kind parent name =
    mod_below (name_hash parent name) (info_of dirs files kind).buckets (omega (arith, (tables kind).some))

pub first_has : (s : State) (dirs files : TableInfo) → CanChangeTables s dirs files → (kind : EntryKind) (parent : ℕ)
    → used_entries (table_in s.cells Dir dirs) parent → HasWord (tables_in s.cells dirs files) (First kind parent)
first_has s dirs files can kind parent used = used_entry s Dir dirs (can.tells Dir) (can.counts Dir) parent used

module _ (s t : State) (dirs files : TableInfo) (tables : HasEntryTables s.shape dirs files)
    (can : CanChangeTables s dirs files) (stays : Stays s t None) where
  -- a needed word, met behind calls that only read
  pub new_word_blamed : (kind other : EntryKind) (word : Word) (refusal : Option Bad)
      → HasWord (tables_in s.cells dirs files) word
      → ((j : ℕ) → j < 4 → IsNeeded other (info_of dirs files other) (table_in s.cells other (info_of dirs files other))
      (word_place dirs files word + j))
      → (WordFits t.shape.size dirs files word → IsRead t (word_place dirs files word) 4 refusal)
      → IfDamaged refusal (BlamesForNew s.cells dirs files kind)
  new_word_blamed kind other word refusal has needed read =
      IfDamaged-map refusal
      (λ part level block first. InNeeded (fault_needed s.cells dirs files other (word_place dirs files word) 4
      part level block needed first))
      (fault_then s t dirs files tables can stays word has refusal read)

  pub head_blamed : (kind : EntryKind) (parent : ℕ) (name : List ℕ) (refusal : Option Bad)
      → (WordFits t.shape.size dirs files (Head kind (bucket_number parent name (info_of dirs files kind).buckets))
      → IsRead t (word_place dirs files (Head kind (bucket_number parent name (info_of dirs files kind).buckets))) 4
      refusal)
      → IfDamaged refusal (BlamesForNew s.cells dirs files kind)
  head_blamed kind parent name refusal read =
      let has = head_has s dirs files tables kind parent name in
      new_word_blamed kind kind (Head kind (bucket_number parent name (info_of dirs files kind).buckets)) refusal has
      (λ j less. NeedsBucket (bucket_number parent name (info_of dirs files kind).buckets) has
      (record { from = omega arith; before = omega (arith, less) })) read

  pub first_blamed : (kind : EntryKind) (parent : ℕ) (refusal : Option Bad)
      → used_entries (table_in s.cells Dir dirs) parent
      → (WordFits t.shape.size dirs files (First kind parent)
      → IsRead t (word_place dirs files (First kind parent)) 4 refusal)
      → IfDamaged refusal (BlamesForNew s.cells dirs files kind)
  first_blamed kind parent refusal used read =
      new_word_blamed kind Dir (First kind parent) refusal (first_has s dirs files can kind parent used)
      (λ j less. OfUsed parent used
      (record { from = omega arith; before = omega (arith, less, child_inside kind) })) read

  -- the counts that were read
  pub counts_then : (kind : EntryKind) (counts : Counts) (freed : ℕ)
      → AreCountsOf (table_in s.cells kind (info_of dirs files kind)) counts freed
      → AreCountsOf (table_in t.cells kind (info_of dirs files kind)) counts freed
  counts_then kind counts freed are =
      subst (λ (u : Tables). AreCountsOf (u.table kind) counts freed)
      (sym (stays_tables s dirs files tables can t stays)) are

  -- the entry that was taken
  pub taking_before : (kind : EntryKind) (taken : Taken) → IsTaking t dirs files kind taken
      → IsTaking s dirs files kind taken
  taking_before kind taken is =
      let same = stays_tables s dirs files tables can t stays in
      let entry_is = subst (λ (u : Tables). taken.entry ≡ taken_entry (u.table kind)) same is.entry in
      let has_is = subst (λ (u : Tables). HasEntry (u.table kind) taken.entry) same is.has in
      record {
        entry = entry_is;
        last = subst (λ (u : Tables). taken.last ≡ taken_edit kind (u.table kind)) same is.last;
        has = has_is;
        room = subst (λ (u : Tables). HasRoom (u.table kind)) same is.room;
        freed = λ some k less.
            (let table = table_in s.cells kind (info_of dirs files kind) in
            let is_first : taken.entry ≡ table.link 0 = entry_is ∙ freed_taken table some in
            let below : table.link 0 < table.most = omega (arith, is_first, has_is.below) in
            let there = subst (λ (u : Tables). (u.table kind).link 0 ≢ 0 → AreBytesOf t.cells dirs files
            (Link kind ((u.table kind).link 0))) same is.freed in
            subst IsByte (same_cell s t dirs files tables can stays (Link kind (table.link 0)) below k less)
            (there some k less));
      }

  -- why no entry was taken
  module _ (kind : EntryKind) (parent : ℕ) (name : List ℕ) (counts : Counts) (freed : ℕ)
      (are : AreCountsOf (table_in s.cells kind (info_of dirs files kind)) counts freed) where
    -- the first freed entry is below the most, and its last word is needed
    link_below : CanBeFreed kind (table_in s.cells kind (info_of dirs files kind))
        ((table_in s.cells kind (info_of dirs files kind)).link 0)
        → HasWord (tables_in s.cells dirs files) (Link kind ((table_in s.cells kind (info_of dirs files kind)).link 0))
    link_below could = omega (arith, could.1, (can.tells kind).most (can.counts kind))

    pub take_blamed : (refusal : Option Bad) → MayAdd (tables_in s.cells dirs files) kind parent name
        → (CanChangeTables t dirs files → AreCountsOf (table_in t.cells kind (info_of dirs files kind)) counts freed
        → IfDamaged refusal (λ part level block. ((table_in t.cells kind (info_of dirs files kind)).link 0 ≢ 0)
        × CanBeFreed kind (table_in t.cells kind (info_of dirs files kind))
        ((table_in t.cells kind (info_of dirs files kind)).link 0)
        × IsFirstFault t.cells (word_place dirs files
        (Link kind ((table_in t.cells kind (info_of dirs files kind)).link 0))) 4 part level block))
        → IfDamaged refusal (BlamesForNew s.cells dirs files kind)
    take_blamed refusal may damaged =
        let same = stays_tables s dirs files tables can t stays in
        let table = table_in s.cells kind (info_of dirs files kind) in
        let list = may.rules.freed kind in
        let here = subst (λ (u : Tables). IfDamaged refusal (λ part level block. ((u.table kind).link 0 ≢ 0)
        × CanBeFreed kind (u.table kind) ((u.table kind).link 0)
        × IsFirstFault t.cells (word_place dirs files (Link kind ((u.table kind).link 0))) 4 part level block)) same
        (damaged (stays_can s dirs files tables can t stays) (counts_then kind counts freed are)) in
        IfDamaged-map refusal
        (λ part level block found. InNeeded (fault_needed s.cells dirs files kind
        (word_place dirs files (Link kind (table.link 0))) 4 part level block
        (λ j less. NeedsFreed (table.link 0) list.0 list.1.leads
        (first_left table.link (table.link 0) list.0 found.0 list.1.leads)
        (record { from = omega arith; before = omega (arith, less) }))
        (fault_back s t dirs files tables can stays (Link kind (table.link 0)) (link_below found.1) part level block
        found.2))) here

    pub take_never : (refusal : Option Bad)
        → ((table_in s.cells kind (info_of dirs files kind)).link 0 ≢ 0
        → AreBytesOf s.cells dirs files (Link kind ((table_in s.cells kind (info_of dirs files kind)).link 0)))
        → (CanChangeTables t dirs files → AreCountsOf (table_in t.cells kind (info_of dirs files kind)) counts freed
        → IfDamaged refusal (λ part level block. ((table_in t.cells kind (info_of dirs files kind)).link 0 ≢ 0)
        × CanBeFreed kind (table_in t.cells kind (info_of dirs files kind))
        ((table_in t.cells kind (info_of dirs files kind)).link 0)
        × IsFirstFault t.cells (word_place dirs files
        (Link kind ((table_in t.cells kind (info_of dirs files kind)).link 0))) 4 part level block))
        → NeverDamaged refusal
    take_never refusal bytes damaged =
        let same = stays_tables s dirs files tables can t stays in
        let table = table_in s.cells kind (info_of dirs files kind) in
        let here = subst (λ (u : Tables). IfDamaged refusal (λ part level block. ((u.table kind).link 0 ≢ 0)
        × CanBeFreed kind (u.table kind) ((u.table kind).link 0)
        × IsFirstFault t.cells (word_place dirs files (Link kind ((u.table kind).link 0))) 4 part level block)) same
        (damaged (stays_can s dirs files tables can t stays) (counts_then kind counts freed are)) in
        IfDamaged-map refusal
        (λ part level block found.
        (let first = fault_back s t dirs files tables can stays (Link kind (table.link 0)) (link_below found.1)
        part level block found.2 in
        byte_blames (s.cells (word_place dirs files (Link kind (table.link 0)) + first.k)) part level block
        (bytes found.0 first.k first.within) first.fault)) here

-- entry 0 names a number that no freed entry can have
wrongly_named : (kind : EntryKind) (t : Table) → t.link 0 ≢ 0 → ¬ CanBeFreed kind t (t.link 0) → NamesWrongly kind t 0
wrongly_named kind t some wrong = record {
  front = [];
  begins = record { leads = refl; last = refl; inside = All-nil (CanBeFreed kind t) };
  once = linked_distinct t.link 0 [] refl;
  named = some;
  wrong = λ could. absurd (wrong could);
}

-- why no entry was taken, as the refusal of an addition
pub take_cause : {A : Type 0} (s t : State) (dirs files : TableInfo) (tables : HasEntryTables s.shape dirs files)
    (stays : Stays s t None) (kind : EntryKind) (parent : ℕ) (name : List ℕ) (counts : Counts) (freed : ℕ)
    (error : EntryFault)
    → (CanChangeTables s dirs files → AreCountsOf (table_in s.cells kind (info_of dirs files kind)) counts freed)
    → (CanChangeTables t dirs files → AreCountsOf (table_in t.cells kind (info_of dirs files kind)) counts freed
    → IfNoEntry {A = Taken} (Err error) (λ most. (¬ HasRoom (table_in t.cells kind (info_of dirs files kind)))
    × (most ≡ (table_in t.cells kind (info_of dirs files kind)).most)))
    → (CanChangeTables t dirs files → AreCountsOf (table_in t.cells kind (info_of dirs files kind)) counts freed
    → IfRuleBroken {A = Taken} (Err error) (λ table number. (table ≡ table_number kind) × (number ≡ 0)
    × ((table_in t.cells kind (info_of dirs files kind)).link 0 ≢ 0)
    × (¬ CanBeFreed kind (table_in t.cells kind (info_of dirs files kind))
    ((table_in t.cells kind (info_of dirs files kind)).link 0))))
    → (CanChangeTables t dirs files → AreCountsOf (table_in t.cells kind (info_of dirs files kind)) counts freed
    → IfDamaged (bad_of {A = Taken} (Err error))
    (λ part level block. ((table_in t.cells kind (info_of dirs files kind)).link 0 ≢ 0)
    × CanBeFreed kind (table_in t.cells kind (info_of dirs files kind))
    ((table_in t.cells kind (info_of dirs files kind)).link 0)
    × IsFirstFault t.cells (word_place dirs files
    (Link kind ((table_in t.cells kind (info_of dirs files kind)).link 0))) 4 part level block))
    → (IsTrue t.shape.plain → NeverDamaged (bad_of {A = Taken} (Err error)))
    → HasAdditionCause {A = A} s dirs files kind parent name (Err error)
take_cause s t dirs files tables stays kind parent name counts freed (fault.Bad bad) are full broken damaged plain =
    addition_bad_cause s dirs files kind parent name bad
    (λ can may. take_blamed s t dirs files tables can stays kind parent name counts freed (are can) (Some bad) may
    damaged)
    (λ is. plain (plain_stays s.shape t.shape stays.space.shape is))
take_cause s t dirs files tables stays kind parent name counts freed (fault.Broken table number) are full broken damaged
    plain = record {
      damaged = λ can may. tt;
      plain = λ is. tt;
      broken = λ can.
          (let fails = broken (stays_can s dirs files tables can t stays)
          (counts_then s t dirs files tables can stays kind counts freed (are can)) in
          let same = stays_tables s dirs files tables can t stays in
          OfFreed kind fails.0 (rw fails.1 (subst (λ (u : Tables). NamesWrongly kind (u.table kind) 0) same
          (wrongly_named kind (table_in t.cells kind (info_of dirs files kind)) fails.2 fails.3))));
      full = λ can. tt;
      room = λ can. tt;
    }
take_cause s t dirs files tables stays kind parent name counts freed (fault.NoEntry most) are full broken damaged
    plain = record {
      damaged = λ can may. tt;
      plain = λ is. tt;
      broken = λ can. tt;
      full = λ can.
          (let same = stays_tables s dirs files tables can t stays in
          subst (λ (u : Tables). (¬ HasRoom (u.table kind)) × (most ≡ (u.table kind).most)) same
          (full (stays_can s dirs files tables can t stays)
          (counts_then s t dirs files tables can stays kind counts freed (are can))));
      room = λ can. tt;
    }

-- the word by which an entry is taken may be put
last_set : (s : State) (dirs files : TableInfo) → CanChangeTables s dirs files → (kind : EntryKind)
    → HasRoom (table_in s.cells kind (info_of dirs files kind)) → HasWord (tables_in s.cells dirs files) (Link kind 0)
    → AreBytesOf s.cells dirs files (Link kind 0)
    → CanSet s dirs files (taken_edit kind (table_in s.cells kind (info_of dirs files kind)))
last_set s dirs files can kind room has zero =
    ⊎_elim
    (λ (none : (table_in s.cells kind (info_of dirs files kind)).link 0 ≡ 0).
    rw (eq-eqb ((table_in s.cells kind (info_of dirs files kind)).link 0) 0 none)
    (bytes_set s dirs files (Count kind) ((table_in s.cells kind (info_of dirs files kind)).count + 1) tt
    (omega (arith, (can.tells kind).least (can.counts kind)), omega (arith, room none))
    (λ k less. can.counts kind k (omega (arith, less)))))
    (λ (some : (table_in s.cells kind (info_of dirs files kind)).link 0 ≢ 0).
    rw (ne_eqb ((table_in s.cells kind (info_of dirs files kind)).link 0) 0 some)
    (bytes_set s dirs files (Link kind 0) ((table_in s.cells kind (info_of dirs files kind)).link
    ((table_in s.cells kind (info_of dirs files kind)).link 0)) has tt zero))
    (cases_eq ((table_in s.cells kind (info_of dirs files kind)).link 0) 0)

pub All-three : {A : Type 0} (P : A → Type 0) (one two three : A) → P one → P two → P three
    → All P (one ∷ two ∷ three ∷ [])
All-three P one two three p q r =
    All-cons P one (two ∷ three ∷ []) p (All-cons P two (three ∷ []) q (All-cons P three [] r (All-nil P)))

-- the plan: which entry is written, and which words get which numbers
pub addition_planned : (s : State) (dirs files : TableInfo) (can : CanChangeTables s dirs files) (kind : EntryKind)
    (parent : ℕ) (name : List ℕ) (taken : Taken) (bucket sibling link : ℕ) (plan : Addition)
    → IsTaking s dirs files kind taken
    → HasAdditionWords s dirs files kind parent name
    → HasWord (tables_in s.cells dirs files) (Link kind 0)
    → HasWord (tables_in s.cells dirs files) (Head kind (bucket_number parent name (info_of dirs files kind).buckets))
    → HasWord (tables_in s.cells dirs files) (First kind parent)
    → bucket ≡ bucket_number parent name (info_of dirs files kind).buckets
    → link ≡ (table_in s.cells kind (info_of dirs files kind)).head
    (bucket_number parent name (info_of dirs files kind).buckets)
    → sibling ≡ (tables_in s.cells dirs files).first kind parent
    → plan.place ≡ record { entry = taken.entry; sibling = sibling; link = link }
    → plan.edits ≡ record { word = Head kind bucket; value = taken.entry }
    ∷ record { word = First kind parent; value = taken.entry } ∷ taken.last ∷ []
    → IsAdditionPlan s dirs files kind parent name plan
addition_planned s dirs files can kind parent name taken bucket sibling link plan taking words zero_has head_there
    first_there bucket_is link_is sibling_is place edits =
    let entry_is = ap (λ (place : NewPlace). place.entry) place in
    let edits_are : plan.edits ≡ addition_edits (tables_in s.cells dirs files) kind parent name =
    edits ∙ (λ i. record { word = Head kind (bucket_is i); value = taking.entry i }
    ∷ record { word = First kind parent; value = taking.entry i } ∷ taking.last i ∷ []) in
    record {
      entry = entry_is ∙ taking.entry;
      has = subst (λ (e : ℕ). HasEntry (table_in s.cells kind (info_of dirs files kind)) e) (sym entry_is) taking.has;
      sibling = ap (λ (place : NewPlace). place.sibling) place ∙ sibling_is;
      link = ap (λ (place : NewPlace). place.link) place ∙ link_is;
      edits = edits_are;
      can = record {
        can = can;
        each = rw edits_are (All-three (CanSet s dirs files)
            (record {
              word = Head kind (bucket_number parent name (info_of dirs files kind).buckets);
              value = taken_entry (table_in s.cells kind (info_of dirs files kind));
            })
            (record {
              word = First kind parent;
              value = taken_entry (table_in s.cells kind (info_of dirs files kind));
            })
            (taken_edit kind (table_in s.cells kind (info_of dirs files kind)))
            (bytes_set s dirs files (Head kind (bucket_number parent name (info_of dirs files kind).buckets))
            (taken_entry (table_in s.cells kind (info_of dirs files kind))) head_there tt words.head)
            (bytes_set s dirs files (First kind parent) (taken_entry (table_in s.cells kind (info_of dirs files kind)))
            first_there tt words.first)
            (last_set s dirs files can kind words.room zero_has words.zero));
      };
    }

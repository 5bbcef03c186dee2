-- What is read and taken before an entry is added, and why that is refused.
use Rattle.std.specs.Prelude.{◌≡◌, ◌≢◌, ℕ, ◌+◌, ◌<◌, IsTrue, List, Result, Ok, Err, OnOk, ⊤}
use Rattle.save_bytes.specs.Cells.{Cell, Spoilt, IsUnspoilt}
use Rattle.save_bytes.specs.State.{State}
use Rattle.save_bytes.specs.Refusals.{IfDamaged, NeverDamaged}
use Rattle.entry_tables.specs.declared.table.EntryKind.{EntryKind}
use Rattle.entry_tables.specs.declared.table.TableInfo.{TableInfo}
use Rattle.entry_tables.specs.declared.table.EntryFault.{EntryFault}
use Rattle.entry_tables.specs.declared.table.EntryFault.TheVariants as fault
use Rattle.entry_tables.specs.declared.reads.Counts.{Counts}
use Rattle.entry_tables.specs.declared.word.Word.TheVariants.{Head, Link, First}
use Rattle.entry_tables.specs.Kinds.{entry_size}
use Rattle.entry_tables.specs.Hash.{bucket_number}
use Rattle.entry_tables.specs.Tables.{HasEntry, Table, Tables, table_in, tables_in, info_of, entry_place}
use Rattle.entry_tables.specs.Used.{used_entries}
use Rattle.entry_tables.specs.Rules.{IsOrderly}
use Rattle.entry_tables.specs.Fails.{RuleFailsAt}
use Rattle.entry_tables.specs.Layout.{LiesWithin}
use Rattle.entry_tables.specs.Causes.{bad_of, IfRuleBroken}
use Rattle.entry_tables.specs.Changes.{CanChangeTables, CanSetAll}
use Rattle.entry_changes.specs.Lists.{AreBytesOf}
use Rattle.entry_changes.specs.Plans.{BlamesEither}
use Rattle.entry_additions.specs.declared.plan.Taken.{Taken}
use Rattle.entry_additions.specs.declared.plan.Addition.{Addition}
use Rattle.entry_additions.specs.Added.{taken_entry, taken_edit, HasRoom, CanAdd, addition_edits}

-- P holds of the most entries where the answer is that none can be added
abbrev pub IfNoEntry : {A : Type 0} → Result A EntryFault → (ℕ → Type 0) → Type 0
IfNoEntry (Ok value) P = ⊤
IfNoEntry (Err (fault.Bad bad)) P = ⊤
IfNoEntry (Err (fault.Broken table entry)) P = ⊤
IfNoEntry (Err (fault.NoEntry most)) P = P most

-- the rules hold, and an entry can be added where there is one to take
pub record MayAdd (t : Tables) (kind : EntryKind) (parent : ℕ) (name : List ℕ) : Type 0 where
  pub rules : IsOrderly t
  pub can : CanAdd t kind parent name

-- a cell of an entry below the most that is not used is spoilt, and names this block
pub record BlamesUnused (kind : EntryKind) (info : TableInfo) (cells : ℕ → Cell) (part level block : ℕ) : Type 0 where
  pub entry : ℕ
  pub has : HasEntry (table_in cells kind info) entry
  pub unused : ¬ used_entries (table_in cells kind info) entry
  pub place : ℕ
  pub within : LiesWithin (entry_place kind info entry) (entry_size kind) place
  pub spoilt : cells place ≡ Spoilt part level block

-- for which cells an addition is refused: needed ones that are no bytes, and spoilt ones of unused entries
pub data BlamesForNew (cells : ℕ → Cell) (dirs files : TableInfo) (kind : EntryKind) (part level block : ℕ) : Type 0
  where
    InNeeded : BlamesEither cells dirs files part level block → BlamesForNew cells dirs files kind part level block
    InUnused : BlamesUnused kind (info_of dirs files kind) cells part level block
        → BlamesForNew cells dirs files kind part level block

-- Why an addition is refused: for a damaged cell as far as the rules hold only for those, for a rule only where it
-- fails, and for want of an entry exactly where none is freed and the count is at its most.
pub record HasAdditionCause {A : Type 0} (s : State) (dirs files : TableInfo) (kind : EntryKind) (parent : ℕ)
    (name : List ℕ) (result : Result A EntryFault) : Type 0 where
  pub damaged : CanChangeTables s dirs files → MayAdd (tables_in s.cells dirs files) kind parent name
      → IfDamaged (bad_of result) (BlamesForNew s.cells dirs files kind)
  pub plain : IsTrue s.shape.plain → NeverDamaged (bad_of result)
  pub broken : CanChangeTables s dirs files → IfRuleBroken result (RuleFailsAt (tables_in s.cells dirs files))
  pub full : CanChangeTables s dirs files → IfNoEntry result (λ most.
      (¬ HasRoom (table_in s.cells kind (info_of dirs files kind)))
      × (most ≡ (table_in s.cells kind (info_of dirs files kind)).most))
  pub room : CanChangeTables s dirs files → OnOk result (HasRoom (table_in s.cells kind (info_of dirs files kind)))

-- The words that an addition reads are bytes: the first freed entry's, its last word, the head of the bucket, and the
-- directory's first entry. There is an entry to take.
pub record HasAdditionWords (s : State) (dirs files : TableInfo) (kind : EntryKind) (parent : ℕ) (name : List ℕ)
    : Type 0 where
  pub room : HasRoom (table_in s.cells kind (info_of dirs files kind))
  pub zero : AreBytesOf s.cells dirs files (Link kind 0)
  pub freed : (table_in s.cells kind (info_of dirs files kind)).link 0 ≢ 0
      → AreBytesOf s.cells dirs files (Link kind ((table_in s.cells kind (info_of dirs files kind)).link 0))
  pub head : AreBytesOf s.cells dirs files (Head kind (bucket_number parent name (info_of dirs files kind).buckets))
  pub first : AreBytesOf s.cells dirs files (First kind parent)

-- and no cell of that entry is spoilt
pub record HasAdditionBytes (s : State) (dirs files : TableInfo) (kind : EntryKind) (parent : ℕ) (name : List ℕ)
    : Type 0 where
  pub words : HasAdditionWords s dirs files kind parent name
  pub entry : (j : ℕ) → j < entry_size kind → IsUnspoilt (s.cells (entry_place kind (info_of dirs files kind)
      (taken_entry (table_in s.cells kind (info_of dirs files kind))) + j))

-- the counts of a table and its first freed entry
pub record AreCountsOf (t : Table) (counts : Counts) (freed : ℕ) : Type 0 where
  pub count : counts.count ≡ t.count
  pub most : counts.most ≡ t.most
  pub first : freed ≡ t.link 0

-- the entry that there is to take, and the word by which it is taken
pub record IsTaking (s : State) (dirs files : TableInfo) (kind : EntryKind) (taken : Taken) : Type 0 where
  pub entry : taken.entry ≡ taken_entry (table_in s.cells kind (info_of dirs files kind))
  pub last : taken.last ≡ taken_edit kind (table_in s.cells kind (info_of dirs files kind))
  pub has : HasEntry (table_in s.cells kind (info_of dirs files kind)) taken.entry
  pub room : HasRoom (table_in s.cells kind (info_of dirs files kind))
  pub freed : (table_in s.cells kind (info_of dirs files kind)).link 0 ≢ 0
      → AreBytesOf s.cells dirs files (Link kind ((table_in s.cells kind (info_of dirs files kind)).link 0))

-- where the new entry is written, what it names, and the words that are put behind it
pub record IsAdditionPlan (s : State) (dirs files : TableInfo) (kind : EntryKind) (parent : ℕ) (name : List ℕ)
    (plan : Addition) : Type 0 where
  pub entry : plan.place.entry ≡ taken_entry (table_in s.cells kind (info_of dirs files kind))
  pub has : HasEntry (table_in s.cells kind (info_of dirs files kind)) plan.place.entry
  pub sibling : plan.place.sibling ≡ (tables_in s.cells dirs files).first kind parent
  pub link : plan.place.link
      ≡ (table_in s.cells kind (info_of dirs files kind)).head
      (bucket_number parent name (info_of dirs files kind).buckets)
  pub edits : plan.edits ≡ addition_edits (tables_in s.cells dirs files) kind parent name
  pub can : CanSetAll s dirs files plan.edits

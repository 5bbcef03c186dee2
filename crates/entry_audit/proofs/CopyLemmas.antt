-- Entries that were copied, and the bytes that tables need.
use Rattle.std.proofs.Common.{◌≡◌, ℕ, ◌+◌, ◌*◌, ◌-◌, ◌<◌, ◌≤◌, Bool, false, IsTrue, List, [], ◌∷◌, ◌++◌, length, get_or}
use Rattle.std.proofs.Common.{Option, Some, None, inl, inr, refl, sym, ◌∙◌, ap, subst, arith, length-append, append-nil}
use Rattle.std.specs.List.{Contains}
use Rattle.std.proofs.lemmas.Bool.{cases_lt, false≢true}
use Rattle.std.proofs.lemmas.List.{get_or_append_left, get_or_push}
use Rattle.std.proofs.lemmas.List.Elements.{All-contains}
use Rattle.save_bytes.specs.Cells.{Cell, IsByte}
use Rattle.save_bytes.specs.State.{State}
use Rattle.save_bytes.specs.Stays.{Stays}
use Rattle.entry_tables.specs.declared.table.EntryKind.{EntryKind}
use Rattle.entry_tables.specs.declared.table.TableInfo.{TableInfo}
use Rattle.entry_tables.specs.Kinds.{entry_size, link_offset}
use Rattle.entry_tables.specs.Tables.{Table, table_in, most_in, entry_place}
use Rattle.entry_tables.specs.Used.{freed_entries, used_entries}
use Rattle.entry_tables.specs.Rules.{CanBeFreed, HasFreedList}
use Rattle.entry_tables.specs.Layout.{LiesWithin, HasEntryTable, TellsEntryTable, IsNeeded, OfZero, OfBucket, OfUsed}
use Rattle.entry_tables.specs.Layout.{OfFreed}
use Rattle.entry_tables.proofs.StayLemmas.{entry_fits}
use Rattle.entry_tables.proofs.EntryLemmas.{link_last}
use Rattle.entry_tables.proofs.LinkLemmas.{whole_front}
use Rattle.entry_audit.specs.declared.table.ReadEntry.{ReadEntry}
use Rattle.entry_audit.specs.declared.table.ReadTable.{ReadTable}
use Rattle.entry_audit.specs.Reading.{IsTold, IsCopied, IsCopiedWhere, IsCopiedOf, AreCopied, AreMarked, AreHeads}
use Rattle.entry_audit.specs.Reading.{HasFreedBytes, IsTableCopied}
use Rattle.entry_audit.proofs.StayLemmas.{told_later, same_table}

-- two lists of the freed entries are the same
pub freed_same : (t : Table) (one other : List ℕ) → freed_entries t one → freed_entries t other → other ≡ one
freed_same t one other is is_too =
    whole_front t.link (t.link 0) one other is is_too ∙ append-nil one

-- what is not marked is used, and nothing else is
module _ (kind : EntryKind) (t : Table) (marks : List Bool) (all : AreMarked kind t marks) (e : ℕ) (below : e <
    t.count) where
  pub unmarked_used : 1 ≤ e → get_or marks e false ≡ false → used_entries t e
  unmarked_used some unmarked = record {
    some = some;
    below = below;
    kept = λ list freed within. false≢true (sym unmarked ∙ (all.marked e below).1
        (subst (λ (l : List ℕ). Contains l e) (freed_same t all.freed.0 list all.freed.1.leads freed) within));
  }

  pub marked_unused : (1 ≤ e → IsTrue (get_or marks e false)) → ¬ used_entries t e
  marked_unused marked used =
      used.kept all.freed.0 all.freed.1.leads ((all.marked e below).0 (marked used.some))

  pub copied_of : (info : TableInfo) (cells : ℕ → Cell) (wanted : Bool) (read : Option ReadEntry)
      → t ≡ table_in cells kind info → (IsTrue wanted → 1 ≤ e) → (IsTrue wanted → get_or marks e false ≡ false)
      → (wanted ≡ false → 1 ≤ e → IsTrue (get_or marks e false)) → IsCopiedWhere kind info cells e wanted read
      → IsCopiedOf kind info cells e read
  copied_of info cells wanted None is some unmarked marked not_wanted =
      subst (λ (t : Table). ¬ used_entries t e) is (marked_unused (marked not_wanted))
  copied_of info cells wanted (Some read) is some unmarked marked copied = (
    subst (λ (t : Table). used_entries t e) is (unmarked_used (some copied.0) (unmarked copied.0)),
    copied.1,
  )

-- one entry more was read
pub copied_push : (kind : EntryKind) (info : TableInfo) (cells : ℕ → Cell) (entries : List (Option ReadEntry))
    (read : Option ReadEntry) → ((e : ℕ) → e < length entries → IsCopiedOf kind info cells e (get_or entries e None))
    → IsCopiedOf kind info cells (length entries) read
    → (e : ℕ) → e < length (entries ++ read ∷ []) → IsCopiedOf kind info cells e (get_or (entries ++ read ∷ []) e None)
copied_push kind info cells entries read each last e below = elim (cases_lt e (length entries)) [
  | inl before ↦ subst (IsCopiedOf kind info cells e) (sym (get_or_append_left entries (read ∷ []) None e before))
      (each e before)
  | inr behind ↦
      (let there : e ≡ length entries = omega (arith, below, behind, length-append entries (read ∷ [])) in
      rw (there, get_or_push entries read None (length entries) refl) last)
]

module _ (old mid : State) (stays : Stays old mid None) (kind : EntryKind) (info : TableInfo)
    (table : HasEntryTable old.shape kind info) (count : ℕ) (told : IsTold old kind info count) where
  -- an entry that was read later was the same before
  copied_before : (e : ℕ) (read : ReadEntry) → e < (table_in old.cells kind info).count
      → IsCopied kind info mid.cells e read → IsCopied kind info old.cells e read
  copied_before e read below copied =
      let here : e < most_in old.cells info = omega (arith, below, told.tells.most told.known) in
      let inside = entry_fits old mid stays kind info table told.tells told.known e here in
      record {
        bytes = copied.bytes;
        long = copied.long;
        are = λ k h. sym (stays.cells told.tells.told (entry_place kind info e + 0 + k)
            (omega (arith, inside, h, copied.long))) ∙ copied.are k h;
        fields = copied.fields;
      }

  where_before : (e : ℕ) (wanted : Bool) (read : Option ReadEntry) → e < (table_in old.cells kind info).count
      → IsCopiedWhere kind info mid.cells e wanted read → IsCopiedWhere kind info old.cells e wanted read
  where_before e wanted None below copied = copied
  where_before e wanted (Some read) below copied = (copied.0, copied_before e read below copied.1)

  pub copied_later : (e : ℕ) (wanted : Bool) (read : Option ReadEntry) → e < (table_in old.cells kind info).count
      → (TellsEntryTable mid kind info → e < most_in mid.cells info → IsCopiedWhere kind info mid.cells e wanted read)
      → IsCopiedWhere kind info old.cells e wanted read
  copied_later e wanted read below later =
      let here : e < most_in old.cells info = omega (arith, below, told.tells.most told.known) in
      where_before e wanted read below
      (later (told_later old mid stays kind info table count told).tells
      (subst (λ (t : Table). e < t.most) (sym (same_table old mid stays kind info table count told)) here))

  -- so are all of them
  of_before : (e : ℕ) (read : Option ReadEntry) → IsCopiedOf kind info mid.cells e read
      → IsCopiedOf kind info old.cells e read
  of_before e None is =
      subst (λ (t : Table). ¬ used_entries t e) (same_table old mid stays kind info table count told) is
  of_before e (Some read) is =
      let used = subst (λ (t : Table). used_entries t e) (same_table old mid stays kind info table count told) is.0 in
      (used, copied_before e read used.below is.1)

  pub entries_later : (marks : List Bool) (entries : List (Option ReadEntry))
      → AreMarked kind (table_in old.cells kind info) marks
      → (IsTold mid kind info count → AreMarked kind (table_in mid.cells kind info) marks
      → AreCopied kind info mid.cells entries) → AreCopied kind info old.cells entries
  entries_later marks entries marked later =
      let same = same_table old mid stays kind info table count told in
      let copied = later (told_later old mid stays kind info table count told)
      (subst (λ (t : Table). AreMarked kind t marks) (sym same) marked) in
      record {
        many = copied.many ∙ ap (λ (t : Table). t.count) same;
        each = λ e below. of_before e (get_or entries e None) (copied.each e below);
      }

  -- and the marks
  pub marked_later : (marks : List Bool)
      → (IsTold mid kind info count → AreMarked kind (table_in mid.cells kind info) marks)
      → AreMarked kind (table_in old.cells kind info) marks
  marked_later marks later =
      subst (λ (t : Table). AreMarked kind t marks) (same_table old mid stays kind info table count told)
      (later (told_later old mid stays kind info table count told))

  pub marked_still : (marks : List Bool) → AreMarked kind (table_in old.cells kind info) marks
      → AreMarked kind (table_in mid.cells kind info) marks
  marked_still marks marked =
      subst (λ (t : Table). AreMarked kind t marks) (sym (same_table old mid stays kind info table count told)) marked

  -- and the bytes of entry 0 and of the freed ones
  pub zero_later : ((k : ℕ) → k < entry_size kind → IsByte (mid.cells (info.table_at + k)))
      → (k : ℕ) → k < entry_size kind → IsByte (old.cells (info.table_at + k))
  zero_later later k h =
      subst IsByte (stays.cells told.tells.told (info.table_at + k) (omega (arith, h, table.zero))) (later k h)

  pub freed_later : HasFreedList kind (table_in old.cells kind info)
      → (IsTold mid kind info count → HasFreedBytes kind info mid.cells) → HasFreedBytes kind info old.cells
  freed_later whole later list e freed contained k h =
      let same = same_table old mid stays kind info table count told in
      let can = All-contains (CanBeFreed kind (table_in old.cells kind info)) whole.0 e whole.1.inside
      (subst (λ (l : List ℕ). Contains l e)
      (freed_same (table_in old.cells kind info) whole.0 list whole.1.leads freed) contained) in
      let here : e < most_in old.cells info = omega (arith, can.1, told.tells.most told.known) in
      let inside = entry_fits old mid stays kind info table told.tells told.known e here in
      subst IsByte
      (stays.cells told.tells.told (entry_place kind info e + link_offset kind + k) (omega (
        arith,
        inside,
        h,
        link_last kind,
      )))
      (later (told_later old mid stays kind info table count told) list e
      (subst (λ (t : Table). freed_entries t list) (sym same) freed) contained k h)

  -- and a whole table
  needed_inside : (x : ℕ) → HasFreedList kind (table_in old.cells kind info)
      → IsNeeded kind info (table_in old.cells kind info) x → x < old.shape.size
  needed_inside x whole (OfZero within) = omega (arith, within.before, table.zero)
  needed_inside x whole (OfBucket bucket below within) = omega (arith, within.before, below, table.buckets)
  needed_inside x whole (OfUsed e used within) =
      let here : e < most_in old.cells info = omega (arith, used.below, told.tells.most told.known) in
      omega (arith, within.before, entry_fits old mid stays kind info table told.tells told.known e here)
  needed_inside x whole (OfFreed e list freed contained within) =
      let can = All-contains (CanBeFreed kind (table_in old.cells kind info)) whole.0 e whole.1.inside
      (subst (λ (l : List ℕ). Contains l e)
      (freed_same (table_in old.cells kind info) whole.0 list whole.1.leads freed) contained) in
      let here : e < most_in old.cells info = omega (arith, can.1, told.tells.most told.known) in
      omega (
        arith,
        within.before,
        link_last kind,
        entry_fits old mid stays kind info table told.tells told.known e
            here,
      )

  pub table_later : (read : ReadTable) → (IsTold mid kind info count → IsTableCopied kind info mid.cells read)
      → IsTableCopied kind info old.cells read
  table_later read later =
      let same = same_table old mid stays kind info table count told in
      let copied = later (told_later old mid stays kind info table count told) in
      let freed = subst (HasFreedList kind) same copied.freed in
      record {
        freed = freed;
        entries = record {
          many = copied.entries.many ∙ ap (λ (t : Table). t.count) same;
          each = λ e below. of_before e (get_or read.entries.items e None) (copied.entries.each e below);
        };
        heads = subst (λ (t : Table). AreHeads t read.heads.items) same copied.heads;
        bytes = λ x needed. subst IsByte (stays.cells told.tells.told x (needed_inside x freed needed))
            (copied.bytes x (subst (λ (t : Table). IsNeeded kind info t x) (sym same) needed));
      }

-- the needed bytes, where those of entry 0, the buckets, the freed entries and the used ones are there
module _ (cells : ℕ → Cell) (kind : EntryKind) (info : TableInfo)
    (zero_bytes : (k : ℕ) → k < entry_size kind → IsByte (cells (info.table_at + k)))
    (head_bytes : (k : ℕ) → k < 4 * info.buckets → IsByte (cells (info.buckets_at + k)))
    (freed_bytes : HasFreedBytes kind info cells) (entries : List (Option ReadEntry))
    (copied : AreCopied kind info cells entries) where
  byte_from : (at x : ℕ) → at ≤ x → IsByte (cells (at + (x - at))) → IsByte (cells x)
  byte_from at x from byte = subst (λ (n : ℕ). IsByte (cells n)) (omega (arith, from)) byte

  used_byte : (e x : ℕ) (read : Option ReadEntry) → IsCopiedOf kind info cells e read
      → used_entries (table_in cells kind info) e → LiesWithin (entry_place kind info e) (entry_size kind) x
      → IsByte (cells x)
  used_byte e x None is used within = absurd (is used)
  used_byte e x (Some read) is used within =
      let k = x - (entry_place kind info e + 0) in
      byte_from (entry_place kind info e + 0) x (omega (arith, within.from))
      (subst IsByte (sym (is.1.are k (omega (arith, is.1.long, within.from, within.before)))) tt)

  pub needed_bytes : (x : ℕ) → IsNeeded kind info (table_in cells kind info) x → IsByte (cells x)
  needed_bytes x (OfZero within) =
      byte_from info.table_at x within.from (zero_bytes (x - info.table_at) (omega (arith, within.from, within.before)))
  needed_bytes x (OfBucket bucket below within) =
      byte_from info.buckets_at x (omega (arith, within.from))
      (head_bytes (x - info.buckets_at) (omega (arith, within.from, within.before, below)))
  needed_bytes x (OfUsed e used within) =
      used_byte e x (get_or entries e None) (copied.each e (omega (arith, used.below, copied.many))) used within
  needed_bytes x (OfFreed e list freed contained within) =
      byte_from (entry_place kind info e + link_offset kind) x within.from
      (freed_bytes list e freed contained (x - (entry_place kind info e + link_offset kind))
      (omega (arith, within.from, within.before)))

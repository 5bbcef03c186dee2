-- Why a call that follows a path is refused, and what an earlier call leaves of it.
use Rattle.std.proofs.Common.{◌≡◌, ℕ, ◌<◌, List, Option, Some, None, Result, Ok, Err, sym, ◌∙◌}
use Rattle.std.proofs.Common.{subst, arith}
use Rattle.std.specs.Borrow.{MutBor}
use Rattle.std.specs.List.{Contains}
use Rattle.std.proofs.lemmas.List.{append-nil}
use Rattle.std.proofs.lemmas.List.Elements.{All-contains}
use Rattle.save_bytes.specs.Cells.{Cell, Blames}
use Rattle.save_bytes.specs.State.{State}
use Rattle.save_bytes.specs.Refusals.{IfDamaged}
use Rattle.save_bytes.specs.Spots.{Spot}
use Rattle.save_bytes.specs.Stays.{Stays}
use Rattle.save_bytes.specs.Reads.{Reads}
use Rattle.save_bytes.proofs.SpaceLemmas.{IfDamaged-map}
use Rattle.entry_tables.specs.declared.table.EntryKind.{EntryKind}
use Rattle.entry_tables.specs.declared.table.EntryKind.TheVariants.{Dir}
use Rattle.entry_tables.specs.declared.table.TableInfo.{TableInfo}
use Rattle.entry_tables.specs.declared.table.EntryFault.{EntryFault}
use Rattle.entry_tables.specs.declared.table.EntryFault.TheVariants as fault
use Rattle.entry_tables.specs.Kinds.{bucket_table}
use Rattle.entry_tables.specs.Hash.{bucket_number}
use Rattle.entry_tables.specs.Tables.{Table, Tables, table_in, tables_in, info_of}
use Rattle.entry_tables.specs.Rules.{CanBeFreed, HasFreedList, HasBucketLists, IsOrderly}
use Rattle.entry_tables.specs.Fails.{IsBrokenBucket}
use Rattle.entry_tables.specs.Layout.{HasEntryTables, TellsEntryTable, IsNeeded, OfZero, OfBucket, OfUsed, OfFreed}
use Rattle.entry_tables.specs.Layout.{BlamesNeeded, BlamesTable}
use Rattle.entry_tables.specs.Causes.{bad_of, HasEntryCause}
use Rattle.entry_tables.proofs.EntryLemmas.{link_last}
use Rattle.entry_tables.proofs.LinkLemmas.{whole_front}
use Rattle.entry_tables.proofs.StayLemmas.{known_later, tells_later, table_stays, table_blamed}
use Rattle.entry_tables.proofs.CauseLemmas.{IfRuleBroken-map, plain_stays}
use Rattle.entry_audit.specs.Reading.{HasNeededBytes}
use Rattle.entry_changes.specs.Bytes.{OkOrDisk}
use Rattle.entry_changes.proofs.WayLemmas.{byte_blames}
use Rattle.name_buckets.specs.declared.view.Entries.{Entries}
use Rattle.name_buckets.specs.Held.{IsEntriesIn}
use Rattle.tree_paths.specs.Standings.{IsChildFound}
use Rattle.tree_paths.specs.Causes.{TellsTables, HaveLists, HasPathCause}

-- what holds of entries holds of the space and the places that they were made of
pub entries_same : {S : Type 0} (Q : S → TableInfo → TableInfo → Type 0) (entries : Entries S) (space : MutBor S)
    (dirs files : TableInfo) → IsEntriesIn entries space dirs files
    → Q entries.space.now entries.dirs entries.files → Q space.now dirs files
entries_same {S} Q entries space dirs files is h =
    subst (λ (info : TableInfo). Q space.now dirs info) is.same_files
    (subst (λ (info : TableInfo). Q space.now info entries.files) is.same_dirs
    (subst (λ (s : S). Q s entries.dirs entries.files) is.space_now h))

-- the refusal of a space that a fault passes on, whatever the answer would have been
pub reads_passed : (A B : Type 0) {S : Type 0} {states : S → State} {keeps : Spot → S → S → Type 0}
    {lands : S → ℕ → Spot → Type 0} {s t : S} (its : EntryFault)
    → Reads states keeps lands s t (bad_of {A = A} (Err its)) → Reads states keeps lands s t (bad_of {A = B} (Err its))
reads_passed A B (fault.Bad bad) h = h
reads_passed A B (fault.Broken table entry) h = h
reads_passed A B (fault.NoEntry most) h = h

-- orderly tables have their lists
pub lists_of : (t : Tables) → IsOrderly t → HaveLists t
lists_of t orderly = record { freed = orderly.freed; buckets = orderly.buckets }

module _ {A : Type 0} (s : State) (dirs files : TableInfo) where
  -- why an entry was not found
  pub path_cause : (kind : EntryKind) (parent : ℕ) (name : List ℕ) (result : Result A EntryFault)
      → HasEntryCause s kind (info_of dirs files kind)
      (HasBucketLists kind (table_in s.cells kind (info_of dirs files kind)))
      (λ table entry. (table ≡ bucket_table kind)
      × (entry ≡ bucket_number parent name (table_in s.cells kind (info_of dirs files kind)).buckets)
      × IsBrokenBucket kind (table_in s.cells kind (info_of dirs files kind)) entry) result
      → (TellsEntryTable s kind (info_of dirs files kind)
      → IfDamaged (bad_of result) (BlamesTable kind (info_of dirs files kind) s.cells))
      → HasPathCause s dirs files result
  path_cause kind parent name result cause blamed = record {
    damaged = λ tells. IfDamaged-map (bad_of result) (λ part level block h. (kind, h)) (blamed (tells.tells kind));
    needed = λ tells lists. IfDamaged-map (bad_of result) (λ part level block h. (kind, h))
        (cause.damaged (tells.tells kind) (lists.buckets kind));
    plain = cause.plain;
    broken = λ tells. IfRuleBroken-map result (λ table entry h. (kind, h.0, h.2)) (cause.broken (tells.tells kind));
    never_full = cause.never_full;
  }

  -- where all is as it should be, only the disk can fail
  pub path_exact : (result : Result A EntryFault) → TellsTables s dirs files → IsOrderly (tables_in s.cells dirs files)
      → HasNeededBytes dirs files s.cells → HasPathCause s dirs files result → OkOrDisk result
  path_exact (Ok value) tells orderly bytes cause = tt
  path_exact (Err (fault.Bad bad)) tells orderly bytes cause =
      IfDamaged-map (Some bad)
      (λ part level block h. byte_blames (s.cells h.1.place) part level block (bytes h.0 h.1.place h.1.needed)
      h.1.blames)
      (cause.needed tells (lists_of (tables_in s.cells dirs files) orderly))
  path_exact (Err (fault.Broken table entry)) tells orderly bytes cause =
      let h = cause.broken tells in
      let list = orderly.buckets h.0 entry h.2.below in
      h.2.none list.0 list.1
  path_exact (Err (fault.NoEntry most)) tells orderly bytes cause = cause.never_full

  pub dir_exact : (Used : Type 0) (result : Result A EntryFault) → TellsTables s dirs files → Used
      → HasNeededBytes dirs files s.cells → HasEntryCause s Dir dirs Used (λ table entry. ⊥) result → OkOrDisk result
  dir_exact Used (Ok value) tells used bytes cause = tt
  dir_exact Used (Err (fault.Bad bad)) tells used bytes cause =
      IfDamaged-map (Some bad)
      (λ part level block h. byte_blames (s.cells h.place) part level block (bytes Dir h.place h.needed) h.blames)
      (cause.damaged (tells.tells Dir) used)
  dir_exact Used (Err (fault.Broken table entry)) tells used bytes cause = cause.broken (tells.tells Dir)
  dir_exact Used (Err (fault.NoEntry most)) tells used bytes cause = cause.never_full

-- a fault is passed on with its cause
cause_passed : {A B : Type 0} (s : State) (dirs files : TableInfo) (its : EntryFault)
    → HasPathCause {A = A} s dirs files (Err its) → HasPathCause {A = B} s dirs files (Err its)
cause_passed s dirs files (fault.Bad bad) h =
    record { damaged = h.damaged; needed = h.needed; plain = h.plain; broken = λ tells. tt; never_full = tt }
cause_passed s dirs files (fault.Broken table entry) h = record {
  damaged = λ tells. tt;
  needed = λ tells lists. tt;
  plain = λ plain. tt;
  broken = h.broken;
  never_full = tt;
}
cause_passed s dirs files (fault.NoEntry most) h = absurd h.never_full

-- from one state to a later one, past a call that only read
module _ (s u : State) (stays : Stays s u None) (dirs files : TableInfo)
    (tables : HasEntryTables s.shape dirs files) where
  module _ (tells : TellsTables s dirs files) where
    pub tells_then : TellsTables u dirs files
    tells_then = record {
      tells = λ kind. tells_later s u stays kind (info_of dirs files kind) (tables kind) (tells.tells kind);
      known = λ kind. known_later s u stays kind (info_of dirs files kind) (tables kind) (tells.tells kind).told
          (tells.known kind);
    }

    pub table_then : (kind : EntryKind)
        → table_in u.cells kind (info_of dirs files kind) ≡ table_in s.cells kind (info_of dirs files kind)
    table_then kind =
        table_stays s u stays kind (info_of dirs files kind) (tables kind) (tells.tells kind) (tells.known kind)

    pub lists_then : HaveLists (tables_in s.cells dirs files) → HaveLists (tables_in u.cells dirs files)
    lists_then lists = record {
      freed = λ kind. subst (HasFreedList kind) (sym (table_then kind)) (lists.freed kind);
      buckets = λ kind. subst (HasBucketLists kind) (sym (table_then kind)) (lists.buckets kind);
    }

    -- what was found later was there before
    pub found_before : (kind : EntryKind) (dir : Option ℕ) (name : List ℕ) (found : Option ℕ)
        → HaveLists (tables_in s.cells dirs files)
        → (TellsTables u dirs files → HaveLists (tables_in u.cells dirs files)
        → IsChildFound kind ((tables_in u.cells dirs files).table kind) dir name found)
        → IsChildFound kind ((tables_in s.cells dirs files).table kind) dir name found
    found_before kind dir name found lists h =
        subst (λ (t : Table). IsChildFound kind t dir name found) (table_then kind) (h tells_then (lists_then lists))

    -- a needed place lies in the space
    needed_inside : (kind : EntryKind) (x : ℕ) → HasFreedList kind (table_in s.cells kind (info_of dirs files kind))
        → IsNeeded kind (info_of dirs files kind) (table_in s.cells kind (info_of dirs files kind)) x
        → x < s.shape.size
    needed_inside kind x freed (OfZero within) = omega (arith, within.before, (tables kind).zero)
    needed_inside kind x freed (OfBucket bucket below within) =
        omega (arith, within.before, below, (tables kind).buckets)
    needed_inside kind x freed (OfUsed e used within) =
        let fits = (tells.tells kind).entries (tells.known kind) e
        (omega (arith, used.below, (tells.tells kind).most (tells.known kind))) in
        omega (arith, within.before, fits)
    needed_inside kind x freed (OfFreed e list leads within inside) =
        let t = table_in s.cells kind (info_of dirs files kind) in
        let same : freed.0 ≡ list = whole_front t.link (t.link 0) list freed.0 leads freed.1.leads ∙ append-nil list in
        let can = All-contains (CanBeFreed kind t) freed.0 e freed.1.inside
        (subst (λ (l : List ℕ). Contains l e) (sym same) within) in
        let fits = (tells.tells kind).entries (tells.known kind) e
        (omega (arith, can.1, (tells.tells kind).most (tells.known kind))) in
        omega (arith, inside.before, fits, link_last kind)

    needed_before : (kind : EntryKind) (part level block : ℕ)
        → HasFreedList kind (table_in s.cells kind (info_of dirs files kind))
        → BlamesNeeded kind (info_of dirs files kind) u.cells part level block
        → BlamesNeeded kind (info_of dirs files kind) s.cells part level block
    needed_before kind part level block freed h =
        let needed = subst (λ (t : Table). IsNeeded kind (info_of dirs files kind) t h.place) (table_then kind)
        h.needed in
        record {
          place = h.place;
          needed = needed;
          blames = subst (λ (cell : Cell). Blames cell part level block)
              (stays.cells (tells.tells kind).told h.place (needed_inside kind h.place freed needed)) h.blames;
        }

  -- a later refusal has its cause from the first on
  later_cause : {A : Type 0} (result : Result A EntryFault) → HasPathCause u dirs files result
      → HasPathCause s dirs files result
  later_cause result h = record {
    damaged = λ tells. IfDamaged-map (bad_of result)
        (λ part level block blames. (
          blames.0,
          table_blamed s u stays blames.0 (info_of dirs files blames.0) (tables blames.0) (tells.tells blames.0)
              (tells.known blames.0) part level block blames.1,
        ))
        (h.damaged (tells_then tells));
    needed = λ tells lists. IfDamaged-map (bad_of result)
        (λ part level block blames. (
          blames.0,
          needed_before tells blames.0 part level block (lists.freed blames.0) blames.1,
        ))
        (h.needed (tells_then tells) (lists_then tells lists));
    plain = λ plain. h.plain (plain_stays s.shape u.shape stays.space.shape plain);
    broken = λ tells. IfRuleBroken-map result
        (λ table entry fails. (
          fails.0,
          fails.1,
          subst (λ (t : Table). IsBrokenBucket fails.0 t entry) (table_then tells fails.0) fails.2,
        ))
        (h.broken (tells_then tells));
    never_full = h.never_full;
  }

  pub cause_before : {A B : Type 0} (its : EntryFault) → HasPathCause {A = A} u dirs files (Err its)
      → HasPathCause {A = B} s dirs files (Err its)
  cause_before its h = cause_passed s dirs files its (later_cause (Err its) h)

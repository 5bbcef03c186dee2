-- What the calls on entries answer.
use Rattle.std.specs.Prelude.{◌≡◌, ℕ, ◌+◌, ◌-◌, ◌<◌, List, length, Option, Some, None, slice_index}
use Rattle.entry_tables.specs.declared.table.EntryKind.{EntryKind}
use Rattle.entry_tables.specs.Tables.{Table, Tables}
use Rattle.entry_tables.specs.Used.{named_entries}
use Rattle.entry_tables.specs.Rules.{IsFreedList, IsChildList}

-- the entry with this parent and name, the root left out
pub record IsEntryOf (kind : EntryKind) (t : Table) (parent : ℕ) (name : List ℕ) (e : ℕ) : Type 0 where
  pub entry : named_entries kind t e
  pub parent_is : t.parent e ≡ parent
  pub name_is : t.name e ≡ name

-- what was found is that entry, or there is none
abbrev pub IsFoundEntry : EntryKind → Table → ℕ → List ℕ → Option ℕ → Type 0
IsFoundEntry kind t parent name (Some e) = IsEntryOf kind t parent name e
IsFoundEntry kind t parent name None = (e : ℕ) → ¬ IsEntryOf kind t parent name e

-- so many entries can be added: those that were never used, and the freed ones
pub record IsRoom (kind : EntryKind) (t : Table) (n : ℕ) : Type 0 where
  pub freed : List ℕ
  pub list : IsFreedList kind t freed
  pub is : n ≡ t.most - t.count + length freed

-- the head of a directory's list, 0 where it is empty
abbrev pub IsFirstChild : Tables → EntryKind → ℕ → ℕ → Type 0
IsFirstChild t kind dir e = (list : List ℕ) → IsChildList t kind dir list → e ≡ slice_index list 0

-- the entry behind one in its directory's list, 0 behind the last
abbrev pub IsNextChild : Tables → EntryKind → ℕ → ℕ → Type 0
IsNextChild t kind entry e = (dir : ℕ) (list : List ℕ) (k : ℕ) → IsChildList t kind dir list → k < length list
    → slice_index list k ≡ entry → e ≡ slice_index list (k + 1)

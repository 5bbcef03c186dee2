-- Which entries there are: sets of numbers, by parent. No list of siblings or of a bucket is followed to find them.
use Rattle.std.specs.Prelude.{◌≡◌, ℕ, ◌<◌, ◌≤◌, List, [], ◌∷◌, ◌++◌, Contains, map, reverse}
use Rattle.entry_tables.specs.declared.table.EntryKind.{EntryKind}
use Rattle.entry_tables.specs.Kinds.{IsRoot}
use Rattle.entry_tables.specs.Tables.{Table, Tables}
use Rattle.entry_tables.specs.Links.{LeadsTo, LeadsToEnd}

-- the freed entries, in the order in which the last words name them, from entry 0 on
abbrev pub freed_entries : Table → List ℕ → Type 0
freed_entries t list = LeadsToEnd t.link (t.link 0) list

-- the numbers from 1 below the count that are not freed
pub record used_entries (t : Table) (e : ℕ) : Type 0 where
  pub some : 1 ≤ e
  pub below : e < t.count
  pub kept : (list : List ℕ) → freed_entries t list → ¬ Contains list e

-- the used entries other than the root
pub record named_entries (kind : EntryKind) (t : Table) (e : ℕ) : Type 0 where
  pub used : used_entries t e
  pub other : ¬ IsRoot kind e

-- the entries of a kind in a directory
pub record children_of (t : Tables) (kind : EntryKind) (dir e : ℕ) : Type 0 where
  pub entry : named_entries kind (t.table kind) e
  pub parent : (t.table kind).parent e ≡ dir

-- the path of a directory: the names from the root's children down to it, by parents
pub record dir_path (dirs : Table) (dir : ℕ) (path : List (List ℕ)) : Type 0 where
  pub rising : List ℕ
  pub leads : LeadsTo dirs.parent dir rising 1
  pub below_root : ¬ Contains rising 1
  pub names : path ≡ reverse (map dirs.name rising)

-- the path of an entry other than the root, in a table beside that of the directories: that of its parent, and its name
pub record path_of (dirs t : Table) (e : ℕ) (path : List (List ℕ)) : Type 0 where
  pub parents_path : List (List ℕ)
  pub parent : dir_path dirs (t.parent e) parents_path
  pub names : path ≡ parents_path ++ t.name e ∷ []

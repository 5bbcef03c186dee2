-- What stands at a path, and in a directory.
use Rattle.std.specs.Prelude.{◌≡◌, ◌≢◌, ℕ, ◌↔◌, List, [], Option, Some, None}
use Rattle.entry_tables.specs.declared.table.EntryKind.{EntryKind}
use Rattle.entry_tables.specs.Tables.{Table, Tables}
use Rattle.entry_tables.specs.Used.{children_of}
use Rattle.name_buckets.specs.Replies.{IsFoundEntry}
use Rattle.tree_model.specs.Trees.{Names}
use Rattle.tree_model.specs.Answers.{parent_of}
use Rattle.tree_rules.specs.Reading.{IsDirAt, IsFileAt}
use Rattle.tree_paths.specs.declared.descent.Standing.{Standing}

-- an entry is the one of which P holds, and without an entry there is none such
abbrev pub IsOnly : (ℕ → Type 0) → Option ℕ → Type 0
IsOnly P found = (e : ℕ) → (found ≡ Some e) ↔ P e

-- the directory above a path; there is none above the root
pub record IsParentAt (t : Tables) (path : Names) (e : ℕ) : Type 0 where
  pub below_root : path ≢ []
  pub dir : IsDirAt t (parent_of path) e

-- each entry that stands at a path is named, and no other
pub record IsStanding (t : Tables) (path : Names) (standing : Standing) : Type 0 where
  pub parent : IsOnly (IsParentAt t path) standing.parent
  pub dir : IsOnly (IsDirAt t path) standing.dir
  pub file : IsOnly (IsFileAt t path) standing.file

-- what was found of a name in a directory, if there is one
abbrev pub IsChildFound : EntryKind → Table → Option ℕ → List ℕ → Option ℕ → Type 0
IsChildFound kind t None name found = found ≡ None
IsChildFound kind t (Some dir) name found = IsFoundEntry kind t dir name found

-- an entry of either kind is in a directory
pub record HasChild (t : Tables) (dir : ℕ) : Type 0 where
  pub kind : EntryKind
  pub entry : ℕ
  pub child : children_of t kind dir entry

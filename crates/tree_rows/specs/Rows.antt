-- The rows of used entries, and their order by path.
use Rattle.std.specs.Prelude.{◌≡◌, ℕ, ◌<◌, Bool, true, false, List, Option, Some, None}
use Rattle.std.specs.List.{All, Contains}
use Rattle.std.specs.Global.{Vec}
use Rattle.std.specs.declared.cmp.Ordering.{Ordering}
use Rattle.std.specs.Ordering.{nat_cmp, bool_cmp, ordering_then}
use Rattle.std.specs.Cmp.Lexicographic.{slice_cmp}
use Rattle.std.specs.Map.{values_of}
use Rattle.entry_tables.specs.declared.table.EntryKind.{EntryKind}
use Rattle.entry_tables.specs.declared.table.EntryKind.TheVariants.{Dir, File}
use Rattle.entry_tables.specs.Tables.{Tables}
use Rattle.tree_model.specs.declared.kind.TreeKind.{TreeKind}
use Rattle.tree_model.specs.declared.kind.TreeKind.TheVariants.{Save, Vsxe}
use Rattle.tree_model.specs.declared.listing.Row.{Row}
use Rattle.tree_model.specs.declared.listing.Row.TheVariants as row
use Rattle.tree_model.specs.Trees.{Names}
use Rattle.tree_rules.specs.Reading.{IsDirAt, IsFileAt}

-- a used entry of a kind has this path
abbrev pub IsAt : Tables → EntryKind → Names → ℕ → Type 0
IsAt t Dir path e = IsDirAt t path e
IsAt t File path e = IsFileAt t path e

-- the row of a file with this size, or with this identifier
abbrev pub sized_row : TreeKind → Names → ℕ → Row
sized_row Save path wide = row.File path wide
sized_row Vsxe path wide = row.Link path wide

-- the row of an entry with this path
abbrev pub entry_row : TreeKind → Tables → EntryKind → Names → ℕ → Row
entry_row kind t Dir path e = row.Dir path
entry_row kind t File path e = sized_row kind path (t.wide e)

-- a path, and whether it is a file's
abbrev pub Key : Type 0
Key = Vec (List ℕ) × Bool

abbrev pub kind_at : Bool → EntryKind
kind_at false = Dir
kind_at true = File

-- by paths, a directory before a file of the same path
abbrev pub key_cmp : Key → Key → Ordering
key_cmp key other =
    ordering_then (slice_cmp (slice_cmp nat_cmp) key.0.items other.0.items) (bool_cmp key.1 other.1)

-- a key with the row of a used entry of its kind and path
pub record IsEntryRow (kind : TreeKind) (t : Tables) (pair : Key × Row) : Type 0 where
  pub entry : ℕ
  pub at : IsAt t (kind_at pair.0.1) pair.0.0.items entry
  pub row : pair.1 ≡ entry_row kind t (kind_at pair.0.1) pair.0.0.items entry

-- an entry's key and row, of its one path; none where it has no path
abbrev pub IsPairOf : TreeKind → Tables → EntryKind → ℕ → Option (Key × Row) → Type 0
IsPairOf kind t entries e None = (path : Names) → ¬ IsAt t entries path e
IsPairOf kind t entries e (Some pair) = IsAt t entries pair.0.0.items e × (kind_at pair.0.1 ≡ entries)
    × (pair.1 ≡ entry_row kind t entries pair.0.0.items e)

-- the rows of a kind's entries below a number came to others, and nothing else
pub record AddsRows (kind : TreeKind) (t : Tables) (entries : EntryKind) (below : ℕ)
    (old new : List (Key × Row)) : Type 0 where
  pub true_rows : All (IsEntryRow kind t) new
  pub kept : (given : Row) → Contains (values_of old) given → Contains (values_of new) given
  pub all : (e : ℕ) (path : Names) → e < below → IsAt t entries path e
      → Contains (values_of new) (entry_row kind t entries path e)

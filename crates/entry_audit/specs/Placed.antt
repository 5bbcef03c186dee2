-- The rule on parents, names and paths, in its parts.
use Rattle.std.specs.Prelude.{◌≡◌, ◌≢◌, ℕ, ◌≤◌, List, length, replicate, Contains}
use Rattle.entry_tables.specs.declared.table.EntryKind.{EntryKind}
use Rattle.entry_tables.specs.declared.table.EntryKind.TheVariants.{Dir}
use Rattle.entry_tables.specs.Kinds.{table_number}
use Rattle.entry_tables.specs.Tables.{Table, Tables}
use Rattle.entry_tables.specs.Fails.{IsMisplaced}
use Rattle.entry_tables.specs.Links.{LeadsTo}
use Rattle.entry_tables.specs.Used.{used_entries, named_entries}

-- an entry has a used directory as parent, and a name
pub record IsNamedWell (t : Tables) (kind : EntryKind) (e : ℕ) : Type 0 where
  pub parent : used_entries (t.table Dir) ((t.table kind).parent e)
  pub named : (t.table kind).name e ≢ replicate 16 0

-- each entry of a kind other than the root has a used directory as parent
abbrev pub HaveUsedParents : Tables → EntryKind → Type 0
HaveUsedParents t kind =
    (e : ℕ) → named_entries kind (t.table kind) e → used_entries (t.table Dir) ((t.table kind).parent e)

-- from a directory parents lead to the root, past at most 63 directories, itself included
pub record IsShallow (dirs : Table) (dir : ℕ) : Type 0 where
  pub rising : List ℕ
  pub leads : LeadsTo dirs.parent dir rising 1
  pub below_root : ¬ Contains rising 1
  pub few : length rising ≤ 63

-- the rule on parents, names and paths fails at an entry of a table
abbrev pub PlaceFailsAt : Tables → ℕ → ℕ → Type 0
PlaceFailsAt t table entry = (kind : EntryKind) × (table ≡ table_number kind) × IsMisplaced t kind entry

-- One entry of a bucket's list, looked at for a parent and a name.
use Rattle.std.specs.Prelude.{◌≡◌, ℕ, List, take, drop}
use Rattle.save_bytes.specs.Fields.{number_at}
use Rattle.entry_tables.specs.declared.table.EntryKind.{EntryKind}
use Rattle.name_buckets.specs.declared.find.Look.{Look}
use Rattle.name_buckets.specs.declared.find.Look.TheVariants.{Found, Other}
use Rattle.entry_tables.specs.Kinds.{IsRoot}
use Rattle.entry_tables.specs.Tables.{Table}

-- an entry's bytes have this parent and name
pub record HasKey (entry : List ℕ) (parent : ℕ) (name : List ℕ) : Type 0 where
  pub parent_is : number_at 4 entry 0 ≡ parent
  pub name_is : take 16 (drop 4 entry) ≡ name

-- it is no root, and has this parent and name
pub record Matches (kind : EntryKind) (t : Table) (parent : ℕ) (name : List ℕ) (e : ℕ) : Type 0 where
  pub other : ¬ IsRoot kind e
  pub parent_is : t.parent e ≡ parent
  pub name_is : t.name e ≡ name

-- it matches, or the list goes on
abbrev pub IsLook : EntryKind → Table → ℕ → List ℕ → ℕ → Look → Type 0
IsLook kind t parent name e Found = Matches kind t parent name e
IsLook kind t parent name e (Other next) = (¬ Matches kind t parent name e) × (next ≡ t.link e)

-- The rules of tables and buckets, on whole lists and sets.
use Rattle.std.specs.Prelude.{◌≡◌, ◌≢◌, ℕ, ◌<◌, ◌≤◌, List, length, replicate, All, Contains}
use Rattle.entry_tables.specs.declared.table.EntryKind.{EntryKind}
use Rattle.entry_tables.specs.declared.table.EntryKind.TheVariants.{Dir}
use Rattle.entry_tables.specs.Kinds.{least_freed, IsRoot}
use Rattle.entry_tables.specs.Hash.{bucket_number}
use Rattle.entry_tables.specs.Tables.{Table, Tables}
use Rattle.entry_tables.specs.Links.{LeadsToEnd}
use Rattle.entry_tables.specs.Used.{freed_entries, used_entries, named_entries, children_of, path_of}

-- a number that a freed entry can have
abbrev pub CanBeFreed : EntryKind → Table → ℕ → Type 0
CanBeFreed kind t e = (least_freed kind ≤ e) × (e < t.count)

-- the freed entries are numbers that freed entries can have; none stands twice, since the list ends
pub record IsFreedList (kind : EntryKind) (t : Table) (list : List ℕ) : Type 0 where
  pub leads : freed_entries t list
  pub inside : All (CanBeFreed kind t) list

abbrev pub HasFreedList : EntryKind → Table → Type 0
HasFreedList kind t = (list : List ℕ) × IsFreedList kind t list

-- an entry other than the root has a used directory as parent, a name, and a path of at most 64 names
pub record IsPlacedEntry (t : Tables) (kind : EntryKind) (e : ℕ) : Type 0 where
  pub parent : used_entries (t.table Dir) ((t.table kind).parent e)
  pub named : (t.table kind).name e ≢ replicate 16 0
  pub path : (names : List (List ℕ)) × path_of (t.table Dir) (t.table kind) e names × (length names ≤ 64)

-- a directory's list, through next siblings, has exactly its entries of a kind; each once, since the list ends
pub record IsChildList (t : Tables) (kind : EntryKind) (dir : ℕ) (list : List ℕ) : Type 0 where
  pub leads : LeadsToEnd (t.table kind).sibling (t.first kind dir) list
  pub children : (e : ℕ) → Contains list e → children_of t kind dir e
  pub all : (e : ℕ) → children_of t kind dir e → Contains list e

-- no two entries have one parent and name
abbrev pub HasApartNames : EntryKind → Table → Type 0
HasApartNames kind t = (e f : ℕ) → named_entries kind t e → named_entries kind t f → t.parent e ≡ t.parent f → t.name e ≡ t.name f → e ≡ f

-- the bucket of an entry
abbrev pub bucket_of : Table → ℕ → ℕ
bucket_of t e = bucket_number (t.parent e) (t.name e) t.buckets

-- an entry may stand in a bucket's list: it is used, and the bucket is its own; the root's is that of parent 0 and no name
pub record StandsIn (kind : EntryKind) (t : Table) (bucket e : ℕ) : Type 0 where
  pub used : used_entries t e
  pub own : ¬ IsRoot kind e → bucket_of t e ≡ bucket
  pub root : IsRoot kind e → bucket_number 0 (replicate 16 0) t.buckets ≡ bucket

-- a bucket's list has exactly the entries whose bucket it is, and perhaps the root; each once, since the list ends
pub record IsBucketList (kind : EntryKind) (t : Table) (bucket : ℕ) (list : List ℕ) : Type 0 where
  pub leads : LeadsToEnd t.link (t.head bucket) list
  pub entries : (e : ℕ) → Contains list e → StandsIn kind t bucket e
  pub all : (e : ℕ) → named_entries kind t e → bucket_of t e ≡ bucket → Contains list e

abbrev pub HasBucketLists : EntryKind → Table → Type 0
HasBucketLists kind t = (bucket : ℕ) → bucket < t.buckets → (list : List ℕ) × IsBucketList kind t bucket list

-- all rules of both tables and their buckets
pub record IsOrderly (t : Tables) : Type 0 where
  pub freed : (kind : EntryKind) → HasFreedList kind (t.table kind)
  pub placed : (kind : EntryKind) (e : ℕ) → named_entries kind (t.table kind) e → IsPlacedEntry t kind e
  pub listed : (kind : EntryKind) (dir : ℕ) → used_entries (t.table Dir) dir → (list : List ℕ) × IsChildList t kind dir list
  pub names_apart : (kind : EntryKind) → HasApartNames kind (t.table kind)
  pub buckets : (kind : EntryKind) → HasBucketLists kind (t.table kind)

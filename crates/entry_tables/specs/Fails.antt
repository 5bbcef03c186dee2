-- Where a rule of tables and buckets fails.
use Rattle.std.specs.Prelude.{◌≡◌, ◌≢◌, ℕ, ◌<◌, List, nat_eq, All, Contains}
use Rattle.std.specs.List.{IsDistinct}
use Rattle.entry_tables.specs.declared.table.EntryKind.{EntryKind}
use Rattle.entry_tables.specs.declared.table.EntryKind.TheVariants.{Dir}
use Rattle.entry_tables.specs.Kinds.{table_number, bucket_table}
use Rattle.entry_tables.specs.Tables.{Table, Tables}
use Rattle.entry_tables.specs.Links.{LeadsTo, last_of}
use Rattle.entry_tables.specs.Used.{used_entries, named_entries, children_of}
use Rattle.entry_tables.specs.Rules.{CanBeFreed, IsPlacedEntry, IsChildList, IsBucketList}

-- the list of freed entries begins with these, the last of them this one, each a number that a freed entry can have
pub record IsFreedFront (kind : EntryKind) (t : Table) (front : List ℕ) (e : ℕ) : Type 0 where
  pub leads : LeadsTo t.link (t.link 0) front (t.link e)
  pub last : last_of 0 front ≡ e
  pub inside : All (CanBeFreed kind t) front

-- The rule on freed entries fails at an entry, 0 included, to which their list leads, past none of them twice: its last
-- word names a number that no freed entry can have, or one that was named before. There is one such entry at most.
pub record NamesWrongly (kind : EntryKind) (t : Table) (e : ℕ) : Type 0 where
  pub front : List ℕ
  pub begins : IsFreedFront kind t front e
  pub once : IsDistinct nat_eq front
  pub named : t.link e ≢ 0
  pub wrong : CanBeFreed kind t (t.link e) → Contains front (t.link e)

-- the rule on parents, names and paths fails at a used entry other than the root
pub record IsMisplaced (t : Tables) (kind : EntryKind) (e : ℕ) : Type 0 where
  pub entry : named_entries kind (t.table kind) e
  pub wrong : ¬ IsPlacedEntry t kind e

-- the rule on directories' lists fails at a directory: for one kind no list is as said
pub record IsBrokenDirectory (t : Tables) (dir : ℕ) : Type 0 where
  pub used : used_entries (t.table Dir) dir
  pub kind : EntryKind
  pub none : (list : List ℕ) → ¬ IsChildList t kind dir list

-- a directory's list of a kind, followed through these entries, comes to this one; it need not end
abbrev pub IsListed : Tables → EntryKind → ℕ → List ℕ → ℕ → Type 0
IsListed t kind dir front e = (e ≢ 0) × LeadsTo (t.table kind).sibling (t.first kind dir) front e

-- The rule on directories' lists fails at a used entry: the list of its directory lacks it or has it twice, or a
-- directory's list has it that is not its own.
pub data IsMislisted (t : Tables) (kind : EntryKind) (e : ℕ) : Type 0 where
  Lacked : named_entries kind (t.table kind) e → used_entries (t.table Dir) ((t.table kind).parent e)
      → ((front : List ℕ) → ¬ IsListed t kind ((t.table kind).parent e) front e) → IsMislisted t kind e
  Twice : (dir : ℕ) → used_entries (t.table Dir) dir → children_of t kind dir e → (front : List ℕ)
      → IsListed t kind dir front e
      → Contains front e → IsMislisted t kind e
  Strange : (dir : ℕ) → used_entries (t.table Dir) dir → used_entries (t.table kind) e → ¬ children_of t kind dir e
      → (front : List ℕ) → IsListed t kind dir front e → IsMislisted t kind e

-- the rule on names fails at an entry: another one has its parent and name
pub record SharesName (kind : EntryKind) (t : Table) (e : ℕ) : Type 0 where
  pub entry : named_entries kind t e
  pub other : ℕ
  pub other_entry : named_entries kind t other
  pub apart : other ≢ e
  pub same_parent : t.parent other ≡ t.parent e
  pub same_name : t.name other ≡ t.name e

-- the rule on buckets fails at one of them: no list is as said
pub record IsBrokenBucket (kind : EntryKind) (t : Table) (bucket : ℕ) : Type 0 where
  pub below : bucket < t.buckets
  pub none : (list : List ℕ) → ¬ IsBucketList kind t bucket list

-- a rule of both tables and their buckets fails at an entry of a table, or at a bucket, by their numbers in a refusal
pub data RuleFailsAt (t : Tables) (table entry : ℕ) : Type 0 where
  OfFreed : (kind : EntryKind) → table ≡ table_number kind → NamesWrongly kind (t.table kind) entry
      → RuleFailsAt t table entry
  OfPlace : (kind : EntryKind) → table ≡ table_number kind → IsMisplaced t kind entry → RuleFailsAt t table entry
  OfDirectory : table ≡ table_number Dir → IsBrokenDirectory t entry → RuleFailsAt t table entry
  OfListed : (kind : EntryKind) → table ≡ table_number kind → IsMislisted t kind entry → RuleFailsAt t table entry
  OfNames : (kind : EntryKind) → table ≡ table_number kind → SharesName kind (t.table kind) entry
      → RuleFailsAt t table entry
  OfBucket : (kind : EntryKind) → table ≡ bucket_table kind → IsBrokenBucket kind (t.table kind) entry
      → RuleFailsAt t table entry

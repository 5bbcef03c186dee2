-- Entries as links of directories' and buckets' lists.
use Rattle.std.specs.Prelude.{◌≡◌, ℕ, IsTrue, Option, Some, None, List, length, slice_index, replicate}
use Rattle.entry_tables.specs.declared.table.EntryKind.{EntryKind}
use Rattle.entry_tables.specs.declared.table.EntryKind.TheVariants.{Dir}
use Rattle.entry_tables.specs.Kinds.{IsRoot}
use Rattle.entry_tables.specs.Hash.{bucket_number}
use Rattle.entry_tables.specs.Tables.{Table, Tables}
use Rattle.entry_tables.specs.Used.{used_entries, named_entries}
use Rattle.entry_tables.specs.Rules.{bucket_of}
use Rattle.entry_audit.specs.declared.owned.Link.{Link}
use Rattle.entry_audit.specs.Owned.{link_at}

-- where a directory's list of a kind begins; that of what is no used directory is empty
pub record IsChildHead (t : Tables) (kind : EntryKind) (dir head : ℕ) : Type 0 where
  pub used : used_entries (t.table Dir) dir → head ≡ t.first kind dir
  pub unused : ¬ used_entries (t.table Dir) dir → head ≡ 0

-- the lists of all directories begin at these
pub record AreChildHeads (t : Tables) (kind : EntryKind) (heads : List ℕ) : Type 0 where
  pub count : length heads ≡ (t.table Dir).count
  pub begin : (dir : ℕ) → IsChildHead t kind dir (slice_index heads dir)

-- an entry other than the root has to stand in its parent's list
pub record IsChildLinkOf (t : Tables) (kind : EntryKind) (e : ℕ) (link : Link) : Type 0 where
  pub entry : named_entries kind (t.table kind) e
  pub next : link.next ≡ (t.table kind).sibling e
  pub owner : link.owner ≡ (t.table kind).parent e
  pub must : IsTrue link.must

-- and no other stands in a directory's list
abbrev pub IsChildLink : Tables → EntryKind → ℕ → Option Link → Type 0
IsChildLink t kind e None = ¬ named_entries kind (t.table kind) e
IsChildLink t kind e (Some link) = IsChildLinkOf t kind e link

abbrev pub AreChildLinks : Tables → EntryKind → List (Option Link) → Type 0
AreChildLinks t kind links = (e : ℕ) → IsChildLink t kind e (link_at links e)

-- a used entry has to stand in its bucket's list; the root may stand in that of parent 0 and no name
pub record IsBucketLinkOf (kind : EntryKind) (t : Table) (e : ℕ) (link : Link) : Type 0 where
  pub used : used_entries t e
  pub next : link.next ≡ t.link e
  pub own : ¬ IsRoot kind e → (link.owner ≡ bucket_of t e) × IsTrue link.must
  pub root : IsRoot kind e → (link.owner ≡ bucket_number 0 (replicate 16 0) t.buckets) × (¬ IsTrue link.must)

-- and no other stands in a bucket's list
abbrev pub IsBucketLink : EntryKind → Table → ℕ → Option Link → Type 0
IsBucketLink kind t e None = ¬ used_entries t e
IsBucketLink kind t e (Some link) = IsBucketLinkOf kind t e link

abbrev pub AreBucketLinks : EntryKind → Table → List (Option Link) → Type 0
AreBucketLinks kind t links = (e : ℕ) → IsBucketLink kind t e (link_at links e)

-- Where tables and buckets must lie in a space, and which of its bytes they need.
use Rattle.std.specs.Prelude.{◌≡◌, ℕ, ◌+◌, ◌*◌, ◌<◌, ◌≤◌, IsTrue, List, Contains}
use Rattle.save_bytes.specs.Cells.{Cell, IsByte, Blames}
use Rattle.save_bytes.specs.State.{Shape, State}
use Rattle.entry_tables.specs.declared.table.EntryKind.{EntryKind}
use Rattle.entry_tables.specs.declared.table.TableInfo.{TableInfo}
use Rattle.entry_tables.specs.Kinds.{entry_size, link_offset, least_freed}
use Rattle.entry_tables.specs.Tables.{Table, table_in, entry_place, bucket_place, info_of}
use Rattle.entry_tables.specs.Used.{freed_entries, used_entries}

-- x is one of the n places from one on
pub record LiesWithin (at n x : ℕ) : Type 0 where
  pub from : at ≤ x
  pub before : x < at + n

-- the count and the most of a table can be read
abbrev pub HasCounts : (ℕ → Cell) → TableInfo → Type 0
HasCounts cells info = (k : ℕ) → k < 8 → IsByte (cells (info.table_at + k))

-- a table and its buckets lie in a sound space, of which each place may be written: the buckets, and of the entries entry 0
pub record HasEntryTable (shape : Shape) (kind : EntryKind) (info : TableInfo) : Type 0 where
  pub sound : IsTrue shape.sound
  pub first : shape.first ≡ 0
  pub some : 1 ≤ info.buckets
  pub buckets : info.buckets_at + 4 * info.buckets ≤ shape.size
  pub zero : info.table_at + entry_size kind ≤ shape.size

-- both tables do
abbrev pub HasEntryTables : Shape → TableInfo → TableInfo → Type 0
HasEntryTables shape dirs files = (kind : EntryKind) → HasEntryTable shape kind (info_of dirs files kind)

-- The cells are told, and where the entries of a table can be counted, all of them lie in the space.
pub record TellsEntryTable (s : State) (kind : EntryKind) (info : TableInfo) : Type 0 where
  pub told : IsTrue s.told
  pub entries : HasCounts s.cells info → (e : ℕ) → e < (table_in s.cells kind info).most
      → entry_place kind info e + entry_size kind ≤ s.shape.size
  pub least : HasCounts s.cells info → least_freed kind ≤ (table_in s.cells kind info).count
  pub most : HasCounts s.cells info → (table_in s.cells kind info).count ≤ (table_in s.cells kind info).most

-- the bytes that a table and its buckets need: entry 0, the buckets, each used entry, the last word of each freed one
pub data IsNeeded (kind : EntryKind) (info : TableInfo) (t : Table) (x : ℕ) : Type 0 where
  OfZero : LiesWithin info.table_at (entry_size kind) x → IsNeeded kind info t x
  OfBucket : (bucket : ℕ) → bucket < t.buckets → LiesWithin (bucket_place info bucket) 4 x → IsNeeded kind info t x
  OfUsed : (e : ℕ) → used_entries t e → LiesWithin (entry_place kind info e) (entry_size kind) x → IsNeeded kind info t x
  OfFreed : (e : ℕ) (list : List ℕ) → freed_entries t list → Contains list e
      → LiesWithin (entry_place kind info e + link_offset kind) 4 x → IsNeeded kind info t x

-- the entries whose last word is needed: entry 0, the used ones, and the freed ones
pub data HasLink (t : Table) (e : ℕ) : Type 0 where
  LinksFreed : e ≡ 0 → HasLink t e
  LinksBucket : used_entries t e → HasLink t e
  LinksNext : (list : List ℕ) → freed_entries t list → Contains list e → HasLink t e

-- a needed cell is no byte, and names this block
pub record BlamesNeeded (kind : EntryKind) (info : TableInfo) (cells : ℕ → Cell) (part level block : ℕ) : Type 0 where
  pub place : ℕ
  pub needed : IsNeeded kind info (table_in cells kind info) place
  pub blames : Blames (cells place) part level block

-- the places of a table and its buckets, needed or not: entry 0, the entries below the most, the buckets
pub data IsOfTable (kind : EntryKind) (info : TableInfo) (t : Table) (x : ℕ) : Type 0 where
  InZero : LiesWithin info.table_at (entry_size kind) x → IsOfTable kind info t x
  InEntry : (e : ℕ) → e < t.most → LiesWithin (entry_place kind info e) (entry_size kind) x → IsOfTable kind info t x
  InBucket : (bucket : ℕ) → bucket < t.buckets → LiesWithin (bucket_place info bucket) 4 x → IsOfTable kind info t x

-- a cell of a table or its buckets is no byte, and names this block
pub record BlamesTable (kind : EntryKind) (info : TableInfo) (cells : ℕ → Cell) (part level block : ℕ) : Type 0 where
  pub place : ℕ
  pub of_table : IsOfTable kind info (table_in cells kind info) place
  pub blames : Blames (cells place) part level block

-- a cell of entry 0, or of n places from one on, is no byte, and names this block
pub data IsReadAt (kind : EntryKind) (info : TableInfo) (at n x : ℕ) : Type 0 where
  AtZero : LiesWithin info.table_at (entry_size kind) x → IsReadAt kind info at n x
  AtPlace : LiesWithin at n x → IsReadAt kind info at n x

pub record BlamesRead (kind : EntryKind) (info : TableInfo) (from n : ℕ) (cells : ℕ → Cell) (part level block : ℕ) : Type 0 where
  pub place : ℕ
  pub read : IsReadAt kind info from n place
  pub blames : Blames (cells place) part level block

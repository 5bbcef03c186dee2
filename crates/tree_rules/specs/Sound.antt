-- What is known of where a filesystem lies once no condition fails. Sums are of whole numbers.
use Rattle.std.specs.Prelude.{◌≡◌, ℕ, ◌+◌, ◌*◌, ◌^◌, ◌<◌, ◌≤◌, false, Option, if◌then◌else◌}
use Rattle.save_bytes.specs.Extents.{some_overlap}
use Rattle.entry_tables.specs.declared.table.EntryKind.{EntryKind}
use Rattle.entry_tables.specs.declared.table.EntryKind.TheVariants.{Dir, File}
use Rattle.entry_tables.specs.Kinds.{entry_size, least_freed}
use Rattle.entry_tables.specs.Tables.{Table, Tables}
use Rattle.tree_model.specs.declared.kind.TreeKind.{TreeKind}
use Rattle.tree_rules.specs.declared.information.Information.{Information}
use Rattle.tree_rules.specs.Information.{header_len, information_len, has_second, front_len}
use Rattle.tree_rules.specs.declared.information.TableAt.{TableAt}
use Rattle.tree_rules.specs.declared.information.TableAt.TheVariants.{Plainly, InChain}
use Rattle.tree_rules.specs.declared.information.Places.{Places}
use Rattle.tree_rules.specs.Layout.{taken_extents}
use Rattle.tree_rules.specs.Places.{table_lies}
use Rattle.tree_rules.specs.Information.{fields_on}

-- n is one of the numbers from low to high
pub record LiesBetween (low high n : ℕ) : Type 0 where
  pub least : low ≤ n
  pub most : n ≤ high

-- a table's beginning is in place
abbrev pub IsTablePlace : ℕ → ℕ → EntryKind → TableAt → Type 0
IsTablePlace front count kind (Plainly at) = at + entry_size kind ≤ front
IsTablePlace front count kind (InChain first blocks) = (first < count) × LiesBetween 1 count blocks

-- the entries of a table have room
abbrev pub HasTableRoom : ℕ → ℕ → EntryKind → Table → TableAt → Type 0
HasTableRoom front block kind t (Plainly at) = at + t.most * entry_size kind ≤ front
HasTableRoom front block kind t (InChain first blocks) = t.most * entry_size kind ≤ blocks * block

-- the least and the most entries that a table may have room for
abbrev pub least_most : EntryKind → ℕ
least_most Dir = 2
least_most File = 1

abbrev pub largest_most : EntryKind → ℕ
largest_most Dir = 8194
largest_most File = 8193

-- no condition fails that needs no table: where the information and all that it names begin
pub record HasPlaces (kind : TreeKind) (split : Option ℕ) (size : ℕ) (info : Information) (p : Places) : Type 0 where
  pub behind_header : header_len ≤ info.at
  pub information_inside : info.at + information_len ≤ front_len split size
  pub log : ℕ
  pub log_between : LiesBetween 9 16 log
  pub block : info.block ≡ 2 ^ log
  pub buckets : (table : EntryKind) → LiesBetween 1 32768 ((fields_on info table).buckets)
  pub count : LiesBetween 1 131072 info.count
  pub buckets_inside : (table : EntryKind) → (fields_on info table).buckets_at + 4 *
      (fields_on info table).buckets ≤ front_len split size
  pub chain_inside : info.chain_at + 8 * (info.count + 1) ≤ front_len split size
  pub region_inside : p.chain.region_at + info.count * info.block
      ≤ (if has_second kind split then size else front_len split size)
  pub tables_placed : (table : EntryKind) → IsTablePlace (front_len split size) info.count table (table_lies p table)

-- and no other: the tables have room, and nothing overlaps
pub record HasLayout (kind : TreeKind) (split : Option ℕ) (size : ℕ) (info : Information) (p : Places)
    (t : Tables) : Type 0 where
  pub places : HasPlaces kind split size info p
  pub most : (table : EntryKind) → LiesBetween (least_most table) (largest_most table) (t.table table).most
  pub room : (table : EntryKind) → HasTableRoom (front_len split size) info.block table (t.table table)
      (table_lies p table)
  pub counts : (table : EntryKind) → LiesBetween (least_freed table) (t.table table).most (t.table table).count
  pub taken_apart : some_overlap (taken_extents (has_second kind split) info p t) ≡ false

-- The conditions on where a filesystem lies, in the order in which a fault is named.
use Rattle.std.specs.Prelude.{ℕ, ◌+◌, ◌*◌, ◌^◌, Bool, not, ◌||◌, ◌==◌, nat_lt, nat_le}
use Rattle.std.specs.Prelude.{List, [], ◌∷◌, ◌++◌, Option, if◌then◌else◌}
use Rattle.std.specs.List.{list_any, range_with_len}
use Rattle.save_bytes.specs.declared.extent.Extent.{Extent}
use Rattle.save_bytes.specs.Extents.{is_outside, some_overlap}
use Rattle.container_header.specs.Conditions.{first_failing}
use Rattle.entry_tables.specs.declared.table.EntryKind.{EntryKind}
use Rattle.entry_tables.specs.declared.table.EntryKind.TheVariants.{Dir, File}
use Rattle.entry_tables.specs.Kinds.{entry_size, least_freed}
use Rattle.entry_tables.specs.Tables.{Table, Tables}
use Rattle.tree_model.specs.declared.kind.TreeKind.{TreeKind}
use Rattle.tree_rules.specs.declared.information.Information.{Information}
use Rattle.tree_rules.specs.Information.{header_len, information_len, has_second, front_len}
use Rattle.tree_rules.specs.declared.information.TableAt.{TableAt}
use Rattle.tree_rules.specs.declared.information.TableAt.TheVariants.{Plainly, InChain}
use Rattle.tree_rules.specs.declared.information.Places.{Places}
use Rattle.tree_rules.specs.Places.{places_of}
use Rattle.tree_rules.specs.Places.{table_lies}
use Rattle.tree_rules.specs.Information.{fields_on}

-- a test of either kind
abbrev pub of_either : (EntryKind → Bool) → Bool
of_either test = test Dir || test File

-- the size of a data block: a power of two from 512 to 65,536
abbrev pub is_block_size : ℕ → Bool
is_block_size n = list_any (λ log. n == 2 ^ log) (range_with_len 9 8)

-- a range does not lie inside so many cells
abbrev pub passes_end : ℕ → ℕ → ℕ → Bool
passes_end end at size = nat_lt end (at + size)

-- a table's beginning is out of place: entry 0 passes the first part's end, or the first data block is none, or there
-- are too few or too many
abbrev pub is_misplaced : ℕ → ℕ → EntryKind → TableAt → Bool
is_misplaced front count kind (Plainly at) = passes_end front at (entry_size kind)
is_misplaced front count kind (InChain first blocks) = nat_le count first || is_outside 1 count blocks

-- the entries of a table have no room in the first part or in its data blocks
abbrev pub is_too_long : ℕ → ℕ → EntryKind → Table → TableAt → Bool
is_too_long front block kind t (Plainly at) = passes_end front at (t.most * entry_size kind)
is_too_long front block kind t (InChain first blocks) = nat_lt (blocks * block) (t.most * entry_size kind)

-- the most entries that a table may have room for, and the least
abbrev pub is_bad_most : EntryKind → ℕ → Bool
is_bad_most Dir most = is_outside 2 8194 most
is_bad_most File most = is_outside 1 8193 most

abbrev pub extent_from : ℕ → ℕ → Extent
extent_from at size = record { at = at; size = size }

-- a table that lies plainly
abbrev pub plain_extent : EntryKind → Table → TableAt → List Extent
plain_extent kind t (Plainly at) = extent_from at (t.most * entry_size kind) ∷ []
plain_extent kind t (InChain first blocks) = []

-- what lies in the first part: the header, the information, the buckets, the allocation table, and tables that lie
-- plainly or the data blocks
unfoldable pub taken_extents : Bool → Information → Places → Tables → List Extent
taken_extents second info p t =
    extent_from 0 header_len ∷ extent_from info.at information_len
    ∷ extent_from p.dirs.buckets_at (4 * p.dirs.buckets) ∷ extent_from p.files.buckets_at (4 * p.files.buckets)
    ∷ extent_from p.chain.table_at (8 * (p.chain.count + 1))
    ∷ (plain_extent Dir (t.table Dir) p.dirs.table ++ plain_extent File (t.table File) p.files.table
    ++ (if second then [] else extent_from p.chain.region_at (p.chain.count * p.chain.block) ∷ []))

-- 1: the information lies in the first part behind the header; 2: the size of a data block; 3: how many buckets there
-- are; 4: how many entries the allocation table has; 5: buckets, allocation table, data blocks and the beginning of
-- each table lie where they should
unfoldable pub place_faults : TreeKind → Option ℕ → ℕ → Information → List Bool
place_faults kind split size info =
    let front = front_len split size in
    let p = places_of kind split info in
    (nat_lt info.at header_len || passes_end front info.at information_len)
    ∷ not (is_block_size info.block)
    ∷ of_either (λ table. is_outside 1 32768 ((fields_on info table).buckets))
    ∷ is_outside 1 131072 info.count
    ∷ (of_either (λ table. passes_end front ((fields_on info table).buckets_at) (4 * (fields_on info table).buckets))
    || (passes_end front info.chain_at (8 * (info.count + 1))
    || (passes_end (if has_second kind split then size else front) p.chain.region_at (info.count * info.block)
    || of_either (λ table. is_misplaced front info.count table (table_lies p table)))))
    ∷ []

-- 6: the most entries; 7: their room; 8: how many were ever used; 9: nothing overlaps
unfoldable pub table_faults : TreeKind → Option ℕ → ℕ → Information → Tables → List Bool
table_faults kind split size info t =
    let front = front_len split size in
    let p = places_of kind split info in
    of_either (λ table. is_bad_most table (t.table table).most)
    ∷ of_either (λ table. is_too_long front info.block table (t.table table) (table_lies p table))
    ∷ of_either (λ table. is_outside (least_freed table) (t.table table).most (t.table table).count)
    ∷ some_overlap (taken_extents (has_second kind split) info p t)
    ∷ []

-- the number of the first condition that fails
abbrev pub layout_fault : TreeKind → Option ℕ → ℕ → Information → Tables → Option ℕ
layout_fault kind split size info t =
    first_failing 1 (place_faults kind split size info ++ table_faults kind split size info t)

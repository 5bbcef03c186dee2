-- The places of a filesystem's structure: all of its bytes but those of files.
use Rattle.std.specs.Prelude.{◌≡◌, ℕ, ◌+◌, ◌*◌, ◌<◌, Option, List}
use Rattle.std.specs.List.{Contains}
use Rattle.save_bytes.specs.Cells.{Cell}
use Rattle.save_bytes.specs.Within.{MaySoften}
use Rattle.chain_space.specs.Laid.{laid_place}
use Rattle.entry_tables.specs.declared.table.EntryKind.{EntryKind}
use Rattle.entry_tables.specs.Tables.{Tables}
use Rattle.entry_tables.specs.Layout.{LiesWithin, IsOfTable}
use Rattle.tree_model.specs.declared.kind.TreeKind.{TreeKind}
use Rattle.tree_rules.specs.declared.information.Information.{Information}
use Rattle.tree_rules.specs.Information.{information_in, header_len, information_len}
use Rattle.tree_rules.specs.declared.information.Places.{Places}
use Rattle.tree_rules.specs.Places.{places_of, table_info, tables_extra, tree_tables}
use Rattle.tree_rules.specs.Lists.{Holder}
use Rattle.tree_rules.specs.Trees.{table_chains, IsConsistentTree}

-- where an allocation entry stands
abbrev pub allocation_place : Places → ℕ → ℕ
allocation_place p entry = p.chain.table_at + 8 * entry

-- the header, the information, allocation entry 0 and those of the lists, and the tables with their buckets
pub data IsStructure (size : ℕ) (info : Information) (p : Places) (lists : Holder → List ℕ) (t : Tables)
    (x : ℕ) : Type 0 where
  InHeader : x < header_len → IsStructure size info p lists t x
  InInformation : LiesWithin info.at information_len x → IsStructure size info p lists t x
  InFirstEntry : LiesWithin (allocation_place p 0) 8 x → IsStructure size info p lists t x
  InList : (holder : Holder) (entry : ℕ) → Contains (lists holder) entry → LiesWithin (allocation_place p entry) 8 x
      → IsStructure size info p lists t x
  InTable : (table : EntryKind) (y : ℕ) → IsOfTable table (table_info size p table) (t.table table) y
      → laid_place (tables_extra p (table_chains lists)) size y ≡ x → IsStructure size info p lists t x

-- the cells of the structure have softened at most: those that are bytes are as they were
abbrev pub KeepsStructure : ℕ → Information → Places → (Holder → List ℕ) → Tables → (ℕ → Cell) → (ℕ → Cell) → Type 0
KeepsStructure size info p lists t cells new =
    (x : ℕ) → x < size → IsStructure size info p lists t x → MaySoften (cells x) (new x)

-- so they hold the same tree: the same lists, information and tables
pub record KeepsTree (kind : TreeKind) (size : ℕ) (split : Option ℕ) (cells new : ℕ → Cell)
    (lists : Holder → List ℕ) : Type 0 where
  pub tree : IsConsistentTree kind size split new lists
  pub information : information_in new ≡ information_in cells
  pub tables : tree_tables size (places_of kind split (information_in new)) (table_chains lists) new
      ≡ tree_tables size (places_of kind split (information_in cells)) (table_chains lists) cells

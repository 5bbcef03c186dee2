-- When the cells of a store hold a tree as they should: each rule, on whole lists and sets.
use Rattle.std.specs.Prelude.{◌≡◌, ℕ, ◌+◌, ◌<◌, ◌≤◌, Option, None, List}
use Rattle.std.specs.List.{Contains}
use Rattle.save_bytes.specs.Cells.{Cell, IsByte}
use Rattle.chain_nodes.specs.Table.{table_in}
use Rattle.entry_tables.specs.declared.table.EntryKind.{EntryKind}
use Rattle.entry_tables.specs.Tables.{Tables}
use Rattle.entry_tables.specs.Rules.{IsOrderly}
use Rattle.entry_tables.specs.Layout.{IsNeeded}
use Rattle.tree_model.specs.declared.kind.TreeKind.{TreeKind}
use Rattle.tree_rules.specs.declared.information.Information.{Information}
use Rattle.tree_rules.specs.Information.{IsLettered, information_in, header_len, information_len}
use Rattle.tree_rules.specs.Information.{front_len}
use Rattle.tree_rules.specs.declared.information.Places.{Places}
use Rattle.tree_rules.specs.Places.{places_of, table_info, laid_cells, tree_tables}
use Rattle.tree_rules.specs.Layout.{layout_fault}
use Rattle.tree_rules.specs.Lists.{Holder, OfTable, IsListOf}

-- the chains of the tables, of all lists
abbrev pub table_chains : (Holder → List ℕ) → EntryKind → List ℕ
table_chains lists table = lists (OfTable table)

-- The cells hold a tree with these lists. The header and the information say where all lies, which meets each
-- condition; each list is as it should be, and no allocation entry is in two; the tables and buckets are orderly; and
-- all bytes that are needed are bytes.
pub record IsTreeOf (kind : TreeKind) (size : ℕ) (split : Option ℕ) (cells : ℕ → Cell) (info : Information)
    (lists : Holder → List ℕ) (p : Places) (t : Tables) : Type 0 where
  pub inside : front_len split size ≤ size
  pub lettered : IsLettered kind cells
  pub layout : layout_fault kind split size info t ≡ None
  pub listed : (holder : Holder) → IsListOf kind (table_in cells p.chain) p t holder (lists holder)
  pub apart : (one other : Holder) (entry : ℕ) → Contains (lists one) entry → Contains (lists other) entry → one ≡ other
  pub orderly : IsOrderly t
  pub header_read : (x : ℕ) → x < header_len → IsByte (cells x)
  pub information_read : (k : ℕ) → k < information_len → IsByte (cells (info.at + k))
  pub tables_read : (table : EntryKind) (x : ℕ) → IsNeeded table (table_info size p table) (t.table table) x
      → IsByte (laid_cells size p (table_chains lists) cells x)

abbrev pub IsConsistentTree : TreeKind → ℕ → Option ℕ → (ℕ → Cell) → (Holder → List ℕ) → Type 0
IsConsistentTree kind size split cells lists =
    let info = information_in cells in
    let p = places_of kind split info in
    IsTreeOf kind size split cells info lists p (tree_tables size p (table_chains lists) cells)

-- the cells hold a tree
abbrev pub HoldsTree : TreeKind → ℕ → Option ℕ → (ℕ → Cell) → Type 0
HoldsTree kind size split cells = (lists : Holder → List ℕ) × IsConsistentTree kind size split cells lists

-- Cells hold one tree at most: their lists are fixed.
use Rattle.std.proofs.Common.{◌≡◌, ℕ, ◌^◌, ◌<◌, List, Option, refl, ap, arith}
use Rattle.save_bytes.specs.Cells.{Cell}
use Rattle.chain_nodes.specs.Table.{table_in}
use Rattle.entry_tables.specs.declared.table.EntryKind.{EntryKind}
use Rattle.entry_tables.specs.declared.table.EntryKind.TheVariants.{Dir, File}
use Rattle.entry_tables.specs.Tables.{tables_in}
use Rattle.chain_space.specs.Laid.{Extra, laid_place}
use Rattle.tree_model.specs.declared.kind.TreeKind.{TreeKind}
use Rattle.tree_rules.specs.declared.information.Information.{Information}
use Rattle.tree_rules.specs.Information.{information_in}
use Rattle.tree_rules.specs.declared.information.Places.{Places}
use Rattle.tree_rules.specs.Places.{places_of, table_info, tables_extra, laid_cells, tree_tables}
use Rattle.tree_rules.specs.Lists.{Holder, OfTable}
use Rattle.tree_rules.specs.Trees.{table_chains, IsConsistentTree}
use Rattle.tree_rules.proofs.LayoutLemmas.{layout_from}
use Rattle.tree_rules.proofs.ListLaws.{one_table_list, one_list_of}
use Rattle.tree_rules.specs.Places.{table_lies}

extra_same : (p : Places) (one other : EntryKind → List ℕ) → one Dir ≡ other Dir → one File ≡ other File
    → tables_extra p one ≡ tables_extra p other
extra_same p one other dirs files = rw (dirs, files) refl

-- the tables hang on the chains of both
pub tables_same : (size : ℕ) (p : Places) (one other : EntryKind → List ℕ) (cells : ℕ → Cell) → one Dir ≡ other Dir
    → one File ≡ other File → tree_tables size p one cells ≡ tree_tables size p other cells
unfolding laid_cells
tables_same size p one other cells dirs files =
    ap (λ (extra : Extra). tables_in (λ x. cells (laid_place extra size x)) (table_info size p Dir)
    (table_info size p File))
    (extra_same p one other dirs files)

module _ (kind : TreeKind) (size : ℕ) (split : Option ℕ) (cells : ℕ → Cell) where
  abbrev info : Information
  info = information_in cells

  abbrev p : Places
  p = places_of kind split info

  -- an allocation table has few entries
  pub few_entries : (lists : Holder → List ℕ) → IsConsistentTree kind size split cells lists
      → (places_of kind split (information_in cells)).chain.count < 2 ^ 31
  unfolding places_of
  few_entries lists h =
      let layout = layout_from kind split size info (tree_tables size p (table_chains lists) cells) h.layout in
      omega (arith, layout.places.count.most)

  pub one_list : (lists others : Holder → List ℕ) → IsConsistentTree kind size split cells lists
      → IsConsistentTree kind size split cells others → (holder : Holder) → lists holder ≡ others holder
  one_list lists others h k holder =
      let few = few_entries lists h in
      let table = table_in cells p.chain in
      let of_table : (entries : EntryKind) → lists (OfTable entries) ≡ others (OfTable entries) =
      λ entries. one_table_list table p.chain.count few (table_lies p entries) (lists (OfTable entries))
      (others (OfTable entries)) (h.listed (OfTable entries)) (k.listed (OfTable entries)) in
      let same = tables_same size p (table_chains lists) (table_chains others) cells (of_table Dir) (of_table File) in
      one_list_of kind table p few (tree_tables size p (table_chains lists) cells) (h.orderly.freed File) holder
      (lists holder) (others holder) (h.listed holder) (rw same (k.listed holder))

-- Where the parts of a filesystem lie in a store of cells.
use Rattle.std.specs.Prelude.{ℕ, ◌+◌, ◌-◌, ◌*◌, Option, List, ◌++◌, take, map, if◌then◌else◌}
use Rattle.save_bytes.specs.Cells.{Cell}
use Rattle.chain_space.specs.Laid.{Extra, extra_of, laid_place}
use Rattle.entry_tables.specs.declared.table.EntryKind.{EntryKind}
use Rattle.entry_tables.specs.declared.table.EntryKind.TheVariants.{Dir, File}
use Rattle.entry_tables.specs.declared.table.TableInfo.{TableInfo}
use Rattle.entry_tables.specs.Tables.{Tables, tables_in}
use Rattle.tree_model.specs.declared.kind.TreeKind.{TreeKind}
use Rattle.tree_rules.specs.declared.information.Information.{Information}
use Rattle.tree_rules.specs.Information.{has_second, front_len}
use Rattle.tree_rules.specs.declared.information.TableFields.{TableFields}
use Rattle.tree_rules.specs.declared.information.TableAt.{TableAt}
use Rattle.tree_rules.specs.declared.information.TablePlace.{TablePlace}
use Rattle.tree_rules.specs.declared.information.Places.{Places}
use Rattle.tree_rules.specs.declared.information.TableAt.TheVariants.{Plainly}
use Rattle.tree_rules.specs.declared.information.TableAt.TheVariants.{InChain}
use Rattle.std.specs.Prelude.{Bool}

-- where a table lies
abbrev pub table_lies : Places → EntryKind → TableAt
table_lies p Dir = p.dirs.table
table_lies p File = p.files.table

-- with a second part a table lies plainly, otherwise in a chain
abbrev pub place_from : Bool → TableFields → TablePlace
place_from second fields = record {
  buckets_at = fields.buckets_at;
  buckets = fields.buckets;
  table = if second then Plainly fields.table_at else InChain fields.first fields.blocks;
}

-- where the information says; the data blocks are all of a second part
unfoldable pub places_of : TreeKind → Option ℕ → Information → Places
places_of kind split info = record {
  chain = record {
    table_at = info.chain_at;
    count = info.count;
    region_at = if has_second kind split then front_len split 0 else info.region_at;
    block = info.block;
  };
  dirs = place_from (has_second kind split) info.dirs;
  files = place_from (has_second kind split) info.files;
}

-- how many data blocks a table has
abbrev pub blocks_in_chain : TableAt → ℕ
blocks_in_chain (Plainly at) = 0
blocks_in_chain (InChain first blocks) = blocks

-- Behind the store's cells those of the tables' data blocks lie once more, the directories' first. So each table lies
-- in one piece: plainly, or from here on.
abbrev pub table_start : ℕ → TableAt → ℕ
table_start behind (Plainly at) = at
table_start behind (InChain first blocks) = behind

abbrev pub table_info : ℕ → Places → EntryKind → TableInfo
table_info size p Dir = record {
  buckets_at = p.dirs.buckets_at;
  buckets = p.dirs.buckets;
  table_at = table_start size p.dirs.table;
}
table_info size p File = record {
  buckets_at = p.files.buckets_at;
  buckets = p.files.buckets;
  table_at = table_start (size + blocks_in_chain p.dirs.table * p.chain.block) p.files.table;
}

-- the data blocks of a table, by its chain's entries: entry i has data block i - 1
abbrev pub table_blocks : TableAt → List ℕ → List ℕ
table_blocks table chain = map (λ entry. entry - 1) (take (blocks_in_chain table) chain)

abbrev pub tables_extra : Places → (EntryKind → List ℕ) → Extra
tables_extra p chains = extra_of p.chain.region_at p.chain.block
    (table_blocks p.dirs.table (chains Dir) ++ table_blocks p.files.table (chains File))

-- the cells, and behind them those of the tables' data blocks, by their chains
unfoldable pub laid_cells : ℕ → Places → (EntryKind → List ℕ) → (ℕ → Cell) → ℕ → Cell
laid_cells size p chains cells x = cells (laid_place (tables_extra p chains) size x)

-- the tables of entries
abbrev pub tree_tables : ℕ → Places → (EntryKind → List ℕ) → (ℕ → Cell) → Tables
tree_tables size p chains cells =
    tables_in (laid_cells size p chains cells) (table_info size p Dir) (table_info size p File)

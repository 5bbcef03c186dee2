-- A mounted SAVE, and the cells of the store that it was mounted from.
use Rattle.std.specs.Prelude.{◌≡◌, ℕ, ◌≤◌, IsTrue, Option, IfSome, List}
use Rattle.save_bytes.specs.Cells.{Cell}
use Rattle.save_bytes.specs.State.{Shape}
use Rattle.entry_tables.specs.Tables.{Tables}
use Rattle.tree_model.specs.declared.kind.TreeKind.TheVariants.{Save}
use Rattle.tree_model.specs.Trees.{Tree, SameTree}
use Rattle.tree_rules.specs.Information.{information_in}
use Rattle.tree_rules.specs.Places.{places_of, tree_tables}
use Rattle.tree_rules.specs.Lists.{Holder}
use Rattle.tree_rules.specs.Reading.{TreeReadsFrom}
use Rattle.tree_rules.specs.Trees.{IsConsistentTree, table_chains}
use Rattle.save_mount.specs.Counts.{IsCountOf, IsLost}
use Rattle.save_mount.specs.Mounted.{IsMountOf, IsPlacedMount}
use Rattle.save_fs.specs.declared.mounted.SaveFs.{SaveFs}

-- a sound store of at most 67,108,864 bytes, each of which may be written; a second part begins in it
pub record IsMountable (shape : Shape) (split : Option ℕ) : Type 0 where
  pub sound : IsTrue shape.sound
  pub first : shape.first ≡ 0
  pub small : shape.size ≤ 67108864
  pub inside : IfSome split (λ n. n ≤ shape.size)

-- the filesystem lies in such a store as it did when it was mounted: what is known even where cells are not told
pub record StandsOn (shape : Shape) (fs : SaveFs) : Type 0 where
  pub mountable : IsMountable shape fs.split
  pub placed : IsPlacedMount Save fs.split shape.size fs.mounted

-- the cells hold this tree, of which this is kept
pub record IsMountedOn (size : ℕ) (fs : SaveFs) (cells : ℕ → Cell) (tree : Tree) : Type 0 where
  pub reads : TreeReadsFrom Save size fs.split cells tree
  pub mount : IsMountOf Save size fs.split cells fs.mounted reads.lists

-- the cells hold a tree that is the same, of which the same is kept
pub record StaysMounted (size : ℕ) (fs : SaveFs) (cells : ℕ → Cell) (tree : Tree) : Type 0 where
  pub later : Tree
  pub mounted : IsMountedOn size fs cells later
  pub same : SameTree tree later

-- the tables that such cells have, with these lists
abbrev pub tables_on : ℕ → SaveFs → (ℕ → Cell) → (Holder → List ℕ) → Tables
tables_on size fs cells lists = tree_tables size fs.mounted.places (table_chains lists) cells

-- so many data blocks are in no list that the cells have
abbrev pub HasLost : ℕ → Option ℕ → (ℕ → Cell) → ℕ → Type 0
HasLost size split cells n = (lists : Holder → List ℕ) → IsConsistentTree Save size split cells lists
    → IsCountOf (IsLost (places_of Save split (information_in cells)).chain.count lists) n

-- The tree that cells hold, as a plain map, read off their lists and tables.
use Rattle.std.specs.Prelude.{◌≡◌, ℕ, ◌+◌, ◌-◌, ◌<◌, ◌↔◌, true, Option, Some, None, List, length}
use Rattle.save_bytes.specs.Cells.{Cell}
use Rattle.save_bytes.specs.Within.{MaySoften}
use Rattle.chain_nodes.specs.declared.info.ChainInfo.{ChainInfo}
use Rattle.chain_space.specs.Shown.{block_place}
use Rattle.entry_tables.specs.declared.table.EntryKind.TheVariants.{Dir, File}
use Rattle.entry_tables.specs.Tables.{Table, Tables}
use Rattle.entry_tables.specs.Used.{freed_entries, used_entries, named_entries, dir_path, path_of}
use Rattle.tree_model.specs.declared.kind.TreeKind.{TreeKind}
use Rattle.tree_model.specs.declared.kind.TreeKind.TheVariants.{Save, Vsxe}
use Rattle.tree_model.specs.Trees.{Names, TreeFile, Contents, Identifier, Tree, IsSofter}
use Rattle.tree_rules.specs.declared.information.Places.{Places}
use Rattle.tree_rules.specs.Information.{information_in}
use Rattle.tree_rules.specs.Places.{places_of, tree_tables}
use Rattle.tree_rules.specs.Lists.{Holder, Free, OfFile}
use Rattle.tree_rules.specs.Trees.{table_chains, IsConsistentTree}

-- a used directory has this path
abbrev pub IsDirAt : Tables → Names → ℕ → Type 0
IsDirAt t path e = used_entries (t.table Dir) e × dir_path (t.table Dir) e path

-- a used file has this path
abbrev pub IsFileAt : Tables → Names → ℕ → Type 0
IsFileAt t path e = named_entries File (t.table File) e × path_of (t.table Dir) (t.table File) e path

-- the cells of a file, by the entries of its chain
abbrev pub file_cells : ChainInfo → List ℕ → (ℕ → Cell) → ℕ → Cell
file_cells chain list cells x = cells (block_place chain list x)

-- what a file has: its size, its data blocks and the cells of these; in a VSXE the identifier
abbrev pub file_of : TreeKind → Places → Tables → (Holder → List ℕ) → (ℕ → Cell) → ℕ → TreeFile
file_of Save p t lists cells e =
    Contents (t.wide e) (length (lists (OfFile e))) (file_cells p.chain (lists (OfFile e)) cells)
file_of Vsxe p t lists cells e = Identifier (t.wide e)

-- a file stands at a path, or none does
abbrev pub IsFileRead : TreeKind → Places → Tables → (Holder → List ℕ) → (ℕ → Cell) → Names → Option TreeFile → Type 0
IsFileRead kind p t lists cells path None = (e : ℕ) → ¬ IsFileAt t path e
IsFileRead kind p t lists cells path (Some file) =
    (e : ℕ) × IsFileAt t path e × (file ≡ file_of kind p t lists cells e)

-- what can be added to a table: the most less the count, and the freed ones
abbrev pub IsRoomOf : Table → ℕ → Type 0
IsRoomOf t room = (list : List ℕ) × freed_entries t list × (room ≡ t.most - t.count + length list)

-- the plain map of these lists and tables
pub record IsReadBy (kind : TreeKind) (cells : ℕ → Cell) (lists : Holder → List ℕ) (p : Places) (t : Tables)
    (tree : Tree) : Type 0 where
  pub kind_is : tree.kind ≡ kind
  pub block_is : tree.block ≡ p.chain.block
  pub dirs : (path : Names) → (tree.is_dir path ≡ true) ↔ ((e : ℕ) × IsDirAt t path e)
  pub files : (path : Names) → IsFileRead kind p t lists cells path (tree.file path)
  pub free_blocks : tree.room.blocks ≡ length (lists Free)
  pub free_dirs : IsRoomOf (t.table Dir) tree.room.dirs
  pub free_files : IsRoomOf (t.table File) tree.room.files

-- the cells hold this tree
pub record TreeReadsFrom (kind : TreeKind) (size : ℕ) (split : Option ℕ) (cells : ℕ → Cell) (tree : Tree) : Type 0 where
  pub lists : Holder → List ℕ
  pub consistent : IsConsistentTree kind size split cells lists
  pub read : IsReadBy kind cells lists (places_of kind split (information_in cells))
      (tree_tables size (places_of kind split (information_in cells)) (table_chains lists) cells) tree

-- the cells of files have softened at most
abbrev pub SoftensContents : Places → Tables → (Holder → List ℕ) → (ℕ → Cell) → (ℕ → Cell) → Type 0
SoftensContents p t lists cells new = (e : ℕ) → named_entries File (t.table File) e → (x : ℕ) → x < t.wide e
    → MaySoften (file_cells p.chain (lists (OfFile e)) cells x) (file_cells p.chain (lists (OfFile e)) new x)

-- the cells hold a tree that is the same, but for blank cells of contents that have softened
pub record IsSoftened (kind : TreeKind) (size : ℕ) (split : Option ℕ) (tree : Tree) (new : ℕ → Cell) : Type 0 where
  pub later : Tree
  pub reads : TreeReadsFrom kind size split new later
  pub softer : IsSofter tree later

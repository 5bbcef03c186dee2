-- The rows of a tree, and their order.
use Rattle.std.specs.Prelude.{◌≡◌, ℕ, ◌<◌, ◌==◌, ◌&&◌, ◌||◌, not, nat_lt, bytes_eq, Bool, true, false, List, [], ◌∷◌}
use Rattle.std.specs.Prelude.{length}
use Rattle.std.specs.Prelude.{Some, IfSome}
use Rattle.std.specs.List.{All, Contains}
use Rattle.std.specs.Prelude.{slice_index_or}
use Rattle.tree_model.specs.declared.listing.Row.{Row}
use Rattle.tree_model.specs.declared.listing.Row.TheVariants.{Dir, File, Link}
use Rattle.tree_model.specs.Trees.{Names, same_names, Tree, TreeFile, Contents, Identifier}

-- the row of a file
abbrev pub file_row : Names → TreeFile → Row
file_row path (Contents size held cells) = File path size
file_row path (Identifier id) = Link path id

-- a row is one of the tree's
abbrev pub IsRowOf : Tree → Row → Type 0
IsRowOf tree (Dir path) = tree.is_dir path ≡ true
IsRowOf tree (File path size) = (held : ℕ) × (cells : _) × (tree.file path ≡ Some (Contents size held cells))
IsRowOf tree (Link path id) = tree.file path ≡ Some (Identifier id)

-- byte by byte
abbrev pub is_name_before : List ℕ → List ℕ → Bool
is_name_before [] [] = false
is_name_before [] (byte ∷ bytes) = true
is_name_before (byte ∷ bytes) [] = false
is_name_before (byte ∷ bytes) (other ∷ others) = nat_lt byte other || (byte == other && is_name_before bytes others)

-- name by name, a path before those that go on behind it
abbrev pub is_path_before : Names → Names → Bool
is_path_before [] [] = false
is_path_before [] (name ∷ names) = true
is_path_before (name ∷ names) [] = false
is_path_before (name ∷ names) (other ∷ others) =
    is_name_before name other || (bytes_eq name other && is_path_before names others)

abbrev pub row_path : Row → Names
row_path (Dir path) = path
row_path (File path size) = path
row_path (Link path id) = path

abbrev pub is_dir_row : Row → Bool
is_dir_row (Dir path) = true
is_dir_row (File path size) = false
is_dir_row (Link path id) = false

-- by their paths, a directory before a file of the same path
abbrev pub is_row_before : Row → Row → Bool
is_row_before row other = is_path_before (row_path row) (row_path other)
    || (same_names (row_path row) (row_path other) && (is_dir_row row && not (is_dir_row other)))

-- each directory and each file of a tree has a row, in order, and no other row stands there
pub record ListsTree (tree : Tree) (rows : List Row) : Type 0 where
  pub true_rows : All (IsRowOf tree) rows
  pub dirs : (path : Names) → tree.is_dir path ≡ true → Contains rows (Dir path)
  pub files : (path : Names) → IfSome (tree.file path) (λ file. Contains rows (file_row path file))
  pub ordered : (i j : ℕ) (d : Row) → i < j → j < length rows
      → is_row_before (slice_index_or rows i d) (slice_index_or rows j d) ≡ true

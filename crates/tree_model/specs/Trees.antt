-- A tree as a plain map.
use Rattle.std.specs.Prelude.{◌≡◌, ℕ, ◌<◌, Bool, true, false, ◌&&◌, bytes_eq, List, [], ◌∷◌, Option, Some, None}
use Rattle.save_bytes.specs.Cells.{Cell}
use Rattle.save_bytes.specs.Within.{MaySoften}
use Rattle.tree_model.specs.declared.command.Room.{Room}
use Rattle.tree_model.specs.declared.kind.TreeKind.{TreeKind}

-- the names of a path
abbrev pub Names : Type 0
Names = List (List ℕ)

-- whether two paths are one
abbrev pub same_names : Names → Names → Bool
same_names [] [] = true
same_names [] (name ∷ names) = false
same_names (name ∷ names) [] = false
same_names (name ∷ names) (other ∷ others) = bytes_eq name other && same_names names others

-- a file's size, the data blocks that it holds, and its contents, which are so many cells; or its identifier
pub data TreeFile : Type 0 where
  Contents : (size held : ℕ) (cells : ℕ → Cell) → TreeFile
  Identifier : (id : ℕ) → TreeFile

-- directories, files and what is free, with data blocks of so many bytes
pub record Tree : Type 0 where
  pub kind : TreeKind
  pub block : ℕ
  pub is_dir : Names → Bool
  pub file : Names → Option TreeFile
  pub room : Room

-- the same file, with cells of contents that R relates
abbrev pub IsFileBy : (Cell → Cell → Type 0) → Option TreeFile → Option TreeFile → Type 0
IsFileBy R None new = new ≡ None
IsFileBy R (Some (Identifier id)) new = new ≡ Some (Identifier id)
IsFileBy R (Some (Contents size held cells)) new =
    (later : ℕ → Cell) × (new ≡ Some (Contents size held later)) × ((x : ℕ) → x < size → R (cells x) (later x))

-- the same tree, with cells of contents that R relates
pub record IsTreeBy (R : Cell → Cell → Type 0) (old new : Tree) : Type 0 where
  pub kind : new.kind ≡ old.kind
  pub block : new.block ≡ old.block
  pub dirs : (path : Names) → new.is_dir path ≡ old.is_dir path
  pub files : (path : Names) → IsFileBy R (old.file path) (new.file path)
  pub room : new.room ≡ old.room

-- nothing has changed
abbrev pub SameTree : Tree → Tree → Type 0
SameTree = IsTreeBy (λ cell new. new ≡ cell)

-- blank cells of contents may have become zero, or blank at a deeper level
abbrev pub IsSofter : Tree → Tree → Type 0
IsSofter = IsTreeBy MaySoften

-- contents may be any
abbrev pub SameOutline : Tree → Tree → Type 0
SameOutline = IsTreeBy (λ cell new. Unit {0})

-- the root alone, with so much room
abbrev pub empty_tree : TreeKind → Room → Tree
empty_tree kind room = record {
  kind = kind;
  block = 512;
  is_dir = λ path. same_names [] path;
  file = λ path. None;
  room = room;
}

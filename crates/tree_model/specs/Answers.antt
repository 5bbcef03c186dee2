-- What a tree answers to a command, by cases on the map alone.
use Rattle.std.specs.Prelude.{◌≡◌, ◌⊎◌, ℕ, ◌+◌, ◌-◌, ◌<◌, ◌&&◌, ◌||◌, not, nat_lt, Bool, true, false}
use Rattle.std.specs.Prelude.{List, [], ◌∷◌, ◌++◌, length, take, slice_index, Option, Some, None, is_some, IsSome}
use Rattle.std.specs.Prelude.{if◌then◌else◌}
use Rattle.std.specs.Int.{div_ceil}
use Rattle.save_bytes.specs.Cells.{Cell, Byte, IsByte, Blames}
use Rattle.tree_model.specs.declared.command.Room.{Room}
use Rattle.tree_model.specs.declared.command.Target.{Target}
use Rattle.tree_model.specs.declared.command.Target.TheVariants.{Path, Fault}
use Rattle.tree_model.specs.declared.command.Command.{Command}
use Rattle.tree_model.specs.declared.command.Command.TheVariants.{List as Listed, Room as AskRoom, Get, Put, Mkdir}
use Rattle.tree_model.specs.declared.command.Command.TheVariants.{Remove, Link}
use Rattle.tree_model.specs.declared.command.Command.TheVariants.{Commit, Abort, End}
use Rattle.tree_model.specs.declared.listing.Row.{Row}
use Rattle.tree_model.specs.declared.refusal.Full.TheVariants.{Blocks, Dirs, Files}
use Rattle.tree_model.specs.declared.refusal.Refusal.{Refusal}
use Rattle.tree_model.specs.declared.refusal.Refusal.TheVariants.{BadPath, NoParent, NotFound, Exists, NotEmpty, Full}
use Rattle.tree_model.specs.declared.refusal.Refusal.TheVariants.{Damaged, WrongKind, IsRoot, NoMemory}
use Rattle.tree_model.specs.declared.kind.TreeKind.{TreeKind}
use Rattle.tree_model.specs.declared.kind.TreeKind.TheVariants.{Save, Vsxe}
use Rattle.tree_model.specs.Trees.{Names, same_names, TreeFile, Contents}
use Rattle.tree_model.specs.Trees.{Identifier, Tree}
use Rattle.tree_model.specs.Trees.{SameTree, IsSofter}
use Rattle.tree_model.specs.Listings.{ListsTree}

abbrev pub has_contents : TreeKind → Bool
has_contents Save = true
has_contents Vsxe = false

abbrev pub is_root : Names → Bool
is_root [] = true
is_root (name ∷ names) = false

-- the path without its last name
abbrev pub parent_of : Names → Names
parent_of path = take (length path - 1) path

-- the data blocks that stand for a file
abbrev pub held_by : Option TreeFile → ℕ
held_by None = 0
held_by (Some (Contents size held cells)) = held
held_by (Some (Identifier id)) = 0

-- there is too little where more is needed than there is
abbrev pub full_where : Refusal → Bool → Option Refusal
full_where refusal lacks = if lacks then Some refusal else None

-- a new file needs one to add
abbrev pub no_file_left : Tree → Names → Bool
no_file_left tree path = not (is_some (tree.file path)) && nat_lt tree.room.files 1

-- the first refusal of each command; none where it is done or damaged
abbrev pub get_refusal : Tree → Names → Option Refusal
get_refusal tree path =
    if not (has_contents tree.kind) then Some WrongKind
    else if is_root path then Some IsRoot
    else if is_some (tree.file path) then None
    else if tree.is_dir path then Some WrongKind
    else Some NotFound

abbrev pub mkdir_refusal : Tree → Names → Option Refusal
mkdir_refusal tree path =
    if is_root path then Some IsRoot
    else if not (tree.is_dir (parent_of path)) then Some NoParent
    else if tree.is_dir path || is_some (tree.file path) then Some Exists
    else if nat_lt tree.room.dirs 1 then Some (Full Dirs 1 tree.room.dirs)
    else None

abbrev pub put_refusal : Tree → Names → ℕ → Option Refusal
put_refusal tree path size =
    let need = div_ceil size tree.block in
    let have = tree.room.blocks + held_by (tree.file path) in
    if not (has_contents tree.kind) then Some WrongKind
    else if is_root path then Some IsRoot
    else if not (tree.is_dir (parent_of path)) then Some NoParent
    else if tree.is_dir path && not (is_some (tree.file path)) then Some WrongKind
    else if no_file_left tree path then Some (Full Files 1 tree.room.files)
    else if nat_lt have need then Some (Full Blocks need have)
    else None

abbrev pub link_refusal : Tree → Names → Option Refusal
link_refusal tree path =
    if has_contents tree.kind then Some WrongKind
    else if is_root path then Some IsRoot
    else if not (tree.is_dir (parent_of path)) then Some NoParent
    else if tree.is_dir path && not (is_some (tree.file path)) then Some WrongKind
    else if no_file_left tree path then Some (Full Files 1 tree.room.files)
    else None

-- a directory or a file stands right below
abbrev pub HasChildren : Tree → Names → Type 0
HasChildren tree path = (name : List ℕ)
    × ((tree.is_dir (path ++ name ∷ []) ≡ true) ⊎ IsSome (tree.file (path ++ name ∷ [])))

-- a removal asks also whether there are children, which no test tells
pub data RemovalAnswers : Tree → Names → Option Refusal → Type 0 where
  OfRoot : (tree : Tree) → RemovalAnswers tree [] (Some IsRoot)
  OfFile : (tree : Tree) (path : Names) → is_root path ≡ false → IsSome (tree.file path) → RemovalAnswers tree path None
  OfNothing : (tree : Tree) (path : Names) → is_root path ≡ false → tree.file path ≡ None → tree.is_dir path ≡ false
      → RemovalAnswers tree path (Some NotFound)
  OfParent : (tree : Tree) (path : Names) → is_root path ≡ false → tree.file path ≡ None → tree.is_dir path ≡ true
      → HasChildren tree path → RemovalAnswers tree path (Some NotEmpty)
  OfDir : (tree : Tree) (path : Names) → is_root path ≡ false → tree.file path ≡ None → tree.is_dir path ≡ true
      → ¬ HasChildren tree path → RemovalAnswers tree path None

-- the command's first refusal, its path's fault before all others; none where it is done or damaged
abbrev pub TargetRefusal : Target → (Names → Option Refusal → Type 0) → Option Refusal → Type 0
TargetRefusal (Fault fault) P refusal = refusal ≡ Some (BadPath fault)
TargetRefusal (Path path) P refusal = P path refusal

abbrev pub IsRefusal : Tree → Command → Option Refusal → Type 0
IsRefusal tree Listed refusal = refusal ≡ None
IsRefusal tree AskRoom refusal = refusal ≡ None
IsRefusal tree (Get target) refusal = TargetRefusal target (λ path refusal. refusal ≡ get_refusal tree path) refusal
IsRefusal tree (Put target size) refusal = TargetRefusal target
    (λ path refusal. refusal ≡ put_refusal tree path size) refusal
IsRefusal tree (Mkdir target) refusal = TargetRefusal target (λ path refusal. refusal ≡ mkdir_refusal tree path) refusal
IsRefusal tree (Remove target) refusal = TargetRefusal target (RemovalAnswers tree) refusal
IsRefusal tree (Link target id) refusal = TargetRefusal target
    (λ path refusal. refusal ≡ link_refusal tree path) refusal
IsRefusal tree Commit refusal = refusal ≡ None
IsRefusal tree Abort refusal = refusal ≡ None
IsRefusal tree End refusal = refusal ≡ None

-- ---- the tree after a command that is done

-- at a path this, elsewhere as before
abbrev pub at_path : {A : Type 0} → Names → A → (Names → A) → Names → A
at_path path here before other = if same_names other path then here else before other

abbrev pub after_mkdir : Tree → Names → Tree
after_mkdir tree path = record tree {
  is_dir = at_path path true tree.is_dir;
  room = record tree.room { dirs = tree.room.dirs - 1 };
}

-- a file stands at a path, and holds so many blocks; a new one is one less to add
abbrev pub with_file : Tree → Names → TreeFile → ℕ → Tree
with_file tree path file held = record tree {
  file = at_path path (Some file) tree.file;
  room = record tree.room {
    blocks = tree.room.blocks + held_by (tree.file path) - held;
    files = if is_some (tree.file path) then tree.room.files else tree.room.files - 1;
  };
}

abbrev pub after_put : Tree → Names → List ℕ → Tree
after_put tree path bytes =
    let held = div_ceil (length bytes) tree.block in
    with_file tree path (Contents (length bytes) held (λ x. Byte (slice_index bytes x))) held

abbrev pub after_link : Tree → Names → ℕ → Tree
after_link tree path id = with_file tree path (Identifier id) 0

abbrev pub without_file : Tree → Names → Tree
without_file tree path = record tree {
  file = at_path path None tree.file;
  room = record tree.room { blocks = tree.room.blocks + held_by (tree.file path); files = tree.room.files + 1 };
}

abbrev pub without_dir : Tree → Names → Tree
without_dir tree path = record tree {
  is_dir = at_path path false tree.is_dir;
  room = record tree.room { dirs = tree.room.dirs + 1 };
}

-- a file goes before a directory of the same path
abbrev pub after_remove : Tree → Names → Tree
after_remove tree path = if is_some (tree.file path) then without_file tree path else without_dir tree path

-- ---- replies

pub data TreeReply : Type 0 where
  Rows : (rows : List Row) → TreeReply
  RoomIs : (room : Room) → TreeReply
  FileIs : (bytes : List ℕ) → TreeReply
  Done : TreeReply
  Refused : (refusal : Refusal) → TreeReply

-- the first cell of contents that is no byte names this block
pub record IsFirstHole (size : ℕ) (cells : ℕ → Cell) (part level block : ℕ) : Type 0 where
  pub x : ℕ
  pub inside : x < size
  pub fault : Blames (cells x) part level block
  pub before : (y : ℕ) → y < x → IsByte (cells y)

-- the contents where each cell is a byte, else the first that is none
abbrev pub GetAnswers : Option TreeFile → TreeReply → Type 0
GetAnswers (Some (Contents size held cells)) (FileIs bytes) =
    (length bytes ≡ size) × ((x : ℕ) → x < size → cells x ≡ Byte (slice_index bytes x))
GetAnswers (Some (Contents size held cells))
    (Refused (Damaged part level block)) = IsFirstHole size cells part level block
GetAnswers file reply = ⊥

-- a command that changes the tree is done, or damaged by a block of B, and then the tree is as it was
abbrev pub ChangeAnswers : (ℕ → ℕ → ℕ → Type 0) → Tree → Tree → TreeReply → Tree → Type 0
ChangeAnswers B tree done Done new = IsSofter done new
ChangeAnswers B tree done (Refused (Damaged part level block)) new = B part level block × SameTree tree new
ChangeAnswers B tree done reply new = ⊥

-- a command that is not refused by the map: what it replies, and the tree behind it
abbrev pub DoneAnswers : (ℕ → ℕ → ℕ → Type 0) → Tree → Command → List ℕ → TreeReply → Tree → Type 0
DoneAnswers B tree Listed bytes (Rows rows) new = ListsTree tree rows × SameTree tree new
DoneAnswers B tree Listed bytes (Refused NoMemory) new = SameTree tree new
DoneAnswers B tree AskRoom bytes (RoomIs room) new = (room ≡ tree.room) × SameTree tree new
DoneAnswers B tree (Get (Path path)) bytes reply new = GetAnswers (tree.file path) reply × SameTree tree new
DoneAnswers B tree (Mkdir (Path path)) bytes reply new = ChangeAnswers B tree (after_mkdir tree path) reply new
DoneAnswers B tree (Put (Path path) size) bytes reply new =
    (length bytes ≡ size) × ChangeAnswers B tree (after_put tree path bytes) reply new
DoneAnswers B tree (Link (Path path) id) bytes reply new = ChangeAnswers B tree (after_link tree path id) reply new
DoneAnswers B tree (Remove (Path path)) bytes Done new = IsSofter (after_remove tree path) new
DoneAnswers B tree command bytes reply new = ⊥

-- What a tree answers to a command, with the bytes that a put takes, where blocks of B may be damaged: the first
-- refusal, and
-- the tree as it was; else what the command does.
abbrev pub RefusedOr : Option Refusal → Tree → TreeReply → Tree → Type 0 → Type 0
RefusedOr (Some refusal) tree reply new P = (reply ≡ Refused refusal) × SameTree tree new
RefusedOr None tree reply new P = P

abbrev pub Answers : (ℕ → ℕ → ℕ → Type 0) → Tree → Command → List ℕ → TreeReply → Tree → Type 0
Answers B tree command bytes reply new = (refusal : Option Refusal) × IsRefusal tree command refusal
    × RefusedOr refusal tree reply new (DoneAnswers B tree command bytes reply new)

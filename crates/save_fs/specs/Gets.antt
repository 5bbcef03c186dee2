-- Reading the bytes of a file.
use Rattle.std.specs.Prelude.{◌≡◌, ℕ, ◌+◌, ◌-◌, ◌<◌, min, List, [], length, take, drop, slice_index, Result, Ok, Err, ⊤}
use Rattle.save_bytes.specs.Cells.{Cell, Byte}
use Rattle.chain_nodes.specs.declared.info.ChainInfo.{ChainInfo}
use Rattle.chain_nodes.specs.Table.{table_in}
use Rattle.entry_tables.specs.declared.table.FileFields.{FileFields}
use Rattle.entry_tables.specs.Tables.{Tables}
use Rattle.file_reader.specs.Contents.{contents_in, IsContentsList}
use Rattle.file_reader.specs.Reading.{IsReadingAt}
use Rattle.tree_model.specs.declared.command.Target.TheVariants.{Path}
use Rattle.tree_model.specs.declared.command.Command.TheVariants.{Get}
use Rattle.tree_model.specs.declared.refusal.FsFault.{FsFault}
use Rattle.tree_model.specs.declared.refusal.FsFault.TheVariants.{Refused as Refuses, Disk}
use Rattle.tree_model.specs.Trees.{Names, Tree, Contents}
use Rattle.tree_model.specs.Answers.{TreeReply, FileIs, Refused, Answers, get_refusal}
use Rattle.tree_rules.specs.Reading.{IsFileAt}
use Rattle.std.specs.Prelude.{Some, None}
use Rattle.save_fs.specs.declared.getting.Getting.{Getting}

-- what the tree answers to `get`
abbrev pub IsGetReply : Tree → Names → TreeReply → Type 0
IsGetReply tree path reply = Answers (λ part level block. ⊥) tree (Get (Path path)) [] reply tree

-- the file at a path has this entry; or the tree's refusal is given, or the disk failed
abbrev pub IsFileFound : Tables → Tree → Names → Result ℕ FsFault → Type 0
IsFileFound t tree path (Ok e) = IsFileAt t path e × (get_refusal tree path ≡ None)
IsFileFound t tree path (Err (Refuses refusal)) = get_refusal tree path ≡ Some refusal
IsFileFound t tree path (Err Disk) = ⊤

-- the file at a path has so many bytes in the data blocks of a chain that begins with `start`
pub record IsFileWith (cells : ℕ → Cell) (chain : ChainInfo) (tree : Tree) (path : Names) (start size : ℕ) : Type 0
  where
    pub list : List ℕ
    pub held : ℕ
    pub none : get_refusal tree path ≡ None
    pub file : tree.file path ≡ Some (Contents size held (contents_in chain list cells))
    pub contents : IsContentsList (table_in cells chain) chain start size list

abbrev pub AreFieldsFound : (ℕ → Cell) → ChainInfo → Tree → Names → Result FileFields FsFault → Type 0
AreFieldsFound cells chain tree path (Ok fields) = IsFileWith cells chain tree path fields.start fields.wide
AreFieldsFound cells chain tree path (Err (Refuses refusal)) = get_refusal tree path ≡ Some refusal
AreFieldsFound cells chain tree path (Err Disk) = ⊤

-- a file with these bytes is read, so many of which were given; the cells of its contents are its bytes
pub record IsGettingAt (cells : ℕ → Cell) (bytes : List ℕ) (x : ℕ) (getting : Getting) : Type 0 where
  pub start : ℕ
  pub list : List ℕ
  pub size : getting.size ≡ length bytes
  pub stands : IsReadingAt (table_in cells getting.reading.info) start (length bytes) list x getting.reading
  pub are : (k : ℕ) → k < length bytes
      → contents_in getting.reading.info list cells k ≡ Byte (slice_index bytes k)

-- the file's bytes are to be read from the first on; or the tree's refusal is given, or the disk failed
abbrev pub IsGetBegun : (ℕ → Cell) → Tree → Names → Result Getting FsFault → Type 0
IsGetBegun cells tree path (Ok getting) =
    (bytes : List ℕ) × IsGetReply tree path (FileIs bytes) × IsGettingAt cells bytes 0 getting
IsGetBegun cells tree path (Err (Refuses refusal)) = IsGetReply tree path (Refused refusal)
IsGetBegun cells tree path (Err Disk) = ⊤

-- so many bytes from byte x on stand at the front of a buffer, and the rest is to be read from there on
pub record IsPiece (cells : ℕ → Cell) (bytes : List ℕ) (x : ℕ) (later : Getting) (out : List ℕ) (n : ℕ) : Type 0 where
  pub many : n ≡ min (length bytes - x) (length out)
  pub given : take n out ≡ take n (drop x bytes)
  pub stands : IsGettingAt cells bytes (x + n) later

abbrev pub IsPieceGot : (ℕ → Cell) → List ℕ → ℕ → Getting → List ℕ → Result ℕ FsFault → Type 0
IsPieceGot cells bytes x later out (Ok n) = IsPiece cells bytes x later out n
IsPieceGot cells bytes x later out (Err (Refuses refusal)) = ⊥
IsPieceGot cells bytes x later out (Err Disk) = ⊤

-- What becomes of a part where a transaction ends.
use Rattle.std.specs.Prelude.{◌≡◌, ℕ, ◌+◌, ◌/◌, ◌^◌, ◌<◌, IsTrue, List, length, Option}
use Rattle.save_bytes.specs.declared.space.Bad.{Bad}
use Rattle.save_bytes.specs.Cells.{Cell, Byte, IsByte}
use Rattle.save_bytes.specs.CellNumbers.{value_of}
use Rattle.save_bytes.specs.State.{State}
use Rattle.save_bytes.specs.Refusals.{UnlessDisk}
use Rattle.save_bytes.specs.Stays.{SameCells}
use Rattle.difi.specs.Places.{block_size}
use Rattle.difi.specs.Contents.{view_size}
use Rattle.dpfs_tree.specs.Picks.{bytes_of, chosen}
use Rattle.dpfs_tree.specs.Marks.{place_of}
use Rattle.dpfs_tree.specs.Puts.{IsSettled}
use Rattle.ivfc_tree.specs.Levels.{level_of}
use Rattle.ivfc_tree.specs.Marks.{is_marked, HasNoMarks, AsManyMarks}
use Rattle.ivfc_tree.specs.Paths.{IsStateOf, block_state, path_state, cell_in}
use Rattle.ivfc_tree.specs.Seals.{AreHashed}
use Rattle.ivfc_tree.specs.Origins.{IsAtOrigin, CameFrom, IsBack}
use Rattle.part_store.specs.declared.part.Part.{Part}
use Rattle.part_store.specs.Parts.{master_of, contents_of, part_state, CanViewPart}

-- this copy of level 1 was selected, and each mark in either tree was cleared: the next transaction may begin
pub record EndsPart (selector : ℕ) (old new : Part) : Type 0 where
  pub number : new.number ≡ old.number
  pub place : new.at ≡ old.at
  pub contents : IsSettled selector old.dpfs new.dpfs
  pub hashes : AsManyMarks old.ivfc new.ivfc
  pub unmarked : HasNoMarks new.ivfc
  pub origin : IsAtOrigin new.ivfc

-- the contents as a selector chooses them from a base
abbrev pub chosen_cells : State → Part → ℕ → ℕ → Cell
chosen_cells base part selector x = Byte (chosen (bytes_of base.cells) part.at part.difi selector x)

-- The cell of a byte of level four as a base and a table alone give it: the block's hash path is tried over the
-- contents that a selector chooses, up to the master hash.
abbrev pub plain_cell : State → Part → ℕ → List ℕ → ℕ → Cell
plain_cell base part selector table x =
    let contents = chosen_cells base part selector in
    cell_in (path_state contents (master_of table part.difi) part.difi 4 (x / block_size part.difi.ivfc4)) part.number
    (value_of (contents ((level_of part.difi 4).at + x)))

-- a part can be viewed over a base whose cells are all bytes
pub record LiesInBytes (base : State) (part : Part) (table_len : ℕ) : Type 0 where
  pub view : CanViewPart base.shape part table_len
  pub small : base.shape.size < 2 ^ 64
  pub bytes : (x : ℕ) → IsByte (base.cells x)

-- A part as a base and a table alone tell of it: its contents are the chosen bytes, a block is good exactly where it
-- has a hash path, and so is each cell.
pub record HasNoChanges (part : Part) : Type 0 where
  pub chosen : (bytes : ℕ → ℕ) (x : ℕ) → bytes (place_of bytes part.at part.difi part.dpfs x)
      ≡ chosen bytes part.at part.difi part.dpfs.selector x
  pub paths : (cells : ℕ → Cell) (master : List ℕ) (level block : ℕ)
      → IsStateOf cells master part.difi level block (block_state cells master part.difi part.ivfc level block)
  pub cells : (base : State) (table : List ℕ) → LiesInBytes base part (length table) → (x : ℕ)
      → x < part.difi.ivfc4.size
      → (part_state base part table).cells x ≡ plain_cell base part part.dpfs.selector table x

-- A base and a table hold what was sealed of a part: the selector chooses the bytes that the part has in its
-- contents, and each block that was put or cleared is hashed.
pub record HoldsSealed (base : State) (part : Part) (table : List ℕ) (selector : ℕ) : Type 0 where
  pub lies : LiesInBytes base part (length table)
  pub told : IsTrue (part_state base part table).told
  pub chosen_bytes : (x : ℕ) → x < view_size part.difi
      → chosen (bytes_of base.cells) part.at part.difi selector x ≡ value_of ((contents_of base part).cells x)
  pub hashed : AreHashed (contents_of base part).cells (master_of table part.difi) part.difi (is_marked part.ivfc)

-- of such a base and table a part that takes the selector tells the cells that it told
pub record TellsSealed (base : State) (old new : Part) (table : List ℕ) : Type 0 where
  pub told : IsTrue (part_state base new table).told
  pub cells : SameCells (part_state base old table) (part_state base new table)

abbrev pub TellsSettled : ℕ → Part → Part → Type 0
TellsSettled selector old new = (base : State) (table : List ℕ) → HoldsSealed base old table selector
    → TellsSealed base old new table

-- the tree of a part over a base and a table came from contents and a master hash
abbrev pub PartCameFrom : (ℕ → Cell) → List ℕ → State → Part → List ℕ → Type 0
PartCameFrom was was_master base part table =
    CameFrom part.difi (is_marked part.ivfc) was was_master (contents_of base part).cells (master_of table part.difi)

-- a call leaves it come from where it came from, unless it was refused for the disk's sake
abbrev pub KeepsPartOrigins : State → Part → List ℕ → State → Part → List ℕ → Option Bad → Type 0
KeepsPartOrigins base part table base_new part_new table_new refusal =
    IsTrue (part_state base part table).told → (was : ℕ → Cell) (was_master : List ℕ)
    → PartCameFrom was was_master base part table
    → UnlessDisk refusal (PartCameFrom was was_master base_new part_new table_new)

-- A part's changes came from contents and a table as they were. The chosen contents are those still, but for blocks
-- of level four that were put or cleared: external ones are written in place.
pub record HoldsOrigin (was : ℕ → Cell) (base : State) (part : Part) (table was_table : List ℕ) : Type 0 where
  pub lies : LiesInBytes base part (length table)
  pub told : IsTrue (part_state base part table).told
  pub same_len : length was_table ≡ length table
  pub came : PartCameFrom was (master_of was_table part.difi) base part table
  pub back : IsBack (contents_of base part).shape part.difi (is_marked part.ivfc) was
      (chosen_cells base part part.dpfs.selector)

-- So the part tells its cells once they are dropped, of the base and of the table as it was. They are those that
-- another base gave with that table from which the same contents are chosen.
pub record TellsOrigin (old new : Part) : Type 0 where
  pub told : (was : ℕ → Cell) (base : State) (table was_table : List ℕ) → HoldsOrigin was base old table was_table
      → IsTrue (part_state base new was_table).told
  pub cells : (base was : State) (was_table : List ℕ) → LiesInBytes base old (length was_table)
      → ((x : ℕ) → x < view_size old.difi
      → chosen_cells base old old.dpfs.selector x ≡ chosen_cells was old old.dpfs.selector x)
      → (x : ℕ) → x < old.difi.ivfc4.size
      → (part_state base new was_table).cells x ≡ plain_cell was old old.dpfs.selector was_table x

-- A partition: its hash tree over the contents of its double-copy tree.
use Rattle.std.specs.Prelude.{◌≡◌, ℕ, ◌+◌, ◌<◌, ◌≤◌, Bool, ◌&&◌, not, nat_le, IsTrue, List, length, take, drop, Result, IfOk}
use Rattle.std.specs.Result.{result_err}
use Rattle.save_bytes.specs.declared.space.Bad.{Bad}
use Rattle.save_bytes.specs.Refusals.{IfDamaged}
use Rattle.save_bytes.specs.Cells.{Blames}
use Rattle.save_bytes.specs.State.{Shape, State}
use Rattle.difi.specs.declared.descriptor.Difi.{Difi}
use Rattle.save_bytes.specs.Extents.{overlap, AreApart}
use Rattle.difi.specs.Sound.{difi_part}
use Rattle.dpfs_tree.specs.View.{contents_state, CanViewContents, can_view_contents}
use Rattle.ivfc_tree.specs.Marks.{IsMadeFor, is_made_for}
use Rattle.ivfc_tree.specs.declared.view.Status.{Status}
use Rattle.ivfc_tree.specs.Paths.{block_state}
use Rattle.ivfc_tree.specs.View.{view_state as hashed_state, status_of}
use Rattle.part_store.specs.declared.part.Part.{Part}

-- the master hash in the table that has the descriptor
abbrev pub master_of : List ℕ → Difi → List ℕ
master_of table difi = take difi.master.size (drop (difi.place + difi.master.at) table)

-- the contents of a partition's double-copy tree
abbrev pub contents_of : State → Part → State
contents_of base part = contents_state base part.at part.difi part.dpfs

-- What a view needs of its base, its part and its table. The partition lies in the base as its descriptor says, no level's
-- condition fails, and the first part of the descriptor and the master hash lie in the table, apart.
pub record CanViewPart (base : Shape) (part : Part) (table_len : ℕ) : Type 0 where
  pub contents : CanViewContents base part.at part.difi part.dpfs
  pub difi : part.difi.place + 0x44 ≤ table_len
  pub master : part.difi.place + part.difi.master.at + part.difi.master.size ≤ table_len
  pub apart : AreApart difi_part part.difi.master
  pub made : IsMadeFor part.difi part.ivfc

-- the same as a test
unfoldable pub can_view_part : Shape → Part → ℕ → Bool
can_view_part base part table_len =
    can_view_contents base part.at part.difi part.dpfs
    && (nat_le (part.difi.place + 0x44) table_len && (nat_le (part.difi.place + part.difi.master.at + part.difi.master.size) table_len
    && (not (overlap difi_part part.difi.master) && is_made_for part.difi part.ivfc)))

-- the bytes of level four, each by its hash path up to the master hash in the table
abbrev pub hashed_of : State → Part → List ℕ → State
hashed_of base part table = hashed_state (contents_of base part) part.number (master_of table part.difi) part.difi part.ivfc

abbrev pub part_state : State → Part → List ℕ → State
part_state base part table =
    record (hashed_of base part table) { shape = record (hashed_of base part table).shape { sound = can_view_part base.shape part (length table) } }

-- nothing is remembered of a part: its cells are told wherever those of a base are
abbrev pub HasNoMemory : Part → Type 0
HasNoMemory part = (base : State) (table : List ℕ) → (part_state base part table).told ≡ base.told

-- what is told of a block of the partition
abbrev pub status_in : State → Part → List ℕ → ℕ → ℕ → Status
status_in base part table level block =
    status_of (block_state (contents_of base part).cells (master_of table part.difi) part.difi part.ivfc level block)

-- Where bytes of a space lie in the base as a call left it, and how many lie there in one piece. Or the cell at the place
-- is no byte, and is named.
pub record IsFound (s base : State) (at most : ℕ) (result : Result (ℕ × ℕ) Bad) : Type 0 where
  pub some : IfOk result (λ run. 1 ≤ run.1)
  pub bounded : IfOk result (λ run. run.1 ≤ most)
  pub inside : IfOk result (λ run. at + run.1 ≤ s.shape.size)
  pub in_base : IfOk result (λ run. run.0 + run.1 ≤ base.shape.size)
  pub cells : IsTrue s.told → IfOk result (λ run. (k : ℕ) → k < run.1 → s.cells (at + k) ≡ base.cells (run.0 + k))
  pub damaged : IsTrue s.told → IfDamaged (result_err result) (Blames (s.cells at))

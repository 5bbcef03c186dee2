-- What a contract sees of a floor with holes.
use Rattle.std.specs.Prelude.{◌≡◌, ℕ, ◌+◌, ◌-◌, ◌*◌, ◌/◌, ◌^◌, ◌<◌, ◌≤◌, min, false, ◌&&◌, nat_lt}
use Rattle.std.specs.Prelude.{nat_le}
use Rattle.std.specs.Prelude.{List, length, slice_index, slice_index_or}
use Rattle.std.specs.Borrow.{MutBor}
use Rattle.save_bytes.specs.Cells.{Cell, Byte, Blank, Spoilt}
use Rattle.save_bytes.specs.State.{Shape, State}
use Rattle.save_bytes.specs.Spots.{Spot, Place}
use Rattle.save_samples.specs.declared.holes.Hole.{Hole}
use Rattle.save_samples.specs.declared.holes.Hole.TheVariants.{Filled, NeverWritten, Broken}
use Rattle.save_samples.specs.declared.holes.HoleSpace.{HoleSpace}

-- a cell of a block: its byte, or the hole with the block's number
abbrev pub hole_cell : Hole → ℕ → ℕ → Cell
hole_cell Filled value number = Byte value
hole_cell (NeverWritten level) value number = Blank 0 level number
hole_cell (Broken level) value number = Spoilt 0 level number

-- so many places, in blocks of which so many have a hole
abbrev pub hole_shape : ℕ → ℕ → ℕ → Shape
hole_shape size block holes = record {
  size = size;
  sound = (nat_lt 0 block && nat_lt size (2 ^ 64)) && nat_le size (holes * block);
  plain = false;
  first = 0;
  doubled = false;
  block_start = λ x. x / block * block;
  block_len = λ x. min block (size - x / block * block);
}

abbrev pub holed_state : List ℕ → ℕ → List Hole → State
holed_state bytes block holes = record {
  shape = hole_shape (length bytes) block (length holes);
  told = nat_lt 0 block;
  cells = λ x. hole_cell (slice_index_or holes (x / block) Filled) (slice_index bytes x) (x / block);
  bottom = λ x. x;
  is_fixed = λ x. false;
  faults = 0;
}

abbrev pub hole_state : HoleSpace → State
hole_state s = holed_state s.bytes.now s.block s.holes.now

-- the floor holds these references, and its blocks have this length
pub record IsHoleSpaceOf (s : HoleSpace) (bytes : MutBor (List ℕ)) (block : ℕ)
    (holes : MutBor (List Hole)) : Type 0 where
  pub same_bytes : s.bytes.ghost_name ≡ bytes.ghost_name
  pub bytes_now : s.bytes.now ≡ bytes.now
  pub same_block : s.block ≡ block
  pub same_holes : s.holes.ghost_name ≡ holes.ghost_name
  pub holes_now : s.holes.now ≡ holes.now

-- the same references, lengths and blocks
pub record SameHoles (old new : HoleSpace) : Type 0 where
  pub same_bytes : new.bytes.ghost_name ≡ old.bytes.ghost_name
  pub same_size : length new.bytes.now ≡ length old.bytes.now
  pub same_block : new.block ≡ old.block
  pub same_holes : new.holes.ghost_name ≡ old.holes.ghost_name
  pub same_count : length new.holes.now ≡ length old.holes.now

-- a place was left alone where its cell is as before
abbrev pub SameHoleSpot : Spot → HoleSpace → HoleSpace → Type 0
SameHoleSpot (Place at) old new = (hole_state new).cells at ≡ (hole_state old).cells at
SameHoleSpot other old new = Unit {0}

abbrev pub HoleKeeps : Spot → HoleSpace → HoleSpace → Type 0
HoleKeeps spot old new = SameHoles old new × SameHoleSpot spot old new

-- a put touches the places of its block
abbrev pub HoleLands : HoleSpace → ℕ → Spot → Type 0
HoleLands s x (Place at) = x / s.block ≡ at / s.block
HoleLands s x other = ⊥

-- so many cells from a place on are their bytes
pub record IsRun (s : State) (bytes : List ℕ) (at most run : ℕ) : Type 0 where
  pub some : 1 ≤ run
  pub bounded : run ≤ most
  pub inside : at + run ≤ s.shape.size
  pub cells : (k : ℕ) → k < run → s.cells (at + k) ≡ Byte (slice_index bytes (at + k))

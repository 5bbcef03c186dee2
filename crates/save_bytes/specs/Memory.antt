-- What a contract sees of a space in memory.
use Rattle.std.specs.Prelude.{◌≡◌, ℕ, ◌-◌, ◌*◌, ◌/◌, ◌^◌, min, true, false, ◌&&◌, nat_lt, List, length, slice_index}
use Rattle.std.specs.Borrow.{MutBor}
use Rattle.save_bytes.specs.declared.memory.MemSpace.{MemSpace}
use Rattle.save_bytes.specs.Cells.{Byte}
use Rattle.save_bytes.specs.State.{Shape, State}
use Rattle.save_bytes.specs.Spots.{Spot, Place}

-- so many places, with damage spreading in blocks of one length, the last one cut
abbrev pub memory_shape : ℕ → ℕ → Shape
memory_shape size block = record {
  size = size;
  sound = nat_lt 0 block && nat_lt size (2 ^ 64);
  plain = true;
  first = 0;
  doubled = false;
  block_start = λ x. x / block * block;
  block_len = λ x. min block (size - x / block * block);
}

-- each byte is a cell
abbrev pub bytes_state : List ℕ → ℕ → State
bytes_state bytes block = record {
  shape = memory_shape (length bytes) block;
  told = true;
  cells = λ x. Byte (slice_index bytes x);
  bottom = λ x. x;
  is_fixed = λ x. false;
  faults = 0;
}

abbrev pub memory_state : MemSpace → State
memory_state s = bytes_state s.bytes.now s.block

-- the space holds this reference, and its blocks have this length
pub record IsMemoryOf (s : MemSpace) (bytes : MutBor (List ℕ)) (block : ℕ) : Type 0 where
  pub same_reference : s.bytes.ghost_name ≡ bytes.ghost_name
  pub bytes_now : s.bytes.now ≡ bytes.now
  pub same_block : s.block ≡ block

-- the same reference, length and blocks
pub record SameMemory (old new : MemSpace) : Type 0 where
  pub same_reference : new.bytes.ghost_name ≡ old.bytes.ghost_name
  pub same_size : length new.bytes.now ≡ length old.bytes.now
  pub same_block : new.block ≡ old.block

-- a place was left alone where its byte is as before; a memory has neither sectors nor marks
abbrev pub SameSpot : Spot → MemSpace → MemSpace → Type 0
SameSpot (Place at) old new = slice_index new.bytes.now at ≡ slice_index old.bytes.now at
SameSpot other old new = Unit {0}

abbrev pub MemoryKeeps : Spot → MemSpace → MemSpace → Type 0
MemoryKeeps spot old new = SameMemory old new × SameSpot spot old new

-- a put touches its own places
abbrev pub MemoryLands : ℕ → Spot → Type 0
MemoryLands x (Place at) = x ≡ at
MemoryLands x other = ⊥

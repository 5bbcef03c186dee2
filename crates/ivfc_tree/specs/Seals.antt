-- What a seal of a hash tree leaves: the digests of marked blocks, in the levels above them and in the master hash.
use Rattle.std.specs.Prelude.{◌≡◌, ◌≢◌, ℕ, suc, ◌+◌, ◌-◌, ◌*◌, ◌<◌, ◌≤◌, Bool, true, false, IsTrue, List, length}
use Rattle.std.specs.Prelude.{slice_index, Option}
use Rattle.sha2.specs.Sha256.{sha256}
use Rattle.save_bytes.specs.declared.space.Bad.{Bad}
use Rattle.save_bytes.specs.Cells.{Cell}
use Rattle.save_bytes.specs.State.{State}
use Rattle.save_bytes.specs.Refusals.{IfDone, UnlessDisk}
use Rattle.save_bytes.specs.Spots.{Spot}
use Rattle.save_bytes.specs.Writes.{IsWithin, Writes}
use Rattle.difi.specs.declared.descriptor.Difi.{Difi}
use Rattle.ivfc_tree.specs.declared.state.IvfcState.{IvfcState}
use Rattle.ivfc_tree.specs.Levels.{level_of, HasBlock, padded_block, hash_entry, zero_entry, parent_of}
use Rattle.ivfc_tree.specs.Paths.{IsHashed, own_state, marked_state}

-- a level has a block of this number, and it is marked
pub record HasMarkedBlock (difi : Difi) (marked : ℕ → ℕ → Bool) (level block : ℕ) : Type 0 where
  pub there : HasBlock difi level block
  pub is_marked : marked level block ≡ true

-- the block above a marked block is marked
abbrev pub MarksParents : Difi → (ℕ → ℕ → Bool) → Type 0
MarksParents difi marked = (upper block : ℕ) → 1 ≤ upper → HasBlock difi (suc upper) block
    → marked (suc upper) block ≡ true → marked upper (parent_of difi upper block) ≡ true

-- a place of the base is one of the 32 bytes of the entry of a block of levels 2 to 4
abbrev pub IsInEntry : Difi → ℕ → ℕ → ℕ → Type 0
IsInEntry difi level block x = (1 < level) × IsWithin ((level_of difi (level - 1)).at + 32 * block) 32 x

-- and one of the master hash of the entry of a block of level 1
abbrev pub IsInFirst : ℕ → ℕ → ℕ → Type 0
IsInFirst level block x = (level ≡ 1) × IsWithin (32 * block) 32 x

-- the block is marked, and the place is one of its entry in the base
abbrev pub MarkedEntry : Difi → (ℕ → ℕ → Bool) → ℕ → ℕ → ℕ → Type 0
MarkedEntry difi marked level block x = HasMarkedBlock difi marked level block × IsInEntry difi level block x

-- the same in the master hash
abbrev pub MarkedFirst : Difi → (ℕ → ℕ → Bool) → ℕ → ℕ → ℕ → Type 0
MarkedFirst difi marked level block x = HasMarkedBlock difi marked level block × IsInFirst level block x

-- the entries of the marked blocks of a level
abbrev pub LevelSites : Difi → (ℕ → ℕ → Bool) → ℕ → ℕ → Type 0
LevelSites difi marked level x = (block : ℕ) × MarkedEntry difi marked level block x

-- those of all levels
abbrev pub HashSites : Difi → (ℕ → ℕ → Bool) → ℕ → Type 0
HashSites difi marked x = (level : ℕ) × LevelSites difi marked level x

-- those in the master hash
abbrev pub MasterSites : Difi → (ℕ → ℕ → Bool) → ℕ → ℕ → Type 0
MasterSites difi marked level x = (block : ℕ) × MarkedFirst difi marked level block x

-- a list is as long as before, and all its numbers but at some places are the same
pub record DiffersAt (sites : ℕ → Type 0) (old new : List ℕ) : Type 0 where
  pub same_len : length new ≡ length old
  pub others : (x : ℕ) → ¬ sites x → slice_index new x ≡ slice_index old x

-- more blocks were hashed, and no mark was changed
pub record CountsOn (old new : IvfcState) : Type 0 where
  pub marks : new.marks ≡ old.marks
  pub counted : old.hashed ≤ new.hashed

-- the entry of each marked block of a level is the block's digest
abbrev pub AreDigests : (ℕ → Cell) → List ℕ → Difi → (ℕ → ℕ → Bool) → ℕ → Type 0
AreDigests cells master difi marked level = (block : ℕ) → HasMarkedBlock difi marked level block
    → hash_entry cells master difi level block ≡ sha256 (padded_block cells difi level block)

-- no marked block has 32 zero bytes as its digest
abbrev pub HasNoZeroDigest : (ℕ → Cell) → Difi → (ℕ → ℕ → Bool) → Type 0
HasNoZeroDigest cells difi marked = (level block : ℕ) → HasMarkedBlock difi marked level block
    → sha256 (padded_block cells difi level block) ≢ zero_entry

-- each marked block is hashed
abbrev pub AreHashed : (ℕ → Cell) → List ℕ → Difi → (ℕ → ℕ → Bool) → Type 0
AreHashed cells master difi marked = (level block : ℕ) → HasMarkedBlock difi marked level block
    → IsHashed cells master difi level block

-- what each block comes to stays, and so do what blocks tell that are not marked, and the bytes of level four
pub record ShowsSame (difi : Difi) (marked : ℕ → ℕ → Bool) (cells : ℕ → Cell) (master : List ℕ) (new : ℕ → Cell)
    (new_master : List ℕ) : Type 0 where
  pub blocks : (level block : ℕ) → HasBlock difi level block
      → marked_state new new_master difi marked level block ≡ marked_state cells master difi marked level block
  pub unmarked : (level block : ℕ) → HasBlock difi level block → marked level block ≡ false
      → own_state new new_master difi level block ≡ own_state cells master difi level block
  pub contents : (x : ℕ) → x < difi.ivfc4.size → new ((level_of difi 4).at + x) ≡ cells ((level_of difi 4).at + x)

-- A seal of a block, if it is marked: its entry is then its digest, and nothing else changes.
pub record SealsMarked {A : Type 0} (states : A → State) (keeps : Spot → A → A → Type 0) (lands : A → ℕ → Spot →
    Type 0)
    (difi : Difi) (marked : ℕ → ℕ → Bool) (level block : ℕ) (old : A) (master : List ℕ) (new : A) (new_master :
    List ℕ)
    (refusal : Option Bad) : Type 0 where
  pub entry : IsTrue (states old).told → IfDone refusal (marked level block ≡ true
      → hash_entry (states new).cells new_master difi level block
      ≡ sha256 (padded_block (states new).cells difi level block))
  pub writes : Writes states keeps lands (MarkedEntry difi marked level block) old new refusal
  pub master_hash : DiffersAt (MarkedFirst difi marked level block) master new_master

-- a seal of all marked blocks of a level
pub record SealsLevel {A : Type 0} (states : A → State) (keeps : Spot → A → A → Type 0) (lands : A → ℕ → Spot →
    Type 0)
    (difi : Difi) (marked : ℕ → ℕ → Bool) (level : ℕ) (old : A) (master : List ℕ) (new : A) (new_master : List ℕ)
    (refusal : Option Bad) : Type 0 where
  pub digests : IsTrue (states old).told → IfDone refusal (AreDigests (states new).cells new_master difi marked level)
  pub writes : Writes states keeps lands (LevelSites difi marked level) old new refusal
  pub master_hash : DiffersAt (MasterSites difi marked level) master new_master

-- A seal of the marked blocks. Each has then its digest as its entry, and is hashed unless that is 32 zero bytes.
-- Nothing changes but the entries of marked blocks: so what each block comes to stays, where the blocks above marked
-- blocks are marked.
pub record SealsTree {A : Type 0} (states : A → State) (keeps : Spot → A → A → Type 0) (lands : A → ℕ → Spot → Type 0)
    (difi : Difi) (marked : ℕ → ℕ → Bool) (old : A) (master : List ℕ) (new : A) (new_master : List ℕ)
    (refusal : Option Bad) : Type 0 where
  pub hashed : IsTrue (states old).told → IfDone refusal
      (HasNoZeroDigest (states new).cells difi marked → AreHashed (states new).cells new_master difi marked)
  pub shown : IsTrue (states old).told → MarksParents difi marked
      → UnlessDisk refusal (ShowsSame difi marked (states old).cells master (states new).cells new_master)
  pub writes : Writes states keeps lands (HashSites difi marked) old new refusal
  pub master_hash : DiffersAt (MasterSites difi marked 1) master new_master

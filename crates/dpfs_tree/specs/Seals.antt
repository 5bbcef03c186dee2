-- What a seal of a view leaves.
use Rattle.std.specs.Prelude.{◌≡◌, ◌⊎◌, ℕ, ◌-◌, ◌*◌, ◌/◌, ◌^◌, ◌<◌, Bool, true, IsTrue, Result, IfOk}
use Rattle.std.specs.Result.{result_err}
use Rattle.save_bytes.specs.declared.space.Bad.{Bad}
use Rattle.save_bytes.specs.Cells.{Cell}
use Rattle.save_bytes.specs.CellNumbers.{value_of}
use Rattle.save_bytes.specs.State.{State}
use Rattle.save_bytes.specs.Refusals.{UnlessDisk}
use Rattle.save_bytes.specs.Stays.{SameCells}
use Rattle.save_bytes.specs.Spots.{Spot}
use Rattle.save_bytes.specs.Writes.{IsWithin, Writes}
use Rattle.difi.specs.declared.descriptor.Difi.{Difi}
use Rattle.difi.specs.Places.{blocks_of}
use Rattle.difi.specs.Contents.{view_size}
use Rattle.dpfs_tree.specs.declared.state.DpfsState.{DpfsState}
use Rattle.dpfs_tree.specs.Picks.{bytes_of, bit_of, copy_place, pick1, pick2, chosen}
use Rattle.dpfs_tree.specs.Marks.{is_marked, some_marked, copy_read}
use Rattle.dpfs_tree.specs.View.{contents_state}

-- how many bits a block of level 2 has
abbrev pub bits_in : Difi → ℕ
bits_in difi = 8 * 2 ^ difi.dpfs2.log

-- a block of so many bits has that of a marked block
abbrev pub has_mark : ℕ → DpfsState → ℕ → Bool
has_mark bits state block = some_marked (is_marked state.touched.items) (bits * block) bits

-- the same as a fact: there is such a block of level 3
abbrev pub HasMark : Difi → DpfsState → ℕ → Type 0
HasMark difi state block = (k : ℕ) × IsWithin (bits_in difi * block) (bits_in difi) k
    × (is_marked state.touched.items k ≡ true)

-- a place of the copy of level 1 that is not chosen
abbrev pub SealsLevel1 : ℕ → Difi → ℕ → ℕ → Type 0
SealsLevel1 part_at difi selector place = (x : ℕ) × (x < difi.dpfs1.size)
    × (place ≡ copy_place part_at difi.dpfs1 (1 - selector) x)

-- a place of a block of level 2, which has the bit of a marked block, in its copy that is not chosen
abbrev pub SealsBlock : (ℕ → ℕ) → ℕ → Difi → DpfsState → ℕ → ℕ → Type 0
SealsBlock bytes part_at difi state block place =
    (x : ℕ) × (x < difi.dpfs2.size) × (x / 2 ^ difi.dpfs2.log ≡ block) × HasMark difi state block
    × (place ≡ copy_place part_at difi.dpfs2 (1 - bit_of (pick1 bytes part_at difi state.selector) block) x)

-- and of one of all these blocks
abbrev pub SealsLevel2 : (ℕ → ℕ) → ℕ → Difi → DpfsState → ℕ → Type 0
SealsLevel2 bytes part_at difi state place = (block : ℕ) × SealsBlock bytes part_at difi state block place

-- the places of the base that a seal may write
abbrev pub SealWrites : (ℕ → ℕ) → ℕ → Difi → DpfsState → ℕ → Type 0
SealWrites bytes part_at difi state place = SealsLevel1 part_at difi state.selector place
    ⊎ SealsLevel2 bytes part_at difi state place

-- The bit of a block of level 3 stands in the other copy of its block of level 2, and is turned where the block is
-- marked.
abbrev pub IsBitSealed : ℕ → Difi → DpfsState → (ℕ → Cell) → ℕ → (ℕ → Cell) → Type 0
IsBitSealed part_at difi state old k new =
    bit_of (λ x. bytes_of new (copy_place part_at difi.dpfs2
    (1 - bit_of (pick1 (bytes_of old) part_at difi state.selector) (k / bits_in difi)) x)) k
    ≡ copy_read (is_marked state.touched.items k) (bit_of (pick2 (bytes_of old) part_at difi state.selector) k)

-- a block of level 2 was sealed
abbrev pub IsBlockSealed : ℕ → Difi → DpfsState → (ℕ → Cell) → ℕ → (ℕ → Cell) → Type 0
IsBlockSealed part_at difi state old block new =
    (k : ℕ) → k < blocks_of difi.dpfs3 → k / bits_in difi ≡ block → IsBitSealed part_at difi state old k new

-- each of the first n blocks of level 2 that has the bit of a marked block was sealed
abbrev pub AreBlocksSealed : ℕ → Difi → DpfsState → (ℕ → Cell) → ℕ → (ℕ → Cell) → Type 0
AreBlocksSealed part_at difi state old n new =
    (k : ℕ) → k < blocks_of difi.dpfs3 → k / bits_in difi < n → HasMark difi state (k / bits_in difi)
    → IsBitSealed part_at difi state old k new

-- the bits of the other copy of level 1, which choose the blocks of level 2 that were sealed
abbrev pub IsLevel1Sealed : ℕ → Difi → DpfsState → (ℕ → Cell) → (ℕ → Cell) → Type 0
IsLevel1Sealed part_at difi state old new =
    (block : ℕ) → block < blocks_of difi.dpfs2 → bit_of (pick1 (bytes_of new) part_at difi (1 - state.selector)) block
    ≡ copy_read (has_mark (bits_in difi) state block) (bit_of (pick1 (bytes_of old) part_at difi state.selector) block)

-- A seal answers the other selector, and the base read with that one has the view's bytes. The view as it is shown
-- stays.
pub record IsSealed {A : Type 0} (states : A → State) (keeps : Spot → A → A → Type 0) (lands : A → ℕ → Spot → Type 0)
    (part_at : ℕ)
    (difi : Difi) (state : DpfsState) (old new : A) (result : Result ℕ Bad) : Type 0 where
  pub selector : IfOk result (λ selector. selector ≡ 1 - state.selector)
  pub chosen_bytes : IsTrue (states old).told → IfOk result (λ selector. (x : ℕ) → x < view_size difi
      → chosen (bytes_of (states new).cells) part_at difi selector x
      ≡ value_of ((contents_state (states old) part_at difi state).cells x))
  pub shown : IsTrue (states old).told → UnlessDisk (result_err result)
      (SameCells (contents_state (states old) part_at difi state) (contents_state (states new) part_at difi state))
  pub writes : Writes states keeps lands (SealWrites (bytes_of (states old).cells) part_at difi state) old new
      (result_err result)

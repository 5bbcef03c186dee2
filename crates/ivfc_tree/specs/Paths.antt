-- Hash paths: a block is good where it, and each block above it up to the master hash, has the digest that its entry
-- says.
use Rattle.std.specs.Prelude.{◌≡◌, ◌≢◌, ℕ, zero, suc, ◌/◌, ◌<◌, ◌≤◌, Bool, false, ◌==◌, bytes_eq, List, if◌then◌else◌}
use Rattle.sha2.specs.Sha256.{sha256}
use Rattle.save_bytes.specs.Cells.{Cell, Byte, Blank, Spoilt}
use Rattle.difi.specs.declared.descriptor.Difi.{Difi}
use Rattle.difi.specs.Places.{block_size}
use Rattle.ivfc_tree.specs.declared.path.BlockState.{BlockState}
use Rattle.ivfc_tree.specs.declared.path.BlockState.TheVariants.{Good, Blank as BlankAt, Bad as BadAt}
use Rattle.ivfc_tree.specs.declared.state.IvfcState.{IvfcState}
use Rattle.ivfc_tree.specs.Levels.{padded_block, hash_entry, zero_entry, parent_of}
use Rattle.ivfc_tree.specs.Marks.{is_marked}

-- which block of a level lies above a block of another level, or is that block
unfoldable pub block_above : Difi → ℕ → ℕ → ℕ → ℕ
block_above difi zero block upper = block
block_above difi (suc level) block upper =
    if upper == suc level then block else block_above difi level (parent_of difi level block) upper

-- the block of a level on the path of byte x of level four
abbrev pub path_block : Difi → ℕ → ℕ → ℕ
path_block difi x level = block_above difi 4 (x / block_size difi.ivfc4) level

-- a block's entry is that of a written block, and is the block's digest
pub record IsHashed (cells : ℕ → Cell) (master : List ℕ) (difi : Difi) (level block : ℕ) : Type 0 where
  pub written : hash_entry cells master difi level block ≢ zero_entry
  pub digest : hash_entry cells master difi level block ≡ sha256 (padded_block cells difi level block)

-- from level 1 down to the block's own, each block on the way is hashed
abbrev pub HasHashPath : (ℕ → Cell) → List ℕ → Difi → ℕ → ℕ → Type 0
HasHashPath cells master difi level block =
    (upper : ℕ) → 1 ≤ upper → upper ≤ level → IsHashed cells master difi upper (block_above difi level block upper)

-- the first level from the top at which the way to a block fails, and the block there
pub record FailsFirst (cells : ℕ → Cell) (master : List ℕ) (difi : Difi) (level block upper at : ℕ) : Type 0 where
  pub some : 1 ≤ upper
  pub above : upper ≤ level
  pub there : at ≡ block_above difi level block upper
  pub fails : ¬ IsHashed cells master difi upper at
  pub before : (higher : ℕ) → 1 ≤ higher → higher < upper
      → IsHashed cells master difi higher (block_above difi level block higher)

-- what a block's path comes to: it holds, or fails first at a block that was never written, or at another
abbrev pub IsStateOf : (ℕ → Cell) → List ℕ → Difi → ℕ → ℕ → BlockState → Type 0
IsStateOf cells master difi level block Good = HasHashPath cells master difi level block
IsStateOf cells master difi level block (BlankAt upper at) =
    FailsFirst cells master difi level block upper at × (hash_entry cells master difi upper at ≡ zero_entry)
IsStateOf cells master difi level block (BadAt upper at) =
    FailsFirst cells master difi level block upper at × (hash_entry cells master difi upper at ≢ zero_entry)

-- a block by its entry and digest alone
abbrev pub judged : ℕ → ℕ → List ℕ → List ℕ → BlockState
judged level block entry digest =
    if bytes_eq entry zero_entry then BlankAt level block
    else (if bytes_eq entry digest then Good else BadAt level block)

-- what a block's own entry and bytes tell
abbrev pub own_state : (ℕ → Cell) → List ℕ → Difi → ℕ → ℕ → BlockState
own_state cells master difi level block =
    judged level block (hash_entry cells master difi level block) (sha256 (padded_block cells difi level block))

-- what is said of the block above decides, unless that holds
abbrev pub after : BlockState → BlockState → BlockState
after Good own = own
after (BlankAt level block) own = BlankAt level block
after (BadAt level block) own = BadAt level block

-- the same as a value, where blocks that are marked count as good
unfoldable pub marked_state : (ℕ → Cell) → List ℕ → Difi → (ℕ → ℕ → Bool) → ℕ → ℕ → BlockState
marked_state cells master difi marked zero block = Good
marked_state cells master difi marked (suc level) block =
    if marked (suc level) block then Good
    else after (marked_state cells master difi marked level (parent_of difi level block))
    (own_state cells master difi (suc level) block)

-- where none is
abbrev pub path_state : (ℕ → Cell) → List ℕ → Difi → ℕ → ℕ → BlockState
path_state cells master difi = marked_state cells master difi (λ level block. false)

-- and where those are that were put or cleared
abbrev pub block_state : (ℕ → Cell) → List ℕ → Difi → IvfcState → ℕ → ℕ → BlockState
block_state cells master difi state = marked_state cells master difi (is_marked state)

-- the cell of a byte of a part, by the state of its block
abbrev pub cell_in : BlockState → ℕ → ℕ → Cell
cell_in Good part value = Byte value
cell_in (BlankAt level block) part value = Blank part level block
cell_in (BadAt level block) part value = Spoilt part level block

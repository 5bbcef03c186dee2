-- What a contract sees of a view through a hash tree.
use Rattle.std.specs.Prelude.{◌≡◌, ℕ, ◌+◌, ◌-◌, ◌*◌, ◌/◌, ◌%◌, ◌^◌, ◌<◌, ◌≤◌, suc, min, Bool, false, ◌&&◌, not, ◌==◌}
use Rattle.std.specs.Prelude.{IsTrue, IsFalse}
use Rattle.std.specs.Prelude.{List, length, Result, IfOk}
use Rattle.std.specs.Result.{result_err}
use Rattle.save_bytes.specs.declared.space.Bad.{Bad}
use Rattle.save_bytes.specs.Cells.{Cell, Spoilt, IsByte, IsUnspoilt, Blames}
use Rattle.save_bytes.specs.CellNumbers.{value_of}
use Rattle.save_bytes.specs.State.{State, Shape}
use Rattle.save_bytes.specs.Refusals.{IfDamaged}
use Rattle.difi.specs.declared.descriptor.Difi.{Difi}
use Rattle.difi.specs.Places.{extent_of, block_size, blocks_of}
use Rattle.difi.specs.Contents.{view_size}
use Rattle.difi.specs.Conditions.{has_bad_log, has_bad_level, has_overlapping_levels, has_too_few_entries}
use Rattle.save_bytes.specs.Extents.{AreApart}
use Rattle.difi.specs.Sound.{IsBetween, HasBlockSizes, HasHashLevels}
use Rattle.ivfc_tree.specs.declared.path.BlockState.{BlockState}
use Rattle.ivfc_tree.specs.declared.path.BlockState.TheVariants.{Good, Blank as BlankAt, Bad as BadAt}
use Rattle.ivfc_tree.specs.declared.state.IvfcState.{IvfcState}
use Rattle.ivfc_tree.specs.declared.view.Status.{Status}
use Rattle.ivfc_tree.specs.declared.view.Status.TheVariants.{Good as GoodStatus, Blank as BlankStatus, Bad as BadStatus}
use Rattle.ivfc_tree.specs.Levels.{IsLevel, level_of}
use Rattle.ivfc_tree.specs.Marks.{IsMadeFor, is_made_for}
use Rattle.ivfc_tree.specs.Paths.{block_state, cell_in}
use Rattle.ivfc_tree.specs.Known.{is_told}

-- what a view needs of its base, its descriptor, its master hash and its state: the base is laid out as the
-- double-copy tree's contents, each place of it may be written, it never answers that a cell is damaged, and it has
-- neither twins nor fixed places
pub record CanViewHashes (base : Shape) (difi : Difi) (master_len : ℕ) (state : IvfcState) : Type 0 where
  pub sound : IsTrue base.sound
  pub plain : IsTrue base.plain
  pub single : IsFalse base.doubled
  pub first : base.first ≡ 0
  pub base_len : base.size ≡ view_size difi
  pub whole_master : master_len ≡ difi.master.size
  pub block_sizes : HasBlockSizes difi
  pub hash_levels : HasHashLevels difi
  pub made : IsMadeFor difi state

-- the same as a test
unfoldable pub can_view_hashes : Shape → Difi → ℕ → IvfcState → Bool
can_view_hashes base difi master_len state =
    base.sound && (base.plain && (not base.doubled
    && ((base.first == 0) && ((base.size == view_size difi) && ((master_len == difi.master.size)
    && (not (has_bad_log difi) && (not (has_bad_level difi)
    && (not (has_overlapping_levels difi) && (not (has_too_few_entries difi)
    && is_made_for difi state)))))))))

-- what follows where the base's size is a number of 64 bits: the levels lie in the base, apart from each other, in
-- blocks of 2 ^ 9 to 2 ^ 16 bytes
pub record HasLevels (base : Shape) (difi : Difi) : Type 0 where
  pub sound : IsTrue base.sound
  pub plain : IsTrue base.plain
  pub single : IsFalse base.doubled
  pub first : base.first ≡ 0
  pub small : base.size < 2 ^ 64
  pub logs : (level : ℕ) → IsLevel level → IsBetween 9 16 (level_of difi level).log
  pub inside : (level : ℕ) → IsLevel level → (level_of difi level).at + (level_of difi level).size ≤ base.size
  pub apart : (upper level : ℕ) → 1 ≤ upper → upper < level → level ≤ 4
      → AreApart (extent_of (level_of difi upper)) (extent_of (level_of difi level))

-- and the level above each level, or the master hash, has an entry for each of its blocks
pub record HasTree (base : Shape) (difi : Difi) (master_len : ℕ) : Type 0 where
  pub levels : HasLevels base difi
  pub first_entries : 32 * blocks_of (level_of difi 1) ≤ master_len
  pub entries : (level : ℕ) → IsLevel level → IsLevel (suc level)
      → 32 * blocks_of (level_of difi (suc level)) ≤ (level_of difi level).size

-- the cell of a byte of level four: the byte in the base, or what its block's path came to
abbrev pub cell_of : (ℕ → Cell) → ℕ → List ℕ → Difi → IvfcState → ℕ → Cell
cell_of cells part master difi state x =
    cell_in (block_state cells master difi state 4 (x / block_size difi.ivfc4)) part
    (value_of (cells ((level_of difi 4).at + x)))

-- level four's bytes by their hash paths; damage spreads in its blocks. They are told where what is remembered is true.
abbrev pub view_state : State → ℕ → List ℕ → Difi → IvfcState → State
view_state base part master difi state = record {
  shape = record {
    size = difi.ivfc4.size;
    sound = can_view_hashes base.shape difi (length master) state;
    plain = false;
    first = 0;
    doubled = false;
    block_start = λ x. x / block_size difi.ivfc4 * block_size difi.ivfc4;
    block_len = λ x. min (block_size difi.ivfc4) (difi.ivfc4.size - x / block_size difi.ivfc4 * block_size difi.ivfc4);
  };
  told = is_told base master difi state;
  cells = cell_of base.cells part master difi state;
  bottom = λ x. x;
  is_fixed = λ x. false;
  faults = base.faults;
}

-- so many bytes from a place on are good; or the cell there is no byte, and is named
pub record IsVerified (s : State) (at most : ℕ) (result : Result ℕ Bad) : Type 0 where
  pub some : IfOk result (λ n. 1 ≤ n)
  pub bounded : IfOk result (λ n. n ≤ most)
  pub inside : IfOk result (λ n. at + n ≤ s.shape.size)
  pub bytes : IsTrue s.told → IfOk result (λ n. (k : ℕ) → k < n → IsByte (s.cells (at + k)))
  pub damaged : IsTrue s.told → IfDamaged (result_err result) (Blames (s.cells at))

-- so many bytes from a place on are not spoilt; or the cell there is, and is named
pub record IsReadyRun (s : State) (at most : ℕ) (result : Result ℕ Bad) : Type 0 where
  pub some : IfOk result (λ n. 1 ≤ n)
  pub bounded : IfOk result (λ n. n ≤ most)
  pub unspoilt : IsTrue s.told → IfOk result (λ n. (k : ℕ) → k < n → IsUnspoilt (s.cells (at + k)))
  pub damaged : IsTrue s.told → IfDamaged (result_err result) (λ part level block. s.cells at ≡ Spoilt part level block)

-- what is told of a block
abbrev pub status_of : BlockState → Status
status_of Good = GoodStatus
status_of (BlankAt level block) = BlankStatus
status_of (BadAt level block) = BadStatus

-- how many bytes from a place of level four on lie in its block
abbrev pub rest_of : Difi → ℕ → ℕ
rest_of difi at = min (block_size difi.ivfc4 - at % block_size difi.ivfc4) (difi.ivfc4.size - at)

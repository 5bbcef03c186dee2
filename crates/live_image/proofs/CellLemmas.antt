-- The cells of level four hang on the live places, and on its own bytes where it is external.
use Rattle.std.proofs.Common.{◌≡◌, ℕ, zero, suc, ◌+◌, ◌-◌, ◌*◌, ◌/◌, ◌^◌, ◌<◌, ◌≤◌, min, true, false, List, length}
use Rattle.std.proofs.Common.{get_or, refl, ◌∙◌, ap, arith}
use Rattle.std.proofs.lemmas.Bool.{lt-ltb, le-ltb}
use Rattle.std.proofs.lemmas.Nat.{div-mul-add, div-add-mod'}
use Rattle.save_bytes.specs.Cells.{Cell, Byte}
use Rattle.save_bytes.specs.CellNumbers.{value_of}
use Rattle.container_header.specs.declared.header.Header.{Header}
use Rattle.difi.specs.declared.descriptor.Difi.{Difi}
use Rattle.difi.specs.Places.{block_size}
use Rattle.difi.specs.Sound.{HasHashLevels}
use Rattle.dpfs_tree.specs.Picks.{chosen}
use Rattle.ivfc_tree.specs.declared.path.BlockState.{BlockState}
use Rattle.ivfc_tree.specs.Levels.{level_of, padded_block}
use Rattle.ivfc_tree.specs.ViewLaws.{level4_size, level4_log}
use Rattle.ivfc_tree.specs.Paths.{cell_in}
use Rattle.part_store.specs.Parts.{master_of}
use Rattle.container.specs.Openings.{active_table, partition_of}
use Rattle.container.specs.ImageCells.{contents_in, path_in, cell_at}
use Rattle.live_image.specs.Same.{SameLive, HasPart, SameBlock}
use Rattle.live_image.proofs.TreeLemmas.{pick3_same}
use Rattle.live_image.proofs.ImageLemmas.{placed, agrees, table_same}
use Rattle.live_image.proofs.PathLemmas.{SameLevel, block_same, lone_block_same, path_same}

-- the levels above level four lie in the chosen contents
pub upper_inside : (difi : Difi) → HasHashLevels difi → (level : ℕ) → 1 ≤ level → level ≤ 3
    → (level_of difi level).at + (level_of difi level).size ≤ difi.dpfs3.size
unfolding level_of
upper_inside difi levels zero some most = absurd (omega (arith, some))
upper_inside difi levels (suc zero) some most = levels.inside1
upper_inside difi levels (suc (suc zero)) some most = levels.inside2
upper_inside difi levels (suc (suc (suc zero))) some most = levels.inside3
upper_inside difi levels (suc (suc (suc (suc level)))) some most = absurd (omega (arith, most))

pub internal_at : (difi : Difi) → difi.external ≡ false → (level_of difi 4).at ≡ difi.ivfc4.at
unfolding level_of
internal_at difi is = rw is refl

pub external_behind : (difi : Difi) → difi.external ≡ true → (level_of difi 4).at ≡ difi.dpfs3.size
unfolding level_of
external_behind difi is = rw is refl

module _ (image other : List ℕ) (same : SameLive image other) (header : Header) (part : ℕ) (difi : Difi)
    (has : HasPart image header part difi) where
  abbrev was : ℕ → Cell
  was = contents_in image header part difi

  abbrev now : ℕ → Cell
  now = contents_in other header part difi

  -- the chosen contents
  pub contents_same : (x : ℕ) → x < difi.dpfs3.size
      → contents_in other header part difi x ≡ contents_in image header part difi x
  unfolding chosen
  contents_same x h =
      let place = placed image header part difi has in
      rw (lt-ltb x difi.dpfs3.size h)
      (ap Byte (pick3_same (partition_of header part).at (partition_of header part).size
      (length image) difi place.inside place.levels
      (λ y. get_or image y 0) (λ y. get_or other y 0) (agrees image other same header has.header_is part difi has) x h))

  levels : HasHashLevels difi
  levels = (placed image header part difi has).levels.hash_levels

  upper_same : (level : ℕ) → 1 ≤ level → level ≤ 3
      → SameLevel now was difi level
  upper_same level some most x h =
      contents_same ((level_of difi level).at + x) (omega (arith, upper_inside difi levels level some most, h))

  -- the paths of a block that has the same bytes
  path_in_same : (level block : ℕ) → level ≤ 3
      → padded_block now difi (suc level) block
      ≡ padded_block was difi (suc level) block
      → path_in other header part difi (suc level) block ≡ path_in image header part difi (suc level) block
  unfolding path_in
  path_in_same level block most own =
      rw (table_same image other same header has.header_is)
      (path_same now was difi (master_of (active_table image header) difi)
      level block (λ upper some less. upper_same upper some (omega (arith, less, most))) own)

  -- of levels 1 to 3
  pub upper_path_same : (level block : ℕ) → 1 ≤ level → level ≤ 3
      → path_in other header part difi level block ≡ path_in image header part difi level block
  upper_path_same zero block some most = absurd (omega (arith, some))
  upper_path_same (suc level) block some most =
      path_in_same level block (omega (arith, most))
      (block_same now was difi (suc level) block
      (upper_same (suc level) some most))

  -- the cell of a byte by its path and its value
  cell_same : (x : ℕ) → path_in other header part difi 4 (x / block_size difi.ivfc4)
      ≡ path_in image header part difi 4 (x / block_size difi.ivfc4)
      → contents_in other header part difi ((level_of difi 4).at + x)
      ≡ contents_in image header part difi ((level_of difi 4).at + x)
      → cell_at other header part difi x ≡ cell_at image header part difi x
  cell_same x path value =
      ap (λ (found : BlockState). cell_in found part
      (value_of (contents_in other header part difi ((level_of difi 4).at + x)))) path
      ∙ ap (λ (cell : Cell). cell_in (path_in image header part difi 4 (x / block_size difi.ivfc4)) part
      (value_of cell)) value

  module _ (internal : difi.external ≡ false) where
    four_same : SameLevel now was difi 4
    four_same x h =
        let begin = internal_at difi internal in
        let size = level4_size difi in
        contents_same ((level_of difi 4).at + x) (omega (arith, levels.inside4 internal, begin, size, h))

    pub internal_path_same : (block : ℕ) → path_in other header part difi 4 block
        ≡ path_in image header part difi 4 block
    internal_path_same block =
        path_in_same 3 block (omega arith)
        (block_same now was difi 4 block four_same)

    pub internal_cell_same : (x : ℕ) → x < difi.ivfc4.size
        → cell_at other header part difi x ≡ cell_at image header part difi x
    internal_cell_same x h = cell_same x (internal_path_same (x / block_size difi.ivfc4))
        (four_same x (rw (level4_size difi) h))

  module _ (external : difi.external ≡ true) (block : ℕ) (alike : SameBlock image other header part difi block) where
    -- a byte of the block
    byte_same : (y : ℕ) → y < difi.ivfc4.size → y / block_size difi.ivfc4 ≡ block
        → contents_in other header part difi ((level_of difi 4).at + y)
        ≡ contents_in image header part difi ((level_of difi 4).at + y)
    unfolding chosen
    byte_same y h here =
        let offset : difi.dpfs3.size + y - difi.dpfs3.size ≡ y = omega arith in
        rw (external_behind difi external, le-ltb (difi.dpfs3.size + y) difi.dpfs3.size (omega arith), offset)
        (ap Byte (alike y h here))

    pub external_path_same : block * block_size difi.ivfc4 < difi.ivfc4.size
        → path_in other header part difi 4 block ≡ path_in image header part difi 4 block
    external_path_same begins =
        let size = level4_size difi in
        let log = level4_log difi in
        path_in_same 3 block (omega arith)
        (lone_block_same now was difi 4 block (rw (size, log) begins)
        (λ k small.
        let short : k < min (2 ^ difi.ivfc4.log) (difi.ivfc4.size - block * 2 ^ difi.ivfc4.log) = rw
        (size, log) at small in
        let at_block = div-mul-add block (2 ^ difi.ivfc4.log) k (omega (arith, short)) in
        let place : (level_of difi 4).at + block * 2 ^ difi.ivfc4.log + k
        ≡ (level_of difi 4).at + (block * 2 ^ difi.ivfc4.log + k) = omega arith in
        rw (log, place) (byte_same (block * 2 ^ difi.ivfc4.log + k) (omega (arith, short)) at_block)))

    pub external_cell_same : (x : ℕ) → x < difi.ivfc4.size → x / block_size difi.ivfc4 ≡ block
        → cell_at other header part difi x ≡ cell_at image header part difi x
    external_cell_same x h here =
        let split = div-add-mod' x (2 ^ difi.ivfc4.log) in
        let row : x / 2 ^ difi.ivfc4.log * 2 ^ difi.ivfc4.log
        ≡ block * 2 ^ difi.ivfc4.log = ap (λ (b : ℕ). b * 2 ^ difi.ivfc4.log) here in
        cell_same x (rw here (external_path_same (omega (arith, split, row, h)))) (byte_same x h here)

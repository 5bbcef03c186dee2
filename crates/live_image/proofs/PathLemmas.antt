-- What a block's path comes to hangs on the levels above it and on the block alone.
use Rattle.std.proofs.Common.{◌≡◌, ℕ, zero, suc, ◌+◌, ◌-◌, ◌*◌, ◌<◌, ◌≤◌, false, List, eqb, refl, arith}
use Rattle.std.proofs.lemmas.Bool.{ne_eqb}
use Rattle.save_bytes.specs.Cells.{Cell}
use Rattle.save_bytes.proofs.CellLemmas.{bytes_in-same}
use Rattle.difi.specs.declared.descriptor.Difi.{Difi}
use Rattle.difi.specs.Places.{block_size}
use Rattle.ivfc_tree.specs.Levels.{level_of, ivfc_level, padded_block, hash_entry, parent_of, len_of}
use Rattle.ivfc_tree.specs.Paths.{marked_state, path_state}
use Rattle.ivfc_tree.proofs.HashLemmas.{padded_block-is}

-- the cells of a level are the same
abbrev pub SameLevel : (ℕ → Cell) → (ℕ → Cell) → Difi → ℕ → Type 0
SameLevel one other difi level =
    (x : ℕ) → x < (level_of difi level).size → one ((level_of difi level).at + x) ≡ other ((level_of difi level).at + x)

module _ (one other : ℕ → Cell) (difi : Difi) where
  level_same : (level : ℕ) → SameLevel one other difi level → ivfc_level one difi level ≡ ivfc_level other difi level
  level_same level same = bytes_in-same one other (level_of difi level).at (level_of difi level).at
      (level_of difi level).size same

  -- a whole level
  pub block_same : (level block : ℕ) → SameLevel one other difi level
      → padded_block one difi level block ≡ padded_block other difi level block
  unfolding padded_block
  block_same level block same = rw (level_same level same) refl

  -- or a block of it
  pub lone_block_same : (level block : ℕ) → block * block_size (level_of difi level) < (level_of difi level).size
      → ((k : ℕ) → k < len_of difi level block
      → one ((level_of difi level).at + block * block_size (level_of difi level) + k)
      ≡ other ((level_of difi level).at + block * block_size (level_of difi level) + k))
      → padded_block one difi level block ≡ padded_block other difi level block
  lone_block_same level block begins same =
      let from : ℕ = (level_of difi level).at + block * block_size (level_of difi level) in
      rw (
        padded_block-is one difi level block begins,
        padded_block-is other difi level block begins,
        bytes_in-same one other from from (len_of difi level block) same,
      ) refl

  module _ (master : List ℕ) where
    -- the entry of a block lies in the level above it
    entry_same : (level block : ℕ) → (1 ≤ level → SameLevel one other difi level)
        → hash_entry one master difi (suc level) block ≡ hash_entry other master difi (suc level) block
    unfolding hash_entry
    entry_same zero block same = refl
    entry_same (suc level) block same =
        let here = same (omega arith) in
        let above : suc (suc level) - 1 ≡ suc level = omega arith in
        let lower : eqb (suc (suc level)) 1 ≡ false = ne_eqb (suc (suc level)) 1 (λ e. absurd (omega (arith, e))) in
        rw (lower, above, level_same (suc level) here) refl

    -- so the block's path comes to the same, where the levels above have the same cells
    pub path_same : (level block : ℕ) → ((upper : ℕ) → 1 ≤ upper → upper ≤ level → SameLevel one other difi upper)
        → padded_block one difi (suc level) block ≡ padded_block other difi (suc level) block
        → path_state one master difi (suc level) block ≡ path_state other master difi (suc level) block
    unfolding marked_state
    path_same zero block above own = rw (entry_same zero block (λ some. absurd (omega (arith, some))), own) refl
    path_same (suc level) block above own =
        let parent = parent_of difi (suc level) block in
        let here = above (suc level) (omega arith) (omega arith) in
        rw (
          path_same level (parent_of difi (suc level) block) (λ upper some less. above upper some (omega (arith, less)))
              (block_same (suc level) (parent_of difi (suc level) block) here),
          entry_same (suc level) block (λ _. here),
          own,
        ) refl

-- Where levels and their blocks lie.
use Rattle.std.proofs.Common.{◌≡◌, ℕ, suc, ◌+◌, ◌-◌, ◌*◌, ◌<◌, ◌≤◌, min, refl, sym, subst, arith}
use Rattle.save_bytes.specs.State.{Shape}
use Rattle.difi.specs.declared.places.LevelPlace.{LevelPlace}
use Rattle.difi.specs.declared.descriptor.Difi.{Difi}
use Rattle.difi.specs.Places.{block_size}
use Rattle.difi.proofs.PlaceLemmas.{block_begins}
use Rattle.ivfc_tree.specs.Levels.{level_of, level4_of, HasBlock, parent_of}
use Rattle.ivfc_tree.specs.View.{HasLevels, HasTree}
use Rattle.ivfc_tree.specs.ViewLaws.{HasParent, parent_there}

-- where a block lies
pub record IsPlaced (base : Shape) (level : LevelPlace) (block : ℕ) : Type 0 where
  pub begins : block * block_size level < level.size
  pub ends : level.at + block * block_size level + min (block_size level) (level.size - block * block_size level)
      ≤ base.size

pub block_placed : (base : Shape) (difi : Difi) (level block : ℕ) → HasLevels base difi → HasBlock difi level block
    → IsPlaced base (level_of difi level) block
block_placed base difi level block levels there =
    let place = level_of difi level in
    let begins = block_begins block place.size place.log there.in_level in
    record { begins = begins; ends = omega (arith, begins, levels.inside level there.in_tree) }

module _ (base : Shape) (difi : Difi) (master_len level block : ℕ) (tree : HasTree base difi master_len)
    (below : 1 < level)
    (there : HasBlock difi level block) where
  -- the entry of a block, by the block's own level
  entry_by : HasParent difi (level - 1) block
  entry_by =
      let next : suc (level - 1) ≡ level = omega arith in
      parent_there base difi master_len (level - 1) block tree (omega (arith, below))
      (subst (λ (n : ℕ). HasBlock difi n block) (sym next) there)

  pub entry_there : 32 * block + 32 ≤ (level_of difi (level - 1)).size
  entry_there = entry_by.inside

  pub parent_of_there : HasBlock difi (level - 1) (parent_of difi (level - 1) block)
  parent_of_there = entry_by.parent

pub level4_is : (difi : Difi) → level_of difi 4 ≡ level4_of difi
unfolding level_of
level4_is difi = refl

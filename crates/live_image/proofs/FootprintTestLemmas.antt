-- What is asked of a footprint for tests, of one block of level 4.
use Rattle.std.proofs.Common.{◌≡◌, ℕ, ◌+◌, ◌-◌, ◌*◌, ◌/◌, ◌^◌, ◌<◌, ◌≤◌, Bool, true, false, eqb, refl, sym, ◌∙◌, ap}
use Rattle.std.proofs.Common.{arith}
use Rattle.std.proofs.lemmas.Bool.{eq-eqb, eqb-true}
use Rattle.std.proofs.lemmas.Nat.{div-mul-add, div-add-mod', div_below, mod_below, pow_pos}
use Rattle.difi.specs.declared.places.LevelPlace.{LevelPlace}
use Rattle.difi.specs.declared.descriptor.Difi.{Difi}
use Rattle.difi.specs.Places.{block_size, blocks_of}
use Rattle.difi.specs.Sound.{HasHashLevels, HasBlockSizes}
use Rattle.difi.proofs.PlaceLemmas.{block_below, block_begins}
use Rattle.ivfc_tree.specs.Levels.{IsLevel, level_of}
use Rattle.ivfc_tree.specs.Paths.{block_above}
use Rattle.ivfc_tree.specs.ViewLaws.{by_level, level4_size, level4_log}
use Rattle.live_image.specs.Footprint.{MeetsPath}
use Rattle.std.specs.Bool.{Decides}
use Rattle.dpfs_tree.specs.Picks.{copy_place}
use Rattle.live_image.specs.Live.{lies_from}
use Rattle.live_image.proofs.LevelLemmas.{lies as lies_at, lies_where}
use Rattle.live_image.proofs.CellLemmas.{external_behind, internal_at}

-- a block of a level meets a block of the double-copy tree's level 3
abbrev pub Meets : Difi → LevelPlace → ℕ → ℕ → Type 0
Meets difi place of_level block =
    (y : ℕ) × ((y < place.size) × ((y / block_size place ≡ of_level)
    × ((place.at + y < difi.dpfs3.size) × ((place.at + y) / 2 ^ difi.dpfs3.log ≡ block))))

module _ (difi : Difi) (touched block : ℕ) where
  pub met_from : (level : ℕ) → IsLevel level → touched < blocks_of difi.ivfc4
      → Meets difi (level_of difi level) (block_above difi 4 touched level) block
      → MeetsPath difi (λ n. eqb n touched) block
  met_from level in_tree there (y, (inside, (on_path, (in_contents, in_block)))) =
      let four : ℕ = touched * 2 ^ difi.ivfc4.log in
      let begins = block_begins touched difi.ivfc4.size difi.ivfc4.log there in
      let whole : touched * 2 ^ difi.ivfc4.log ≡ touched * 2 ^ difi.ivfc4.log + 0 = omega arith in
      let own : touched * 2 ^ difi.ivfc4.log / 2 ^ difi.ivfc4.log ≡ touched =
      ap (λ (x : ℕ). x / 2 ^ difi.ivfc4.log) whole
      ∙ div-mul-add touched (2 ^ difi.ivfc4.log) 0 (pow_pos difi.ivfc4.log) in
      record {
        four = touched * 2 ^ difi.ivfc4.log;
        level = level;
        at = y;
        in_four = begins;
        touched = eq-eqb _ _ own;
        in_tree = in_tree;
        on_path = (inside, on_path ∙ ap (λ (n : ℕ). block_above difi 4 n level) (sym own));
        inside = in_contents;
        there = in_block;
      }

  pub met_to : MeetsPath difi (λ n. eqb n touched) block
      → (level : ℕ) × (IsLevel level × Meets difi (level_of difi level) (block_above difi 4 touched level) block)
  met_to met =
      let own = eqb-true _ _ met.touched in (
        met.level,
        (
          met.in_tree,
          (
            met.at,
            (
              met.on_path.0,
              (
                met.on_path.1 ∙ ap (λ (n : ℕ). block_above difi 4 n met.level) own,
                (met.inside, met.there),
              ),
            ),
          ),
        ),
      )

-- where levels end, in an image of at most 64 MiB
module _ (difi : Difi) (levels : HasHashLevels difi) (sizes : HasBlockSizes difi)
    (small : (difi.dpfs3.size ≤ 67108864) × (difi.ivfc4.size ≤ 67108864)) where
  four_bound : (external : Bool) → difi.external ≡ external → (level_of difi 4).at + (level_of difi 4).size ≤ 134217728
  four_bound true is = rw (external_behind difi is, level4_size difi) (omega (arith, small.0, small.1))
  four_bound false is = rw (internal_at difi is, level4_size difi) (omega (arith, levels.inside4 is, small.0))

  pub level_bound : (level : ℕ) → IsLevel level → (level_of difi level).at + (level_of difi level).size ≤ 134217728
  unfolding level_of
  level_bound = by_level (λ level. (level_of difi level).at + (level_of difi level).size ≤ 134217728)
      (omega (arith, levels.inside1, small.0)) (omega (arith, levels.inside2, small.0))
      (omega (arith, levels.inside3, small.0))
      (four_bound difi.external refl)

  pub log_bound : (level : ℕ) → IsLevel level → (level_of difi level).log ≤ 16
  unfolding level_of
  log_bound = by_level (λ level. (level_of difi level).log ≤ 16) sizes.ivfc1.1 sizes.ivfc2.1 sizes.ivfc3.1
      (rw (level4_log difi) sizes.ivfc4.1)

-- no block past the last is met
pub met_there : (difi : Difi) (touched block : ℕ) → MeetsPath difi (λ n. eqb n touched) block
    → touched < blocks_of difi.ivfc4
met_there difi touched block met =
    rw (← eqb-true _ _ met.touched) (block_below met.four difi.ivfc4.size difi.ivfc4.log met.in_four)

-- and a block that is met is one of level 3's
pub met_inside : (difi : Difi) (touched block : ℕ) → MeetsPath difi (λ n. eqb n touched) block
    → block < difi.dpfs3.size / 2 ^ difi.dpfs3.log + 1
met_inside difi touched block met =
    let split = div-add-mod' difi.dpfs3.size (2 ^ difi.dpfs3.log) in
    let rest = mod_below difi.dpfs3.size (2 ^ difi.dpfs3.log) (pow_pos difi.dpfs3.log) in
    rw (← met.there)
    (div_below ((level_of difi met.level).at + met.at) (2 ^ difi.dpfs3.log) (difi.dpfs3.size / 2 ^ difi.dpfs3.log + 1)
    (pow_pos difi.dpfs3.log)
    (omega (arith, met.inside, split, rest)))

-- whether a place lies in a copy of a level
pub in_copy_at : (part_at copy place start : ℕ) (level : LevelPlace) (lies : Bool)
    → start ≡ part_at + level.at + copy * level.size
    → lies ≡ lies_from start level.size place
    → Decides lies ((x : ℕ) × ((x < level.size) × (place ≡ copy_place part_at level copy x)))
in_copy_at part_at copy place start level lies begins is = (
  λ yes.
      let there = lies_where start level.size place (sym is ∙ yes) in
      (place - start, (omega (arith, there.0, there.1), omega (arith, there.0, begins))),
  λ there.
      is ∙ lies_at start level.size place (omega (arith, there.1.1, begins))
      (omega (arith, there.1.0, there.1.1, begins)),
)

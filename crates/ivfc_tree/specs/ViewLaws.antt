-- The tests on a view as facts: where levels lie, and that their bytes and cells hang on the base's alone.
use Rattle.std.proofs.Common.{◌≡◌, ℕ, zero, suc, ◌+◌, ◌-◌, ◌*◌, ◌/◌, ◌^◌, ◌<◌, ◌≤◌, Bool, true, false, not, List}
use Rattle.std.proofs.Common.{length, eqb, refl, ap, arith}
use Rattle.std.proofs.lemmas.Bool.{not-true, and_parts, and_from, eq-eqb, eqb-true, ne_eqb}
use Rattle.save_bytes.specs.Cells.{Cell}
use Rattle.save_bytes.specs.State.{Shape, State}
use Rattle.save_bytes.specs.Stays.{SameCells}
use Rattle.save_bytes.proofs.CellLemmas.{bytes_in-same}
use Rattle.difi.specs.declared.places.LevelPlace.{LevelPlace}
use Rattle.difi.specs.declared.descriptor.Difi.{Difi}
use Rattle.difi.specs.Places.{extent_of, block_size, blocks_of}
use Rattle.difi.specs.Contents.{view_size}
use Rattle.save_bytes.specs.Extents.{AreApart}
use Rattle.difi.specs.Sound.{IsBetween, HasHashLevels}
use Rattle.difi.proofs.SoundLemmas.{block_sizes, hash_tree}
use Rattle.difi.proofs.CompleteLemmas.{has_bad_log-none, has_bad_level-none, has_overlapping_levels-none}
use Rattle.difi.proofs.CompleteLemmas.{has_too_few_entries-none}
use Rattle.difi.proofs.PlaceLemmas.{block_below}
use Rattle.ivfc_tree.specs.declared.state.IvfcState.{IvfcState}
use Rattle.ivfc_tree.specs.Levels.{IsLevel, level_of, level4_of, HasBlock, ivfc_level, padded_block, hash_entry}
use Rattle.ivfc_tree.specs.Levels.{parent_of}
use Rattle.ivfc_tree.specs.Marks.{IsMadeFor, is_made_for, SameMarks}
use Rattle.ivfc_tree.specs.Paths.{own_state, marked_state}
use Rattle.ivfc_tree.specs.View.{CanViewHashes, can_view_hashes, HasLevels, HasTree, view_state}

-- what holds of each of the four levels
pub by_level : (P : ℕ → Type 0) → P 1 → P 2 → P 3 → P 4 → (level : ℕ) → IsLevel level → P level
by_level P one two three four zero h = absurd (omega (arith, h.0))
by_level P one two three four (suc zero) h = one
by_level P one two three four (suc (suc zero)) h = two
by_level P one two three four (suc (suc (suc zero))) h = three
by_level P one two three four (suc (suc (suc (suc zero)))) h = four
by_level P one two three four (suc (suc (suc (suc (suc level))))) h = absurd (omega (arith, h.1))

-- level four lies behind the others or apart from them, and has its own size and block size wherever it lies
record HasLevel4 (difi : Difi) (level4 : LevelPlace) : Type 0 where
  size : level4.size ≡ difi.ivfc4.size
  log : level4.log ≡ difi.ivfc4.log
  inside : HasHashLevels difi → level4.at + level4.size ≤ view_size difi
  apart : (level : LevelPlace) → level.at + level.size ≤ difi.dpfs3.size
      → (difi.external ≡ false → AreApart (extent_of level) (extent_of difi.ivfc4))
      → AreApart (extent_of level) (extent_of level4)

level4_by_external : (difi : Difi) (external : Bool) → difi.external ≡ external → HasLevel4 difi (level4_of difi)
level4_by_external difi true is = rw is (record {
  size = refl;
  log = refl;
  inside = λ h. omega arith;
  apart = λ level inside apart. λ x from below from4 below4. omega (arith, inside, below, from4);
})
level4_by_external difi false is = rw is (record {
  size = refl;
  log = refl;
  inside = λ h. omega (arith, h.inside4 refl);
  apart = λ level inside apart. apart refl;
})

pub level4_size : (difi : Difi) → (level_of difi 4).size ≡ difi.ivfc4.size
unfolding level_of
level4_size difi = (level4_by_external difi difi.external refl).size

pub level4_log : (difi : Difi) → (level_of difi 4).log ≡ difi.ivfc4.log
unfolding level_of
level4_log difi = (level4_by_external difi difi.external refl).log

-- no two levels share a byte
levels_apart : (difi : Difi) → HasHashLevels difi → (upper level : ℕ) → 1 ≤ upper → upper < level → level ≤ 4
    → AreApart (extent_of (level_of difi upper)) (extent_of (level_of difi level))
unfolding level_of
levels_apart difi h upper level some less within =
    let behind4 = (level4_by_external difi difi.external refl).apart in
    let Below : LevelPlace → ℕ → ℕ → Type 0 = λ place upper level. upper < level
    → AreApart (extent_of place) (extent_of (level_of difi level)) in
    by_level (λ upper. (level : ℕ) → IsLevel level → Below (level_of difi upper) upper level)
    (by_level (Below difi.ivfc1 1) (λ no. absurd (omega (arith, no))) (λ _. h.apart12) (λ _. h.apart13)
    (λ _. behind4 difi.ivfc1 h.inside1 h.apart14))
    (by_level (Below difi.ivfc2 2) (λ no. absurd (omega (arith, no))) (λ no. absurd (omega (arith, no)))
    (λ _. h.apart23)
    (λ _. behind4 difi.ivfc2 h.inside2 h.apart24))
    (by_level (Below difi.ivfc3 3) (λ no. absurd (omega (arith, no))) (λ no. absurd (omega (arith, no)))
    (λ no. absurd (omega (arith, no)))
    (λ _. behind4 difi.ivfc3 h.inside3 h.apart34))
    (λ level here less. absurd (omega (arith, here.1, less)))
    upper (some, omega (arith, less, within)) level (omega (arith, some, less), within) less

-- a state has a mark for each block exactly where the test passes
pub is_made_for-true : (difi : Difi) (state : IvfcState) → IsMadeFor difi state → is_made_for difi state ≡ true
is_made_for-true difi state h =
    and_from _ _ (eq-eqb _ _ h.marks1)
    (and_from _ _ (eq-eqb _ _ h.marks2)
    (and_from _ _ (eq-eqb _ _ h.marks3) (eq-eqb _ _ h.marks4)))

pub true-is_made_for : (difi : Difi) (state : IvfcState) → is_made_for difi state ≡ true → IsMadeFor difi state
true-is_made_for difi state h =
    let first = and_parts _ _ h in
    let second = and_parts _ _ first.1 in
    let third = and_parts _ _ second.1 in
    record {
      marks1 = eqb-true _ _ first.0;
      marks2 = eqb-true _ _ second.0;
      marks3 = eqb-true _ _ third.0;
      marks4 = eqb-true _ _ third.1;
    }

-- the test passes where a view can be made
pub can_view_hashes-true : (base : Shape) (difi : Difi) (master_len : ℕ) (state : IvfcState)
    → CanViewHashes base difi master_len state
    → can_view_hashes base difi master_len state ≡ true
unfolding can_view_hashes
can_view_hashes-true base difi master_len state h =
    and_from _ _ h.sound
    (and_from _ _ h.plain
    (and_from _ _ (ap not h.single)
    (and_from _ _ (eq-eqb _ _ h.first)
    (and_from _ _ (eq-eqb _ _ h.base_len)
    (and_from _ _ (eq-eqb _ _ h.whole_master)
    (and_from _ _ (ap not (has_bad_log-none difi h.block_sizes))
    (and_from _ _ (ap not (has_bad_level-none difi h.hash_levels))
    (and_from _ _ (ap not (has_overlapping_levels-none difi h.hash_levels))
    (and_from _ _ (ap not (has_too_few_entries-none difi h.hash_levels))
    (is_made_for-true difi state h.made))))))))))

-- and only there
pub true-can_view_hashes : (base : Shape) (difi : Difi) (master_len : ℕ) (state : IvfcState)
    → can_view_hashes base difi master_len state ≡ true
    → CanViewHashes base difi master_len state
unfolding can_view_hashes
true-can_view_hashes base difi master_len state h =
    let sound = and_parts _ _ h in
    let plain = and_parts _ _ sound.1 in
    let single = and_parts _ _ plain.1 in
    let first = and_parts _ _ single.1 in
    let base_len = and_parts _ _ first.1 in
    let master = and_parts _ _ base_len.1 in
    let logs = and_parts _ _ master.1 in
    let level = and_parts _ _ logs.1 in
    let overlaps = and_parts _ _ level.1 in
    let entries = and_parts _ _ overlaps.1 in
    record {
      sound = sound.0;
      plain = plain.0;
      single = not-true _ single.0;
      first = eqb-true _ _ first.0;
      base_len = eqb-true _ _ base_len.0;
      whole_master = eqb-true _ _ master.0;
      block_sizes = block_sizes difi (not-true _ logs.0);
      hash_levels = hash_tree difi (not-true _ level.0) (not-true _ overlaps.0) (not-true _ entries.0);
      made = true-is_made_for difi state entries.1;
    }

-- what can be viewed has its tree in the base
pub tree_of : (base : Shape) (difi : Difi) (master_len : ℕ) (state : IvfcState) → base.size < 2 ^ 64
    → CanViewHashes base difi master_len state
    → HasTree base difi master_len
unfolding level_of
tree_of base difi master_len state small h =
    let levels = h.hash_levels in
    let level4 = level4_by_external difi difi.external refl in
    record {
      levels = record {
        sound = h.sound;
        plain = h.plain;
        single = h.single;
        first = h.first;
        small = small;
        logs = by_level (λ level. IsBetween 9 16 (level_of difi level).log) h.block_sizes.ivfc1 h.block_sizes.ivfc2
            h.block_sizes.ivfc3
            (rw level4.log h.block_sizes.ivfc4);
        inside = rw h.base_len (by_level (λ level. (level_of difi level).at + (level_of difi level).size
            ≤ view_size difi)
            (in_level3 difi.ivfc1.at difi.ivfc1.size levels.inside1)
            (in_level3 difi.ivfc2.at difi.ivfc2.size levels.inside2)
            (in_level3 difi.ivfc3.at difi.ivfc3.size levels.inside3) (level4.inside levels));
        apart = levels_apart difi levels;
      };
      first_entries = rw h.whole_master levels.entries1;
      entries = λ level here. by_level (λ level. IsLevel (suc level) → 32 * blocks_of (level_of difi (suc level))
          ≤ (level_of difi level).size)
          (λ _. levels.entries2) (λ _. levels.entries3) (λ _. rw (level4.size, level4.log) levels.entries4)
          (λ five. absurd (omega (arith, five.1))) level here;
    } where
      in_level3 : (at size : ℕ) → at + size ≤ difi.dpfs3.size → at + size ≤ view_size difi
      in_level3 at size h = omega (arith, h)

-- the entry of a block lies in the level above it, and that has the block in which it lies
pub record HasParent (difi : Difi) (upper block : ℕ) : Type 0 where
  pub parent : HasBlock difi upper (parent_of difi upper block)
  pub inside : 32 * block + 32 ≤ (level_of difi upper).size

pub parent_there : (base : Shape) (difi : Difi) (master_len upper block : ℕ) → HasTree base difi master_len → 1 ≤ upper
    → HasBlock difi (suc upper) block → HasParent difi upper block
parent_there base difi master_len upper block tree some there =
    let here : IsLevel upper = (some, omega (arith, there.in_tree.1)) in
    let entries = tree.entries upper here there.in_tree in
    let level = level_of difi upper in
    let inside : 32 * block + 32 ≤ level.size = omega (arith, entries, there.in_level) in
    record {
      parent = record {
        in_tree = here;
        in_level = block_below (32 * block) level.size level.log
            (omega (arith, inside));
      };
      inside = inside;
    }

-- the block of a byte of level four
pub block_of_there : (difi : Difi) (x : ℕ) → x < difi.ivfc4.size → HasBlock difi 4 (x / block_size difi.ivfc4)
block_of_there difi x inside = record {
  in_tree = (omega arith, omega arith);
  in_level = rw (level4_size difi, level4_log difi) (block_below x difi.ivfc4.size difi.ivfc4.log inside);
}

-- the place of a byte of level four lies in the base
pub place_inside : (base : Shape) (difi : Difi) (master_len x : ℕ) → HasTree base difi master_len → x < difi.ivfc4.size
    → (level_of difi 4).at + x < base.size
place_inside base difi master_len x tree inside =
    let there = tree.levels.inside 4 (omega arith, omega arith) in
    omega (arith, inside, rw (level4_size difi) at there)

module _ (base : Shape) (difi : Difi) (levels : HasLevels base difi) (one other : ℕ → Cell)
    (same : (x : ℕ) → x < base.size → one x ≡ other x) where
  level-same : (level : ℕ) → IsLevel level → ivfc_level one difi level ≡ ivfc_level other difi level
  level-same level here =
      let place = level_of difi level in
      bytes_in-same one other place.at place.at place.size (λ k h. same _ (omega (arith, h, levels.inside level here)))

  pub block-same : (level block : ℕ) → IsLevel level
      → padded_block one difi level block ≡ padded_block other difi level block
  unfolding padded_block
  block-same level block here = rw (level-same level here) refl

  entry-same : (master : List ℕ) (level block : ℕ) → IsLevel level
      → hash_entry one master difi level block ≡ hash_entry other master difi level block
  unfolding hash_entry
  entry-same master zero block here = absurd (omega (arith, here.0))
  entry-same master (suc zero) block here = refl
  entry-same master (suc (suc level)) block here =
      let above : suc (suc level) - 1 ≡ suc level = omega arith in
      let other : eqb (suc (suc level)) 1 ≡ false = ne_eqb (suc (suc level)) 1 (λ e. absurd (omega (arith, e))) in
      rw (other, above, level-same (suc level) (omega arith, omega (arith, here.1))) refl

  pub own-same : (master : List ℕ) (level block : ℕ) → IsLevel level
      → own_state one master difi level block ≡ own_state other master difi level block
  own-same master level block here = rw (block-same level block here, entry-same master level block here) refl

-- a block comes to the same where the base's cells are the same, and the same blocks are marked
module _ (base : Shape) (difi : Difi) (master : List ℕ) (tree : HasTree base difi (length master))
    (one other : ℕ → Cell)
    (same : (x : ℕ) → x < base.size → one x ≡ other x) (marked still : ℕ → ℕ → Bool)
    (marks : (level block : ℕ) → marked level block ≡ still level block) where
  pub state-same : (level block : ℕ) → HasBlock difi level block
      → marked_state one master difi marked level block ≡ marked_state other master difi still level block
  unfolding marked_state
  state-same zero block there = refl
  state-same (suc zero) block there =
      rw (marks 1 block, own-same base difi tree.levels one other same master 1 block there.in_tree) refl
  state-same (suc (suc level)) block there =
      let parent = parent_there base difi (length master) (suc level) block tree (omega arith) there in
      let own = own-same base difi tree.levels one other same master (suc (suc level)) block there.in_tree in
      rw (marks (suc (suc level)) block, state-same (suc level) (parent_of difi (suc level) block) parent.parent, own)
      refl

-- and so do the cells of a view
pub view_cells : (base new : State) (part : ℕ) (master : List ℕ) (difi : Difi) (state later : IvfcState)
    → HasTree base.shape difi (length master) → SameMarks state later → SameCells base new
    → SameCells (view_state base part master difi state) (view_state new part master difi later)
view_cells base new part master difi state later tree marks same = λ x inside.
    (let there = block_of_there difi x inside in
    let place = place_inside base.shape difi (length master) x tree inside in
    rw (
      state-same base.shape difi master tree new.cells base.cells same _ _ marks 4 (x / block_size difi.ivfc4) there,
      same _ place,
    ) refl)

-- What a partition's double-copy tree chooses hangs on its live places alone.
use Rattle.std.proofs.Common.{◌≡◌, ℕ, ◌+◌, ◌*◌, ◌/◌, ◌^◌, ◌<◌, ◌≤◌, true, refl, arith}
use Rattle.std.proofs.lemmas.Bool.{or_left, or_right}
use Rattle.difi.specs.declared.places.LevelPlace.{LevelPlace}
use Rattle.difi.specs.declared.descriptor.Difi.{Difi}
use Rattle.difi.specs.Places.{blocks_of}
use Rattle.difi.specs.Sound.{HasSoundLevels}
use Rattle.difi.proofs.PlaceLemmas.{block_below}
use Rattle.dpfs_tree.specs.Picks.{bit_of, copy_place, pick1, pick2, pick3}
use Rattle.dpfs_tree.specs.SameLaws.{bit_of-same, bit_of-lt, word_inside, in_copy}
use Rattle.live_image.specs.Live.{copy1, copy2, copy3, live_tree}
use Rattle.live_image.proofs.LevelLemmas.{live_there, live_level-same}

-- a partition inside an image of a length, sound for its own
module _ (part_at part_len len : ℕ) (difi : Difi) (inside : part_at + part_len ≤ len)
    (levels : HasSoundLevels difi part_len)
    (old new : ℕ → ℕ) (agree : (place : ℕ) → place < len → live_tree old part_at difi place ≡ true
    → new place ≡ old place) where
  -- a chosen byte of a level stands where it stood
  byte_same : (level : LevelPlace) (copy x : ℕ) → copy < 2 → x < level.size → level.at + 2 * level.size ≤ part_len
      → live_tree old part_at difi (copy_place part_at level copy x) ≡ true
      → new (copy_place part_at level copy x) ≡ old (copy_place part_at level copy x)
  byte_same level copy x one below fits live =
      let there = in_copy (part_at + level.at) level.size copy (x + 1) len one (omega (arith, below))
      (omega (arith, fits, inside)) in
      agree (copy_place part_at level copy x) (omega (arith, there)) live

  -- level 1
  pub pick1_same : (x : ℕ) → x < difi.dpfs1.size
      → pick1 new part_at difi difi.selector x ≡ pick1 old part_at difi difi.selector x
  unfolding pick1
  pick1_same x h =
      byte_same difi.dpfs1 difi.selector x levels.selector h levels.copies.level1.inside
      (or_left _ _ (live_there part_at difi.dpfs1 (copy1 difi) x levels.selector h))

  pub bit1_same : (block : ℕ) → block < blocks_of difi.dpfs2
      → bit_of (pick1 new part_at difi difi.selector) block ≡ bit_of (pick1 old part_at difi difi.selector) block
  bit1_same block h =
      bit_of-same _ _ block
      (λ i small. pick1_same (4 * (block / 32) + i)
      (omega (arith, word_inside block (blocks_of difi.dpfs2) h, levels.copies.bits1, small)))

  pub copy2_same : (x : ℕ) → x < difi.dpfs2.size → copy2 new part_at difi x ≡ copy2 old part_at difi x
  copy2_same x h = bit1_same (x / 2 ^ difi.dpfs2.log) (block_below x difi.dpfs2.size difi.dpfs2.log h)

  -- level 2
  pub pick2_same : (x : ℕ) → x < difi.dpfs2.size
      → pick2 new part_at difi difi.selector x ≡ pick2 old part_at difi difi.selector x
  unfolding pick2
  pick2_same x h =
      let one = bit_of-lt (pick1 old part_at difi difi.selector) (x / 2 ^ difi.dpfs2.log) in
      rw (copy2_same x h)
      (byte_same difi.dpfs2 (copy2 old part_at difi x) x one h levels.copies.level2.inside
      (or_right _ _ (or_left _ _ (live_there part_at difi.dpfs2 (copy2 old part_at difi) x one h))))

  pub bit2_same : (block : ℕ) → block < blocks_of difi.dpfs3
      → bit_of (pick2 new part_at difi difi.selector) block ≡ bit_of (pick2 old part_at difi difi.selector) block
  bit2_same block h =
      bit_of-same _ _ block
      (λ i small. pick2_same (4 * (block / 32) + i)
      (omega (arith, word_inside block (blocks_of difi.dpfs3) h, levels.copies.bits2, small)))

  pub copy3_same : (x : ℕ) → x < difi.dpfs3.size → copy3 new part_at difi x ≡ copy3 old part_at difi x
  copy3_same x h = bit2_same (x / 2 ^ difi.dpfs3.log) (block_below x difi.dpfs3.size difi.dpfs3.log h)

  -- level 3
  pub pick3_same : (x : ℕ) → x < difi.dpfs3.size
      → pick3 new part_at difi difi.selector x ≡ pick3 old part_at difi difi.selector x
  unfolding pick3
  pick3_same x h =
      let one = bit_of-lt (pick2 old part_at difi difi.selector) (x / 2 ^ difi.dpfs3.log) in
      rw (copy3_same x h)
      (byte_same difi.dpfs3 (copy3 old part_at difi x) x one h levels.copies.level3.inside
      (or_right _ _ (or_right _ _ (live_there part_at difi.dpfs3 (copy3 old part_at difi) x one h))))

  -- so the same places are live
  pub live_tree_same : (place : ℕ) → live_tree new part_at difi place ≡ live_tree old part_at difi place
  live_tree_same place =
      rw (
        live_level-same part_at difi.dpfs2 (copy2 old part_at difi) (copy2 new part_at difi) copy2_same place,
        live_level-same part_at difi.dpfs3 (copy3 old part_at difi) (copy3 new part_at difi) copy3_same place,
      ) refl

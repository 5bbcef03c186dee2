-- What a transaction may write is not live, but for the front.
use Rattle.std.proofs.Common.{◌≡◌, ⊎_elim, ℕ, zero, suc, ◌+◌, ◌-◌, ◌*◌, ◌/◌, ◌^◌, ◌<◌, ◌≤◌, Bool, true}
use Rattle.std.proofs.Common.{List, get_or, ap, arith}
use Rattle.std.proofs.lemmas.Nat.{same_from_place}
use Rattle.std.proofs.lemmas.Bool.{or_cases}
use Rattle.container_header.specs.declared.header.Header.{Header}
use Rattle.difi.specs.declared.places.LevelPlace.{LevelPlace}
use Rattle.difi.specs.declared.descriptor.Difi.{Difi}
use Rattle.difi.specs.Places.{copies_of}
use Rattle.difi.specs.Conditions.{external_extent}
use Rattle.save_bytes.specs.Extents.{AreApart}
use Rattle.difi.specs.Sound.{HasSoundLevels}
use Rattle.dpfs_tree.specs.Picks.{copy_place, pick1, pick2}
use Rattle.dpfs_tree.specs.SameLaws.{bit_of-lt}
use Rattle.container.specs.Openings.{partition_of}
use Rattle.live_image.specs.Live.{copy1, copy2, copy3, live_level, live_tree}
use Rattle.live_image.specs.Footprint.{MayWriteIn, Bits1, Bits2, Contents, External}
use Rattle.live_image.proofs.LevelLemmas.{where_live}

-- a place of a partition is in one of two copies of a level
abbrev pub InCopies : ℕ → LevelPlace → ℕ → Type 0
InCopies part_at level place = (part_at + level.at ≤ place) × (place < part_at + level.at + 2 * level.size)

-- byte x of a copy
in_copies : (part_at copy x place : ℕ) (level : LevelPlace) → copy < 2 → x < level.size
    → place ≡ copy_place part_at level copy x
    → InCopies part_at level place
in_copies part_at zero x place level one h is = (omega (arith, is), omega (arith, is, h))
in_copies part_at (suc zero) x place level one h is = (omega (arith, is), omega (arith, is, h))
in_copies part_at (suc (suc copy)) x place level one h is = absurd (omega (arith, one))

-- levels that lie apart share no place
apart_levels : (part_at place : ℕ) (one other : LevelPlace) → AreApart (copies_of one) (copies_of other)
    → InCopies part_at one place → InCopies part_at other place → ⊥
apart_levels part_at place one other apart in_one in_other =
    apart (place - part_at) (omega (arith, in_one.0)) (omega (arith, in_one.0, in_one.1)) (omega (arith, in_other.0))
    (omega (arith, in_other.0, in_other.1))

-- nor does the byte in one copy share one with a byte in the copy from which that is read
other_copy : (part_at x y place : ℕ) (level : LevelPlace) (copy_of : ℕ → ℕ) → ((x : ℕ) → copy_of x < 2)
    → x < level.size → place ≡ copy_place part_at level (1 - copy_of x) x
    → y < level.size → place ≡ copy_place part_at level (copy_of y) y → ⊥
other_copy part_at x y place level copy_of two h is k live =
    let rows : (1 - copy_of x) * level.size + x ≡ copy_of y * level.size + y = omega (arith, is, live) in
    let same = same_from_place (1 - copy_of x) x (copy_of y) y level.size h k rows in
    let byte : copy_of x ≡ copy_of y = ap copy_of same.1 in
    omega (arith, same.0, byte, two x)

-- external level four lies apart from a level's copies
external_off : (part_at place x : ℕ) (difi : Difi) (level : LevelPlace)
    → AreApart (external_extent difi) (copies_of level)
    → x < difi.ivfc4.size → place ≡ part_at + difi.external_at + x → InCopies part_at level place → ⊥
external_off part_at place x difi level apart h is there =
    apart (place - part_at) (omega (arith, is)) (omega (arith, is, h)) (omega (arith, there.0))
    (omega (arith, there.0, there.1))

-- of one part
module _ (image : List ℕ) (header : Header) (part : ℕ) (difi : Difi) (place : ℕ)
    (levels : HasSoundLevels difi (partition_of header part).size) where
  abbrev at : ℕ
  at = (partition_of header part).at

  abbrev bytes : ℕ → ℕ
  bytes = λ y. get_or image y 0

  two2 : (x : ℕ) → copy2 bytes at difi x < 2
  two2 x = bit_of-lt (pick1 bytes at difi difi.selector) (x / 2 ^ difi.dpfs2.log)

  two3 : (x : ℕ) → copy3 bytes at difi x < 2
  two3 x = bit_of-lt (pick2 bytes at difi difi.selector) (x / 2 ^ difi.dpfs3.log)

  -- a live place is in the chosen copy of one of the levels
  pub data IsLiveIn : Type 0 where
    Level1 : (x : ℕ) → x < difi.dpfs1.size → place ≡ copy_place at difi.dpfs1 (copy1 difi x) x → IsLiveIn
    Level2 : (x : ℕ) → x < difi.dpfs2.size
        → place ≡ copy_place at difi.dpfs2 (copy2 bytes at difi x) x → IsLiveIn
    Level3 : (x : ℕ) → x < difi.dpfs3.size
        → place ≡ copy_place at difi.dpfs3 (copy3 bytes at difi x) x → IsLiveIn

  pub live_in : live_tree bytes at difi place ≡ true → IsLiveIn
  live_in live =
      ⊎_elim
      (λ (first : live_level at difi.dpfs1 (copy1 difi) place ≡ true).
      let there = where_live at difi.dpfs1 (copy1 difi) place first in Level1 there.0 there.1 there.2)
      (λ rest.
      ⊎_elim
      (λ (second : live_level at difi.dpfs2 (copy2 bytes at difi) place ≡ true).
      let there = where_live at difi.dpfs2 (copy2 bytes at difi) place second in
      Level2 there.0 there.1 there.2)
      (λ (third : live_level at difi.dpfs3 (copy3 bytes at difi) place ≡ true).
      let there = where_live at difi.dpfs3 (copy3 bytes at difi) place third in
      Level3 there.0 there.1 there.2)
      (or_cases _ _ rest))
      (or_cases _ _ live)

  -- and lies in the partition
  in_partition : (level : LevelPlace) → level.at + 2 * level.size ≤ (partition_of header part).size
      → InCopies at level place
      → (at ≤ place) × (place < at + (partition_of header part).size)
  in_partition level fits there = (omega (arith, there.0), omega (arith, there.1, fits))

  pub live_inside : IsLiveIn → (at ≤ place) × (place < at + (partition_of header part).size)
  live_inside (Level1 x h is) =
      in_partition difi.dpfs1 levels.copies.level1.inside
      (in_copies at difi.selector x place difi.dpfs1 levels.selector h is)
  live_inside (Level2 x h is) =
      in_partition difi.dpfs2 levels.copies.level2.inside (in_copies at _ x place difi.dpfs2 (two2 x) h is)
  live_inside (Level3 x h is) =
      in_partition difi.dpfs3 levels.copies.level3.inside (in_copies at _ x place difi.dpfs3 (two3 x) h is)

  pub may_inside : (blocks : ℕ → Bool) → MayWriteIn image header part difi blocks place
      → (at ≤ place) × (place < at + (partition_of header part).size)
  may_inside blocks (Bits1 x h is) =
      in_partition difi.dpfs1 levels.copies.level1.inside
      (in_copies at (1 - difi.selector) x place difi.dpfs1 (omega arith) h is)
  may_inside blocks (Bits2 x h met is) =
      in_partition difi.dpfs2 levels.copies.level2.inside (in_copies at _ x place difi.dpfs2 (omega arith) h is)
  may_inside blocks (Contents x h met is) =
      in_partition difi.dpfs3 levels.copies.level3.inside (in_copies at _ x place difi.dpfs3 (omega arith) h is)
  may_inside blocks (External x external h touched is) =
      (omega (arith, is), omega (arith, is, h, (levels.external_level external).inside))

  -- what may be written there is not live
  pub not_live : (blocks : ℕ → Bool) → MayWriteIn image header part difi blocks place → IsLiveIn → ⊥
  not_live blocks (Bits1 x h is) (Level1 y k live) =
      other_copy at x y place difi.dpfs1 (copy1 difi) (λ z. levels.selector) h is k live
  not_live blocks (Bits1 x h is) (Level2 y k live) =
      apart_levels at place difi.dpfs1 difi.dpfs2 levels.copies.apart12
      (in_copies at (1 - difi.selector) x place difi.dpfs1 (omega arith) h is)
      (in_copies at _ y place difi.dpfs2 (two2 y) k live)
  not_live blocks (Bits1 x h is) (Level3 y k live) =
      apart_levels at place difi.dpfs1 difi.dpfs3 levels.copies.apart13
      (in_copies at (1 - difi.selector) x place difi.dpfs1 (omega arith) h is)
      (in_copies at _ y place difi.dpfs3 (two3 y) k live)
  not_live blocks (Bits2 x h met is) (Level1 y k live) =
      apart_levels at place difi.dpfs1 difi.dpfs2 levels.copies.apart12
      (in_copies at difi.selector y place difi.dpfs1 levels.selector k live)
      (in_copies at _ x place difi.dpfs2 (omega arith) h is)
  not_live blocks (Bits2 x h met is) (Level2 y k live) =
      other_copy at x y place difi.dpfs2 (copy2 bytes at difi) two2 h is k live
  not_live blocks (Bits2 x h met is) (Level3 y k live) =
      apart_levels at place difi.dpfs2 difi.dpfs3 levels.copies.apart23
      (in_copies at _ x place difi.dpfs2 (omega arith) h is)
      (in_copies at _ y place difi.dpfs3 (two3 y) k live)
  not_live blocks (Contents x h met is) (Level1 y k live) =
      apart_levels at place difi.dpfs1 difi.dpfs3 levels.copies.apart13
      (in_copies at difi.selector y place difi.dpfs1 levels.selector k live)
      (in_copies at _ x place difi.dpfs3 (omega arith) h is)
  not_live blocks (Contents x h met is) (Level2 y k live) =
      apart_levels at place difi.dpfs2 difi.dpfs3 levels.copies.apart23
      (in_copies at _ y place difi.dpfs2 (two2 y) k live)
      (in_copies at _ x place difi.dpfs3 (omega arith) h is)
  not_live blocks (Contents x h met is) (Level3 y k live) =
      other_copy at x y place difi.dpfs3 (copy3 bytes at difi) two3 h is k live
  not_live blocks (External x external h touched is) (Level1 y k live) =
      external_off at place x difi difi.dpfs1 (levels.external_level external).apart1 h is
      (in_copies at difi.selector y place difi.dpfs1 levels.selector k live)
  not_live blocks (External x external h touched is) (Level2 y k live) =
      external_off at place x difi difi.dpfs2 (levels.external_level external).apart2 h is
      (in_copies at _ y place difi.dpfs2 (two2 y) k live)
  not_live blocks (External x external h touched is) (Level3 y k live) =
      external_off at place x difi difi.dpfs3 (levels.external_level external).apart3 h is
      (in_copies at _ y place difi.dpfs3 (two3 y) k live)

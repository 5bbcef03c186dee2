-- Where the bytes of a view lie: apart from levels 1 and 2, and by blocks.
use Rattle.std.proofs.Common.{◌≡◌, ◌≢◌, ℕ, ◌+◌, ◌-◌, ◌*◌, ◌/◌, ◌%◌, ◌^◌, ◌<◌, ◌≤◌, min, Bool, true, refl, sym, ◌∙◌, ap}
use Rattle.std.proofs.Common.{arith, inl, inr, ⊎_elim, add-zero}
use Rattle.std.proofs.lemmas.Bool.{cases_lt, lt-ltb, le-ltb}
use Rattle.std.proofs.lemmas.Nat.{pow_pos, div-add-mod', div-mul-add, mod_below, same_from_place}
use Rattle.save_bytes.specs.Cells.{Cell}
use Rattle.save_bytes.specs.State.{Shape, IsWritable}
use Rattle.difi.specs.declared.places.LevelPlace.{LevelPlace}
use Rattle.difi.specs.declared.descriptor.Difi.{Difi}
use Rattle.difi.specs.Places.{copies_of}
use Rattle.difi.specs.Conditions.{external_extent}
use Rattle.save_bytes.specs.Extents.{AreApart}
use Rattle.difi.specs.Contents.{view_size}
use Rattle.save_bytes.specs.Writes.{IsWithin}
use Rattle.dpfs_tree.specs.declared.blocks.BlockCopies.{BlockCopies}
use Rattle.dpfs_tree.specs.Picks.{bytes_of, bit_of, copy_place, pick1, pick2, external_place}
use Rattle.dpfs_tree.specs.Marks.{copy_read, place_by, other_place, run_of}
use Rattle.dpfs_tree.specs.Copies.{CanCopy}
use Rattle.dpfs_tree.specs.View.{HasContents}
use Rattle.dpfs_tree.specs.Held.{IsBeside}
use Rattle.dpfs_tree.specs.Puts.{AreCopiesAt, WritesIn}
use Rattle.dpfs_tree.specs.SameLaws.{SameUpper, in_copy, bit_of-lt, copy_read-lt, behind_level3}

-- two levels whose copies lie apart share no place
pub levels_apart : (part_at : ℕ) (one other : LevelPlace) → AreApart (copies_of one) (copies_of other) → (c x d y : ℕ)
    → c < 2 → x < one.size
    → d < 2 → y < other.size → copy_place part_at one c x ≢ copy_place part_at other d y
levels_apart part_at one other apart c x d y first inside second below same =
    let here = in_copy one.at one.size c (x + 1) (one.at + 2 * one.size) first (omega (arith, inside)) (omega arith) in
    let there = in_copy other.at other.size d (y + 1) (other.at + 2 * other.size) second (omega (arith, below))
    (omega arith) in
    apart (one.at + c * one.size + x) (omega arith) (omega (arith, here)) (omega (arith, same))
    (omega (arith, same, there))

-- one place of a level lies in one of its copies
pub one_copy : (part_at : ℕ) (level : LevelPlace) (c x d y : ℕ) → x < level.size → y < level.size
    → copy_place part_at level c x ≡ copy_place part_at level d y → (c ≡ d) × (x ≡ y)
one_copy part_at level c x d y inside below same = same_from_place c x d y level.size inside below (omega (arith, same))

module _ (base : Shape) (part_at : ℕ) (difi : Difi) (selector : ℕ) (tree : HasContents base part_at difi selector) where
  -- the place of a byte of level 3, by its block's mark and bit
  pub place_in_block : (bytes : ℕ → ℕ) (marked : ℕ → Bool) (x block : ℕ) → x < difi.dpfs3.size
      → x / 2 ^ difi.dpfs3.log ≡ block
      → place_by bytes part_at difi selector marked x
      ≡ copy_place part_at difi.dpfs3 (copy_read (marked block) (bit_of (pick2 bytes part_at difi selector) block)) x
  unfolding place_by
  place_in_block bytes marked x block below is = rw (lt-ltb x difi.dpfs3.size below, is) refl

  -- and of one behind it
  pub place_behind : (bytes : ℕ → ℕ) (marked : ℕ → Bool) (x : ℕ) → difi.dpfs3.size ≤ x
      → place_by bytes part_at difi selector marked x ≡ external_place part_at difi x
  unfolding place_by
  place_behind bytes marked x behind = rw (le-ltb x difi.dpfs3.size behind) refl

  -- no byte of a view lies in a level that is apart from level 3 and from external level four
  pub off_level : (level : LevelPlace) → AreApart (copies_of level) (copies_of difi.dpfs3)
      → (difi.external ≡ true → AreApart (external_extent difi) (copies_of level))
      → (bytes : ℕ → ℕ) (marked : ℕ → Bool) (y : ℕ)
      → y < view_size difi → (copy x : ℕ) → copy < 2 → x < level.size
      → copy_place part_at level copy x ≢ place_by bytes part_at difi selector marked y
  off_level level apart external_apart bytes marked y inside copy x one h same =
      let z : ℕ = level.at + copy * level.size + x in
      let there = in_copy level.at level.size copy (x + 1) (level.at + 2 * level.size) one (omega (arith, h))
      (omega arith) in
      ⊎_elim
      (λ (below : y < difi.dpfs3.size).
      let bit = bit_of (pick2 bytes part_at difi selector) (y / 2 ^ difi.dpfs3.log) in
      let read = copy_read (marked (y / 2 ^ difi.dpfs3.log)) bit in
      let size = difi.dpfs3.size in
      let read_one = copy_read-lt (marked (y / 2 ^ difi.dpfs3.log)) bit
      (bit_of-lt (pick2 bytes part_at difi selector) (y / 2 ^ difi.dpfs3.log)) in
      let is : part_at + level.at + copy * level.size + x ≡ part_at + difi.dpfs3.at + read * size + y =
      same ∙ place_in_block bytes marked y (y / 2 ^ difi.dpfs3.log) below refl in
      let inside3 = in_copy difi.dpfs3.at size read (y + 1) (difi.dpfs3.at + 2 * size) read_one (omega (arith, below))
      (omega arith) in
      apart z (omega arith) (omega (arith, there)) (omega (arith, is)) (omega (arith, is, inside3)))
      (λ (behind : difi.dpfs3.size ≤ y).
      let external = behind_level3 difi y behind inside in
      let is : part_at + level.at + copy * level.size + x ≡ external_place part_at difi y = same
      ∙ place_behind bytes marked y behind in
      external_apart external.0 z (omega (arith, is)) (omega (arith, is, inside, external.1, behind)) (omega arith)
      (omega (arith, there)))
      (cases_lt y difi.dpfs3.size)

  -- so a put into a view leaves levels 1 and 2 alone
  pub upper_stays : (old new : ℕ → Cell) (at n : ℕ)
      → ((x : ℕ) → x < base.size → ¬ WritesIn (bytes_of old) part_at difi selector at n x → new x ≡ old x)
      → SameUpper part_at difi selector (bytes_of old) (bytes_of new)
  upper_stays old new at n stays = record {
    level1 = λ x h.
        (let there = in_copy (part_at + difi.dpfs1.at) difi.dpfs1.size selector (x + 1) base.size tree.one_of_two
        (omega (arith, h)) tree.level1 in
        let same = stays (copy_place part_at difi.dpfs1 selector x) (omega (arith, there))
        (λ (k, y, less, inside, beside, is).
        off_level difi.dpfs1 tree.apart13 (λ external. (tree.external_apart external).0) (bytes_of old) (λ block. true)
        y inside selector
        x tree.one_of_two h is) in
        rw same refl);
    level2 = λ x h.
        (let bits = pick1 (bytes_of old) part_at difi selector in
        let copy = bit_of bits (x / 2 ^ difi.dpfs2.log) in
        let one = bit_of-lt bits (x / 2 ^ difi.dpfs2.log) in
        let there = in_copy (part_at + difi.dpfs2.at) difi.dpfs2.size copy (x + 1) base.size one (omega (arith, h))
        tree.level2 in
        let same = stays (copy_place part_at difi.dpfs2 copy x) (omega (arith, there))
        (λ (k, y, less, inside, beside, is).
        off_level difi.dpfs2 tree.apart23 (λ external. (tree.external_apart external).1) (bytes_of old) (λ block. true)
        y inside copy x one h is) in
        rw same refl);
  }

-- the block of a place of a level
module _ (part_at : ℕ) (level : LevelPlace) (at chosen : ℕ) (copies : BlockCopies)
    (are : AreCopiesAt part_at level at chosen copies)
    (below : at < level.size) where
  abbrev pub begin : ℕ
  begin = at - at % 2 ^ level.log

  pub begin_is : begin ≡ at / 2 ^ level.log * 2 ^ level.log
  begin_is = let split = div-add-mod' at (2 ^ level.log) in omega (arith, split)

  pub at_is : at ≡ begin + copies.skipped
  at_is = let split = div-add-mod' at (2 ^ level.log) in omega (arith, split, are.skipped)

  pub ends : begin + copies.len ≤ level.size
  ends = let split = div-add-mod' at (2 ^ level.log) in omega (arith, split, are.len, below)

  -- a place of the level lies in the block where its number is the block's
  pub in_block : (x : ℕ) → begin ≤ x → x < begin + copies.len → x / 2 ^ level.log ≡ at / 2 ^ level.log
  in_block x from less =
      let place : x ≡ at / 2 ^ level.log * 2 ^ level.log + (x - begin) = omega (arith, begin_is, from) in
      ap (λ (y : ℕ). y / 2 ^ level.log) place
      ∙ div-mul-add (at / 2 ^ level.log) (2 ^ level.log) (x - begin) (omega (arith, are.len, from, less))

  pub of_block : (x : ℕ) → x < level.size → x / 2 ^ level.log ≡ at / 2 ^ level.log → IsWithin begin copies.len x
  of_block x inside same =
      let split = div-add-mod' x (2 ^ level.log) in
      let rest = mod_below x (2 ^ level.log) (pow_pos level.log) in
      let row : x / 2 ^ level.log * 2 ^ level.log ≡ at / 2 ^ level.log * 2 ^ level.log =
      ap (λ (q : ℕ). q * 2 ^ level.log) same in
      (omega (arith, begin_is, split, row), omega (arith, begin_is, split, row, rest, are.len, inside))

  -- its other copy may be written from the chosen copy
  pub can_copy_block : (base : Shape) (difi : Difi) (selector : ℕ) → HasContents base part_at difi selector
      → part_at + level.at + 2 * level.size ≤ base.size → chosen < 2 → CanCopy base copies.from copies.to copies.len
  can_copy_block base difi selector tree inside one =
      let size = level.size in
      let start : ℕ = part_at + level.at in
      let from_in = in_copy start size chosen (begin + copies.len) base.size one ends inside in
      let to_in = in_copy start size (1 - chosen) (begin + copies.len) base.size (omega arith) ends inside in
      record {
        sound = tree.sound;
        plain = tree.plain;
        single = tree.single;
        small = tree.small;
        first = omega (arith, tree.first, are.to);
        from_inside = omega (arith, are.from, from_in);
        to_inside = omega (arith, are.to, to_in);
        apart = λ x here there.
            (let y : ℕ = begin + (x - copies.from) in
            let z : ℕ = begin + (x - copies.to) in
            let y_in : y < size = omega (arith, here.0, here.1, ends) in
            let z_in : z < size = omega (arith, there.0, there.1, ends) in
            let rows : chosen * size + y ≡ (1 - chosen) * size + z = omega (arith, are.from, are.to, here.0, there.0) in
            let same = same_from_place chosen y (1 - chosen) z size y_in z_in rows in
            omega (arith, same.0));
      }

-- the block of a place of level 3
module _ (part_at : ℕ) (difi : Difi) (at chosen : ℕ) (copies : BlockCopies)
    (are : AreCopiesAt part_at difi.dpfs3 at chosen copies)
    (below : at < difi.dpfs3.size) where
  abbrev start : ℕ
  start = begin part_at difi.dpfs3 at chosen copies are below

  abbrev finish : start + copies.len ≤ difi.dpfs3.size
  finish = ends part_at difi.dpfs3 at chosen copies are below

  -- a place of its other copy is written by a put into the range
  pub block_sites : (bytes : ℕ → ℕ) (selector n : ℕ) → 1 ≤ n → difi.dpfs3.size ≤ view_size difi
      → chosen ≡ bit_of (pick2 bytes part_at difi selector) (at / 2 ^ difi.dpfs3.log) → (place : ℕ)
      → IsWithin copies.to copies.len place → WritesIn bytes part_at difi selector at n place
  unfolding place_by
  block_sites bytes selector n some view is place within =
      let y : ℕ = start + (place - copies.to) in
      let inside : y < difi.dpfs3.size = omega (arith, within.0, within.1, finish) in
      let block = in_block part_at difi.dpfs3 at chosen copies are below y (omega arith)
      (omega (arith, within.0, within.1)) in
      let beside : IsBeside difi (at + 0) y = rw add-zero (inr (below, inside, block)) in
      let bit = bit_of (pick2 bytes part_at difi selector) (at / 2 ^ difi.dpfs3.log) in
      let there : place ≡ copy_place part_at difi.dpfs3 (1 - chosen) y = omega (arith, within.0, are.to) in
      let other : other_place bytes part_at difi selector y ≡ copy_place part_at difi.dpfs3 (1 - bit) y =
      rw (lt-ltb y difi.dpfs3.size inside, block) refl in (
        0,
        y,
        omega (arith, some),
        omega (arith, inside, view),
        beside,
        there ∙ ap (λ (b : ℕ). copy_place part_at difi.dpfs3 (1 - b) y) is ∙ sym other,
      )

  -- a run lies in the block
  pub run_in_block : (n : ℕ) → n ≤ run_of difi at → copies.skipped + n ≤ copies.len
  unfolding run_of
  run_in_block n few =
      let run : n ≤ min (2 ^ difi.dpfs3.log - at % 2 ^ difi.dpfs3.log) (difi.dpfs3.size - at) =
      rw (lt-ltb at difi.dpfs3.size below) at few in
      let rest = mod_below at (2 ^ difi.dpfs3.log) (pow_pos difi.dpfs3.log) in
      let split = div-add-mod' at (2 ^ difi.dpfs3.log) in
      omega (arith, run, rest, are.skipped, are.len, split, below)

-- external level four may be written, and that is what a put behind level 3 writes
module _ (base : Shape) (part_at : ℕ) (difi : Difi) (selector : ℕ) (tree : HasContents base part_at difi selector)
    (at n : ℕ)
    (behind : difi.dpfs3.size ≤ at) (inside : at + n ≤ view_size difi) where
  pub external_writable : at < view_size difi → IsWritable base (external_place part_at difi at) n
  external_writable view =
      let external = behind_level3 difi at behind view in
      record {
        inside = record { sound = tree.sound; inside = omega (arith, inside, external.1, tree.external external.0) };
        behind_first = omega (arith, tree.first);
      }

  pub external_sites : (bytes : ℕ → ℕ) (place : ℕ) → IsWithin (external_place part_at difi at) n place
      → WritesIn bytes part_at difi selector at n place
  external_sites bytes place within =
      let k : ℕ = place - external_place part_at difi at in
      let less : k < n = omega (arith, within.0, within.1) in
      let is = place_behind base part_at difi selector tree bytes (λ block. true) (at + k) (omega arith) in
      (k, at + k, less, omega (arith, less), inl refl, omega (arith, is, within.0))

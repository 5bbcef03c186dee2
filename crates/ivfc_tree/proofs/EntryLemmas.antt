-- Entries and blocks, and what they keep where some bytes of the base and of the master hash were written.
use Rattle.std.proofs.Common.{◌≡◌, ◌≢◌, ℕ, suc, ◌+◌, ◌-◌, ◌*◌, ◌/◌, ◌^◌, ◌<◌, ◌≤◌, List, ◌++◌, length, get_or}
use Rattle.std.proofs.Common.{take, drop}
use Rattle.std.proofs.Common.{replicate, refl, sym, ◌∙◌, ap, arith, rules, ⊎_elim}
use Rattle.std.proofs.lemmas.Slice.{between-put_mid}
use borrow.Rule.Slice.PartMut.{put_mid}
use Rattle.std.proofs.lemmas.List.{places, get_or-take, get_or-drop, length-take, length-drop}
use Rattle.std.proofs.lemmas.Grind.{same_number_lists}
use Rattle.std.proofs.lemmas.Bool.{cases_lt, cases_eq}
use Rattle.std.proofs.lemmas.Nat.{div-mul-add, pow-add}
use Rattle.sha2.specs.Sha256.{sha256}
use Rattle.save_bytes.specs.Cells.{Cell, AreBytesAt}
use Rattle.save_bytes.specs.CellNumbers.{bytes_in}
use Rattle.save_bytes.specs.State.{Shape}
use Rattle.save_bytes.specs.Extents.{AreApart}
use Rattle.save_bytes.specs.Writes.{IsWithin}
use Rattle.save_bytes.proofs.CellLemmas.{bytes_in-same, bytes_in-is}
use Rattle.difi.specs.declared.descriptor.Difi.{Difi}
use Rattle.difi.specs.Places.{extent_of, block_size}
use Rattle.ivfc_tree.specs.Levels.{IsLevel, level_of, len_of, HasBlock, padded_block, hash_entry, parent_of}
use Rattle.ivfc_tree.specs.View.{HasLevels, HasTree}
use Rattle.ivfc_tree.specs.Seals.{IsInEntry, IsInFirst, DiffersAt}
use Rattle.ivfc_tree.proofs.HashLemmas.{padded_block-is, hash_entry-below}
use Rattle.ivfc_tree.proofs.LevelLemmas.{block_placed, entry_there}

-- a place of the base is one of a block
abbrev pub IsInBlock : Difi → ℕ → ℕ → ℕ → Type 0
IsInBlock difi level block x =
    IsWithin ((level_of difi level).at + block * block_size (level_of difi level)) (len_of difi level block) x

-- no two levels share a byte
pub apart_levels : (base : Shape) (difi : Difi) → HasLevels base difi → (one other : ℕ) → IsLevel one → IsLevel other
    → one ≢ other → AreApart (extent_of (level_of difi one)) (extent_of (level_of difi other))
apart_levels base difi levels one other is_one is_other differ =
    ⊎_elim
    (λ (less : one < other). levels.apart one other is_one.0 less is_other.1)
    (λ (from : other ≤ one). λ x a b c d.
    levels.apart other one is_other.0 (omega (arith, from, differ)) is_one.1 x c d a b)
    (cases_lt one other)

-- a part of a list of which no number changed
part_same : (one other : List ℕ) (from n : ℕ) → length one ≡ length other
    → ((k : ℕ) → k < n → get_or one (from + k) 0 ≡ get_or other (from + k) 0)
    → take n (drop from one) ≡ take n (drop from other)
part_same one other from n long same =
    same_number_lists _ _ (rw (
      length-take n (drop from one),
      length-take n (drop from other),
      length-drop from
          one,
      length-drop from other,
      long,
    ) refl)
    (λ k less.
    let small : k < n = omega (arith, length-take n (drop from one), less) in
    get_or-take n (drop from one) k 0 small ∙ get_or-drop from one k 0 ∙ same k small
    ∙ sym (get_or-take n (drop from other) k 0 small ∙ get_or-drop from other k 0))

-- a part of a list that was written
pub part_written : (at n : ℕ) (xs ys : List ℕ) → length ys ≡ n → at + n ≤ length xs
    → take n (drop at (put_mid at (at + n - at) xs ys)) ≡ ys
part_written at n xs ys long fits =
    let width : at + n - at ≡ n = omega arith in
    ap (λ (m : ℕ). take m (drop at (put_mid at (at + n - at) xs ys))) (sym width)
    ∙ between-put_mid at (at + n - at) xs ys (at + n) (omega (arith, fits)) (long ∙ sym width)

-- what it leaves
pub part_changes : (at n : ℕ) (xs ys : List ℕ) → length ys ≡ n → at + n ≤ length xs
    → DiffersAt (IsWithin at n) xs (put_mid at (at + n - at) xs ys)
part_changes at n xs ys long fits =
    let width : at + n - at ≡ n = omega arith in
    rw width (record {
      same_len = search (rules, places, long, fits);
      others = λ x out.
          ⊎_elim
          (λ (before : x < at). search (rules, places, before))
          (λ (from : at ≤ x).
          let behind : at + n ≤ x = ⊎_elim (λ (inside : x < at + n). absurd (out (from, inside))) (λ (b : at + n
          ≤ x). b) (cases_lt x (at + n)) in
          search (rules, places, behind))
          (cases_lt x at);
    })

-- before the first change of a list
pub DiffersAt-same : (sites : ℕ → Type 0) (xs : List ℕ) → DiffersAt sites xs xs
DiffersAt-same sites xs = record { same_len = refl; others = λ x out. refl }

-- a change behind another, at places of that one
pub DiffersAt-then : (sites few : ℕ → Type 0) (xs ys zs : List ℕ) → ((x : ℕ) → few x → sites x) → DiffersAt sites
    xs ys
    → DiffersAt few ys zs → DiffersAt sites xs zs
DiffersAt-then sites few xs ys zs wider h k = record {
  same_len = k.same_len ∙ h.same_len;
  others = λ x out. k.others x (λ site. out (wider x site)) ∙ h.others x out;
}

-- the entries of one block lie in one block
entry_block : (number block log y : ℕ) → 9 ≤ log → 32 * number ≤ y → y < 32 * number + 32 → block * 2 ^ log ≤ y
    → y < block * 2 ^ log + 2 ^ log → 32 * number / 2 ^ log ≡ block
entry_block number block log y wide from below in_block before =
    let rest : ℕ = 2 ^ (log - 5) in
    let parts : log ≡ 5 + (log - 5) = omega arith in
    let size : 2 ^ log ≡ 32 * rest = ap (λ (n : ℕ). 2 ^ n) parts ∙ pow-add 2 5 (log - 5) in
    let start : block * 2 ^ log ≡ 32 * (block * rest) = rw size (omega arith) in
    let place : 32 * number ≡ block * 2 ^ log + (32 * number - block * 2 ^ log) = omega (arith, start) in
    rw place (div-mul-add block (2 ^ log) (32 * number - block * 2 ^ log) (omega (arith, start)))

module _ (base : Shape) (difi : Difi) (master_len : ℕ) (tree : HasTree base difi master_len) where
  -- an entry lies in the level above its block's
  pub entry_inside : (level block x : ℕ) → HasBlock difi level block → IsInEntry difi level block x
      → IsWithin (level_of difi (level - 1)).at (level_of difi (level - 1)).size x
  entry_inside level block x there entry =
      let inside = entry_there base difi master_len level block tree entry.0 there in
      (omega (arith, entry.1.0), omega (arith, entry.1.1, inside))

  -- a block lies in its level
  pub block_inside : (level block x : ℕ) → HasBlock difi level block → IsInBlock difi level block x
      → IsWithin (level_of difi level).at (level_of difi level).size x
  block_inside level block x there within =
      let placed = block_placed base difi level block tree.levels there in
      (omega (arith, within.0), omega (arith, within.1, placed.begins))

  pub in_base : (level x : ℕ) → IsLevel level → IsWithin (level_of difi level).at (level_of difi level).size x
      → x < base.size
  in_base level x is within = omega (arith, within.1, tree.levels.inside level is)

  -- entries of blocks of two levels share no byte
  pub entries_apart : (level other block number x : ℕ) → level ≢ other → HasBlock difi level block
      → HasBlock difi other number → IsInEntry difi level block x → ¬ IsInEntry difi other number x
  entries_apart level other block number x differ there here one two =
      let in_one = entry_inside level block x there one in
      let in_two = entry_inside other number x here two in
      apart_levels base difi tree.levels (level - 1) (other - 1)
      (omega (arith, one.0), omega (arith, there.in_tree.1)) (omega (arith, two.0), omega (arith, here.in_tree.1))
      (λ same. differ (omega (arith, same, one.0, two.0))) x in_one.0 in_one.1 in_two.0 in_two.1

  -- a byte of an entry is one of the block above alone
  pub entry_in_block : (level other block number x : ℕ) → HasBlock difi level block → HasBlock difi other number
      → IsInBlock difi level block x → IsInEntry difi other number x
      → (other ≡ suc level) × (parent_of difi level number ≡ block)
  entry_in_block level other block number x there here within entry =
      let in_block = block_inside level block x there within in
      let in_entry = entry_inside other number x here entry in
      ⊎_elim
      (λ (same : other - 1 ≡ level).
      let start : (level_of difi level).at + 32 * number ≤ x = rw same at entry.1.0 in
      let end : x < (level_of difi level).at + 32 * number + 32 = rw same at entry.1.1 in (
        omega (arith, same, entry.0),
        entry_block number block (level_of difi level).log (x - (level_of difi level).at)
            (tree.levels.logs level there.in_tree).0 (omega (arith, start)) (omega (arith, end, start))
            (omega (arith, within.0)) (omega (arith, within.0, within.1)),
      ))
      (λ (differ : other - 1 ≢ level).
      absurd (apart_levels base difi tree.levels (other - 1) level
      (omega (arith, entry.0), omega (arith, here.in_tree.1)) there.in_tree differ x in_entry.0 in_entry.1
      in_block.0 in_block.1))
      (cases_eq (other - 1) level)

  module _ (old new : ℕ → Cell) where
    -- a block whose bytes stay
    pub padded-kept : (level block : ℕ) → HasBlock difi level block
        → ((x : ℕ) → IsInBlock difi level block x → new x ≡ old x)
        → padded_block new difi level block ≡ padded_block old difi level block
    padded-kept level block there same =
        let placed = block_placed base difi level block tree.levels there in
        let at : ℕ = (level_of difi level).at + block * block_size (level_of difi level) in
        let bytes = bytes_in-same new old at at (len_of difi level block)
        (λ k h. same (at + k) (omega arith, omega (arith, h))) in
        padded_block-is new difi level block placed.begins
        ∙ ap (λ (l : List ℕ). l ++ replicate (block_size (level_of difi level) - len_of difi level block) 0) bytes
        ∙ sym (padded_block-is old difi level block placed.begins)

    -- an entry whose bytes stay
    entry-kept : (master new_master : List ℕ) (level block : ℕ) → 1 < level → HasBlock difi level block
        → ((x : ℕ) → IsInEntry difi level block x → new x ≡ old x)
        → hash_entry new new_master difi level block ≡ hash_entry old master difi level block
    entry-kept master new_master level block below there same =
        let inside = entry_there base difi master_len level block tree below there in
        let at : ℕ = (level_of difi (level - 1)).at + 32 * block in
        hash_entry-below new new_master difi level block below inside
        ∙ bytes_in-same new old at at 32 (λ k h. same (at + k) (below, (omega arith, omega (arith, h))))
        ∙ sym (hash_entry-below old master difi level block below inside)

  -- an entry that was written
  pub entry_written : (cells : ℕ → Cell) (master entry : List ℕ) (level block : ℕ) → 1 < level
      → HasBlock difi level block → length entry ≡ 32
      → AreBytesAt cells ((level_of difi (level - 1)).at + 32 * block) entry
      → hash_entry cells master difi level block ≡ entry
  entry_written cells master entry level block below there long bytes =
      let at : ℕ = (level_of difi (level - 1)).at + 32 * block in
      hash_entry-below cells master difi level block below
      (entry_there base difi master_len level block tree below there)
      ∙ ap (bytes_in cells at) (sym long) ∙ bytes_in-is cells at entry bytes

  module _ (old new : ℕ → Cell) (master new_master : List ℕ) (sites firsts : ℕ → Type 0)
      (stays : (x : ℕ) → x < base.size → ¬ sites x → new x ≡ old x) (first : DiffersAt firsts master new_master) where
    -- the entry of a block of level 1
    first_stays : (block : ℕ) → ((x : ℕ) → IsWithin (32 * block) 32 x → ¬ firsts x)
        → hash_entry new new_master difi 1 block ≡ hash_entry old master difi 1 block
    unfolding hash_entry
    first_stays block off =
        part_same new_master master (32 * block) 32 first.same_len
        (λ k less. first.others (32 * block + k) (off (32 * block + k) (omega arith, omega (arith, less))))

    -- an entry of which no byte was written
    pub entry_stays : (level block : ℕ) → HasBlock difi level block
        → ((x : ℕ) → IsInEntry difi level block x → ¬ sites x) → ((x : ℕ) → IsInFirst level block x → ¬ firsts x)
        → hash_entry new new_master difi level block ≡ hash_entry old master difi level block
    entry_stays level block there off off_first =
        ⊎_elim
        (λ (below : 1 < level). entry-kept old new master new_master level block below there
        (λ x entry. stays x (in_base (level - 1) x (omega (arith, below), omega (arith, there.in_tree.1))
        (entry_inside level block x there entry)) (off x entry)))
        (λ (top : level ≤ 1).
        let one : level ≡ 1 = omega (arith, top, there.in_tree.0) in
        rw one (first_stays block (λ x within. off_first x (one, within))))
        (cases_lt 1 level)

    -- a block of which no byte was written
    pub block_stays : (level block : ℕ) → HasBlock difi level block
        → ((x : ℕ) → IsInBlock difi level block x → ¬ sites x)
        → padded_block new difi level block ≡ padded_block old difi level block
    block_stays level block there off =
        padded-kept old new level block there
        (λ x within. stays x (in_base level x there.in_tree (block_inside level block x there within)) (off x within))

    -- so a block whose entry is its digest stays so
    pub digest_stays : (level block : ℕ) → HasBlock difi level block
        → ((x : ℕ) → IsInEntry difi level block x → ¬ sites x) → ((x : ℕ) → IsInFirst level block x → ¬ firsts x)
        → ((x : ℕ) → IsInBlock difi level block x → ¬ sites x)
        → hash_entry old master difi level block ≡ sha256 (padded_block old difi level block)
        → hash_entry new new_master difi level block ≡ sha256 (padded_block new difi level block)
    digest_stays level block there off off_first off_block is =
        entry_stays level block there off off_first ∙ is ∙ ap sha256 (sym (block_stays level block there off_block))

-- Tables and partitions lie apart, so what a transaction may write is not live anywhere in an image.
use Rattle.std.proofs.Common.{◌≡◌, ⊎_elim, ℕ, zero, suc, ◌<◌, ◌≤◌, Bool, true, ◌&&◌, ◌||◌, eqb, ltb, Ok, List, length}
use Rattle.std.proofs.Common.{get_or, refl, sym, ◌∙◌, arith, inl, inr}
use Rattle.std.proofs.lemmas.Bool.{or_cases, and_parts, ltb-true, eqb-true, cases_lt}
use Rattle.save_bytes.specs.declared.extent.Extent.{Extent}
use Rattle.save_bytes.specs.Extents.{AreApart}
use Rattle.save_bytes.specs.Writes.{IsWithin}
use Rattle.container_header.specs.declared.header.Header.{Header}
use Rattle.container_header.specs.Conditions.{reading as header_reading, table_at}
use Rattle.container_header.specs.Sound.{active_at, inactive_at, IsSoundHeader}
use Rattle.container_header.proofs.HeaderRead.{reading-ok}
use Rattle.difi.specs.declared.descriptor.Difi.{Difi}
use Rattle.container.specs.Openings.{active_table, partition_of, part_reading}
use Rattle.live_image.specs.Live.{lies_from, live_tree, live_of, live_behind, live_places}
use Rattle.live_image.specs.Same.{HasPart}
use Rattle.live_image.specs.Footprint.{MayWriteIn, MayWrite, Front, Table, InPart}
use Rattle.live_image.proofs.LevelLemmas.{lies_where}
use Rattle.live_image.proofs.ImageLemmas.{placed, header_or_not, difi_or_not}
use Rattle.live_image.proofs.FootprintLemmas.{live_in, live_inside, may_inside, not_live}

-- the place lies in the range
abbrev Covers : Extent → ℕ → Type 0
Covers extent place = IsWithin extent.at extent.size place

-- a live place behind the front is in the active table or in a part
pub data IsLiveBehind (image : List ℕ) (place : ℕ) : Type 0 where
  LiveTable : (header : Header) → header_reading image ≡ Ok header → Covers (table_at header (active_at header)) place
      → IsLiveBehind image place
  LivePart : (header : Header) (part : ℕ) (difi : Difi) → HasPart image header part difi
      → live_tree (λ y. get_or image y 0) (partition_of header part).at difi place ≡ true → IsLiveBehind image place

module _ (image : List ℕ) (place : ℕ) where
  live_part_of : (header : Header) (part : ℕ) → header_reading image ≡ Ok header → part < header.parts
      → live_of image header part place ≡ true → IsLiveBehind image place
  live_part_of header part is there live = elim (difi_or_not (part_reading (active_table image header) header part)) [
    | inl read ↦ LivePart header part read.0 (record { header_is = is; counted = there; described = read.1 })
        (rw read.1 at live)
    | inr unread ↦ absurd (let none = rw unread.1 at live in cc)
  ]

  live_under : (header : Header) → header_reading image ≡ Ok header → live_behind image (Ok header) place ≡ true
      → IsLiveBehind image place
  live_under header is live =
      let sound = (reading-ok image header is).sound in
      ⊎_elim
      (λ (table : lies_from (active_at header) header.table_size place ≡ true).
      LiveTable header is (lies_where (active_at header) header.table_size place table))
      (λ rest.
      ⊎_elim
      (λ (first : live_of image header 0 place ≡ true). live_part_of header 0 is (omega (arith, sound.one_part)) first)
      (λ (second : (eqb header.parts 2 && live_of image header 1 place) ≡ true).
      let both = and_parts (eqb header.parts 2) (live_of image header 1 place) second in
      let two = eqb-true header.parts 2 both.0 in
      live_part_of header 1 is (omega (arith, two)) both.1)
      (or_cases (live_of image header 0 place) (eqb header.parts 2 && live_of image header 1 place) rest))
      (or_cases (lies_from (active_at header) header.table_size place)
      (live_of image header 0 place || (eqb header.parts 2 && live_of image header 1 place)) live)

  behind_front : 512 ≤ place → live_places image place ≡ true → IsLiveBehind image place
  unfolding live_places
  behind_front from live =
      ⊎_elim
      (λ (front : ltb place 512 ≡ true). absurd (let short = ltb-true place 512 front in omega (arith, short, from)))
      (λ (rest : live_behind image (header_reading image) place ≡ true). elim (header_or_not (header_reading image)) [
        | inl read ↦ live_under read.0 read.1 (rw read.1 at rest)
        | inr unread ↦ absurd (let none = rw unread.1 at rest in cc)
      ])
      (or_cases (ltb place 512) (live_behind image (header_reading image) place) live)

  -- ranges that lie apart share no place
  off : (one other : Extent) → AreApart one other → Covers one place → Covers other place → ⊥
  off one other apart in_one in_other = apart place in_one.0 in_one.1 in_other.0 in_other.1

  module _ (header : Header) (is : header_reading image ≡ Ok header) where
    sound : IsSoundHeader header (length image)
    sound = (reading-ok image header is).sound

    active_off : (part : ℕ) → part < header.parts → Covers (table_at header (active_at header)) place
        → Covers (partition_of header part) place → ⊥
    active_off zero there table here = off
        (table_at header (active_at header)) header.part_a sound.active_a_apart table here
    active_off (suc zero) there table here =
        off (table_at header (active_at header)) header.part_b
        (sound.active_b_apart (omega (arith, there, sound.two_parts))) table here
    active_off (suc (suc part)) there table here = absurd (omega (arith, there, sound.two_parts))

    inactive_off : (part : ℕ) → part < header.parts → Covers (table_at header (inactive_at header)) place
        → Covers (partition_of header part) place → ⊥
    inactive_off zero there table here = off
        (table_at header (inactive_at header)) header.part_a sound.inactive_a_apart table here
    inactive_off (suc zero) there table here =
        off (table_at header (inactive_at header)) header.part_b
        (sound.inactive_b_apart (omega (arith, there, sound.two_parts))) table here
    inactive_off (suc (suc part)) there table here = absurd (omega (arith, there, sound.two_parts))

    -- a place of two partitions is one of one partition
    one_partition : (part other : ℕ) → part < header.parts → other < header.parts
        → Covers (partition_of header part) place → Covers (partition_of header other) place → part ≡ other
    one_partition zero zero there also here too = refl
    one_partition zero (suc zero) there also here too =
        absurd (off header.part_a header.part_b
        (sound.partitions_apart (omega (arith, also, sound.two_parts))) here too)
    one_partition (suc zero) zero there also here too =
        absurd (off header.part_a header.part_b
        (sound.partitions_apart (omega (arith, there, sound.two_parts))) too here)
    one_partition (suc zero) (suc zero) there also here too = refl
    one_partition part (suc (suc other)) there also here too = absurd (omega (arith, also, sound.two_parts))
    one_partition (suc (suc part)) other there also here too = absurd (omega (arith, there, sound.two_parts))

  -- one reading has one header, and one part one descriptor
  one_header : (header other : Header) → header_reading image ≡ Ok header → header_reading image ≡ Ok other
      → header ≡ other
  one_header header other is also = let both = sym is ∙ also in cc

  in_part_off : (header other : Header) (part number : ℕ) (difi descriptor : Difi) (blocks : ℕ → Bool)
      → HasPart image header part difi → HasPart image other number descriptor → header ≡ other
      → MayWriteIn image header part difi blocks place
      → live_tree (λ y. get_or image y 0) (partition_of other number).at descriptor place ≡ true → ⊥
  in_part_off header other part number difi descriptor blocks has also same may live =
      let levels = (placed image header part difi has).levels in
      let other_levels = (placed image other number descriptor also).levels in
      let here = may_inside image header part difi place levels blocks may in
      let too = live_inside image other number descriptor place other_levels
      (live_in image other number descriptor place other_levels live) in
      let one = one_partition header has.header_is part number has.counted (rw same also.counted) here (rw same too) in
      not_live image header part difi place levels blocks may
      (live_in image header part difi place levels
      (same_tree header other part number difi descriptor has also same one live))
    where
      same_tree : (header other : Header) (part number : ℕ) (difi descriptor : Difi)
          → HasPart image header part difi → HasPart image other number descriptor → header ≡ other → part ≡ number
          → live_tree (λ y. get_or image y 0) (partition_of other number).at descriptor place ≡ true
          → live_tree (λ y. get_or image y 0) (partition_of header part).at difi place ≡ true
      same_tree header other part number difi descriptor has also same one live =
          let described = rw (← same, ← one) at also.described in
          let both : difi ≡ descriptor = let read = sym has.described ∙ described in cc in
          rw (same, one, both) live

  pub written_not_live : (blocks : ℕ → ℕ → Bool) → MayWrite image blocks place → 512 ≤ place
      → IsLiveBehind image place → ⊥
  written_not_live blocks (Front front) from live = omega (arith, front, from)
  written_not_live blocks (Table header is begin end) from (LiveTable other also table) =
      let same = one_header header other is also in
      off (table_at header (active_at header)) (table_at header (inactive_at header))
      (sound header is).active_inactive_apart (rw same table) (begin, end)
  written_not_live blocks (Table header is begin end) from (LivePart other part difi has live) =
      let same = one_header header other is has.header_is in
      let levels = (placed image other part difi has).levels in
      let here = live_inside image other part difi place levels (live_in image other part difi place levels live) in
      inactive_off header is part (rw same has.counted) (begin, end) (rw same here)
  written_not_live blocks (InPart header part difi has may) from (LiveTable other also table) =
      let same = one_header header other has.header_is also in
      let levels = (placed image header part difi has).levels in
      let here = may_inside image header part difi place levels (blocks part) may in
      active_off header has.header_is part has.counted (rw same table) here
  written_not_live blocks (InPart header part difi has may) from (LivePart other number descriptor also live) =
      in_part_off header other part number difi descriptor (blocks part) has also
      (one_header header other has.header_is also.header_is) may live

  pub live_in_front : (blocks : ℕ → ℕ → Bool) → MayWrite image blocks place → live_places image place ≡ true
      → place < 512
  live_in_front blocks may live =
      ⊎_elim (λ (front : place < 512). front)
      (λ (from : 512 ≤ place). absurd (written_not_live blocks may from (behind_front from live)))
      (cases_lt place 512)

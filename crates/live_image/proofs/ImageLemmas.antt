-- An image that agrees with another one on its live places has its header, its active table and its live places.
use Rattle.std.proofs.Common.{◌≡◌, ◌⊎◌, inl, inr, ℕ, zero, suc, ◌+◌, ◌<◌, ◌≤◌, Bool, true, false, ◌&&◌, eqb, ltb}
use Rattle.std.proofs.Common.{Result, Ok, Err}
use Rattle.std.proofs.Common.{List, length, get_or, take, drop, refl, ◌∙◌, ap, arith}
use Rattle.std.proofs.lemmas.List.{ext_get_or, length-take, length-drop, get_or-take, get_or-drop}
use Rattle.std.proofs.lemmas.Bool.{lt-ltb, eq-eqb, eqb-true, and_from, or_left, or_right}
use Rattle.container_header.specs.declared.header.Header.{Header}
use Rattle.container_header.specs.declared.fault.HeaderFault.{HeaderFault}
use Rattle.container_header.specs.Conditions.{reading as header_reading, reading_of}
use Rattle.container_header.specs.Sound.{active_at, IsDescriptorPlace, IsHeaderOf}
use Rattle.container_header.proofs.HeaderBytes.{raw_of, reading_same}
use Rattle.container_header.proofs.HeaderRead.{reading-ok}
use Rattle.difi.specs.declared.descriptor.Difi.{Difi}
use Rattle.difi.specs.declared.fault.DifiFault.{DifiFault}
use Rattle.difi.proofs.SoundLemmas.{is_read}
use Rattle.container.specs.Openings.{active_table, descriptor_of, partition_of, part_reading}
use Rattle.live_image.specs.Live.{live_tree, live_of, live_behind, live_places}
use Rattle.live_image.specs.Same.{SameLive, HasPart, LiesInImage}
use Rattle.live_image.proofs.LevelLemmas.{lies}
use Rattle.live_image.proofs.TreeLemmas.{live_tree_same}

-- a piece of two lists is the same where each byte of it is
pub piece_same : (n at : ℕ) (one other : List ℕ) → length other ≡ length one
    → ((k : ℕ) → k < n → at + k < length one → get_or other (at + k) 0 ≡ get_or one (at + k) 0)
    → take n (drop at other) ≡ take n (drop at one)
piece_same n at one other size same =
    ext_get_or 0 (take n (drop at other)) (take n (drop at one))
    (simp (length-take, length-drop, size))
    (λ i h.
    let short = simp (length-take, length-drop, size) at h in
    let front : i < n = omega (arith, short) in
    simp (get_or-take, get_or-drop) (same i front (omega (arith, short))))

-- the front of an image is live, and in a part what its tree chooses
pub front_live : (image : List ℕ) (place : ℕ) → place < 512 → live_places image place ≡ true
unfolding live_places
front_live image place h = or_left _ _ (lt-ltb place 512 h)

module _ (image : List ℕ) (header : Header) (is : header_reading image ≡ Ok header) where
  behind_live : (place : ℕ) → live_behind image (Ok header) place ≡ true → live_places image place ≡ true
  unfolding live_places
  behind_live place h = or_right (ltb place 512) (live_behind image (header_reading image) place) (rw is h)

  pub table_live : (place : ℕ) → active_at header ≤ place → place < active_at header + header.table_size
      → live_places image place ≡ true
  table_live place from below = behind_live place
      (or_left _ _ (lies (active_at header) header.table_size place from below))

  of_live : (part : ℕ) → part < header.parts → header.parts ≤ 2 → (place : ℕ) → live_of image header part place ≡ true
      → live_places image place ≡ true
  of_live zero there most place h = behind_live place (or_right _ _ (or_left _ _ h))
  of_live (suc zero) there most place h =
      behind_live place (or_right _ _
      (or_right _ _ (and_from _ _ (eq-eqb header.parts 2 (omega (arith, there, most))) h)))
  of_live (suc (suc part)) there most place h = absurd (omega (arith, there, most))

  pub tree_live : (part : ℕ) (difi : Difi) → HasPart image header part difi → header.parts ≤ 2 → (place : ℕ)
      → live_tree (λ x. get_or image x 0) (partition_of header part).at difi place ≡ true
      → live_places image place ≡ true
  tree_live part difi has most place h = of_live part has.counted most place (rw has.described h)

-- a part's levels are sound, and its partition lies in the image
partition_inside : (image : List ℕ) (header : Header) → IsHeaderOf header image → (part : ℕ) → part < header.parts
    → (partition_of header part).at + (partition_of header part).size ≤ length image
partition_inside image header is zero there = is.sound.partition_a.inside.ends
partition_inside image header is (suc zero) there =
    (is.sound.partition_b (omega (arith, there, is.sound.two_parts))).inside.ends
partition_inside image header is (suc (suc part)) there = absurd (omega (arith, there, is.sound.two_parts))

pub descriptor_there : (image : List ℕ) (header : Header) → IsHeaderOf header image → (part : ℕ) → part < header.parts
    → IsDescriptorPlace (descriptor_of header part) header.table_size
descriptor_there image header is zero there = is.sound.descriptor_a
descriptor_there image header is (suc zero) there = is.sound.descriptor_b (omega (arith, there, is.sound.two_parts))
descriptor_there image header is (suc (suc part)) there = absurd (omega (arith, there, is.sound.two_parts))

pub table_len : (image : List ℕ) (header : Header) → IsHeaderOf header image
    → length (active_table image header) ≡ header.table_size
table_len image header is =
    simp (length-take, length-drop) (omega (arith, is.sound.active_inside.ends))

pub placed : (image : List ℕ) (header : Header) (part : ℕ) (difi : Difi) → HasPart image header part difi
    → LiesInImage (length image) (partition_of header part) difi
placed image header part difi has =
    let place = descriptor_of header part in
    let read = is_read (active_table image header) place.at place.size
    (partition_of header part).size difi has.described in
    record {
      levels = read.sound.levels;
      inside = partition_inside image header (reading-ok image header has.header_is) part has.counted;
    }

-- a header that was read, or a fault
pub header_or_not : (r : Result Header HeaderFault) → ((header : Header) × (r ≡ Ok header))
    ⊎ ((fault : HeaderFault) × (r ≡ Err fault))
header_or_not (Ok header) = inl (header, refl)
header_or_not (Err fault) = inr (fault, refl)

pub difi_or_not : (r : Result Difi DifiFault) → ((difi : Difi) × (r ≡ Ok difi))
    ⊎ ((fault : DifiFault) × (r ≡ Err fault))
difi_or_not (Ok difi) = inl (difi, refl)
difi_or_not (Err fault) = inr (fault, refl)

module _ (image other : List ℕ) (same : SameLive image other) where
  -- the header
  pub raw_same : raw_of other ≡ raw_of image
  raw_same = piece_same 256 256 image other same.size
      (λ k h inside. same.live (256 + k) inside (front_live image (256 + k) (omega (arith, h))))

  pub header_same : header_reading other ≡ header_reading image
  header_same = reading_same other image raw_same (length other) ∙ ap (reading_of image) same.size

  module _ (header : Header) (is : header_reading image ≡ Ok header) where
    -- the active table
    pub table_same : active_table other header ≡ active_table image header
    table_same = piece_same header.table_size (active_at header) image other same.size
        (λ k h inside. same.live (active_at header + k) inside
        (table_live image header is (active_at header + k) (omega arith) (omega (arith, h))))

    pub reading_part_same : (part : ℕ) → part_reading (active_table other header) header part ≡ part_reading
        (active_table image header) header part
    reading_part_same part = ap (λ (table : List ℕ). part_reading table header part) table_same

    most : header.parts ≤ 2
    most = (reading-ok image header is).sound.two_parts

    -- what its parts' trees choose
    pub agrees : (part : ℕ) (difi : Difi) → HasPart image header part difi → (place : ℕ) → place < length image
        → live_tree (λ x. get_or image x 0) (partition_of header part).at difi place ≡ true
        → get_or other place 0 ≡ get_or image place 0
    agrees part difi has place inside live = same.live place inside
        (tree_live image header is part difi has most place live)

    of_same : (part : ℕ) → part < header.parts → (place : ℕ)
        → live_of other header part place ≡ live_of image header part place
    of_same part there place = elim (difi_or_not (part_reading (active_table image header) header part)) [
      | inl read ↦
          let has : HasPart image header part read.0 = record { header_is = is; counted = there; described = read.1 } in
          let is_placed = placed image header part read.0 has in
          rw (reading_part_same part, read.1)
          (live_tree_same (partition_of header part).at (partition_of header part).size
          (length image) read.0 is_placed.inside is_placed.levels
          (λ x. get_or image x 0) (λ x. get_or other x 0) (agrees part read.0 has) place)
      | inr unread ↦ rw (reading_part_same part, unread.1) refl
    ]

    second_same : (two : Bool) → eqb header.parts 2 ≡ two → (place : ℕ)
        → (two && live_of other header 1 place) ≡ (two && live_of image header 1 place)
    second_same true counted place = of_same 1 (omega (arith, eqb-true header.parts 2 counted)) place
    second_same false counted place = refl

    behind_same : (place : ℕ) → live_behind other (Ok header) place ≡ live_behind image (Ok header) place
    behind_same place =
        rw (
          of_same 0 (omega (arith, (reading-ok image header is).sound.one_part)) place,
          second_same
              (eqb header.parts 2) refl place,
        ) refl

  -- and so its live places
  pub live_same : (place : ℕ) → live_places other place ≡ live_places image place
  unfolding live_places
  live_same place = elim (header_or_not (header_reading image)) [
    | inl read ↦ rw (header_same, read.1, behind_same read.0 read.1 place) refl
    | inr unread ↦ rw (header_same, unread.1) refl
  ]

  -- and its parts
  pub part_same : (header : Header) (part : ℕ) (difi : Difi) → HasPart image header part difi
      → HasPart other header part difi
  part_same header part difi has = record {
    header_is = header_same ∙ has.header_is;
    counted = has.counted;
    described = reading_part_same header has.header_is part ∙ has.described;
  }

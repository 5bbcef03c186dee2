-- The cells of an open image.
use Rattle.std.proofs.Common.{◌≡◌, ◌≢◌, ℕ, ◌+◌, ◌-◌, ◌/◌, ◌^◌, ◌<◌, ◌≤◌, true, false, not, IsTrue, List, length}
use Rattle.std.proofs.Common.{Option, Some, None, IfSome, slice_index, refl, sym, ◌∙◌, ap, subst, arith, ⊎_elim}
use Rattle.std.proofs.lemmas.Bool.{cases_lt, cases_eq, lt-ltb, le-ltb, and_from, eq-eqb, ne_eqb}
use Rattle.save_bytes.specs.Extents.{overlap}
use Rattle.save_bytes.specs.Cells.{Cell, Byte}
use Rattle.save_bytes.specs.Stays.{Stays}
use Rattle.save_bytes.specs.State.{State}
use Rattle.save_disk.specs.State as disks
use Rattle.container_header.specs.declared.header.Header.{Header}
use Rattle.container_header.specs.Sound.{IsSoundHeader, IsPartition}
use Rattle.difi.specs.Places.{block_size}
use Rattle.dpfs_tree.specs.Picks.{chosen}
use Rattle.dpfs_tree.proofs.PickLemmas.{place_of-chosen}
use Rattle.difi.specs.Contents.{view_size}
use Rattle.dpfs_tree.proofs.SameLemmas.{view_stays as contents_stay}
use Rattle.ivfc_tree.specs.ViewLaws.{state-same, block_of_there, place_inside}
use Rattle.ivfc_tree.specs.Marks.{is_marked}
use Rattle.ivfc_tree.specs.Levels.{HasBlock, level_of}
use Rattle.ivfc_tree.specs.declared.path.BlockState.{BlockState}
use Rattle.ivfc_tree.specs.Paths.{block_state, cell_in}
use Rattle.save_bytes.specs.CellNumbers.{value_of}
use Rattle.ivfc_tree.specs.View.{status_of}
use Rattle.part_store.specs.declared.part.Part.{Part}
use Rattle.part_store.specs.Parts.{CanViewPart, contents_of, master_of, part_state, status_in}
use Rattle.part_store.specs.PartLaws.{hashes_there, contents_there, can_view_part-true}
use Rattle.page_image.specs.declared.state.ImageState.{ImageState}
use Rattle.page_image.specs.Images.{IsDiskOf, image_state}
use Rattle.page_image.specs.Laws.{image_size_fits}
use Rattle.page_image.proofs.DiskLemmas.{true-disk_of}
use Rattle.container.specs.Openings.{active_table, partition_of}
use Rattle.container.specs.declared.parts.Parts.{Parts}
use Rattle.container.specs.Parts.{IsPartOf, IsUntouched, IsPartRead, AreRead, part_at, part_count}
use Rattle.container.specs.Stores.{taken_of, state_of}
use Rattle.container.proofs.TakenLemmas.{taken_inside, taken_apart}
use Rattle.container.specs.ImageCells.{contents_in, path_in, cell_at, IsHeld, AreImageCells}
use Rattle.container.proofs.PartLemmas.{sound_descriptors}
use Rattle.container.specs.StoreLaws.{four_fits}

-- the partition of each part of a sound header lies in the image
pub partition_there : (header : Header) (image_len number : ℕ) → IsSoundHeader header image_len → number < header.parts
    → IsPartition (partition_of header number) image_len
partition_there header image_len number sound there =
    ⊎_elim
    (λ (zeroth : number < 1). let is : number ≡ 0 = omega arith in rw is sound.partition_a)
    (λ (later : 1 ≤ number).
    let is : number ≡ 1 = omega (arith, sound.two_parts, there) in
    rw is (sound.partition_b (omega (arith, sound.two_parts, there))))
    (cases_lt number 1)

module _ (disk : disks.State) (image : ImageState) (header : Header) (table : List ℕ) (disk_of : IsDiskOf disk image)
    (sound : IsSoundHeader header image.len) (whole : length table ≡ header.table_size) where
  -- a part of a whole container can be viewed
  pub part_view : (number : ℕ) (part : Part) → number < header.parts → IsPartOf header number part
      → CanViewPart (image_state disk image).shape part (length table)
  part_view number part there is =
      let partition = partition_there header image.len number sound there in
      let descriptor = (sound_descriptors header image.len sound).each number there in
      record {
        contents = record {
          sound = true-disk_of disk image disk_of;
          plain = refl;
          single = refl;
          partition = record {
            first = omega (arith, is.place, partition.inside.begins);
            part_len = (partition_of header number).size;
            inside = omega (arith, is.place, partition.inside.ends);
            levels = is.sound.levels;
          };
          made = is.contents;
        };
        difi = omega (arith, is.in_table, descriptor.shortest, descriptor.inside.ends, whole);
        master = omega (arith, is.in_table, descriptor.inside.ends, whole, is.sound.parts.master);
        apart = is.sound.parts.difi_master;
        made = is.hashes;
      }

  -- and no byte is taken by both
  apart_there : (first part : Part) → 2 ≡ header.parts → IsPartOf header 0 first → IsPartOf header 1 part
      → not (overlap (taken_of first) (taken_of part)) ≡ true
  apart_there first part count one other =
      let apart = sound.partitions_apart (sym count) in
      ap not (taken_apart first part header.part_a header.part_b one.place other.place
      (taken_inside first header.part_a.size one.sound.levels) (taken_inside part header.part_b.size other.sound.levels)
      apart)

  -- the store of a whole container is sound
  pub store_sound : (first : Part) (second : Option Part) → part_count second ≡ header.parts → IsPartOf header 0 first
      → IfSome second (IsPartOf header 1) → IsTrue (state_of (image_state disk image) first second table).shape.sound
  store_sound first None count one other = can_view_part-true (image_state disk image).shape first (length table) (part_view 0 first (omega (arith, count)) one)
  store_sound first (Some part) count one other =
      let view = part_view 0 first (omega (arith, count)) one in
      let next = part_view 1 part (omega (arith, count)) other in
      and_from _ _ (and_from _ _ (rw (one.number_is, other.number_is) refl) (apart_there first part count one other))
      (and_from _ _ (can_view_part-true (image_state disk image).shape first (length table) view)
      (and_from _ _ (can_view_part-true (image_state disk image).shape part (length table) next)
      (lt-ltb _ _
      (let fits = four_fits (image_state disk image) first table (image_size_fits disk image) view in
      omega (arith, fits, four_fits (image_state disk image) part table (image_size_fits disk image) next, image.layout.most)))))

-- a part of a number is the first or the second
pub data IsOne (parts : Parts) (number : ℕ) (part : Part) : Type 0 where
  is_first : number ≡ 0 → parts.first ≡ part → IsOne parts number part
  is_second : number ≡ 1 → parts.second ≡ Some part → IsOne parts number part

pub one_of : (parts : Parts) (number : ℕ) (part : Part) → part_at parts number ≡ Some part → IsOne parts number part
one_of parts number part there =
    ⊎_elim
    (λ (zeroth : number ≡ 0). is_first zeroth (let first : Some parts.first ≡ Some part = rw (eq-eqb number 0 zeroth) at there in cc))
    (λ (later : number ≢ 0).
    ⊎_elim
    (λ (one : number ≡ 1). is_second one (rw (ne_eqb number 0 later, eq-eqb number 1 one) at there))
    (λ (past : number ≢ 1). absurd (let none = rw (ne_eqb number 0 later, ne_eqb number 1 past) at there in cc))
    (cases_eq number 1))
    (cases_eq number 0)

some_parts : (second : Option Part) → 0 < part_count second
some_parts None = omega arith
some_parts (Some part) = omega arith

count_two : (second : Option Part) (part : Part) → second ≡ Some part → part_count second ≡ 2
count_two second part is = ap part_count is

-- each part is the one that was read
pub read_one : (table : List ℕ) (header : Header) (parts : Parts) (number : ℕ) (part : Part)
    → AreRead table header parts → IsOne parts number part → (number < header.parts)
    × IsPartRead table header number part
read_one table header parts number part read (is_first zeroth same) =
    (omega (arith, zeroth, some_parts parts.second, read.count), rw zeroth (subst (λ (p : Part). IsPartRead table header 0 p) same read.first))
read_one table header parts number part read (is_second one same) =
    let second : IfSome (Some part) (IsPartRead table header 1) = rw same at read.second in
    (omega (arith, one, count_two parts.second part same, read.count), rw one second)

part_is_read : (table : List ℕ) (header : Header) (parts : Parts) (number : ℕ) (part : Part)
    → AreRead table header parts → part_at parts number ≡ Some part → (number < header.parts)
    × IsPartRead table header number part
part_is_read table header parts number part read there = read_one table header parts number part read (one_of parts number part there)

-- a part's cells over an image's bytes, where nothing of the part was changed
module _ (base : State) (bytes : List ℕ) (header : Header) (number : ℕ) (part : Part) (table : List ℕ)
    (small : base.shape.size < 2 ^ 64) (view : CanViewPart base.shape part (length table))
    (same : (y : ℕ) → y < base.shape.size → base.cells y ≡ Byte (slice_index bytes y))
    (place : part.at ≡ (partition_of header number).at) (is : part.number ≡ number)
    (active : table ≡ active_table bytes header) (untouched : IsUntouched part) where
  told_base : State
  told_base = record base { told = true }

  ideal : State
  ideal = record base { told = true; cells = λ y. Byte (slice_index bytes y) }

  ideal_stays : Stays told_base ideal None
  unfolding told_base ideal
  ideal_stays = record {
    space = record {
      shape = refl;
      faults = omega arith;
      cause = tt;
      told = λ told. refl;
      twins = λ told. record { bottom = λ x h. refl; is_fixed = λ x h. refl };
    };
    cells = λ told y below. sym (same y below);
  }

  chosen_contents : State
  chosen_contents = record (contents_of ideal part) { cells = contents_in bytes header number part.difi }

  chosen_stays : Stays (contents_of ideal part) chosen_contents None
  unfolding ideal chosen_contents
  chosen_stays = record {
    space = record {
      shape = refl;
      faults = omega arith;
      cause = tt;
      told = λ told. refl;
      twins = λ told. record { bottom = λ x h. refl; is_fixed = λ x h. refl };
    };
    cells = λ told z below. sym (ap Byte
        (place_of-chosen (λ y. slice_index bytes y) part.at part.difi part.dpfs z untouched.contents.unmarked
        ∙ ap (λ (at : ℕ). chosen (λ y. slice_index bytes y) at part.difi part.dpfs.selector z) place
        ∙ ap (λ (selector : ℕ). chosen (λ y. slice_index bytes y) (partition_of header number).at part.difi selector z) untouched.contents.selector));
  }

  -- the contents are the chosen bytes
  contents_are : (z : ℕ) → z < view_size part.difi → (contents_of base part).cells z ≡ contents_in bytes header number part.difi z
  unfolding told_base ideal chosen_contents
  contents_are z below =
      let in_ideal = contents_stay told_base ideal part.at part.difi part.dpfs None (contents_there told_base part (length table) small view) ideal_stays in
      sym (in_ideal.cells refl z below) ∙ sym (chosen_stays.cells refl z below)

  -- and a block's path comes to what it does in the image
  pub part_paths : (level block : ℕ) → HasBlock part.difi level block
      → block_state (contents_of base part).cells (master_of table part.difi) part.difi part.ivfc level block
      ≡ path_in bytes header number part.difi level block
  unfolding path_in
  part_paths level block there =
      state-same (contents_of base part).shape part.difi (master_of table part.difi) (hashes_there base part table small view)
      (contents_of base part).cells (contents_in bytes header number part.difi) contents_are (is_marked part.ivfc) (λ level block. false)
      untouched.hashes level block there
      ∙ rw active refl

  pub part_cells : (x : ℕ) → x < part.difi.ivfc4.size → (part_state base part table).cells x ≡ cell_at bytes header number part.difi x
  part_cells x below =
      let block : ℕ = x / block_size part.difi.ivfc4 in
      let at : ℕ = (level_of part.difi 4).at + x in
      let shape = (contents_of base part).shape in
      let inside = place_inside shape part.difi (length (master_of table part.difi)) x (hashes_there base part table small view) below in
      ap (λ (found : BlockState). cell_in found part.number (value_of ((contents_of base part).cells at)))
      (part_paths 4 block (block_of_there part.difi x below))
      ∙ ap (λ (cell : Cell). cell_in (path_in bytes header number part.difi 4 block) part.number (value_of cell)) (contents_are at inside)
      ∙ ap (λ (n : ℕ). cell_in (path_in bytes header number part.difi 4 block) n (value_of (contents_in bytes header number part.difi at))) is

module _ (disk : disks.State) (image : ImageState) (bytes : List ℕ) (header : Header) (table : List ℕ)
    (disk_of : IsDiskOf disk image) (held : IsHeld bytes disk image) (sound : IsSoundHeader header image.len)
    (whole : length table ≡ header.table_size) (active : table ≡ active_table bytes header) where
  -- the cells of a part that was read, over the image
  read_cells : (number : ℕ) (part : Part) → number < header.parts → IsPartRead table header number part → (x : ℕ)
      → x < part.difi.ivfc4.size → (part_state (image_state disk image) part table).cells x ≡ cell_at bytes header
      number part.difi x
  read_cells number part there read =
      part_cells (image_state disk image) bytes header number part table (image_size_fits disk image)
      (part_view disk image header table disk_of sound whole number part there read.part_of)
      (λ y below. ap Byte (held y below)) read.part_of.place read.part_of.number_is active read.untouched

  -- the states of its blocks
  read_paths : (number : ℕ) (part : Part) → number < header.parts → IsPartRead table header number part
      → (level block : ℕ) → HasBlock part.difi level block
      → status_in (image_state disk image) part table level block ≡ status_of
      (path_in bytes header number part.difi level block)
  read_paths number part there read level block has =
      ap status_of (part_paths (image_state disk image) bytes header number part table (image_size_fits disk image)
      (part_view disk image header table disk_of sound whole number part there read.part_of)
      (λ y below. ap Byte (held y below)) read.part_of.place read.part_of.number_is active read.untouched level block has)

  pub store_paths : (parts : Parts) → AreRead table header parts → (number : ℕ) (part : Part)
      → part_at parts number ≡ Some part → (level block : ℕ) → HasBlock part.difi level block
      → status_in (image_state disk image) part table level block ≡ status_of
      (path_in bytes header number part.difi level block)
  store_paths parts read number part there =
      let one = part_is_read table header parts number part read there in
      read_paths number part one.0 one.1

  -- and of the second of two parts
  second_cells : (first part : Part) → 1 < header.parts → IsPartRead table header 1 part → (x : ℕ)
      → x < part.difi.ivfc4.size → (state_of (image_state disk image) first (Some part) table).cells
      (first.difi.ivfc4.size + x) ≡ cell_at bytes header 1 part.difi x
  second_cells first part there read x below =
      let rest : first.difi.ivfc4.size + x - first.difi.ivfc4.size ≡ x = omega arith in
      rw (le-ltb (first.difi.ivfc4.size + x) first.difi.ivfc4.size (omega arith), rest) (read_cells 1 part there read x below)

  pub store_cells : (first : Part) (second : Option Part) → part_count second ≡ header.parts
      → IsPartRead table header 0 first → IfSome second (IsPartRead table header 1)
      → AreImageCells bytes header (record { first = first; second = second })
      (state_of (image_state disk image) first second table).cells
  store_cells first None count one other = record { first = read_cells 0 first (omega (arith, count)) one; second = tt }
  store_cells first (Some part) count one other = record {
    first = λ x below. rw (lt-ltb x first.difi.ivfc4.size below) (read_cells 0 first (omega (arith, count)) one x below);
    second = second_cells first part (omega (arith, count)) other;
  }

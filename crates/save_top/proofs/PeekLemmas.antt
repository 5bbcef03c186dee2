-- What the cells of a block say of it.
use Rattle.std.proofs.Common.{◌≡◌, ◌⊎◌, ℕ, ◌+◌, ◌-◌, ◌*◌, ◌/◌, ◌<◌, ◌≤◌, min, Bool, true, false, nat_lt, List, length}
use Rattle.std.proofs.Common.{slice_index, Option, Some, None, IfSome, Result, Ok, cond, refl, sym, ◌∙◌, ap, subst}
use Rattle.std.proofs.Common.{arith, inl, inr, ⊎_elim}
use Rattle.std.proofs.lemmas.Bool.{lt-ltb, le-ltb}
use Rattle.std.proofs.lemmas.Nat.{pow_pos, div-mul-add}
use Rattle.save_bytes.specs.declared.space.Bad.{Bad}
use Rattle.save_bytes.specs.Cells.{Cell, Byte, Blames, AreBytesAt}
use Rattle.save_bytes.specs.CellNumbers.{value_of, bytes_in}
use Rattle.save_bytes.specs.Answers.{IsFirstFault}
use Rattle.save_bytes.proofs.CellLemmas.{bytes_in-is}
use Rattle.container_header.specs.declared.header.Header.{Header}
use Rattle.difi.specs.declared.descriptor.Difi.{Difi}
use Rattle.difi.specs.declared.fault.DifiFault.{DifiFault}
use Rattle.difi.specs.Places.{block_size, blocks_of}
use Rattle.difi.proofs.PlaceLemmas.{block_begins}
use Rattle.ivfc_tree.specs.declared.path.BlockState.{BlockState}
use Rattle.ivfc_tree.specs.declared.path.BlockState.TheVariants.{Good as GoodPath, Blank as BlankAt, Bad as BadAt}
use Rattle.ivfc_tree.specs.Levels.{level_of, block_bytes}
use Rattle.ivfc_tree.specs.Paths.{cell_in}
use Rattle.ivfc_tree.specs.ViewLaws.{level4_size, level4_log}
use Rattle.ivfc_tree.proofs.HashLemmas.{block_bytes-is}
use Rattle.part_store.specs.declared.part.Part.{Part}
use Rattle.container.specs.Signers.{Signing}
use Rattle.container.specs.Openings.{active_table}
use Rattle.container.specs.declared.parts.Parts.{Parts}
use Rattle.container.specs.Parts.{part_at, part_count, AreRead}
use Rattle.container.specs.ImageCells.{contents_in, path_in, cell_at, AreImageCells}
use Rattle.save_top.specs.Texts.{block_text, damaged_line, no_part_line, no_block_line}
use Rattle.save_top.specs.Output.{done, refused}
use Rattle.save_top.specs.Replies.{block_reply, part_reply, peek_reply}
use Rattle.save_top.specs.declared.peek.Miss.{Miss}
use Rattle.save_top.specs.declared.peek.Miss.TheVariants.{Memory, Disk as DiskMiss, NoPart, NoBlock, Damaged as DamagedMiss}
use Rattle.save_top.specs.declared.peek.Place.{Place}
use Rattle.save_top.specs.Peeks.{Holds, part_start, IsPlaceOf, IsMissOf, IsMissBy, MatchBad}
use Rattle.save_bytes.specs.declared.space.Bad.TheVariants.{Disk as DiskFailed, Damaged as DamagedAt}
use Rattle.save_bytes.specs.Refusals.{IfDamaged}
use Rattle.save_bytes.specs.State.{State}
use Rattle.save_disk.specs.State as disks
use Rattle.page_image.specs.Images.{IsDiskOf, image_state}
use Rattle.container.specs.declared.open.Container.{Container}
use Rattle.container.specs.Stores.{state_of}
use Rattle.container.specs.StoreHeld.{store_of}
use Rattle.container.proofs.ImageLemmas.{IsOne, is_first, is_second, one_of, read_one, store_cells}

-- a part's cells among those of the image
cells_of : (image : List ℕ) (header : Header) (parts : Parts) (cells : ℕ → Cell) (number : ℕ) (part : Part)
    → AreImageCells image header parts cells → IsOne parts number part → (x : ℕ) → x < part.difi.ivfc4.size
    → cells (part_start parts number + x) ≡ cell_at image header number part.difi x
cells_of image header parts cells number part are (is_first zeroth same) x below =
    let inside : x < parts.first.difi.ivfc4.size = rw same below in
    let at : 0 + x ≡ x = omega arith in
    rw zeroth (rw at (are.first x inside ∙ ap (λ (p : Part). cell_at image header 0 p.difi x) same))
cells_of image header parts cells number part are (is_second one same) x below =
    let second : IfSome (Some part)
    (λ part. (x : ℕ) → x < part.difi.ivfc4.size
    → cells (parts.first.difi.ivfc4.size + x) ≡ cell_at image header 1 part.difi x) = rw same at are.second in
    rw one (second x below)

-- a cell that is a byte lies in a block whose path holds
holds_there : (found : BlockState) (part value byte : ℕ) → cell_in found part value ≡ Byte byte → (found ≡ GoodPath) × (value ≡ byte)
holds_there GoodPath part value byte is = (refl, cc)
holds_there (BlankAt level block) part value byte is = absurd (cc)
holds_there (BadAt level block) part value byte is = absurd (cc)

record IsDamaged (found : BlockState) (part p level block : ℕ) : Type 0 where
  part_is : part ≡ p
  block_is : (found ≡ BlankAt level block) ⊎ (found ≡ BadAt level block)

-- and one that is none in a block that it names
damaged_there : (found : BlockState) (part value p level block : ℕ) → Blames (cell_in found part value) p level block → IsDamaged found part p level block
damaged_there GoodPath part value p level block blames = absurd blames
damaged_there (BlankAt upper at) part value p level block blames = record { part_is = blames.0; block_is = inl (rw (blames.1, blames.2) refl) }
damaged_there (BadAt upper at) part value p level block blames = record { part_is = blames.0; block_is = inr (rw (blames.1, blames.2) refl) }

then_true : {T : Type 0} (b : Bool) (one other : T) → b ≡ true → cond b one other ≡ one
then_true b one other is = rw is refl

then_false : {T : Type 0} (b : Bool) (one other : T) → b ≡ false → cond b one other ≡ other
then_false b one other is = rw is refl

module _ (image : List ℕ) (header : Header) (parts : Parts) (number : ℕ) (part : Part) (block : ℕ)
    (read : AreRead (active_table image header) header parts) (there : part_at parts number ≡ Some part)
    (below : number < part_count parts.second) where
  reading_is : peek_reply image header number block ≡ part_reply image header number block (Ok part.difi)
  reading_is =
      then_true (nat_lt number header.parts) _ _ (lt-ltb number header.parts (omega (arith, below, read.count)))
      ∙ ap (λ (r : Result Difi DifiFault). part_reply image header number block r)
      (read_one (active_table image header) header parts number part read
      (one_of parts number part there)).1.descriptor

  -- a block that is not there
  pub no_block : blocks_of part.difi.ivfc4 ≤ block → peek_reply image header number block ≡ refused (no_block_line (blocks_of part.difi.ivfc4))
  no_block past = reading_is ∙ then_false (nat_lt block (blocks_of part.difi.ivfc4)) _ _ (le-ltb block (blocks_of part.difi.ivfc4) past)

  module _ (inside : block < blocks_of part.difi.ivfc4) (cells : ℕ → Cell) (are : AreImageCells image header parts cells) where
    begins : block * block_size part.difi.ivfc4 < part.difi.ivfc4.size
    begins = block_begins block part.difi.ivfc4.size part.difi.ivfc4.log inside

    reply_is : peek_reply image header number block ≡ block_reply image header number part.difi block (path_in image header number part.difi 4 block)
    reply_is = reading_is ∙ then_true (nat_lt block (blocks_of part.difi.ivfc4)) _ _ (lt-ltb block (blocks_of part.difi.ivfc4) inside)

    -- a cell of the block
    block_cell : (k : ℕ) → k < min (block_size part.difi.ivfc4) (part.difi.ivfc4.size - block * block_size part.difi.ivfc4)
        → cells (part_start parts number + block * block_size part.difi.ivfc4 + k) ≡ cell_in
        (path_in image header number part.difi 4 block) number
        (value_of (contents_in image header number part.difi
        ((level_of part.difi 4).at + (block * block_size part.difi.ivfc4 + k))))
    block_cell k small =
        let from = block * block_size part.difi.ivfc4 in
        let place : part_start parts number + from + k ≡ part_start parts number + (from + k) = omega arith in
        let same : (from + k) / block_size part.difi.ivfc4 ≡ block = div-mul-add block (block_size part.difi.ivfc4) k (omega (arith, small)) in
        ap cells place
        ∙ cells_of image header parts cells number part are (one_of parts number part there) (from + k) (omega (arith, small))
        ∙ ap (λ (b : ℕ). cell_in (path_in image header number part.difi 4 b) number
        (value_of (contents_in image header number part.difi ((level_of part.difi 4).at + (from + k))))) same

    -- a block that is damaged
    pub damaged_block : (p level at : ℕ)
        → IsFirstFault cells (part_start parts number + block * block_size part.difi.ivfc4)
        (min (block_size part.difi.ivfc4) (part.difi.ivfc4.size - block * block_size part.difi.ivfc4)) p level
        at → peek_reply image header number block ≡ refused (damaged_line p level at)
    damaged_block p level at fault =
        let blames = subst (λ (cell : Cell). Blames cell p level at) (block_cell fault.k fault.within) fault.fault in
        let damaged = damaged_there (path_in image header number part.difi 4 block) number _ p level at blames in
        reply_is
        ∙ ⊎_elim
        (λ never. ap (λ (b : BlockState). block_reply image header number part.difi block b) never
        ∙ ap (λ (n : ℕ). refused (damaged_line n level at)) damaged.part_is)
        (λ fails. ap (λ (b : BlockState). block_reply image header number part.difi block b) fails
        ∙ ap (λ (n : ℕ). refused (damaged_line n level at)) damaged.part_is)
        damaged.block_is

    module _ (bytes : List ℕ) (long : length bytes ≡ min (block_size part.difi.ivfc4)
        (part.difi.ivfc4.size - block * block_size part.difi.ivfc4))
        (hold : AreBytesAt cells (part_start parts number + block * block_size part.difi.ivfc4) bytes) where
      byte_there : (k : ℕ) → k < length bytes → (path_in image header number part.difi 4 block ≡ GoodPath)
          × (value_of (contents_in image header number part.difi
          ((level_of part.difi 4).at + (block * block_size part.difi.ivfc4 + k))) ≡ slice_index bytes k)
      byte_there k small = holds_there (path_in image header number part.difi 4 block) number _ _
          (sym (block_cell k (omega (arith, small, long))) ∙ hold k small)

      bytes_are : block_bytes (contents_in image header number part.difi) part.difi 4 block ≡ bytes
      bytes_are =
          let from = block * block_size part.difi.ivfc4 in
          let contents = contents_in image header number part.difi in
          let log = level4_log part.difi in
          let size = level4_size part.difi in
          let held : AreBytesAt contents ((level_of part.difi 4).at + from) bytes = λ k small. (
          let place : (level_of part.difi 4).at + from + k ≡ (level_of part.difi 4).at + (from + k) = omega arith in
          ap contents place ∙ ap Byte (byte_there k small).1) in
          let first : block * block_size (level_of part.difi 4) < (level_of part.difi 4).size = rw (log, size) begins in
          block_bytes-is contents part.difi 4 block first
          ∙ rw (log, size) (ap (λ (n : ℕ). bytes_in contents ((level_of part.difi 4).at + from) n) (sym long))
          ∙ bytes_in-is contents ((level_of part.difi 4).at + from) bytes held

      -- a block whose bytes were read
      pub good_block : peek_reply image header number block ≡ done (block_text number block bytes)
      good_block =
          let some : 0 < length bytes = omega (arith, long, begins, pow_pos part.difi.ivfc4.log) in
          reply_is
          ∙ ap (λ (b : BlockState). block_reply image header number part.difi block b) (byte_there 0 some).0
          ∙ ap (λ (l : List ℕ). done (block_text number block l)) bytes_are

-- a part that is not there
pub no_part : (image : List ℕ) (header : Header) (number block : ℕ) → header.parts ≤ number
    → peek_reply image header number block ≡ refused (no_part_line header.parts)
no_part image header number block past = then_false (nat_lt number header.parts) _ _ (le-ltb number header.parts past)

module _ (sign : Signing) (image : List ℕ) (disk : disks.State) (container : Container)
    (holds : Holds sign image disk container) where
  -- the parts are those of the image's table
  parts_read : AreRead (active_table image container.header) container.header container.parts
  parts_read = rw (← holds.opened.table) holds.opened.parts

  -- the cells of its store are the image's
  store_shows : IsDiskOf disk container.image → AreImageCells image container.header container.parts (store_of disk container).cells
  store_shows disk_of =
      let whole = holds.whole in
      let read = holds.opened.parts in
      store_cells disk container.image image container.header container.table.items disk_of holds.held whole.sound
      whole.table_len holds.opened.table container.parts.first container.parts.second read.count read.first
      read.second

  -- a part or a block that is not there
  pub miss_by : (part block : ℕ) (miss : Miss) → IsMissOf container part block miss → IsMissBy (peek_reply image container.header part block) miss
  miss_by part block Memory none = tt
  miss_by part block DiskMiss none = tt
  miss_by part block (NoPart have) is =
      let count = holds.opened.parts.count in
      no_part image container.header part block (omega (arith, is.0, is.1, count)) ∙ ap (λ (n : ℕ). refused (no_part_line n)) (sym count ∙ sym is.0)
  miss_by part block (NoBlock have) is =
      let of = is.1 in
      no_block image container.header container.parts part of.0 block parts_read of.1 is.0
      (omega (arith, of.2.0, of.2.1)) ∙ ap (λ (n : ℕ). refused (no_block_line n)) (sym of.2.0)
  miss_by part block (DamagedMiss p level at) none = absurd none

  module _ (disk_of : IsDiskOf disk container.image) (part block : ℕ) (place : Place) (there : IsPlaceOf container part block place) where
    -- a block whose bytes were read
    pub shown_by : (bytes : List ℕ) → length bytes ≡ place.len
        → AreBytesAt (store_of disk container).cells place.at bytes
        → peek_reply image container.header part block ≡ done (block_text part block bytes)
    shown_by bytes long hold =
        let of = there.in_part in
        good_block image container.header container.parts part of.0 block parts_read of.1 there.part_there of.2.there
        (store_of disk container).cells (store_shows disk_of) bytes (long ∙ of.2.len)
        (subst (λ (at : ℕ). AreBytesAt (store_of disk container).cells at bytes) of.2.at hold)

    -- a block that is damaged
    pub damaged_by : (p level at : ℕ)
        → IsFirstFault (store_of disk container).cells place.at place.len p level at → peek_reply image
        container.header part block ≡ refused (damaged_line p level at)
    damaged_by p level at fault =
        let of = there.in_part in
        damaged_block image container.header container.parts part of.0 block parts_read of.1 there.part_there
        of.2.there (store_of disk container).cells (store_shows disk_of) p level at
        (subst (λ (n : ℕ). IsFirstFault (store_of disk container).cells
        (part_start container.parts part + block * block_size of.0.difi.ivfc4) n p level at) of.2.len
        (subst (λ (n : ℕ). IsFirstFault (store_of disk container).cells n place.len p level at) of.2.at fault))

    -- a store that was refused bytes
    pub refused_by : (bad : Bad) (miss : Miss) → MatchBad bad miss
        → IfDamaged (Some bad) (IsFirstFault (store_of disk container).cells place.at place.len)
        → IsMissBy (peek_reply image container.header part block) miss
    refused_by DiskFailed miss is fault = rw is tt
    refused_by (DamagedAt p level at) miss is fault = rw is (damaged_by p level at fault)

-- the place of a block lies in the store
fits_in : (base : State) (first : Part) (second : Option Part) (table : List ℕ) (number : ℕ) (part : Part)
    → IsOne (record { first = first; second = second }) number part → (x : ℕ) → x ≤ part.difi.ivfc4.size
    → part_start (record { first = first; second = second })
    number + x ≤ (state_of base first second table).shape.size
fits_in base first None table number part (is_first zeroth same) x fits = rw zeroth (omega (arith, ap (λ (p : Part). p.difi.ivfc4.size) same, fits))
fits_in base first None table number part (is_second one same) x fits = absurd (cc)
fits_in base first (Some other) table number part (is_first zeroth same) x fits = rw zeroth (omega (arith, ap (λ (p : Part). p.difi.ivfc4.size) same, fits))
fits_in base first (Some other) table number part (is_second one same) x fits =
    let is : other ≡ part = cc in
    rw one (omega (arith, ap (λ (p : Part). p.difi.ivfc4.size) is, fits))

pub place_fits : (disk : disks.State) (container : Container) (part block : ℕ) (place : Place)
    → IsPlaceOf container part block place → place.at + place.len ≤ (store_of disk container).shape.size
place_fits disk container part block place there =
    let of = there.in_part in
    let difi = of.0.difi in
    let begins = block_begins block difi.ivfc4.size difi.ivfc4.log of.2.there in
    let inside = fits_in (image_state disk container.image) container.parts.first container.parts.second
    container.table.items part of.0 (one_of container.parts part of.0 of.1)
    (block * block_size difi.ivfc4 + place.len) (omega (arith, begins, of.2.len)) in
    omega (arith, of.2.at, inside)

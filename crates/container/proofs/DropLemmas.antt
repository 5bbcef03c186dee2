-- Parts whose changes are dropped, and an open image of them.
use Rattle.std.proofs.Common.{◌≡◌, ◌≢◌, ℕ, ◌+◌, ◌-◌, ◌<◌, IsTrue, List, length, slice_index, Option, Some, None, IfSome, Ok}
use Rattle.std.proofs.Common.{refl, sym, ◌∙◌, ap, arith}
use Rattle.std.proofs.lemmas.Bool.{and_parts, and_from, lt-ltb, le-ltb}
use Rattle.save_bytes.specs.Cells.{Cell, Byte}
use Rattle.save_bytes.specs.State.{State}
use Rattle.save_disk.specs.State as disks
use Rattle.container_header.specs.declared.header.Header.{Header}
use Rattle.difi.specs.declared.descriptor.Difi.{Difi}
use Rattle.difi.specs.Contents.{view_size}
use Rattle.dpfs_tree.specs.Picks.{bytes_of, chosen}
use Rattle.ivfc_tree.specs.Marks.{is_marked}
use Rattle.ivfc_tree.specs.Origins.{IsBack}
use Rattle.page_image.specs.declared.state.ImageState.{ImageState}
use Rattle.page_image.specs.Images.{IsDiskOf, image_state, byte_of}
use Rattle.page_image.specs.Laws.{image_size_fits}
use Rattle.part_store.specs.declared.part.Part.{Part}
use Rattle.part_store.specs.Parts.{CanViewPart, contents_of, master_of, part_state}
use Rattle.part_store.specs.Spots.{SamePart}
use Rattle.part_store.specs.SpotLaws.{SamePart-join}
use Rattle.part_store.specs.Ends.{LiesInBytes, PartCameFrom, plain_cell, chosen_cells}
use Rattle.container.specs.declared.open.Container.{Container}
use Rattle.container.specs.Signers.{Signing}
use Rattle.container.specs.Openings.{active_table, partition_of}
use Rattle.container.specs.Parts.{SameSecond, IsPartOf, IsPartRead}
use Rattle.container.specs.Stores.{state_of}
use Rattle.container.specs.StoreHeld.{store_of}
use Rattle.container.specs.Containers.{IsOpenOf, IsWholeContainer}
use Rattle.container.specs.ImageCells.{path_in, cell_at, AreImageCells}
use Rattle.container.specs.StoreLaws.{first_view, second_view}
use Rattle.container.specs.Origins.{HasCome}
use Rattle.container.specs.Aborts.{DropsPart, DropsChanges, WasOpenOf, IsPartBack, HaveOrigins, IsPartHeld, AreHeld}
use Rattle.container.proofs.PartLemmas.{same_part, second_keeps, same_count, same_whole}
use Rattle.container.proofs.ImageLemmas.{store_sound}

dropped_same : (old new : Part) → DropsPart old new → SamePart old new
dropped_same old new drops = record {
  number = drops.ends.number;
  place = drops.ends.place;
  descriptor = drops.descriptor;
  selector = drops.ends.contents.selects;
  copies = drops.ends.contents.marks;
  hashes = drops.ends.hashes;
}

-- a part that was read, and of which only marks were changed
record WasRead (table : List ℕ) (header : Header) (number : ℕ) (part : Part) : Type 0 where
  was : Part
  same : SamePart was part
  read : IsPartRead table header number was

-- is what its descriptor says again
dropped_read : (table : List ℕ) (header : Header) (number : ℕ) (old new : Part) → DropsPart old new
    → WasRead table header number old → IsPartRead table header number new
dropped_read table header number old new drops h =
    let all = SamePart-join h.was old new h.same (dropped_same old new drops) in
    let part_of = same_part header number h.was new all h.read.part_of in
    let fresh = h.read.untouched.contents in
    record {
      part_of = part_of;
      descriptor = h.read.descriptor ∙ ap Ok (sym all.descriptor);
      untouched = record {
        contents = record {
          made = part_of.contents;
          selector = all.selector ∙ fresh.selector ∙ sym (ap (λ (difi : Difi). difi.selector) all.descriptor);
          unmarked = drops.ends.contents.unmarked;
        };
        hashes = drops.ends.unmarked;
      };
    }

second_dropped : (old new : Option Part) → SameSecond DropsPart old new → SameSecond SamePart old new
second_dropped None None drops = tt
second_dropped None (Some new) drops = drops
second_dropped (Some old) None drops = drops
second_dropped (Some old) (Some new) drops = dropped_same old new drops

-- of the second part changes are dropped where there is one
pub second_drops : (second : Option Part) (old new : Part) → second ≡ Some old → DropsPart old new
    → SameSecond DropsPart second (Some new)
second_drops second old new is drops = rw is drops

pub none_drops : (second : Option Part) → ((part : Part) → second ≢ Some part) → SameSecond DropsPart second second
none_drops None none = tt
none_drops (Some part) none = absurd (none part refl)

-- a base with the bytes of an image
abbrev bytes_in : State → List ℕ → State
bytes_in base image = record base { cells = λ y. Byte (slice_index image y) }

-- its cells alone are those of the image
plain_is : (base : State) (image : List ℕ) (header : Header) (number : ℕ) (old new : Part) (table : List ℕ)
    → new.difi ≡ old.difi → old.at ≡ (partition_of header number).at → old.number ≡ number
    → old.dpfs.selector ≡ old.difi.selector → table ≡ active_table image header → (x : ℕ)
    → plain_cell (bytes_in base image) old old.dpfs.selector table x ≡ cell_at image header number new.difi x
unfolding path_in
plain_is base image header number old new table descriptor place is selects active x =
    rw (descriptor, place, is, selects, active) refl

chosen_there : (base : State) (image : List ℕ) (part : Part) → part.dpfs.selector ≡ part.difi.selector
    → ((x : ℕ) → x < view_size part.difi → chosen (bytes_of base.cells) part.at part.difi part.difi.selector x
    ≡ chosen (λ y. slice_index image y) part.at part.difi part.difi.selector x)
    → (x : ℕ) → x < view_size part.difi
    → chosen_cells base part part.dpfs.selector x ≡ chosen_cells (bytes_in base image) part part.dpfs.selector x
chosen_there base image part selects same x below = rw selects (ap Byte (same x below))

-- what all parts tell whose changes were dropped
module _ (disk : disks.State) (held : ImageState) (table : List ℕ) where
  abbrev base : State
  base = image_state disk held

  lies_there : (part : Part) → CanViewPart base.shape part (length table) → LiesInBytes base part (length table)
  lies_there part view = record { view = view; small = image_size_fits disk held; bytes = λ x. tt }

  -- where a part's changes came from
  abbrev Came : (ℕ → Cell) → Part → Type 0
  Came was part = PartCameFrom was (master_of table part.difi) base part table
      × IsBack (contents_of base part).shape part.difi (is_marked part.ivfc) was (chosen_cells base part part.dpfs.selector)

  told_part : (was : ℕ → Cell) (old new : Part) → DropsPart old new → CanViewPart base.shape old (length table)
      → IsTrue (part_state base old table).told → Came was old → IsTrue (part_state base new table).told
  told_part was old new drops view told came =
      drops.tells.told was base table table
      (record { lies = lies_there old view; told = told; same_len = refl; came = came.0; back = came.1 })

  pub dropped_told : (was : ℕ → ℕ → Cell) (first next : Part) (second after : Option Part) → DropsPart first next
      → SameSecond DropsPart second after → IsTrue (state_of base first second table).shape.sound
      → IsTrue (state_of base first second table).told → Came (was 0) first → IfSome second (Came (was 1))
      → IsTrue (state_of base next after table).told
  dropped_told was first next None None one other sound told came came_too =
      told_part (was 0) first next one (first_view base first table None sound) told came
  dropped_told was first next (Some part) (Some later) one other sound told came came_too =
      let both = and_parts _ _ told in
      and_from _ _ (told_part (was 0) first next one (first_view base first table (Some part) sound) both.0 came)
      (told_part (was 1) part later other (second_view base first table (Some part) part refl sound) both.1 came_too)
  dropped_told was first next None (Some later) one other sound told came came_too = absurd other
  dropped_told was first next (Some part) None one other sound told came came_too = absurd other

  -- what the cells of a part hang on
  pub record IsHeldPart (image : List ℕ) (header : Header) (number : ℕ) (part : Part) : Type 0 where
    pub place : part.at ≡ (partition_of header number).at
    pub is : part.number ≡ number
    pub selects : part.dpfs.selector ≡ part.difi.selector
    pub same : (x : ℕ) → x < view_size part.difi → chosen (byte_of disk held) part.at part.difi part.difi.selector x
        ≡ chosen (λ y. slice_index image y) part.at part.difi part.difi.selector x

  module _ (image : List ℕ) (header : Header) (active : table ≡ active_table image header) where
    cells_of : (number : ℕ) (old new : Part) → DropsPart old new → CanViewPart base.shape old (length table)
        → IsHeldPart image header number old → (x : ℕ) → x < new.difi.ivfc4.size
        → (part_state base new table).cells x ≡ cell_at image header number new.difi x
    cells_of number old new drops view h x below =
        drops.tells.cells base (bytes_in base image) table (lies_there old view)
        (chosen_there base image old h.selects h.same) x (rw drops.descriptor at below)
        ∙ plain_is base image header number old new table drops.descriptor h.place h.is h.selects active x

    pub all_cells : (first next : Part) (second after : Option Part) → DropsPart first next
        → SameSecond DropsPart second after → IsTrue (state_of base first second table).shape.sound
        → IsHeldPart image header 0 first → IfSome second (IsHeldPart image header 1)
        → AreImageCells image header (record { first = next; second = after }) (state_of base next after table).cells
    all_cells first next None None one other sound h k =
        record { first = cells_of 0 first next one (first_view base first table None sound) h; second = tt }
    all_cells first next (Some part) (Some later) one other sound h k = record {
      first = λ x below. rw (lt-ltb x next.difi.ivfc4.size below)
          (cells_of 0 first next one (first_view base first table (Some part) sound) h x below);
      second = λ x below.
          (let size = next.difi.ivfc4.size in
          let rest : size + x - size ≡ x = omega arith in
          rw (le-ltb (size + x) size (omega arith), rest)
          (cells_of 1 part later other (second_view base first table (Some part) part refl sound) k x below));
    }
    all_cells first next None (Some later) one other sound h k = absurd other
    all_cells first next (Some part) None one other sound h k = absurd other

-- a container whose changes are dropped
module _ (c d : Container) (drops : DropsChanges c d) where
  pub drops_whole : IsWholeContainer c → IsWholeContainer d
  drops_whole whole =
      rw (drops.header, drops.image, drops.table)
      (same_whole c.header c.image.len c.table.items c.parts d.parts (dropped_same c.parts.first d.parts.first drops.first)
      (second_dropped c.parts.second d.parts.second drops.second) whole)

  pub drops_opened : (sign : Signing) (image : List ℕ) → WasOpenOf sign image c → IsOpenOf sign image d
  drops_opened sign image h =
      let opened = h.opened in
      let same = h.same in
      let table = opened.parts in
      record {
        opens = opened.opens;
        header = rw (drops.header, same.header) opened.header;
        table = rw (drops.table, drops.header, same.table, same.header) opened.table;
        parts = rw (drops.table, drops.header, same.table, same.header) (record {
          count = same_count DropsPart c.parts.second d.parts.second drops.second
              ∙ same_count SamePart h.was.parts.second c.parts.second same.second ∙ table.count;
          first = read_again 0 c.parts.first d.parts.first drops.first
              (record { was = h.was.parts.first; same = same.first; read = table.first });
          second = second_keeps DropsPart (WasRead h.was.table.items h.was.header 1)
              (IsPartRead h.was.table.items h.was.header 1) (read_again 1) c.parts.second d.parts.second drops.second
              (second_keeps SamePart (IsPartRead h.was.table.items h.was.header 1)
              (WasRead h.was.table.items h.was.header 1)
              (λ was part kept read. record { was = was; same = kept; read = read }) h.was.parts.second c.parts.second
              same.second table.second);
        });
      }
    where
      read_again : (number : ℕ) (old new : Part) → DropsPart old new
          → WasRead h.was.table.items h.was.header number old → IsPartRead h.was.table.items h.was.header number new
      read_again = dropped_read h.was.table.items h.was.header

  pub drops_told : (was : ℕ → ℕ → Cell) (disk : disks.State) → IsTrue (store_of disk c).shape.sound
      → IsTrue (store_of disk c).told → HaveOrigins was disk c → IsTrue (store_of disk d).told
  drops_told was disk sound told origins =
      rw (drops.image, drops.table)
      (dropped_told disk c.image c.table.items was c.parts.first d.parts.first c.parts.second d.parts.second drops.first
      drops.second sound told (origins.came.first, origins.first)
      (both_of c.parts.second origins.came.second origins.second))
    where
      both_of : (second : Option Part) → IfSome second (HasCome (was 1) c.table.items disk c)
          → IfSome second (IsPartBack disk c (was 1)) → IfSome second (Came disk c.image c.table.items (was 1))
      both_of None came back = tt
      both_of (Some part) came back = (came, back)

  pub drops_cells : (sign : Signing) (image : List ℕ) (disk : disks.State) → WasOpenOf sign image c → IsWholeContainer c
      → IsDiskOf disk c.image → AreHeld image disk c
      → AreImageCells image d.header d.parts (store_of disk d).cells
  drops_cells sign image disk h whole disk_of held =
      let opened = drops_opened sign image h in
      let active : c.table.items ≡ active_table image c.header =
      rw (h.same.table, h.same.header) h.opened.table in
      let sound = store_sound disk c.image c.header c.table.items disk_of whole.sound whole.table_len c.parts.first
      c.parts.second whole.count whole.first whole.second in
      rw (drops.header, drops.image, drops.table)
      (all_cells disk c.image c.table.items image c.header active c.parts.first d.parts.first c.parts.second
      d.parts.second drops.first drops.second sound
      (held_one 0 c.parts.first d.parts.first drops.first whole.first
      (selects c.parts.first d.parts.first drops.first opened.parts.first.untouched.contents.selector) held.first)
      (second_of c.parts.second d.parts.second drops.second whole.second opened.parts.second held.second))
    where
      selects : (old new : Part) → DropsPart old new → new.dpfs.selector ≡ new.difi.selector
          → old.dpfs.selector ≡ old.difi.selector
      selects old new drop is =
          sym drop.ends.contents.selects ∙ is ∙ ap (λ (difi : Difi). difi.selector) drop.descriptor

      held_one : (number : ℕ) (old new : Part) → DropsPart old new → IsPartOf c.header number old
          → old.dpfs.selector ≡ old.difi.selector → IsPartHeld image disk c old
          → IsHeldPart disk c.image c.table.items image c.header number old
      held_one number old new drop is selected same =
          record { place = is.place; is = is.number_is; selects = selected; same = same }

      second_of : (old new : Option Part) → SameSecond DropsPart old new → IfSome old (IsPartOf c.header 1)
          → IfSome new (IsPartRead d.table.items d.header 1) → IfSome old (IsPartHeld image disk c)
          → IfSome old (IsHeldPart disk c.image c.table.items image c.header 1)
      second_of None new drop is read same = tt
      second_of (Some old) (Some new) drop is read same =
          held_one 1 old new drop is (selects old new drop read.untouched.contents.selector) same
      second_of (Some old) None drop is read same = absurd drop

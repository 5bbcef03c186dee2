-- A store over its image and disk.
use Rattle.std.proofs.Common.{◌≡◌, ◌^◌, ◌+◌, ◌<◌, List, Option, Some, None, Ok, Err, IsTrue, ℕ, refl, sym}
use Rattle.std.proofs.Common.{◌∙◌, ap, subst, arith}
use Rattle.std.specs.Borrow.{Bor}
use Rattle.save_bytes.specs.declared.space.Bad.{Bad}
use Rattle.save_bytes.specs.declared.space.Bad.TheVariants.{Disk}
use Rattle.save_bytes.specs.Cells.{Byte}
use Rattle.save_bytes.specs.Answers.{IsPiece}
use Rattle.save_bytes.specs.State.{Shape, State}
use Rattle.save_bytes.specs.Spots.{Spot, Place, Sector, Mark, Frame, LandsAsBefore}
use Rattle.save_bytes.specs.Stays.{SameCells, Stays}
use Rattle.save_bytes.specs.Reads.{Reads}
use Rattle.save_bytes.proofs.SpaceLemmas.{UnlessDisk-map, Stays-join}
use Rattle.save_disk.specs.State as disks
use Rattle.page_image.specs.declared.state.ImageState.{ImageState}
use Rattle.page_image.specs.Images.{IsDiskOf, IsHeldPiece, image_state}
use Rattle.page_image.specs.Laws.{image_size_fits, Leaves-join}
use Rattle.page_image.specs.declared.image.Image.{Image}
use Rattle.page_image.specs.Spots.{Leaves, ImageLands, LeavesTold}
use Rattle.page_image.specs.Held.{ImageKeeps}
use Rattle.page_image.specs.Held.{shown as shown_image}
use Rattle.page_image.proofs.DiskLemmas.{disk_of-true, kept_disk}
use Rattle.page_image.proofs.PieceLemmas.{image_piece, asked}
use Rattle.dpfs_tree.specs.Picks.{bytes_of}
use Rattle.part_store.specs.declared.part.Part.{Part}
use Rattle.part_store.specs.Parts.{IsFound}
use Rattle.part_store.specs.Spots.{SamePart, KeepsMarks, PartSpot}
use Rattle.part_store.specs.SpotLaws.{KeepsMarks-part, KeepsMarks-spot}
use Rattle.part_store.proofs.PartLemmas.{found_piece}
use Rattle.container.specs.declared.open.Container.{Container}
use Rattle.container.specs.declared.store.Store.{Store}
use Rattle.container.specs.Parts.{SameSecond}
use Rattle.container.specs.Stores.{state_of}
use Rattle.container.specs.Containers.{IsWholeContainer}
use Rattle.container.specs.StoreHeld.{SameContainer, store_of, shown, SameStore, IsKept, ReadsImage, ContainerSpot}
use Rattle.container.specs.StoreHeld.{StoreKeeps}
use Rattle.container.specs.StoreHeld.{store_lands}
use Rattle.container.proofs.PartLemmas.{same_whole}
use Rattle.container.specs.StoreLaws.{sound_base, told_below, store_fits, store_stays, store_lands_before}
use Rattle.container.specs.StoreLaws.{parts_land}

module _ (disk : disks.State) (image : ImageState) (first : Part) (second : Option Part) (table : List ℕ)
    (sound : IsTrue (state_of (image_state disk image) first second table).shape.sound) where
  -- a sound store's disk is that of its image
  pub disk_of_store : IsDiskOf disk image
  disk_of_store = disk_of-true disk image (sound_base (image_state disk image) first table second sound)

  -- its length is a number of 64 bits
  pub length_fits : (state_of (image_state disk image) first second table).shape.size < 2 ^ 64
  length_fits = store_fits (image_state disk image) first second table (λ base. image_size_fits disk image) sound

  -- what stays in the image stays in the store
  pub image_stays : (disk_new : disks.State) (image_new : ImageState) (refusal : Option Bad)
      → Stays (image_state disk image) (image_state disk_new image_new) refusal
      → Stays (state_of (image_state disk image) first second table)
      (state_of (image_state disk_new image_new) first second table) refusal
  image_stays disk_new image_new refusal stays =
      store_stays (image_state disk image) (image_state disk_new image_new) table refusal (image_size_fits disk image)
      stays first second sound

-- bytes that are held where they were found are a piece of the store
pub held_piece : (s : State) (disk : disks.State) (image : ImageState) (at most place m : ℕ) (piece : Bor (List ℕ))
    → (IsTrue s.told → IsTrue (image_state disk image).told) → IsFound s (image_state disk image) at most (Ok (place, m))
    → IsHeldPiece disk image place m piece.now → IsPiece s at most (Ok piece)
held_piece s disk image at most place m piece told found held =
    found_piece s (image_state disk image) at most place m refl told found (Ok piece) (image_piece disk image place m piece held)

-- a call that brings a page, behind one that read
module _ (d e f : disks.State) (old mid : Container) (k : ImageState)
    (stays : Stays (store_of d old) (store_of e mid) None)
    (leaves : LeavesTold e mid.image f k) where
  pub found_brought : (at most place m : ℕ) → IsFound (store_of d old) (image_state e mid.image) at most (Ok (place, m))
      → IsFound (store_of d old) (image_state f k) at most (Ok (place, m))
  found_brought at most place m found =
      let told : IsTrue (store_of d old).told → IsTrue (image_state e mid.image).told =
      λ is. told_below (image_state e mid.image) mid.parts.first mid.table.items mid.parts.second
      (stays.space.told is) in
      record {
        some = found.some;
        bounded = found.bounded;
        inside = found.inside;
        in_base = omega (arith, found.in_base, (leaves Frame tt).0.len);
        cells = λ is n below.
            found.cells is n below ∙ sym
            (ap Byte ((leaves (Place (place + n)) (told is)).1 (omega (arith, found.in_base))).0);
        damaged = λ is. tt;
      }

  pub both_read : (refusal : Option Bad) → IsTrue (store_of d old).shape.sound → ReadsImage d old.image e mid.image None
      → Stays (image_state e mid.image) (image_state f k) refusal
      → Stays (store_of d old) (store_of f (record mid { image = k })) refusal × ReadsImage d old.image f k refusal
  both_read refusal sound reads later =
      let still = subst (λ (shape : Shape). IsTrue shape.sound) (sym stays.space.shape) sound in (
        Stays-join (store_of d old) (store_of e mid) (store_of f (record mid { image = k })) refusal stays
            (image_stays e mid.image mid.parts.first mid.parts.second mid.table.items still f k refusal later),
        record {
          stays = Stays-join (image_state d old.image) (image_state e mid.image)
              (image_state f k) refusal reads.stays later;
          frame = Leaves-join d e f old.image mid.image k Frame reads.frame (leaves Frame tt);
          sectors = λ number. Leaves-join d e f old.image mid.image k (Sector number) (reads.sectors number)
              (leaves (Sector number) tt);
          spots = λ is spot. Leaves-join d e f old.image mid.image k spot (reads.spots is spot)
              (leaves spot (asked e (reads.stays.space.told is) spot));
        },
      )

-- none are found where the disk failed
pub found_nowhere : (s base : State) (at most : ℕ) → IsFound s base at most (Err Disk)
found_nowhere s base at most =
    record { some = tt; bounded = tt; inside = tt; in_base = tt; cells = λ is. tt; damaged = λ is. tt }

second_map : (P Q : Part → Part → Type 0) → ((old new : Part) → P old new → Q old new) → (old new : Option Part)
    → SameSecond P old new → SameSecond Q old new
second_map P Q map None None same = tt
second_map P Q map None (Some new) same = same
second_map P Q map (Some old) None same = same
second_map P Q map (Some old) (Some new) same = map old new same

-- a call that reads the image, and keeps all else of the container but what its parts remember, reads the store
module _ {D : Type 0} (states : D → disks.State) (s t : Store D) (refusal : Option Bad)
    (same_container : t.container.ghost_name ≡ s.container.ghost_name) (same_disk : t.disk.ghost_name ≡ s.disk.ghost_name)
    (kept : IsKept s.container.now t.container.now)
    (reads : ReadsImage (states s.disk.now) s.container.now.image (states t.disk.now) t.container.now.image refusal)
    (stays : Stays (shown states s) (shown states t) refusal) (sound : IsTrue (shown states s).shape.sound) where
  same_store : SameStore s t
  same_store =
      let parts = kept.parts in
      record {
        same_container = same_container;
        same_disk = same_disk;
        container = record {
          header = kept.header;
          first = KeepsMarks-part s.container.now.parts.first t.container.now.parts.first parts.first;
          second = second_map KeepsMarks SamePart KeepsMarks-part s.container.now.parts.second
              t.container.now.parts.second parts.second;
          table = kept.table;
        };
      }

  same_spot : (spot : Spot) → ContainerSpot spot s.container.now t.container.now
  same_spot (Mark part level block) = (
    KeepsMarks-spot (Mark part level block) s.container.now.parts.first t.container.now.parts.first kept.parts.first,
    second_map KeepsMarks (PartSpot (Mark part level block))
        (KeepsMarks-spot (Mark part level block)) s.container.now.parts.second
        t.container.now.parts.second kept.parts.second,
  )
  same_spot Frame = kept
  same_spot spot = tt

  lands_before : SameCells (image_state (states s.disk.now) s.container.now.image) (image_state (states t.disk.now) t.container.now.image)
      → LandsAsBefore (shown states s).shape.size (store_lands states s) (store_lands states t)
  lands_before cells x below spot there =
      let container = s.container.now in
      let parts = container.parts in
      let later = t.container.now.parts in
      let base = image_state (states s.disk.now) container.image in
      let new = image_state (states t.disk.now) t.container.now.image in
      store_lands_before base new container.table.items
      (image_size_fits (states s.disk.now) container.image) cells
      (ImageLands container.image.grain) (ImageLands t.container.now.image.grain)
      (λ x below spot. subst (λ (grain : ℕ). ImageLands grain x spot) reads.frame.0.grain) parts.first parts.second
      sound x below spot
      (parts_land (bytes_of new.cells)
      (ImageLands t.container.now.image.grain) parts.first later.first parts.second later.second kept.parts.first
      kept.parts.second x spot there)

  pub store_reads : Reads (shown states) (StoreKeeps states) (store_lands states) s t refusal
  store_reads =
      let container = s.container.now in
      let base = image_state (states s.disk.now) container.image in
      let told : IsTrue (shown states s).told → IsTrue base.told =
      told_below base container.parts.first container.table.items container.parts.second in
      record {
        stays = stays;
        frame = (same_store, kept, reads.frame);
        sectors = λ number. (same_store, tt, reads.sectors number);
        spots = λ is spot. (same_store, same_spot spot, reads.spots (told is) spot);
        reach = λ is. UnlessDisk-map refusal lands_before (reads.stays.cells (told is));
      }

-- what a call on a view of the image reads of the image
pub view_reads : {D : Type 0} (states : D → disks.State) (lands : Image D → ℕ → Spot → Type 0) (s t : Image D) (refusal : Option Bad)
    → Reads (shown_image states) (ImageKeeps states) lands s t refusal
    → ReadsImage (states s.disk.now) s.image.now (states t.disk.now) t.image.now refusal
view_reads states lands s t refusal reads = record {
  stays = reads.stays;
  frame = reads.frame.1;
  sectors = λ number. (reads.sectors number).1;
  spots = λ told spot. (reads.spots told spot).1;
}

-- what a call on a store left of its image, where the container and the disk are known behind it
pub leaves_as : {D : Type 0} (states : D → disks.State) (spot : Spot) (s t : Store D) (m n : Container) (d e : D) → m ≡ s.container.now → d ≡ s.disk.now
    → n ≡ t.container.now → e ≡ t.disk.now
    → Leaves spot (states s.disk.now) s.container.now.image (states t.disk.now) t.container.now.image
    → Leaves spot (states d) m.image (states e) n.image
leaves_as {D = D} states spot s t m n d e first disk last end h =
    subst (λ (c : Container). Leaves spot (states d) c.image (states e) n.image) (sym first)
    (subst (λ (a : D). Leaves spot (states a) s.container.now.image (states e) n.image) (sym disk)
    (subst (λ (c : Container). Leaves spot (states s.disk.now) s.container.now.image (states e) c.image) (sym last)
    (subst (λ (a : D). Leaves spot (states s.disk.now) s.container.now.image (states a) t.container.now.image) (sym end) h)))

-- a container that calls on its store changed is as whole as before
pub whole_still : (old new : Container) → SameContainer old new → new.image.len ≡ old.image.len → IsWholeContainer old
    → IsWholeContainer new
whole_still old new same len whole =
    rw (same.header, len, same.table)
    (same_whole old.header old.image.len old.table.items old.parts new.parts same.first same.second whole)

-- and has the disk of its image, behind the loan of both
module _ {D : Type 0} (states : D → disks.State) (spot : Spot) (s t : Store D) (m n : Container) (d e : D)
    (first : m ≡ s.container.now) (disk : d ≡ s.disk.now) (last : n ≡ t.container.now) (end : e ≡ t.disk.now)
    (kept : StoreKeeps states spot s t) where
  pub disk_behind : IsDiskOf (states d) m.image → IsDiskOf (states e) n.image
  disk_behind is =
      let leaves = leaves_as states spot s t m n d e first disk last end kept.2 in
      kept_disk (states d) (states e) m.image n.image leaves.0 is

  pub whole_behind : IsWholeContainer m → IsWholeContainer n
  whole_behind whole =
      subst (λ (c : Container). IsWholeContainer c) (sym last)
      (whole_still s.container.now t.container.now kept.0.container kept.2.0.len
      (subst (λ (c : Container). IsWholeContainer c) first whole))

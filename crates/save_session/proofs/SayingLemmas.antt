-- What output leaves of a disk, and of what stands over it.
use Rattle.std.proofs.Common.{◌≡◌, ℕ, ◌/◌, nat_lt, Bool, false, not, ◌&&◌, ◌||◌, ◌==◌, List, [], ◌∷◌, ◌++◌}
use Rattle.std.proofs.Common.{slice_index, Option, Some, None, if◌then◌else◌, refl, sym, ◌∙◌, ap, subst}
use Rattle.save_bytes.specs.Cells.{Byte}
use Rattle.save_bytes.specs.State.{State}
use Rattle.save_disk.specs.Trace.{Event, Told, Write, Sync, Said, OnlySays, image_after, image_now}
use Rattle.save_disk.specs.State as disks
use Rattle.save_disk.specs.Tells.{is_sure, tells, image_of, image_told, all_below}
use Rattle.save_disk.proofs.Moments.{image_after-append}
use Rattle.desk_output.specs.Output.{HasOnlySaid}
use Rattle.page_image.specs.declared.state.ImageState.{ImageState}
use Rattle.page_image.specs.Images.{byte_of, is_held, held_byte, is_changed, is_mirrored, is_disk_of, IsDiskOf}
use Rattle.page_image.specs.Images.{image_state, shape_of}
use Rattle.page_image.proofs.DiskLemmas.{disk_of-true, true-disk_of}
use Rattle.part_store.specs.declared.part.Part.{Part}
use Rattle.container.specs.declared.open.Container.{Container}
use Rattle.container.specs.Stores.{state_of}
use Rattle.container.specs.StoreHeld.{store_of}
use Rattle.save_session.specs.Saying.{with_faults}

-- output leaves the image as it is
said_after : (grain : ℕ) (image : List ℕ) (events : List Event) → OnlySays events
    → image_after grain image events ≡ image
said_after grain image [] only = refl
said_after grain image (Said bytes ∷ events) only = said_after grain image events only
said_after grain image (Write sector bytes ∷ events) only = absurd only
said_after grain image (Sync ∷ events) only = absurd only

abbrev behind : Told → List Event → Told
behind told more = record told { events = told.events ++ more }

now_same : (told : Told) (more : List Event) → OnlySays more → image_now (behind told more) ≡ image_now told
now_same told more only =
    image_after-append told.grain told.start told.events more
    ∙ said_after told.grain (image_now told) more only

-- what two traces tell alike: the image, of which sectors reads are told, and whether that is what an image holds
record TellAlike (o p : Option Told) : Type 0 where
  now : image_of p ≡ image_of o
  sure : (size : ℕ) → is_sure size p ≡ is_sure size o
  mirrored : (disk : disks.State) (image : ImageState) → is_mirrored disk image p ≡ is_mirrored disk image o

alike_by : (told : Told) (more : List Event) → OnlySays more → TellAlike (Some told) (Some (behind told more))
alike_by told more only =
    let now = now_same told more only in
    record {
      now = now;
      sure = λ size. refl;
      mirrored = λ disk image. ap
          (λ (bytes : List ℕ). all_below
          (λ x. nat_lt x 512
          || (not (told.sure (x / image.grain))
          || (is_changed image (x / image.grain) || (slice_index bytes x == byte_of disk image x)))) image.len)
          now;
    }

alike : (o p : Option Told) → HasOnlySaid o p → TellAlike o p
alike None p none =
    subst (λ (q : Option Told). TellAlike None q) (sym none)
    (record { now = refl; sure = λ size. refl; mirrored = λ disk image. refl })
alike (Some told) p since =
    subst (λ (q : Option Told). TellAlike (Some told) q) (sym since.2) (alike_by told since.0 since.1)

bytes_same : (old new : disks.State) (image : ImageState) → image_told new ≡ image_told old
    → byte_of new image ≡ byte_of old image
unfolding byte_of
bytes_same old new image same =
    ap
    (λ (bytes : List ℕ). λ (x : ℕ). if nat_lt x 512 then slice_index image.header x
    else if is_held image (x / 4096) then held_byte image x else slice_index bytes x)
    same

mirrored_by : (old new : disks.State) (image : ImageState) → byte_of new image ≡ byte_of old image → (o : Option Told)
    → is_mirrored new image o ≡ is_mirrored old image o
mirrored_by old new image same None = refl
mirrored_by old new image same (Some told) =
    ap
    (λ (bytes : ℕ → ℕ). all_below
    (λ x. nat_lt x 512
    || (not (told.sure (x / image.grain))
    || (is_changed image (x / image.grain) || (slice_index (image_now told) x == bytes x)))) image.len)
    same

-- a desk said something, or tried to
module _ (old new : disks.State) (only : HasOnlySaid old.told new.told) (steady : disks.IsSteady old new)
    (image : ImageState) where
  tell : TellAlike old.told new.told
  tell = alike old.told new.told only

  bytes : byte_of new image ≡ byte_of old image
  bytes = bytes_same old new image tell.now

  tells_same : tells new ≡ tells old
  tells_same =
      ap (λ (size : ℕ). is_sure size new.told) steady.size
      ∙ tell.sure old.size

  disk_same : is_disk_of new image ≡ is_disk_of old image
  disk_same =
      ap
      (λ (size : ℕ). (size == image.len) && ((new.grain == image.grain) && is_mirrored new image new.told))
      steady.size
      ∙ ap
      (λ (grain : ℕ). (old.size == image.len) && ((grain == image.grain) && is_mirrored new image new.told))
      steady.grain
      ∙ ap
      (λ (mirrored : Bool). (old.size == image.len) && ((old.grain == image.grain) && mirrored))
      (mirrored_by old new image bytes new.told ∙ tell.mirrored old image)

  -- the disk is still that of an image
  pub disk_said : IsDiskOf old image → IsDiskOf new image
  disk_said is = disk_of-true new image (disk_same ∙ true-disk_of old image is)

  state_said : image_state new image ≡ with_faults (image_state old image) new.counts.disk
  state_said i = record {
    shape = shape_of image.len (disk_same i);
    told = tells_same i;
    cells = λ x. Byte (bytes i x);
    bottom = λ x. x;
    is_fixed = λ x. false;
    faults = new.counts.disk;
  }

-- a count of faults below shows above, and nothing else does
faults_shown : (base : State) (n : ℕ) (first : Part) (second : Option Part) (table : List ℕ)
    → state_of (with_faults base n) first second table ≡ with_faults (state_of base first second table) n
faults_shown base n first None table = refl
faults_shown base n first (Some second) table = refl

-- and a store over it shows what it showed
pub store_said : (old new : disks.State) → HasOnlySaid old.told new.told → disks.IsSteady old new
    → (container : Container) → store_of new container ≡ with_faults (store_of old container) new.counts.disk
store_said old new only steady container =
    let parts = container.parts in
    ap (λ (base : State). state_of base parts.first parts.second container.table.items)
    (state_said old new only steady container.image)
    ∙ faults_shown (image_state old container.image) new.counts.disk parts.first parts.second container.table.items

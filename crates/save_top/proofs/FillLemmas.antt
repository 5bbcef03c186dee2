-- What copying out of a store leaves of its disk.
use Rattle.std.proofs.Common.{◌≡◌, ◌∙◌, ℕ, IsTrue, Option, refl}
use Rattle.save_bytes.specs.declared.space.Bad.{Bad}
use Rattle.save_bytes.specs.Spots.{Spot}
use Rattle.save_bytes.specs.Reads.{Reads}
use Rattle.save_disk.specs.State as disks
use Rattle.save_disk.specs.Tells.{tells}
use Rattle.page_image.specs.Images.{image_state}
use Rattle.page_image.specs.WriteOuts.{IsClean}
use Rattle.page_image.proofs.QuietLemmas.{quiet_where_clean}
use Rattle.container.specs.declared.open.Container.{Container}
use Rattle.container.specs.declared.store.Store.{Store}
use Rattle.container.specs.StoreHeld.{shown, store_of, IsStoreOf, StoreKeeps}
use Rattle.container.specs.Stores.{HaveNoMemory}
use Rattle.std.specs.Borrow.{MutBor}

-- of a container that remembers nothing the store tells its cells where its disk tells its trace
pub told_unread : (disk : disks.State) (container : Container) → HaveNoMemory container.parts → IsTrue (tells disk)
    → IsTrue (store_of disk container).told
told_unread disk container none told = none (image_state disk container.image) container.table.items ∙ told

module _ {D : Type 0} (states : D → disks.State) where
  -- a store shows what its container's store shows
  pub shown_store : (store : Store D) (container : MutBor Container) (disk : MutBor D) → IsStoreOf store container disk
      → shown states store ≡ store_of (states disk.now) container.now
  shown_store store container disk holds = rw (holds.container_now, holds.disk_now) refl

  -- a call that reads a store of whose image nothing was changed leaves the trace as it is, whatever the disk tells
  pub store_quiet : (lands : Store D → ℕ → Spot → Type 0) (old new : Store D) (refusal : Option Bad) → IsClean old.container.now.image
      → Reads (shown states) (StoreKeeps states) lands old new refusal → disks.IsQuiet (states old.disk.now) (states new.disk.now)
  store_quiet lands old new refusal clean reads =
      quiet_where_clean (states old.disk.now) old.container.now.image (states new.disk.now) new.container.now.image clean
      (λ number. (reads.sectors number).2)

  pub store_steady : (lands : Store D → ℕ → Spot → Type 0) (old new : Store D) (refusal : Option Bad)
      → Reads (shown states) (StoreKeeps states) lands old new refusal → disks.IsSteady (states old.disk.now) (states new.disk.now)
  store_steady lands old new refusal reads = reads.frame.2.0.steady

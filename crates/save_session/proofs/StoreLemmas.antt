-- How large a container's store is, and what reading it leaves.
use Rattle.std.proofs.Common.{◌≡◌, ℕ, ◌+◌, ◌<◌, ◌≤◌, Bool, true, false, List, Option, Some, None, IfSome}
use Rattle.std.proofs.Common.{refl, sym, arith, ⊎_elim}
use Rattle.std.proofs.lemmas.Bool.{cases_lt}
use Rattle.std.specs.Borrow.{MutBor}
use Rattle.save_bytes.specs.declared.extent.Extent.{Extent}
use Rattle.save_bytes.specs.declared.space.Bad.{Bad}
use Rattle.save_bytes.specs.Extents.{AreApart}
use Rattle.save_bytes.specs.Spots.{Spot}
use Rattle.save_bytes.specs.Reads.{Reads}
use Rattle.save_disk.specs.State as disks
use Rattle.container_header.specs.declared.header.Header.{Header}
use Rattle.difi.specs.declared.descriptor.Difi.{Difi}
use Rattle.difi.specs.Sound.{HasSoundLevels}
use Rattle.part_store.specs.declared.part.Part.{Part}
use Rattle.page_image.specs.Images.{IsDiskOf, image_state}
use Rattle.page_image.proofs.DiskLemmas.{kept_disk}
use Rattle.page_image.proofs.QuietLemmas.{quiet_where_clean, clean_where_clean}
use Rattle.container.specs.declared.open.Container.{Container}
use Rattle.container.specs.declared.store.Store.{Store}
use Rattle.container.specs.Containers.{IsWholeContainer}
use Rattle.container.specs.Parts.{split_of, IsWhole}
use Rattle.container.specs.Stores.{store_state}
use Rattle.container.specs.StoreHeld.{shown, store_of, IsStoreOf, StoreKeeps}
use Rattle.container.proofs.PartLemmas.{kept_whole}
use Rattle.save_session.specs.Reading.{ReadsThrough}

-- two ranges that lie apart have room beside each other
apart_fit : (one other : Extent) (high : ℕ) → 1 ≤ one.size → 1 ≤ other.size → AreApart one other
    → one.at + one.size ≤ high → other.at + other.size ≤ high → one.size + other.size ≤ high
apart_fit one other high some_one some_other apart one_ends other_ends =
    ⊎_elim
    (λ (before : one.at < other.at).
    ⊎_elim
    (λ (meets : other.at < one.at + one.size).
    absurd (apart other.at (omega (arith, before)) meets (omega arith) (omega (arith, some_other))))
    (λ (past : one.at + one.size ≤ other.at). omega (arith, past, other_ends))
    (cases_lt other.at (one.at + one.size)))
    (λ (behind : other.at ≤ one.at).
    ⊎_elim
    (λ (meets : one.at < other.at + other.size).
    absurd (apart one.at (omega arith) (omega (arith, some_one)) behind meets))
    (λ (past : other.at + other.size ≤ one.at). omega (arith, past, one_ends))
    (cases_lt one.at (other.at + other.size)))
    (cases_lt one.at other.at)

-- level four is no longer than its partition
four_by : (difi : Difi) (part_len : ℕ) (external : Bool) → difi.external ≡ external → HasSoundLevels difi part_len
    → difi.ivfc4.size ≤ part_len
four_by difi part_len true is levels = omega (arith, (levels.external_level is).inside)
four_by difi part_len false is levels = omega (arith, levels.hash_levels.inside4 is, levels.copies.level3.inside)

-- what a store is for the filesystem on it: each byte may be written, there are at most so many, and a second part
-- begins in it
pub record IsRoomy (first size : ℕ) (split : Option ℕ) : Type 0 where
  pub zero : first ≡ 0
  pub small : size ≤ 67108864
  pub inside : IfSome split (λ n. n ≤ size)

module _ (disk : disks.State) (container : Container) where
  roomy_by : (header : Header) (image_len : ℕ) (table : List ℕ) (first : Part) (second : Option Part)
      → IsWhole header image_len table (record { first = first; second = second })
      → let s = store_state (image_state disk container.image) (record { first = first; second = second }) table in
      IsRoomy s.shape.first s.shape.size (split_of (record { first = first; second = second }))
  roomy_by header image_len table first None whole =
      let four = four_by first.difi header.part_a.size first.difi.external refl whole.first.sound.levels in
      record {
        zero = refl;
        small = omega (arith, four, whole.sound.partition_a.inside.ends, whole.sound.longest);
        inside = tt;
      }
  roomy_by header image_len table first (Some second) whole =
      let sound = whole.sound in
      let both : header.parts ≡ 2 = sym whole.count in
      let one = four_by first.difi header.part_a.size first.difi.external refl whole.first.sound.levels in
      let other = four_by second.difi header.part_b.size second.difi.external refl whole.second.sound.levels in
      let fit = apart_fit header.part_a header.part_b image_len sound.partition_a.some (sound.partition_b both).some
      (sound.partitions_apart both) sound.partition_a.inside.ends (sound.partition_b both).inside.ends in
      record {
        zero = refl;
        small = omega (arith, one, other, fit, sound.longest);
        inside = omega arith;
      }

  pub store_roomy : IsWholeContainer container
      → IsRoomy (store_of disk container).shape.first (store_of disk container).shape.size (split_of container.parts)
  store_roomy whole =
      roomy_by container.header container.image.len container.table.items container.parts.first container.parts.second
      whole

module _ {D : Type 0} (states : D → disks.State) where
  -- a store shows what its container's store shows
  pub store_shown : (store : Store D) (container : MutBor Container) (disk : MutBor D) → IsStoreOf store container disk
      → shown states store ≡ store_of (states disk.now) container.now
  store_shown store container disk holds = rw (holds.container_now, holds.disk_now) refl

  pub reads_through : (lands : Store D → ℕ → Spot → Type 0) (old new : Store D) (refusal : Option Bad)
      → IsWholeContainer old.container.now → IsDiskOf (states old.disk.now) old.container.now.image
      → Reads (shown states) (StoreKeeps states) lands old new refusal
      → ReadsThrough (states old.disk.now) old.container.now (states new.disk.now) new.container.now refusal
  reads_through lands old new refusal whole disk_of reads =
      let disk = states old.disk.now in
      let later = states new.disk.now in
      let image = old.container.now.image in
      let image_new = new.container.now.image in
      let kept = reads.frame.1 in
      let same = reads.frame.2.0 in
      record {
        stays = reads.stays;
        kept = kept;
        whole = rw (kept.header, kept.table, same.len)
            (kept_whole old.container.now.header image.len old.container.now.table.items old.container.now.parts
            new.container.now.parts kept.parts whole);
        disk_of = kept_disk disk later image image_new same disk_of;
        sectors = λ number. (reads.sectors number).2;
        spots = λ told spot. (reads.spots told spot).2;
        steady = same.steady;
        quiet = λ clean. quiet_where_clean disk image later image_new clean (λ number. (reads.sectors number).2);
        clean = λ clean. clean_where_clean disk image later image_new clean (λ number. (reads.sectors number).2);
      }

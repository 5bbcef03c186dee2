-- Where the trees of an open image's parts came from, over calls.
use Rattle.std.proofs.Common.{◌≡◌, ℕ, ◌<◌, ◌^◌, IsTrue, List, length, Option, Some, None, IfSome, refl, sym, ap, subst, arith}
use Rattle.save_bytes.specs.declared.space.Bad.{Bad}
use Rattle.save_bytes.specs.Cells.{Cell, Byte}
use Rattle.save_bytes.specs.State.{State, CanPut}
use Rattle.save_bytes.specs.Spots.{Place}
use Rattle.save_bytes.specs.Reads.{Reads}
use Rattle.save_bytes.proofs.SpaceLemmas.{UnlessDisk-always}
use Rattle.save_disk.specs.State as disks
use Rattle.difi.specs.declared.descriptor.Difi.{Difi}
use Rattle.ivfc_tree.proofs.CameLemmas.{came_same}
use Rattle.page_image.specs.Images.{image_state}
use Rattle.page_image.specs.Laws.{image_size_fits}
use Rattle.part_store.specs.declared.part.Part.{Part}
use Rattle.part_store.specs.Parts.{CanViewPart, contents_of, master_of}
use Rattle.part_store.specs.PartLaws.{hashes_there}
use Rattle.part_store.specs.Spots.{KeepsMarks}
use Rattle.part_store.specs.Ends.{PartCameFrom}
use Rattle.container.specs.declared.open.Container.{Container}
use Rattle.container.specs.Parts.{SameSecond}
use Rattle.container.specs.Stores.{state_of}
use Rattle.container.specs.StoreHeld.{store_of}
use Rattle.container.specs.StoreLaws.{first_view, second_view}
use Rattle.container.specs.Overs.{Opened, opened_state, OpenedKeeps, opened_lands}
use Rattle.container.specs.Origins.{HasCome, KeepsStoreOrigins}
use Rattle.container.proofs.TakenLemmas.{IsLeft, contents_left, taken_fits, tree_there}

-- a store is put to wherever it is told
pub can_put : (base : State) (first : Part) (second : Option Part) (table : List ℕ) (at n : ℕ)
    → IsTrue (state_of base first second table).told → CanPut (state_of base first second table) at n
can_put base first None table at n told = record { told = told; apart = λ j k h i same. omega (arith, same); free = λ k h. refl }
can_put base first (Some part) table at n told =
    record { told = told; apart = λ j k h i same. omega (arith, same); free = λ k h. refl }

-- a part comes from where it came from, where its bytes are left alone and it keeps its marks
pub came_kept : (base new : State) (part next : Part) (table : List ℕ) → base.shape.size < 2 ^ 64
    → CanViewPart base.shape part (length table) → IsLeft base new part → KeepsMarks part next → (was : ℕ → Cell)
    → (was_master : List ℕ) → PartCameFrom was was_master base part table → PartCameFrom was was_master new next table
came_kept base new part next table small view left kept was was_master came =
    rw (kept.descriptor, kept.place, kept.copies)
    (came_same (contents_of base part).shape part.difi (master_of table part.difi)
    (hashes_there base part table small view) (contents_of base part).cells (contents_of new part).cells
    (contents_left base new part table small view left) part.ivfc next.ivfc kept.hashes.marks was was_master came)

-- what comes from two calls, one behind the other
pub origins_join : (a b c : disks.State) (x y z : Container) (refusal : Option Bad)
    → (IsTrue (store_of a x).told → IsTrue (store_of b y).told) → KeepsStoreOrigins a x b y None
    → KeepsStoreOrigins b y c z refusal → KeepsStoreOrigins a x c z refusal
origins_join a b c x y z refusal told one other is was was_table h =
    other (told is) was was_table (one is was was_table h)

-- a call that reads
module _ {D : Type 0} (states : D → disks.State) (a b : Opened D) (refusal : Option Bad)
    (sound : IsTrue (opened_state states a).shape.sound)
    (reads : Reads (opened_state states) (OpenedKeeps states) (opened_lands states) a b refusal) where
  abbrev base : State
  base = image_state (states a.disk) a.container.image

  abbrev later : State
  later = image_state (states b.disk) b.container.image

  small : base.shape.size < 2 ^ 64
  small = image_size_fits (states a.disk) a.container.image

  all_left : IsTrue (opened_state states a).told → (part : Part)
      → CanViewPart base.shape part (length a.container.table.items) → IsLeft base later part
  all_left told part view y there =
      let fits = taken_fits base.shape part part.dpfs.selector
      (tree_there base later part a.container.table.items small view) in
      ap Byte ((reads.spots told (Place y)).2.1 (omega (arith, there.1, fits))).0

  one_read : IsTrue (opened_state states a).told → (was : ℕ → Cell) (was_table : List ℕ) (part next : Part)
      → CanViewPart base.shape part (length a.container.table.items) → KeepsMarks part next
      → HasCome was was_table (states a.disk) a.container part → HasCome was was_table (states b.disk) b.container next
  one_read told was was_table part next view kept came =
      let all = reads.frame.1 in
      rw all.table
      (subst (λ (difi : Difi). PartCameFrom was (master_of was_table difi) later next a.container.table.items)
      (sym kept.descriptor)
      (came_kept base later part next a.container.table.items small view (all_left told part view) kept was
      (master_of was_table part.difi) came))

  second_read : IsTrue (opened_state states a).told → (was : ℕ → Cell) (was_table : List ℕ) (second after : Option Part)
      → a.container.parts.second ≡ second → SameSecond KeepsMarks second after
      → IfSome second (HasCome was was_table (states a.disk) a.container)
      → IfSome after (HasCome was was_table (states b.disk) b.container)
  second_read told was was_table None None is kept came = tt
  second_read told was was_table (Some part) (Some next) is kept came =
      one_read told was was_table part next
      (second_view base a.container.parts.first a.container.table.items a.container.parts.second part is sound) kept came
  second_read told was was_table None (Some next) is kept came = absurd kept
  second_read told was was_table (Some part) None is kept came = tt

  pub read_come : KeepsStoreOrigins (states a.disk) a.container (states b.disk) b.container refusal
  read_come told was was_table h =
      let kept = reads.frame.1.parts in
      UnlessDisk-always refusal (record {
        first = one_read told (was 0) was_table a.container.parts.first b.container.parts.first
            (first_view base a.container.parts.first a.container.table.items a.container.parts.second sound) kept.first
            h.first;
        second = second_read told (was 1) was_table a.container.parts.second b.container.parts.second refl kept.second
            h.second;
      })

-- Small traces over an image worked out.
use Rattle.std.proofs.Common.{◌≡◌, ℕ, ◌+◌, ◌-◌, ◌*◌, ◌≤◌, true, false, List, [], ◌∷◌, Some, IfSome, refl, sym, ◌∙◌}
use Rattle.std.proofs.Common.{arith}
use Rattle.save_disk.specs.Trace.{Write}
use Rattle.save_disk.specs.Stops.{CrashMayLeave}
use Rattle.save_disk.specs.Keeps.{HoldsAll, Keeps, EachStop}
use Rattle.save_disk.proofs.Events.{one_write}
use Rattle.save_disk.proofs.Kept.{synced_keeps}
use Rattle.save_disk.proofs.Commits.{held_leaves, stops-map}
use Rattle.container_header.proofs.HeaderRead.{reading-ok}
use Rattle.part_store.specs.declared.part.Part.{Part}
use Rattle.container.specs.Parts.{part_at}
use Rattle.container.specs.Containers.{IsOpenOf}
use Rattle.container.specs.ImageCells.{AreImageCells}
use Rattle.container.proofs.ImageLemmas.{IsOne, is_first, is_second, one_of}
use Rattle.live_image.specs.Live.{live_places}
use Rattle.live_image.specs.Same.{SameLive, SameBlock}
use Rattle.live_image.specs.StopRows.{OpensAtEachStop, IsLiveAfterTwoStops, HasCellsAtEachStop, LosesATableByte}
use Rattle.live_image.proofs.ImageLemmas.{table_live, live_same}
use Rattle.live_image.proofs.ContainerLemmas.{open_same, cells_stay}
use Rattle.live_image.proofs.StopLemmas.{stop_agrees, commit_opens}

-- on a disk to which nothing happened the live places are kept
fresh : (grain : ℕ) (image : List ℕ) → Keeps (live_places image) image grain image []
fresh grain image = synced_keeps (live_places image) grain image [] (λ s b has. absurd has) (λ s b has. has)

module _ (grain : ℕ) (some : 1 ≤ grain) where
  pub opens_at_each_stop : OpensAtEachStop grain
  opens_at_each_stop sign image sector bytes first old holds new =
      commit_opens image grain image [] some (fresh grain image) (Write sector bytes ∷ []) 0 first
      (one_write (HoldsAll (live_places image) grain image) sector bytes holds) sign old new

  -- after one write that holds the live bytes
  after_write : (image left : List ℕ) (sector : ℕ) (bytes : List ℕ)
      → HoldsAll (live_places image) grain image sector bytes
      → CrashMayLeave grain image (Write sector bytes ∷ []) left → SameLive image left
  after_write image left sector bytes holds leaves = stop_agrees image grain image
      (Write sector bytes ∷ []) some keeps left leaves
    where
      keeps : Keeps (live_places image) image grain image (Write sector bytes ∷ [])
      keeps = record {
        size = refl;
        synced = λ x inside live. refl;
        since = one_write (HoldsAll (live_places image) grain image) sector bytes holds;
      }

  pub live_after_two_stops : IsLiveAfterTwoStops grain
  live_after_two_stops image left last sector other bytes more holds leaves again ends =
      let first = after_write image left sector bytes holds leaves in
      let second = after_write left last other more again ends in
      record {
        size = second.size ∙ first.size;
        live = λ x inside live.
            second.live x (rw first.size inside) (live_same image left first x ∙ live) ∙ first.live x inside live;
      }

  pub has_cells_at_each_stop : HasCellsAtEachStop grain
  has_cells_at_each_stop sign image container sector bytes cells opened first second holds are =
      stops-map (SameLive image)
      (λ left. IsOpenOf sign left container × AreImageCells left container.header container.parts cells)
      grain image [] (Write sector bytes ∷ [])
      (λ left same. (
        open_same image left same sign container opened,
        cells_stay image left same sign container opened (internal left) cells are,
      ))
      stops
    where
      stops : EachStop (SameLive image) grain image [] (Write sector bytes ∷ [])
      stops moment fits left leaves = record {
        size = leaves.size;
        live = held_leaves (live_places image) image grain image [] (Write sector bytes ∷ []) some (fresh grain image)
            (one_write (HoldsAll (live_places image) grain image) sector bytes holds) moment fits left leaves;
      }

      no_external : (left : List ℕ) (number : ℕ) (part : Part) → IsOne container.parts number part
          → part.difi.external ≡ true
          → (block : ℕ) → SameBlock image left container.header number part.difi block
      no_external left number part (is_first zeroth same) external block =
          absurd (let none = rw same at first in let both = sym none ∙ external in cc)
      no_external left number part (is_second one same) external block =
          absurd (let none : IfSome (Some part) (λ part. part.difi.external ≡ false) = rw same at second in
          let both = sym none ∙ external in cc)

      internal : (left : List ℕ) (number : ℕ) (part : Part) → part_at container.parts number ≡ Some part
          → part.difi.external ≡ true
          → (block : ℕ) → SameBlock image left container.header number part.difi block
      internal left number part there external block =
          no_external left number part (one_of container.parts number part there) external block

  pub loses_a_table_byte : LosesATableByte grain
  loses_a_table_byte image header sector offset bytes is begin end short differs holds =
      let place : ℕ = sector * grain + offset in
      let sound = (reading-ok image header is).sound in
      let back : sector * grain + offset - sector * grain ≡ offset = omega arith in
      let held = holds (sector * grain + offset) (omega (arith, end, sound.active_inside.ends))
      (table_live image header is (sector * grain + offset) begin end) (omega arith) (omega (arith, short)) in
      differs (rw back at held)

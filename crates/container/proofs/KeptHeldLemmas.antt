-- Copies that are spared are those of the image that was opened.
use Rattle.std.proofs.Common.{◌≡◌, ℕ, ◌+◌, ◌^◌, ◌<◌, false, IsTrue, List, length, slice_index, Option, Some, None}
use Rattle.std.proofs.Common.{IfSome, refl, sym, ◌∙◌, ap, arith}
use Rattle.save_bytes.specs.Cells.{Byte}
use Rattle.save_bytes.specs.CellNumbers.{value_of}
use Rattle.save_bytes.specs.State.{State}
use Rattle.save_disk.specs.State as disks
use Rattle.difi.specs.declared.descriptor.Difi.{Difi}
use Rattle.dpfs_tree.specs.Picks.{bytes_of, chosen}
use Rattle.page_image.specs.Images.{image_state, byte_of}
use Rattle.page_image.specs.Laws.{image_size_fits}
use Rattle.part_store.specs.declared.part.Part.{Part}
use Rattle.part_store.specs.Parts.{CanViewPart}
use Rattle.part_store.specs.PartLaws.{contents_there}
use Rattle.part_store.specs.Spots.{SamePart}
use Rattle.container.specs.declared.open.Container.{Container}
use Rattle.container.specs.Parts.{SameSecond, IsUntouched, HaveNoExternal}
use Rattle.container.specs.StoreHeld.{SameContainer, store_of}
use Rattle.container.specs.StoreLaws.{first_view, second_view}
use Rattle.container.specs.ImageCells.{IsHeld}
use Rattle.container.specs.Origins.{IsPartSpared, AreSpared}
use Rattle.container.specs.Aborts.{IsPartHeld, AreHeld, chosen_in, contents_held}
use Rattle.container.proofs.SpareLemmas.{IsChosen, chosen_spared}
use Rattle.container.proofs.TakenLemmas.{taken_fits, chosen_within}

module _ (image : List ℕ) (disk : disks.State) (c : Container) where
  abbrev base : State
  base = image_state disk c.image

  small : base.shape.size < 2 ^ 64
  small = image_size_fits disk c.image

  part_begins : IsHeld image disk c.image → (part : Part) → CanViewPart base.shape part (length c.table.items)
      → IsUntouched part → IsPartSpared (chosen_in image (Some part)) disk c part
  part_begins held part view untouched x below =
      let tree = contents_there base part (length c.table.items) small view in
      let fits = taken_fits base.shape part part.dpfs.selector tree in
      let same : (place : ℕ) → IsChosen (bytes_of base.cells) part place
      → slice_index image place ≡ bytes_of base.cells place =
      λ place chosen.
      (let there = chosen_within base.shape part part.dpfs.selector tree (bytes_of base.cells) place chosen in
      sym (held place (omega (arith, there.1, fits)))) in
      ap Byte
      (sym (chosen_spared base small c.table.items part view (λ y. slice_index image y) same x below)
      ∙ ap (λ (selector : ℕ). chosen (λ y. slice_index image y) part.at part.difi selector x)
      untouched.contents.selector)

  second_begins : IsHeld image disk c.image → (second : Option Part)
      → ((part : Part) → second ≡ Some part → CanViewPart base.shape part (length c.table.items))
      → IfSome second IsUntouched → IfSome second (IsPartSpared (chosen_in image second) disk c)
  second_begins held None view untouched = tt
  second_begins held (Some part) view untouched = part_begins held part (view part refl) untouched

  pub held_begins : IsTrue (store_of disk c).shape.sound → IsHeld image disk c.image → IsUntouched c.parts.first
      → IfSome c.parts.second IsUntouched → AreSpared (contents_held image c) disk c
  held_begins sound held first second = record {
    first = part_begins held c.parts.first (first_view base c.parts.first c.table.items c.parts.second sound) first;
    second = second_begins held c.parts.second
        (λ part is. second_view base c.parts.first c.table.items c.parts.second part is sound) second;
  }

  -- without external level four each byte of the contents is one of level 3
  part_ends : (was part : Part) → SamePart was part → IsUntouched was → part.difi.external ≡ false
      → IsPartSpared (chosen_in image (Some was)) disk c part → IsPartHeld image disk c part
  part_ends was part same untouched none spared x inside =
      let there : x < part.difi.dpfs3.size + 0 = rw none at inside in
      let selects : part.dpfs.selector ≡ part.difi.selector =
      same.selector ∙ untouched.contents.selector ∙ sym (ap (λ (difi : Difi). difi.selector) same.descriptor) in
      ap (λ (selector : ℕ). chosen (byte_of disk c.image) part.at part.difi selector x) (sym selects)
      ∙ ap value_of (spared x (omega (arith, there)))
      ∙ rw (same.place, same.descriptor) refl

  second_ends : (was second : Option Part) → SameSecond SamePart was second → IfSome was IsUntouched
      → IfSome second (λ part. part.difi.external ≡ false)
      → IfSome second (IsPartSpared (chosen_in image was) disk c) → IfSome second (IsPartHeld image disk c)
  second_ends None None same untouched none spared = tt
  second_ends (Some was) (Some part) same untouched none spared = part_ends was part same untouched none spared
  second_ends None (Some part) same untouched none spared = absurd same
  second_ends (Some was) None same untouched none spared = tt

  pub held_ends : (was : Container) → SameContainer was c → IsUntouched was.parts.first
      → IfSome was.parts.second IsUntouched → HaveNoExternal c.parts → AreSpared (contents_held image was) disk c
      → AreHeld image disk c
  held_ends was same first second none spared = record {
    first = part_ends was.parts.first c.parts.first same.first first none.first spared.first;
    second = second_ends was.parts.second c.parts.second same.second second none.second spared.second;
  }

-- Parts of which nothing was changed came from what they hold.
use Rattle.std.proofs.Common.{◌≡◌, ℕ, ◌+◌, ◌<◌, false, List, Option, Some, None, IfSome, sym, ap, arith}
use Rattle.save_bytes.specs.Cells.{Cell, Byte}
use Rattle.save_bytes.specs.State.{State}
use Rattle.save_disk.specs.State as disks
use Rattle.container_header.specs.declared.header.Header.{Header}
use Rattle.dpfs_tree.specs.Picks.{bytes_of}
use Rattle.dpfs_tree.proofs.PickLemmas.{place_of-chosen}
use Rattle.ivfc_tree.specs.Marks.{is_marked}
use Rattle.ivfc_tree.proofs.OriginLemmas.{CameFrom-none}
use Rattle.page_image.specs.Images.{image_state}
use Rattle.part_store.specs.declared.part.Part.{Part}
use Rattle.part_store.specs.Parts.{contents_of, master_of}
use Rattle.part_store.specs.Ends.{chosen_cells}
use Rattle.container.specs.declared.open.Container.{Container}
use Rattle.container.specs.Parts.{IsUntouched, IsPartRead, HaveNoExternal}
use Rattle.container.specs.Origins.{HasCome, HaveCome, IsPartSpared, AreSpared}
use Rattle.container.specs.Aborts.{IsPartBack, HaveOrigins, read_of, contents_now, AreAtOrigin}

module _ (disk : disks.State) (c : Container) where
  abbrev base : State
  base = image_state disk c.image

  came_itself : (part : Part) → IsUntouched part → HasCome (read_of base (Some part)) c.table.items disk c part
  came_itself part untouched =
      CameFrom-none part.difi (is_marked part.ivfc) (contents_of base part).cells (master_of c.table.items part.difi)
      untouched.hashes

  -- what is read is what the selector chooses
  chosen_itself : (part : Part) → IsUntouched part → (x : ℕ)
      → chosen_cells base part part.dpfs.selector x ≡ read_of base (Some part) x
  chosen_itself part untouched x =
      ap Byte (sym (place_of-chosen (bytes_of base.cells) part.at part.difi part.dpfs x untouched.contents.unmarked))

  back_itself : (part : Part) → IsUntouched part → IsPartBack disk c (read_of base (Some part)) part
  back_itself part untouched x inside free = chosen_itself part untouched x

  second_came : (second : Option Part) → IfSome second IsUntouched
      → IfSome second (HasCome (read_of base second) c.table.items disk c)
  second_came None untouched = tt
  second_came (Some part) untouched = came_itself part untouched

  second_back : (second : Option Part) → IfSome second IsUntouched
      → IfSome second (IsPartBack disk c (read_of base second))
  second_back None untouched = tt
  second_back (Some part) untouched = back_itself part untouched

  second_chosen : (second : Option Part) → IfSome second IsUntouched
      → IfSome second (IsPartSpared (read_of base second) disk c)
  second_chosen None untouched = tt
  second_chosen (Some part) untouched = λ x below. chosen_itself part untouched x

  pub untouched_spared : IsUntouched c.parts.first → IfSome c.parts.second IsUntouched
      → AreSpared (contents_now disk c) disk c
  untouched_spared first second = record {
    first = λ x below. chosen_itself c.parts.first first x;
    second = second_chosen c.parts.second second;
  }

  -- without external level four all contents lie in level 3
  spared_back : (was : ℕ → Cell) (part : Part) → part.difi.external ≡ false → IsPartSpared was disk c part
      → IsPartBack disk c was part
  spared_back was part none spared x inside free =
      let there : x < part.difi.dpfs3.size + 0 = rw none at inside in
      spared x (omega (arith, there))

  second_spared : (was : ℕ → Cell) (second : Option Part) → IfSome second (λ part. part.difi.external ≡ false)
      → IfSome second (IsPartSpared was disk c) → IfSome second (IsPartBack disk c was)
  second_spared was None none spared = tt
  second_spared was (Some part) none spared = spared_back was part none spared

  pub spared_origin : (was : ℕ → ℕ → Cell) → HaveNoExternal c.parts → HaveCome was c.table.items disk c
      → AreSpared was disk c → HaveOrigins was disk c
  spared_origin was none came spared = record {
    came = came;
    first = spared_back (was 0) c.parts.first none.first spared.first;
    second = second_spared (was 1) c.parts.second none.second spared.second;
  }

  pub untouched_origin : IsUntouched c.parts.first → IfSome c.parts.second IsUntouched → AreAtOrigin disk c
  untouched_origin first second = record {
    came = record { first = came_itself c.parts.first first; second = second_came c.parts.second second };
    first = back_itself c.parts.first first;
    second = second_back c.parts.second second;
  }

-- parts that were just read are so
pub second_untouched : (table : List ℕ) (header : Header) (second : Option Part)
    → IfSome second (IsPartRead table header 1) → IfSome second IsUntouched
second_untouched table header None read = tt
second_untouched table header (Some part) read = read.untouched

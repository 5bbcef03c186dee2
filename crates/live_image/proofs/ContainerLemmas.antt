-- A container that was opened over an image is open over one that agrees on the live places.
use Rattle.std.proofs.Common.{◌≡◌, ℕ, ◌+◌, ◌/◌, ◌<◌, true, false, List, Option, Some, None, IfSome, refl, sym, ◌∙◌}
use Rattle.std.proofs.Common.{ap, subst, arith}
use Rattle.std.proofs.lemmas.Bool.{cases_Bool}
use Rattle.std.proofs.Common.{⊎_elim}
use Rattle.save_bytes.specs.Cells.{Cell}
use Rattle.container.specs.Signers.{Signing}
use Rattle.difi.specs.Places.{block_size}
use Rattle.part_store.specs.declared.part.Part.{Part}
use Rattle.container.specs.declared.open.Container.{Container}
use Rattle.container.specs.Parts.{part_at, part_count, IsPartRead}
use Rattle.container.specs.Containers.{IsOpenOf}
use Rattle.container.specs.ImageCells.{cell_at, AreImageCells}
use Rattle.live_image.specs.Same.{SameLive, HasPart, SameBlock}
use Rattle.live_image.proofs.ImageLemmas.{header_same, table_same}
use Rattle.live_image.proofs.OpeningLemmas.{opens_same}
use Rattle.live_image.proofs.CellLemmas.{internal_cell_same, external_cell_same}

module _ (image other : List ℕ) (same : SameLive image other) (sign : Signing) (container : Container)
    (opened : IsOpenOf sign image container) where
  pub open_same : IsOpenOf sign other container
  open_same = record {
    opens = (opens_same image other same sign).0 opened.opens;
    header = header_same image other same ∙ opened.header;
    table = opened.table ∙ sym (table_same image other same container.header opened.header);
    parts = opened.parts;
  }

  part_of : (number : ℕ) (part : Part) → number < container.header.parts
      → IsPartRead container.table.items container.header number part
      → HasPart image container.header number part.difi
  part_of number part counted read = record {
    header_is = opened.header;
    counted = counted;
    described = rw opened.table at read.descriptor;
  }

  module _ (external : (number : ℕ) (part : Part) → part_at container.parts number ≡ Some part
      → part.difi.external ≡ true
      → (block : ℕ) → SameBlock image other container.header number part.difi block) where
    cell_stays : (number : ℕ) (part : Part) → part_at container.parts number ≡ Some part
        → number < container.header.parts
        → IsPartRead container.table.items container.header number part → (x : ℕ) → x < part.difi.ivfc4.size
        → cell_at other container.header number part.difi x ≡ cell_at image container.header number part.difi x
    cell_stays number part there counted read x inside =
        let has = part_of number part counted read in
        ⊎_elim
        (λ (outer : part.difi.external ≡ true).
        external_cell_same image other same container.header number part.difi has outer (x / block_size part.difi.ivfc4)
        (external number part there outer (x / block_size part.difi.ivfc4)) x inside refl)
        (λ (inner : part.difi.external ≡ false).
        internal_cell_same image other same container.header number part.difi has inner x inside)
        (cases_Bool part.difi.external)

    second_stays : (cells : ℕ → Cell) (second : Option Part) → container.parts.second ≡ second
        → IfSome second (IsPartRead container.table.items container.header 1)
        → IfSome second (λ part. (x : ℕ) → x < part.difi.ivfc4.size
        → cells (container.parts.first.difi.ivfc4.size + x) ≡ cell_at image container.header 1 part.difi x)
        → IfSome second (λ part. (x : ℕ) → x < part.difi.ivfc4.size
        → cells (container.parts.first.difi.ivfc4.size + x) ≡ cell_at other container.header 1 part.difi x)
    second_stays cells None is read are = tt
    second_stays cells (Some part) is read are =
        let two : 2 ≡ container.header.parts = ap part_count (sym is) ∙ opened.parts.count in
        λ x inside. are x inside ∙ sym (cell_stays 1 part is (omega (arith, two)) read x inside)

    pub cells_stay : (cells : ℕ → Cell) → AreImageCells image container.header container.parts cells
        → AreImageCells other container.header container.parts cells
    cells_stay cells are = record {
      first = λ x inside.
          are.first x inside ∙ sym (cell_stays 0 container.parts.first refl one opened.parts.first x inside);
      second = second_stays cells container.parts.second refl opened.parts.second are.second;
    }
      where
        some : (second : Option Part) → 0 < part_count second
        some None = omega arith
        some (Some part) = omega arith

        one : 0 < container.header.parts
        one = subst (λ (n : ℕ). 0 < n) opened.parts.count (some container.parts.second)

-- The cells and the marks of a view after bytes were put into its base.
use Rattle.std.proofs.Common.{◌≡◌, ◌≢◌, ℕ, ◌+◌, ◌-◌, ◌*◌, ◌/◌, ◌^◌, ◌<◌, ◌≤◌, Bool, true}
use Rattle.std.proofs.Common.{false, List, length, get_or, refl, sym, ◌∙◌, ap, subst, arith, ⊎_elim, if◌then◌else◌}
use Rattle.std.proofs.lemmas.Bool.{cases_lt, cases_eq}
use Rattle.std.proofs.lemmas.Nat.{same_from_place}
use Rattle.save_bytes.specs.Cells.{Cell, Byte, AreBytesAt}
use Rattle.save_bytes.specs.State.{Shape}
use Rattle.save_bytes.specs.Spots.{Spot, Mark, Frame}
use Rattle.difi.specs.declared.descriptor.Difi.{Difi}
use Rattle.difi.specs.Contents.{view_size}
use Rattle.save_bytes.specs.Writes.{IsWithin}
use Rattle.dpfs_tree.specs.declared.state.DpfsState.{DpfsState}
use Rattle.dpfs_tree.specs.declared.blocks.BlockCopies.{BlockCopies}
use Rattle.dpfs_tree.specs.Picks.{bytes_of, bit_of, copy_place, pick2, external_place}
use Rattle.dpfs_tree.specs.Marks.{is_marked, copy_read, place_by, place_of}
use Rattle.dpfs_tree.specs.Copies.{IsFilled}
use Rattle.dpfs_tree.specs.View.{HasContents}
use Rattle.dpfs_tree.specs.Held.{MarksSpot, SameState}
use Rattle.dpfs_tree.specs.Puts.{AreCopiesAt, IsMarked, MarksOnly, IsPut}
use Rattle.dpfs_tree.specs.SameLaws.{SameUpper, in_copy, bit_of-lt, copy_read-lt, behind_level3, place_by-upper}
use Rattle.dpfs_tree.specs.SameLaws.{place_by-inside}
use Rattle.dpfs_tree.proofs.CopyLemmas.{StaysBut}
use Rattle.dpfs_tree.proofs.SameLemmas.{same_state}
use Rattle.dpfs_tree.proofs.BlockLemmas.{place_in_block, place_behind, begin, at_is, ends, in_block, of_block}

-- where a state stays, so do its marks
pub marks_same : (difi : Difi) (at n : ℕ) (state : DpfsState) → MarksOnly difi at n state state
marks_same difi at n state =
    record { marks = refl; selector = refl; spots = λ spot missed. same_state spot state state refl }

-- the mark of the block of a place is the only one that changes
marked_spots : (difi : Difi) (at : ℕ) (old new : DpfsState) (spot : Spot) → IsMarked (at / 2 ^ difi.dpfs3.log) old new
    → at < difi.dpfs3.size → ¬ MarksSpot difi at spot → SameState spot old new
marked_spots difi at old new (Mark part level block) marked below missed =
    λ here. marked.others block (λ is. missed (below, here, is))
marked_spots difi at old new Frame marked below missed = absurd (missed below)
marked_spots difi at old new spot marked below missed = tt

pub marks_block : (difi : Difi) (at n : ℕ) (old new : DpfsState) → 1 ≤ n → at < difi.dpfs3.size
    → IsMarked (at / 2 ^ difi.dpfs3.log) old new
    → MarksOnly difi at n old new
marks_block difi at n old new some below marked = record {
  marks = marked.marks;
  selector = marked.selector;
  spots = λ spot missed.
      (let place : at + 0 ≡ at = omega arith in
      marked_spots difi at old new spot marked below
      (subst (λ (x : ℕ). ¬ MarksSpot difi x spot) place (missed 0 (omega (arith, some)))));
}

module _ (base : Shape) (part_at : ℕ) (difi : Difi) (was : DpfsState)
    (tree : HasContents base part_at difi was.selector)
    (old new : ℕ → Cell) (upper : SameUpper part_at difi was.selector (bytes_of old) (bytes_of new)) where
  -- the place of a byte later, by what the base was
  later_place : (now : DpfsState) (x : ℕ) → now.selector ≡ was.selector
      → place_of (bytes_of new) part_at difi now x ≡ place_by (bytes_of old) part_at difi was.selector
      (is_marked now.touched.items) x
  later_place now x same =
      rw same (place_by-upper base part_at difi was.selector tree (bytes_of old) (bytes_of new) upper
      (is_marked now.touched.items) x)

  module _ (at : ℕ) (bytes : List ℕ) where
    -- bytes were put behind level 3
    module _ (behind : difi.dpfs3.size ≤ at) (inside : at + length bytes ≤ view_size difi)
        (put : AreBytesAt new (external_place part_at difi at) bytes)
        (stays : StaysBut base.size (external_place part_at difi at) (length bytes) old new) where
      behind_range : (k : ℕ) → k < length bytes → new (place_of (bytes_of new) part_at difi was (at + k))
          ≡ Byte (get_or bytes k 0)
      behind_range k less =
          let there : external_place part_at difi (at + k) ≡ external_place part_at difi at + k =
          omega (arith, behind) in
          ap new (later_place was (at + k) refl
          ∙ place_behind base part_at difi was.selector tree (bytes_of old) (is_marked was.touched.items) (at + k)
          (omega (arith, behind)) ∙ there)
          ∙ put k less

      -- no other byte of the view lies there
      behind_apart : (x : ℕ) → x < view_size difi → ¬ IsWithin at (length bytes) x
          → ¬ IsWithin (external_place part_at difi at) (length bytes)
          (place_by (bytes_of old) part_at difi was.selector (is_marked was.touched.items) x)
      behind_apart x below out within =
          let marked = is_marked was.touched.items in
          ⊎_elim
          (λ (in_level3 : x < difi.dpfs3.size).
          let block = x / 2 ^ difi.dpfs3.log in
          let bit = bit_of (pick2 (bytes_of old) part_at difi was.selector) block in
          let read = copy_read (marked block) bit in
          let size = difi.dpfs3.size in
          let is = place_in_block base part_at difi was.selector tree (bytes_of old) marked x block in_level3 refl in
          let one = copy_read-lt (marked block) bit (bit_of-lt (pick2 (bytes_of old) part_at difi was.selector) block)
          in
          let there = in_copy difi.dpfs3.at size read (x + 1) (difi.dpfs3.at + 2 * size) one (omega (arith, in_level3))
          (omega arith) in
          let external = behind_level3 difi at behind (omega (arith, inside, within.0, within.1)) in
          (tree.external_apart external.0).2 (difi.dpfs3.at + read * size + x) (omega (arith, is, within.0))
          (omega (arith, is, within.1, inside, external.1, behind)) (omega arith) (omega (arith, there)))
          (λ (x_behind : difi.dpfs3.size ≤ x).
          let is = place_behind base part_at difi was.selector tree (bytes_of old) marked x x_behind in
          out (omega (arith, is, within.0, behind, x_behind), omega (arith, is, within.1, behind, x_behind)))
          (cases_lt x difi.dpfs3.size)

      pub put_behind : IsPut (view_size difi) (λ x. old (place_of (bytes_of old) part_at difi was x)) at bytes
          (λ x. new (place_of (bytes_of new) part_at difi was x))
      put_behind = record {
        range = behind_range;
        others = λ x below out.
            ap new (later_place was x refl)
            ∙ stays _ (place_by-inside base part_at difi was.selector tree (is_marked was.touched.items) (bytes_of old)
            x below)
            (behind_apart x below out);
      }

    -- bytes were put into the other copy of a block, and it was marked
    module _ (now : DpfsState) (copies : BlockCopies) (below : at < difi.dpfs3.size)
        (are : AreCopiesAt part_at difi.dpfs3 at
        (bit_of (pick2 (bytes_of old) part_at difi was.selector) (at / 2 ^ difi.dpfs3.log)) copies)
        (inside : copies.skipped + length bytes ≤ copies.len) (marked : IsMarked (at / 2 ^ difi.dpfs3.log) was now)
        (filled : IsFilled old copies.from copies.to copies.len copies.skipped bytes
        (is_marked was.touched.items (at / 2 ^ difi.dpfs3.log)) new)
        (stays : StaysBut base.size copies.to copies.len old new) where
      abbrev bit : ℕ
      bit = bit_of (pick2 (bytes_of old) part_at difi was.selector) (at / 2 ^ difi.dpfs3.log)

      abbrev start : ℕ
      start = begin part_at difi.dpfs3 at bit copies are below

      -- a byte of the block lies in level 3
      in_level3 : (x : ℕ) → IsWithin start copies.len x → x < difi.dpfs3.size
      in_level3 x within = omega (arith, within.1, ends part_at difi.dpfs3 at bit copies are below)

      -- a byte of the block later lies in its other copy
      block_later : (x : ℕ) → IsWithin start copies.len x → place_of (bytes_of new) part_at difi now x ≡ copies.to
          + (x - start)
      block_later x within =
          let there = place_in_block base part_at difi was.selector tree (bytes_of old) (is_marked now.touched.items) x
          (at / 2 ^ difi.dpfs3.log) (in_level3 x within)
          (in_block part_at difi.dpfs3 at bit copies are below x within.0 within.1) in
          let is : place_of (bytes_of new) part_at difi now x ≡ copy_place part_at difi.dpfs3 (1 - bit) x =
          later_place now x marked.selector ∙ there
          ∙ ap (λ (m : Bool). copy_place part_at difi.dpfs3 (copy_read m bit) x) marked.marked in
          omega (arith, is, are.to, within.0)

      -- and lay in the copy in which the block was read
      read_place : (m : Bool) (x : ℕ) → start ≤ x
          → copy_place part_at difi.dpfs3 (copy_read m bit) x ≡ (if m then copies.to else copies.from) + (x - start)
      read_place true x from = omega (arith, are.to, from)
      read_place false x from = omega (arith, are.from, from)

      block_before : (x : ℕ) → IsWithin start copies.len x → place_of (bytes_of old) part_at difi was x
          ≡ (if is_marked was.touched.items (at / 2 ^ difi.dpfs3.log) then copies.to else copies.from) + (x - start)
      block_before x within =
          place_in_block base part_at difi was.selector tree (bytes_of old) (is_marked was.touched.items) x
          (at / 2 ^ difi.dpfs3.log) (in_level3 x within)
          (in_block part_at difi.dpfs3 at bit copies are below x within.0 within.1)
          ∙ read_place (is_marked was.touched.items (at / 2 ^ difi.dpfs3.log)) x within.0

      block_range : (k : ℕ) → k < length bytes → new (place_of (bytes_of new) part_at difi now (at + k))
          ≡ Byte (get_or bytes k 0)
      block_range k less =
          let here = at_is part_at difi.dpfs3 at bit copies are below in
          let within : IsWithin start copies.len (at + k) = (omega (arith, here), omega (arith, here, less, inside)) in
          let there : copies.to + (at + k - start) ≡ copies.to + copies.skipped + k = omega (arith, here) in
          ap new (block_later (at + k) within ∙ there) ∙ filled.range k less

      block_others : (x : ℕ) → IsWithin start copies.len x → ¬ IsWithin at (length bytes) x
          → new (place_of (bytes_of new) part_at difi now x) ≡ old (place_of (bytes_of old) part_at difi was x)
      block_others x within out =
          let here = at_is part_at difi.dpfs3 at bit copies are below in
          let around = filled.around (x - start) (omega (arith, within.0, within.1))
          (λ hit. out (omega (arith, here, hit.0, within.0), omega (arith, here, hit.1, within.0))) in
          ap new (block_later x within) ∙ around ∙ sym (ap old (block_before x within))

      -- the bit that chooses the copy of a byte
      abbrev its : ℕ → ℕ
      its x = bit_of (pick2 (bytes_of old) part_at difi was.selector) (x / 2 ^ difi.dpfs3.log)

      -- a byte of another block is read where it was, and lies elsewhere
      other_place_apart : (m : ℕ → Bool) (x : ℕ) → x < difi.dpfs3.size
          → x / 2 ^ difi.dpfs3.log ≢ at / 2 ^ difi.dpfs3.log
          → ¬ IsWithin copies.to copies.len (place_by (bytes_of old) part_at difi was.selector m x)
      other_place_apart m x low other within =
          let size = difi.dpfs3.size in
          let is = place_in_block base part_at difi was.selector tree (bytes_of old) m x (x / 2 ^ difi.dpfs3.log) low
          refl in
          let y : ℕ = start + (place_by (bytes_of old) part_at difi was.selector m x - copies.to) in
          let end = ends part_at difi.dpfs3 at bit copies are below in
          let y_in : y < size = omega (arith, within.0, within.1, end) in
          let rows : copy_read (m (x / 2 ^ difi.dpfs3.log)) (its x) * size + x ≡ (1 - bit) * size + y =
          omega (arith, is, are.to, within.0) in
          let same = same_from_place (copy_read (m (x / 2 ^ difi.dpfs3.log)) (its x)) x (1 - bit) y size low y_in rows
          in
          other (in_block part_at difi.dpfs3 at bit copies are below x (omega (arith, same.1))
          (omega (arith, same.1, within.0, within.1)))

      level3_others : (x : ℕ) → x < view_size difi → x < difi.dpfs3.size
          → x / 2 ^ difi.dpfs3.log ≢ at / 2 ^ difi.dpfs3.log
          → new (place_of (bytes_of new) part_at difi now x) ≡ old (place_of (bytes_of old) part_at difi was x)
      level3_others x in_view low other =
          let before = is_marked was.touched.items in
          let mark = marked.others (x / 2 ^ difi.dpfs3.log) other in
          let later = place_in_block base part_at difi was.selector tree (bytes_of old) (is_marked now.touched.items) x
          (x / 2 ^ difi.dpfs3.log) low refl in
          let was_there = place_in_block base part_at difi was.selector tree (bytes_of old) before x
          (x / 2 ^ difi.dpfs3.log) low refl in
          let same : place_of (bytes_of new) part_at difi now x ≡ place_of (bytes_of old) part_at difi was x =
          later_place now x marked.selector ∙ later
          ∙ ap (λ (m : Bool). copy_place part_at difi.dpfs3 (copy_read m (its x)) x) mark ∙ sym was_there in
          ap new same ∙ stays _ (place_by-inside base part_at difi was.selector tree before (bytes_of old) x in_view)
          (other_place_apart before x low other)

      external_others : (x : ℕ) → x < view_size difi → difi.dpfs3.size ≤ x
          → new (place_of (bytes_of new) part_at difi now x) ≡ old (place_of (bytes_of old) part_at difi was x)
      external_others x in_view behind =
          let before = is_marked was.touched.items in
          let size = difi.dpfs3.size in
          let later = place_behind base part_at difi was.selector tree (bytes_of old) (is_marked now.touched.items) x
          behind in
          let was_there = place_behind base part_at difi was.selector tree (bytes_of old) before x behind in
          let external = behind_level3 difi x behind in_view in
          let one : 1 - bit < 2 = omega arith in
          let there = in_copy difi.dpfs3.at size (1 - bit) (start + copies.len) (difi.dpfs3.at + 2 * size) one
          (ends part_at difi.dpfs3 at bit copies are below) (omega arith) in
          ap new (later_place now x marked.selector ∙ later ∙ sym was_there)
          ∙ stays _ (place_by-inside base part_at difi was.selector tree before (bytes_of old) x in_view)
          (λ within.
          (tree.external_apart external.0).2 (difi.external_at + (x - size)) (omega arith)
          (omega (arith, in_view, external.1, behind))
          (omega (arith, was_there, are.to, within.0)) (omega (arith, was_there, are.to, within.1, there)))

      pub put_in_block : IsPut (view_size difi) (λ x. old (place_of (bytes_of old) part_at difi was x)) at bytes
          (λ x. new (place_of (bytes_of new) part_at difi now x))
      put_in_block = record {
        range = block_range;
        others = λ x in_view out.
            ⊎_elim
            (λ (in_level3 : x < difi.dpfs3.size).
            ⊎_elim
            (λ (same : x / 2 ^ difi.dpfs3.log ≡ at / 2 ^ difi.dpfs3.log).
            block_others x (of_block part_at difi.dpfs3 at bit copies are below x in_level3 same) out)
            (λ (other : x / 2 ^ difi.dpfs3.log ≢ at / 2 ^ difi.dpfs3.log). level3_others x in_view in_level3 other)
            (cases_eq (x / 2 ^ difi.dpfs3.log) (at / 2 ^ difi.dpfs3.log)))
            (λ (behind : difi.dpfs3.size ≤ x). external_others x in_view behind)
            (cases_lt x difi.dpfs3.size);
      }

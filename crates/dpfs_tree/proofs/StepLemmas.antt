-- What is left by a put into one block, or behind level 3, as a call of the base.
use Rattle.std.proofs.Common.{◌≡◌, ℕ, ◌+◌, ◌/◌, ◌^◌, ◌<◌, ◌≤◌, Bool, true, false, List, length, IsTrue, Option, Some}
use Rattle.std.proofs.Common.{None, ◌∙◌, subst, arith}
use Rattle.save_bytes.specs.declared.space.Bad.{Bad}
use Rattle.save_bytes.specs.Cells.{Cell, AreBytesAt}
use Rattle.save_bytes.specs.State.{State}
use Rattle.save_bytes.specs.Refusals.{IfDone, UnlessDisk}
use Rattle.save_bytes.specs.Spots.{Spot, Frame, Hold}
use Rattle.save_bytes.specs.Reads.{Reads}
use Rattle.save_bytes.specs.Writes.{IsWithin, Writes}
use Rattle.save_bytes.proofs.WriteLemmas.{Writes-wider, writes_after}
use Rattle.difi.specs.declared.descriptor.Difi.{Difi}
use Rattle.difi.specs.Contents.{view_size}
use Rattle.dpfs_tree.specs.declared.state.DpfsState.{DpfsState}
use Rattle.dpfs_tree.specs.declared.blocks.BlockCopies.{BlockCopies}
use Rattle.dpfs_tree.specs.Picks.{bytes_of, bit_of, pick2, external_place}
use Rattle.dpfs_tree.specs.Marks.{is_marked}
use Rattle.dpfs_tree.specs.Copies.{IsFilled}
use Rattle.dpfs_tree.specs.View.{HasContents, contents_state}
use Rattle.dpfs_tree.specs.Puts.{AreCopiesAt, WritesIn, IsMarked, IsPut, PutsInto}
use Rattle.dpfs_tree.proofs.CopyLemmas.{StaysBut}
use Rattle.dpfs_tree.proofs.BlockLemmas.{upper_stays, block_sites, can_copy_block, external_sites}
use Rattle.dpfs_tree.proofs.PutLemmas.{marks_same, marks_block, put_in_block, put_behind}

-- a block that was filled after a call that changed no cell
filled_before : (old mid new : ℕ → Cell) (size from to len skipped : ℕ) (bytes : List ℕ) (marked : Bool)
    → from + len ≤ size
    → to + len ≤ size → ((x : ℕ) → x < size → mid x ≡ old x) → IsFilled mid from to len skipped bytes marked new
    → IsFilled old from to len skipped bytes marked new
filled_before old mid new size from to len skipped bytes true from_in to_in same filled = record {
  range = filled.range;
  around = λ k less out. filled.around k less out ∙ same (to + k) (omega arith);
}
filled_before old mid new size from to len skipped bytes false from_in to_in same filled = record {
  range = filled.range;
  around = λ k less out. filled.around k less out ∙ same (from + k) (omega arith);
}

-- facts of a call that was done
IfDone-with : (refusal : Option Bad) {P Q R T : Type 0} → (P → Q → R → T) → IfDone refusal P → UnlessDisk refusal Q
    → UnlessDisk refusal R → IfDone refusal T
IfDone-with None f p q r = f p q r
IfDone-with (Some bad) f p q r = tt

module _ {A : Type 0} (states : A → State) (keeps : Spot → A → A → Type 0) (lands : A → ℕ → Spot → Type 0)
    (join : (spot : Spot) (s t u : A) → keeps spot s t → keeps spot t u → keeps spot s u)
    (hold : (s t : A) → keeps Frame s t → keeps Hold s t) (s m t : A) (part_at : ℕ) (difi : Difi) (was : DpfsState)
    (at : ℕ)
    (bytes : List ℕ) (tree : HasContents (states s).shape part_at difi was.selector) (some : 1 ≤ length bytes) where
  module _ (chosen : ℕ) (copies : BlockCopies) (below : at < difi.dpfs3.size) (one : chosen < 2)
      (are : AreCopiesAt part_at difi.dpfs3 at chosen copies)
      (bit : IsTrue (states s).told
      → chosen ≡ bit_of (pick2 (bytes_of (states s).cells) part_at difi was.selector) (at / 2 ^ difi.dpfs3.log))
      (reads : Reads states keeps lands s m None) where
    module _ (refusal : Option Bad) (writes : Writes states keeps lands (IsWithin copies.to copies.len) m t refusal)
      where
        block_whole : Writes states keeps lands (IsWithin copies.to copies.len) s t refusal
        block_whole = writes_after states keeps lands join hold (IsWithin copies.to copies.len) s m t refusal reads
            writes

        pub block_writes : Writes states keeps lands
            (WritesIn (bytes_of (states s).cells) part_at difi was.selector at (length bytes)) s t refusal
        block_writes =
            Writes-wider states keeps lands (IsWithin copies.to copies.len)
            (WritesIn (bytes_of (states s).cells) part_at difi was.selector at (length bytes)) s t refusal
            (λ told x inside within. block_sites part_at difi at chosen copies are below (bytes_of (states s).cells)
            was.selector
            (length bytes) some (omega arith) (bit told) x within) block_whole

    -- a put that was refused marks nothing
    pub block_refused : (bad : Bad) → Writes states keeps lands (IsWithin copies.to copies.len) m t (Some bad)
        → PutsInto states keeps lands part_at difi was was at bytes s t (Some bad)
    block_refused bad writes = record {
      marks = marks_same difi at (length bytes) was;
      writes = block_writes (Some bad) writes;
      put = λ told. tt;
    }

    module _ (now : DpfsState) (inside : copies.skipped + length bytes ≤ copies.len)
        (marked : IsMarked (at / 2 ^ difi.dpfs3.log) was now)
        (writes : Writes states keeps lands (IsWithin copies.to copies.len) m t None)
        (filled : IsTrue (states m).told
        → IsFilled (states m).cells copies.from copies.to copies.len copies.skipped bytes
        (is_marked was.touched.items (at / 2 ^ difi.dpfs3.log)) (states t).cells) where
      block_cells : IsTrue (states s).told
          → IsPut (view_size difi) (contents_state (states s) part_at difi was).cells at bytes
          (contents_state (states t) part_at difi now).cells
      block_cells told =
          let old = (states s).cells in
          let new = (states t).cells in
          let size = (states s).shape.size in
          let can = can_copy_block part_at difi.dpfs3 at chosen copies are below (states s).shape difi was.selector tree
          tree.level3 one in
          let upper = upper_stays (states s).shape part_at difi was.selector tree old new at (length bytes)
          ((block_writes None writes).others told) in
          let here : IsFilled old copies.from copies.to copies.len copies.skipped bytes
          (is_marked was.touched.items (at / 2 ^ difi.dpfs3.log)) new =
          filled_before old (states m).cells new size copies.from copies.to copies.len copies.skipped bytes
          (is_marked was.touched.items (at / 2 ^ difi.dpfs3.log)) can.from_inside can.to_inside (reads.stays.cells told)
          (filled (reads.stays.space.told told)) in
          put_in_block (states s).shape part_at difi was tree old new upper at bytes now copies below
          (subst (λ (c : ℕ). AreCopiesAt part_at difi.dpfs3 at c copies) (bit told) are) inside marked here
          ((block_whole None writes).others told)

      pub block_put : PutsInto states keeps lands part_at difi was now at bytes s t None
      block_put = record {
        marks = marks_block difi at (length bytes) was now some below marked;
        writes = block_writes None writes;
        put = block_cells;
      }

  module _ (refusal : Option Bad) (behind : difi.dpfs3.size ≤ at) (inside : at + length bytes ≤ view_size difi)
      (writes : Writes states keeps lands (IsWithin (external_place part_at difi at) (length bytes)) s t refusal)
      (put : IsTrue (states s).told
      → IfDone refusal (AreBytesAt (states t).cells (external_place part_at difi at) bytes)) where
    behind_writes : Writes states keeps lands
        (WritesIn (bytes_of (states s).cells) part_at difi was.selector at (length bytes)) s t refusal
    behind_writes =
        Writes-wider states keeps lands (IsWithin (external_place part_at difi at) (length bytes))
        (WritesIn (bytes_of (states s).cells) part_at difi was.selector at (length bytes)) s t refusal
        (λ told x below within. external_sites (states s).shape part_at difi was.selector tree at (length bytes) behind
        inside
        (bytes_of (states s).cells) x within) writes

    pub external_put : PutsInto states keeps lands part_at difi was was at bytes s t refusal
    external_put = record {
      marks = marks_same difi at (length bytes) was;
      writes = behind_writes;
      put = λ told.
          IfDone-with refusal
          (λ (are : AreBytesAt (states t).cells (external_place part_at difi at) bytes).
          λ (stays : StaysBut (states s).shape.size (external_place part_at difi at) (length bytes) (states s).cells
          (states t).cells).
          λ (others : (x : ℕ) → x < (states s).shape.size
          → ¬ WritesIn (bytes_of (states s).cells) part_at difi was.selector at (length bytes) x
          → (states t).cells x ≡ (states s).cells x).
          put_behind (states s).shape part_at difi was tree (states s).cells (states t).cells
          (upper_stays (states s).shape part_at difi was.selector tree (states s).cells (states t).cells at
          (length bytes) others)
          at bytes behind inside are stays)
          (put told) (writes.others told) (behind_writes.others told);
    }

-- Runs of a view, and pieces of them.
use Rattle.std.proofs.Common.{◌≡◌, ℕ, ◌+◌, ◌≤◌, min, List, length, IsTrue, Result, Ok, Err, None, sym, ◌∙◌, ap, subst}
use Rattle.std.proofs.Common.{arith}
use Rattle.std.specs.Borrow.{Bor}
use Rattle.save_bytes.specs.declared.space.Bad.{Bad}
use Rattle.save_bytes.specs.declared.space.Bad.TheVariants.{Disk, Damaged}
use Rattle.save_bytes.specs.Cells.{Cell, Byte, Blank, Spoilt, IsByte, IsUnspoilt, AreBytesAt}
use Rattle.save_bytes.specs.State.{State, Shape, IsInside}
use Rattle.save_bytes.specs.Answers.{IsPiece, IsReady}
use Rattle.save_bytes.specs.Stays.{Stays}
use Rattle.difi.specs.declared.descriptor.Difi.{Difi}
use Rattle.dpfs_tree.specs.declared.state.DpfsState.{DpfsState}
use Rattle.dpfs_tree.specs.Picks.{bytes_of}
use Rattle.difi.specs.Contents.{view_size}
use Rattle.dpfs_tree.specs.Marks.{place_of, run_of}
use Rattle.dpfs_tree.specs.View.{contents_state, IsLocated}
use Rattle.dpfs_tree.proofs.PickLemmas.{run_of-is, place_of-run}

module _ (base : State) (part_at : ℕ) (difi : Difi) (state : DpfsState) (at : ℕ) where
  -- the place of a byte with its run, cut to as many bytes as are asked for
  pub located : (most place run : ℕ) → 1 ≤ most → at + 1 ≤ view_size difi → run ≡ min (run_of difi at) most
      → place + run_of difi at ≤ base.shape.size
      → (IsTrue base.told → place ≡ place_of (bytes_of base.cells) part_at difi state at)
      → IsLocated base part_at difi state at most (Ok (place, run))
  located most place run some inside is in_base there =
      let whole = run_of-is difi at (omega (arith, inside)) in
      record {
        some = omega (arith, whole.some, is, some);
        bounded = omega (arith, is);
        longest = omega (arith, is);
        inside = omega (arith, whole.in_view, is);
        in_base = omega (arith, in_base, is);
        places = λ told k h. place_of-run (bytes_of base.cells) part_at difi state at k (omega (arith, is, h))
            ∙ ap (λ (p : ℕ). p + k) (sym (there told));
        plain = tt;
      }

  module _ (mid : State) (most place n : ℕ) (run : IsLocated base part_at difi state at most (Ok (place, n)))
      (stays : Stays base mid None) where
    same_size : mid.shape.size ≡ base.shape.size
    same_size = ap (λ (shape : Shape). shape.size) stays.space.shape

    pub run_inside : IsTrue base.shape.sound → IsInside mid.shape place 1
    run_inside sound = record {
      sound = subst (λ (shape : Shape). IsTrue shape.sound) (sym stays.space.shape) sound;
      inside =
          omega (arith, same_size, run.some, run.in_base);
    }

    view_bytes : (bytes : List ℕ) → length bytes ≤ n → (IsTrue mid.told → AreBytesAt mid.cells place bytes)
        → IsTrue base.told → AreBytesAt (contents_state base part_at difi state).cells at bytes
    view_bytes bytes bounded are told k h =
        ap base.cells (run.places told k (omega (arith, h, bounded)))
        ∙ sym (stays.cells told (place + k) (omega (arith, h, bounded, run.in_base)))
        ∙ are (stays.space.told told) k h

    -- a piece of the run in the base is one of the view
    pub view_piece : IsTrue base.shape.plain → (result : Result (Bor (List ℕ)) Bad) → IsPiece mid place n result
        → IsPiece (contents_state base part_at difi state) at most result
    view_piece plain (Ok piece) h = record {
      some = h.some;
      bounded = omega (arith, h.bounded, run.bounded);
      inside = omega (arith, h.bounded, run.inside);
      bytes = view_bytes piece.now h.bounded h.bytes;
      damaged = λ told. tt;
      plain = λ plain. tt;
    }
    view_piece plain (Err Disk) h =
        record { some = tt; bounded = tt; inside = tt; bytes = λ told. tt; damaged = λ told. tt; plain = λ plain. tt }
    view_piece plain (Err (Damaged part level block)) h =
        absurd (h.plain (subst (λ (shape : Shape). IsTrue shape.plain) (sym stays.space.shape) plain))

byte_unspoilt : (cell : Cell) → IsByte cell → IsUnspoilt cell
byte_unspoilt (Byte value) byte = tt
byte_unspoilt (Blank part level block) byte = absurd byte
byte_unspoilt (Spoilt part level block) byte = absurd byte

-- where all cells are bytes, none is spoilt
pub bytes_ready : (s : State) (at n : ℕ) → (IsTrue s.told → (x : ℕ) → IsByte (s.cells x)) → IsReady s at n None
bytes_ready s at n bytes = record {
  done = λ told k h. byte_unspoilt (s.cells (at + k)) (bytes told (at + k));
  damaged = λ told. tt;
  plain = λ plain. tt;
}

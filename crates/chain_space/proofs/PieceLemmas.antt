-- A piece of the base, as one of the view.
use Rattle.std.proofs.Common.{◌≡◌, ℕ, ◌+◌, ◌<◌, ◌≤◌, List, length, IsTrue, Result, Ok, Err, None, sym, ◌∙◌, ap, subst}
use Rattle.std.proofs.Common.{arith}
use Rattle.std.proofs.lemmas.Bool.{and_parts}
use Rattle.std.specs.Borrow.{Bor}
use Rattle.save_bytes.specs.declared.space.Bad.{Bad}
use Rattle.save_bytes.specs.declared.space.Bad.TheVariants.{Disk, Damaged}
use Rattle.save_bytes.specs.Cells.{Cell, AreBytesAt, Blames}
use Rattle.save_bytes.specs.State.{State, Shape}
use Rattle.save_bytes.specs.Answers.{IsPiece}
use Rattle.save_bytes.specs.Stays.{Stays}
use Rattle.chain_nodes.specs.declared.info.ChainInfo.{ChainInfo}
use Rattle.chain_space.specs.Shown.{is_shown, shown_state, IsLocatedRun}

module _ (base mid : State) (info : ChainInfo) (first blocks at most place n : ℕ)
    (run : IsLocatedRun base info first blocks at most (Ok (place, n))) (stays : Stays base mid None) where
  told_below : IsTrue (shown_state info first blocks base).told → IsTrue base.told
  told_below told = let parts = and_parts base.told (is_shown base info first blocks) told in parts.0

  told_mid : IsTrue (shown_state info first blocks base).told → IsTrue mid.told
  told_mid told = stays.space.told (told_below told)

  -- a cell of the run
  run_cell : IsTrue (shown_state info first blocks base).told → (k : ℕ) → k < n
      → (shown_state info first blocks base).cells (at + k) ≡ mid.cells (place + k)
  run_cell told k less =
      ap base.cells (run.places told k less) ∙ sym (stays.cells (told_below told) (place + k) (omega
      (arith, less, run.in_base)))

  view_bytes : (bytes : List ℕ) → length bytes ≤ n → (IsTrue mid.told → AreBytesAt mid.cells place bytes)
      → IsTrue (shown_state info first blocks base).told
      → AreBytesAt (shown_state info first blocks base).cells at bytes
  view_bytes bytes bounded are told k less = run_cell told k (omega (arith, less, bounded)) ∙ are (told_mid told) k less

  first_cell : IsTrue (shown_state info first blocks base).told
      → (shown_state info first blocks base).cells at ≡ mid.cells place
  first_cell told =
      let here : at + 0 ≡ at = omega arith in
      let there : place + 0 ≡ place = omega arith in
      sym (ap (shown_state info first blocks base).cells here) ∙ run_cell told 0 (omega
      (arith, run.some)) ∙ ap mid.cells there

  pub view_piece : (result : Result (Bor (List ℕ)) Bad) → IsPiece mid place n result
      → IsPiece (shown_state info first blocks base) at most result
  view_piece (Ok piece) h = record {
    some = h.some;
    bounded = omega (arith, h.bounded, run.bounded);
    inside = omega (arith, h.bounded, run.inside);
    bytes = view_bytes piece.now h.bounded h.bytes;
    damaged = λ told. tt;
    plain = λ plain. tt;
  }
  view_piece (Err Disk) h = record {
    some = tt;
    bounded = tt;
    inside = tt;
    bytes = λ told. tt;
    damaged = λ told. tt;
    plain = λ plain. tt;
  }
  view_piece (Err (Damaged part level block)) h = record {
    some = tt;
    bounded = tt;
    inside = tt;
    bytes = λ told. tt;
    damaged = λ told. subst (λ (cell : Cell). Blames cell part level block) (sym (first_cell told)) (h.damaged
        (told_mid told));
    plain = λ plain. h.plain (subst (λ (shape : Shape). IsTrue shape.plain) (sym stays.space.shape) plain);
  }

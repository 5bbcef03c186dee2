-- Zero bytes behind zero bytes, and blocks that may be written.
use Rattle.std.proofs.Common.{◌≡◌, ℕ, ◌+◌, ◌-◌, ◌<◌, ◌≤◌, Option, Some, None, Result, Ok, Err, MatchResult, sym, ◌∙◌}
use Rattle.std.proofs.Common.{ap, arith, ⊎_elim}
use Rattle.std.proofs.lemmas.Bool.{cases_lt}
use Rattle.std.specs.Result.{result_err}
use Rattle.save_bytes.specs.declared.space.Bad.{Bad}
use Rattle.save_bytes.specs.Refusals.{IfDone}
use Rattle.save_bytes.specs.Cells.{Cell, Byte}
use Rattle.save_bytes.specs.Writes.{IsWithin}
use Rattle.ivfc_tree.specs.declared.state.IvfcState.{IvfcState}
use Rattle.ivfc_tree.specs.Marks.{is_put, is_marked, MarksBlock}
use Rattle.ivfc_tree.specs.Eases.{MarksOne}

pub zeros_more : (mid new : ℕ → Cell) (size at done part n : ℕ) → at + n ≤ size → done + part ≤ n
    → ((k : ℕ) → k < done → mid (at + k) ≡ Byte 0) → ((x : ℕ) → x < size → ¬ IsWithin (at + done) part x → new x ≡ mid
    x)
    → ((k : ℕ) → k < part → new (at + done + k) ≡ Byte 0) → (k : ℕ) → k < done + part → new (at + k) ≡ Byte 0
zeros_more mid new size at done part n inside fits before others step k less =
    ⊎_elim
    (λ (front : k < done). others (at + k) (omega (arith, front)) (λ within. omega (arith, within.0, front)) ∙ before
    k front)
    (λ (behind : done ≤ k).
    (let place : at + done + (k - done) ≡ at + k = omega (arith, behind) in
    ap new (sym place) ∙ step (k - done) (omega (arith, behind, less))))
    (cases_lt k done)

-- a block was marked
pub marks_one : (level block : ℕ) (old new : IvfcState) → MarksBlock level block old new → MarksOne level block
    (is_marked old) (is_marked new)
marks_one level block old new marks = record {
  here = ap is_put marks.0.here;
  others = λ l b other. ap is_put (marks.0.others l b other);
}

-- what two facts of a call that was done give
pub done_both : (refusal : Option Bad) {P Q R : Type 0} → (P → Q → R) → IfDone refusal P → IfDone refusal Q → IfDone
    refusal R
done_both None f p q = f p q
done_both (Some bad) f p q = tt

-- what a call that was done leaves
pub done_of : (P : Type 0) (Q : Bad → Type 0) (result : Result (Unit {0}) Bad) → MatchResult result (λ done. P) Q
    → IfDone (result_err result) P
done_of P Q (Ok done) h = h
done_of P Q (Err bad) h = tt

use Rattle.std.proofs.Common.{◌≡◌, ◌*◌, ◌^◌, ◌-◌, ◌<◌, ◌≤◌, ℕ, length, sym, ◌∙◌, ap, arith, ⊎_elim}
use Rattle.std.proofs.lemmas.Bool.{cases_lt}
use Rattle.dpfs_tree.specs.Marks.{is_marked, some_marked}
use Rattle.dpfs_tree.proofs.MarkLemmas.{some_marked-past}
use Rattle.dpfs_tree.proofs.state.DpfsState.has_mark.Goals as goal

pub returns : goal.returns
returns c =
    let touched = c.args.self.now.touched.items in
    let bits = c.args.bits in
    let from : ℕ = bits * c.args.block in
    ⊎_elim
    (λ (fits : from < 2 ^ 64 - 1).
    let same : c.saturating_mul.result ≡ from = omega (arith, fits, c.saturating_mul.ensures) in
    c.some_touched.ensures ∙ ap (λ (n : ℕ). some_marked (is_marked touched) n bits) same)
    (λ (past : 2 ^ 64 - 1 ≤ from).
    let len : length touched ≤ 2 ^ 64 - 1 = grind arith in
    c.some_touched.ensures
    ∙ some_marked-past touched c.saturating_mul.result bits (omega (arith, past, c.saturating_mul.ensures, len))
    ∙ sym (some_marked-past touched from bits (omega (arith, past, len))))
    (cases_lt from (2 ^ 64 - 1))

use Rattle.std.proofs.Common.{◌≡◌, ◌+◌, ◌-◌, true, sym, ap, arith, ◌∙◌, ⊎_elim, ◌≤◌, ◌<◌, length}
use Rattle.std.proofs.lemmas.Bool.{cases_lt}
use Rattle.std.proofs.lemmas.List.{get_or_past}
use Rattle.dpfs_tree.specs.Marks.{is_marked}
use Rattle.dpfs_tree.proofs.MarkLemmas.{some_marked-one, some_marked-none}
use Rattle.dpfs_tree.proofs.state.DpfsState.some_touched.Goals as goal

pub returns-then-touched : goal.returns-then-touched
returns-then-touched c =
    let marks = is_marked c.args.self.now.touched.items in
    let block = c.loop-block.block in
    let from = c.args.from in
    let place : from + (block - from) ≡ block = omega (arith, c.loop-block.auto.block) in
    let set : marks (from + (block - from)) ≡ true = ap marks place ∙ sym c.touched.ensures ∙ c.if-touched.true in
    sym (some_marked-one marks from c.args.n (block - from)
    (omega (arith, c.loop-block.auto.block, c.loop-block-test.true, c.min-end.ensures, c.saturating_add.ensures)) set)

pub returns : goal.returns
returns c =
    let touched = c.args.self.now.touched.items in
    let from = c.args.from in
    sym (some_marked-none (is_marked touched) from c.args.n
    (λ j less.
    ⊎_elim
    (λ (below : from + j < length touched).
    c.loop-block.invariant (from + j) (omega arith)
    (omega (
      arith,
      below,
      less,
      c.loop-block-test.false,
      c.min-end.ensures,
      c.saturating_add.ensures,
      c.len.ensures,
      c.len.type_inv,
    )))
    (λ (past : length touched ≤ from + j). get_or_past touched (from + j) _ past)
    (cases_lt (from + j) (length touched))))

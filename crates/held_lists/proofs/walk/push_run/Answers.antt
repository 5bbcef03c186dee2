use Rattle.std.proofs.Common.{arith, ◌∙◌, ◌<◌, ℕ, subst, sym}
use Rattle.std.specs.List.{All}
use Rattle.std.proofs.lemmas.List.Elements.{All-push}
use Rattle.held_lists.proofs.RunLemmas.{added_one}
use Rattle.held_lists.proofs.walk.push_run.Goals as goal

pub loop-number-preserved : goal.loop-number-preserved
loop-number-preserved c =
    let before = c.loop-number.invariant in
    record {
      from = omega (arith, before.from);
      end = before.end;
      up_to = omega (arith, c.loop-number-test.true, before.end);
      added = c.in_ok-push.ensures.items ∙ added_one c.loop-number.numbers.items c.args.numbers.now.items c.args.first
          c.loop-number.number before.from before.added;
      below = λ end fits old. subst (All (λ (number : ℕ). number < end)) (sym c.in_ok-push.ensures.items)
          (All-push (λ (number : ℕ). number < end) c.loop-number.numbers.items c.loop-number.number
          (before.below end fits old) (omega (arith, c.loop-number-test.true, fits)));
    }

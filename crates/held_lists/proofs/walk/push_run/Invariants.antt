use Rattle.std.proofs.Common.{ℕ, ◌≡◌, ◌+◌, ◌-◌, ◌<◌, ◌≤◌, ◌++◌}
use Rattle.std.specs.List.{All}
use Rattle.std.specs.List.{range_with_len}
use Rattle.held_lists.proofs.walk.push_run.Given as goal

abbrev pub invariant-loop-number : goal.invariant-loop-number
invariant-loop-number l = record {
  from : l.first ≤ l.number;
  end : l.number-end ≡ l.first + l.n;
  up_to : l.number ≤ l.first + l.n;
  added : l.numbers.items ≡ l.initial.numbers.items ++ range_with_len l.first (l.number - l.first);
  below : (end : ℕ) → l.first + l.n ≤ end → All (λ number. number < end) l.initial.numbers.items
      → All (λ number. number < end) l.numbers.items;
}

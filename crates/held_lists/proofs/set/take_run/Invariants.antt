use Rattle.std.proofs.Common.{◌≡◌, ℕ, ◌+◌, ◌-◌, ◌≤◌}
use Rattle.held_lists.specs.Sets.{HasRoomFor, TakesRun}
use Rattle.held_lists.proofs.set.take_run.Given as goal

abbrev pub invariant-loop-entry : goal.invariant-loop-entry
invariant-loop-entry l = record {
  from : l.first ≤ l.entry;
  end : l.entry-end ≡ l.first + l.len;
  taken : TakesRun l.initial.held l.held l.first (l.entry - l.first);
  room : (count : ℕ) → HasRoomFor l.initial.held count → HasRoomFor l.held count;
}

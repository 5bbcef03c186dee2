use Rattle.name_buckets.specs.Held.{HoldsTables}
use Rattle.name_buckets.proofs.map_tests.turns.Given as goal

abbrev pub invariant-loop-done : goal.invariant-loop-done
invariant-loop-done g l = HoldsTables g.S.Space.state l.entries

use Rattle.name_buckets.specs.Held.{HoldsTables}
use Rattle.name_buckets.proofs.map_tests.agrees_as_a_whole.Given as goal

abbrev pub invariant-loop-number : goal.invariant-loop-number
invariant-loop-number g l = HoldsTables g.S.Space.state l.entries

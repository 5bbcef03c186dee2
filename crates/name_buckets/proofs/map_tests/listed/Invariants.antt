use Rattle.name_buckets.specs.Held.{HoldsTables}
use Rattle.name_buckets.proofs.map_tests.listed.Given as goal

abbrev pub invariant-loop-count : goal.invariant-loop-count
invariant-loop-count g l = HoldsTables g.S.Space.state l.entries

use Rattle.std.proofs.Common.{◌≡◌}
use Rattle.alloc_chain.proofs.random_tests.entries_behind.Given as goal

abbrev pub invariant-loop : goal.invariant-loop
invariant-loop g l = record {
  shape : (g.S.Space.state l.chain.base.now).shape ≡ (g.S.Space.state l.initial.chain.base.now).shape;
  info : l.chain.info ≡ l.initial.chain.info;
}

use Rattle.std.proofs.Common.{◌≡◌}
use Rattle.alloc_chain.proofs.random_tests.rounds.Given as goal

abbrev pub invariant-loop-round : goal.invariant-loop-round
invariant-loop-round g l = record {
  shape : (g.S.Space.state l.chain.base.now).shape ≡ (g.S.Space.state l.fn.chain.base.now).shape;
  info : l.chain.info ≡ l.fn.chain.info;
}
